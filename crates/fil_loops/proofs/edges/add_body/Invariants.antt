use Rattle.std.proofs.Common.{[]}
use Rattle.fil_ast.specs.Tree.{Design, component_tree}
use Rattle.fil_ast.specs.Wires.{through_before, whole_scope}
use Rattle.fil_place.specs.Place.{IsPlaceIn}
use Rattle.fil_loops.specs.inside.PortGraph.{Adds, Below, HasInstances}
use Rattle.fil_loops.specs.inside.Readings.{ReadsAt}
use Rattle.fil_loops.proofs.edges.add_body.Given as goal

-- the graph has what the statements so far say
abbrev pub invariant-loop-stmt : goal.invariant-loop-stmt
invariant-loop-stmt l = (comps : Design) → IsPlaceIn l.place (whole_scope comps (component_tree l.place.names.now l.place.comp.now))
    → HasInstances (whole_scope comps (component_tree l.place.names.now l.place.comp.now)) l.fn.graph
    → Adds (Below (ReadsAt (through_before []) (whole_scope comps (component_tree l.place.names.now l.place.comp.now)) (component_tree l.place.names.now l.place.comp.now).body) l.stmt-index) l.fn.graph l.graph
