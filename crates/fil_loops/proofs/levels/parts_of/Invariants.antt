use Rattle.std.proofs.Common.{flat_map, take}
use Rattle.fil_ast.specs.Scope.{instances_at}
use Rattle.fil_ast.specs.Tree.{Design, component_tree}
use Rattle.fil_ast.specs.Wires.{whole_scope}
use Rattle.fil_place.specs.Place.{IsPlaceIn}
use Rattle.fil_loops.proofs.PartLemmas.{HaveParts}
use Rattle.fil_loops.proofs.levels.parts_of.Given as goal

-- the parts of the instances so far
abbrev pub invariant-loop-stmt : goal.invariant-loop-stmt
invariant-loop-stmt l = (comps : Design) → IsPlaceIn l.place (whole_scope comps (component_tree l.place.names.now l.place.comp.now))
    → HaveParts comps (flat_map instances_at (take l.stmt-index (component_tree l.place.names.now l.place.comp.now).body)) l.parts.items
