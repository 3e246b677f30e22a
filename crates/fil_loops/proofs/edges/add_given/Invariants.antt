use Rattle.std.proofs.Common.{◌≡◌, Some, map, slice_get}
use Rattle.hw_names.specs.Name.{Text}
use Rattle.fil_ast.specs.Scope.{Scope}
use Rattle.fil_ast.specs.Tree.{value_tree}
use Rattle.fil_sig.specs.Seen.{seen}
use Rattle.fil_place.specs.Place.{IsPlaceIn}
use Rattle.fil_loops.specs.inside.PortGraph.{Adds, Below, HasInstances}
use Rattle.fil_loops.specs.inside.Readings.{ReadsArgument}
use Rattle.fil_loops.proofs.edges.add_given.Given as goal

-- the graph has the arguments so far
abbrev pub invariant-loop-number : goal.invariant-loop-number
invariant-loop-number l = record {
  instances : l.graph.ports.instances ≡ l.fn.graph.ports.instances;
  adds : (scope : Scope) (inst : Text) → IsPlaceIn l.place scope → HasInstances scope l.fn.graph → slice_get l.fn.graph.ports.instances l.given.instance ≡ Some inst
      → Adds (Below (ReadsArgument scope inst (seen l.sig) (map (value_tree l.place.names.now) l.given.args.now)) l.number) l.fn.graph l.graph;
}
