use Rattle.std.proofs.Common.{◌≡◌, ◌++◌, All, map, flat_map, take}
use Rattle.cal_ast.specs.Numbers.{SetHasNumbers}
use Rattle.cal_ast.specs.Tree.{assignment_tree}
use Rattle.fil_lower.specs.inside.Lowering.{Lowering, connection_set}
use Rattle.fil_lower.specs.inside.Place.{ShowsPlace}
use Rattle.fil_lower.proofs.arguments.push_connections.Given as goal

abbrev pub invariant-loop-stmt : goal.invariant-loop-stmt
invariant-loop-stmt l = record {
  sets : (low : Lowering) → ShowsPlace l.place low → map (assignment_tree l.place.names.now) l.sets.items
      ≡ map (assignment_tree l.place.names.now) l.fn.sets.items ++ flat_map (connection_set low) (take l.stmt-index low.scope.comp.body);
  numbers : All (SetHasNumbers l.place.names.now) l.fn.sets.items → All (SetHasNumbers l.place.names.now) l.sets.items;
}
