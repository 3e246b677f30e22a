use Rattle.std.proofs.Common.{◌≡◌, ◌++◌, All, map, flat_map, take}
use Rattle.cal_ast.specs.Numbers.{SetHasNumbers}
use Rattle.cal_ast.specs.Tree.{assignment_tree}
use Rattle.fil_ast.specs.Scope.{instances_at}
use Rattle.fil_lower.specs.inside.Lowering.{Lowering, start_sets}
use Rattle.fil_lower.specs.inside.Place.{ShowsPlace}
use Rattle.fil_lower.proofs.starts.push_starts.Given as goal

abbrev pub invariant-loop-stmt : goal.invariant-loop-stmt
invariant-loop-stmt l = record {
  sets : (low : Lowering) → ShowsPlace l.place low → map (assignment_tree l.place.names.now) l.sets.items
      ≡ map (assignment_tree l.place.names.now) l.fn.sets.items ++ flat_map (start_sets low) (flat_map instances_at (take l.stmt-index low.scope.comp.body));
  numbers : All (SetHasNumbers l.place.names.now) l.fn.sets.items → All (SetHasNumbers l.place.names.now) l.sets.items;
}
