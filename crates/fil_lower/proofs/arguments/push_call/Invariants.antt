use Rattle.std.proofs.Common.{◌≡◌, ◌++◌, All, map, take}
use Rattle.cal_ast.specs.Numbers.{SetHasNumbers}
use Rattle.cal_ast.specs.Tree.{assignment_tree}
use Rattle.fil_sig.specs.Seen.{seen_port}
use Rattle.fil_lower.specs.inside.Lowering.{Lowering, argument_sets}
use Rattle.fil_lower.specs.inside.Parts.{invocation_shown}
use Rattle.fil_lower.specs.inside.Place.{ShowsPlace}
use Rattle.fil_lower.proofs.arguments.push_call.Given as goal

abbrev pub invariant-loop-number : goal.invariant-loop-number
invariant-loop-number l = record {
  sets : (low : Lowering) → ShowsPlace l.place low → map (assignment_tree l.place.names.now) l.sets.items
      ≡ map (assignment_tree l.place.names.now) l.fn.sets.items ++ argument_sets low (invocation_shown l.place.body.now.names.now l.call) (take l.number (map seen_port l.ports)) (invocation_shown l.place.body.now.names.now l.call).gives.args;
  numbers : All (SetHasNumbers l.place.names.now) l.fn.sets.items → All (SetHasNumbers l.place.names.now) l.sets.items;
}
