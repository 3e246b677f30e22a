use Rattle.std.proofs.Common.{map, take}
use Rattle.cal_ast.specs.Tree.{InBinding, in_tree}
use Rattle.cal_place.specs.Around.{names_at}
use Rattle.cal_place.specs.FirstPlaces.{ShowsFirsts}
use Rattle.cal_rules.proofs.controlling.bind_once.Given as goal

abbrev pub invariant-loop-number : goal.invariant-loop-number
invariant-loop-number l = ShowsFirsts l.bound (take l.number (map (λ (b : InBinding). b.pin) (map (in_tree (names_at l.place)) l.ins)))
