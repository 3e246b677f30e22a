use Rattle.std.proofs.Common.{◌≡◌, List, ◌++◌, length}
use Rattle.hw_names.specs.Name.{Text}
use Rattle.cal_ast.specs.Tree.{Assignment}
use Rattle.cal_state.specs.inside.Making.{ShowsEncoding}
use Rattle.cal_state.proofs.EncodingLoopLemmas.{StaysSoFar}
use Rattle.cal_state.proofs.component.Sets.stay_all.Given as goal

abbrev pub invariant-loop-number : goal.invariant-loop-number
invariant-loop-number l = (names : List Text) (sets left wires states : List Assignment) → length sets ≡ l.count
    → ShowsEncoding names (record { left = sets ++ left; wires = wires; states = states }) l.initial.self → StaysSoFar names sets left wires states l.number l.self
