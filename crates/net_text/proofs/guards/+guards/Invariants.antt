use Rattle.std.proofs.Common.{◌≡◌, ◌+◌, ◌*◌, List, [], ◌∷◌, length, take, drop}
use Rattle.hw_names.specs.Name.{Text}
use Rattle.net_text.specs.inside.ReadGuards.{operands_at}
use Rattle.net_text.specs.inside.ReadResults.{Extends, Grows}
use Rattle.net_text.specs.inside.View.{guards_of}
use Rattle.net_text.proofs.GuardLoops.{with_front}
use Rattle.net_text.proofs.guards.+guards.Given as goal

abbrev pub decreases-guard : goal.decreases-guard
decreases-guard l = 3 * length l.text.now + 1

abbrev pub decreases-unit : goal.decreases-unit
decreases-unit l = 3 * length l.text.now

abbrev pub decreases-bracket : goal.decreases-bracket
decreases-bracket l = 3 * length l.text.now + 2

abbrev pub decreases-operands : goal.decreases-operands
decreases-operands l = 3 * length l.text.now + 2

abbrev pub decreases-list : goal.decreases-list
decreases-list l = 3 * length l.text.now + 3

abbrev pub invariant-operands-loop-guards : goal.invariant-operands-loop-guards
invariant-operands-loop-guards l =
    (take 1 l.guards.items ≡ l.fn.first ∷ [])
    × Grows l.initial.names l.names l.text l.rest
    × ((later : List Text) → Extends l.names later → with_front (guards_of later (drop 1 l.guards.items)) (operands_at l.between l.rest) ≡ operands_at l.between l.text)

abbrev pub decreases-operands-loop-guards : goal.decreases-operands-loop-guards
decreases-operands-loop-guards l = length l.rest
