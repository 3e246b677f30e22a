use Rattle.std.proofs.Common.{ℕ, ◌<◌}
use Rattle.fil_ast.specs.Scope.{Scope, Invocation}
use Rattle.fil_ast.specs.Sharing.{KeepsUsesApart}
use Rattle.fil_sig.specs.Seen.{seen}
use Rattle.fil_rules.specs.inside.Shared.{IsInvokedIn}
use Rattle.fil_rules.specs.inside.Sharing.{EndsAt}
use Rattle.fil_place.specs.Starts.{ListsUses}
use Rattle.fil_rules.proofs.sharing.in_time.first_gap.Given as goal

-- the events so far keep F12
abbrev pub invariant-loop-number : goal.invariant-loop-number
invariant-loop-number l =
    (with : Scope) (v : Invocation) → IsInvokedIn l.place l.instance (seen l.sig) l.at with v → ListsUses l.place.tables.now l.instance with v.inst → KeepsUsesApart with v → (k : ℕ) → k < l.number → EndsAt with v k
