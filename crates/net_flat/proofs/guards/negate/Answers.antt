use Rattle.std.proofs.Common.{◌≡◌, ℕ, subst, add-one, arith}
use Rattle.net_flat.specs.inside.StandFor.{IsGuard, negations}
use Rattle.net_flat.proofs.GuardLemmas.{is_not}
use Rattle.net_flat.proofs.guards.negate.Goals as goal

pub loop-preserved : goal.loop-preserved
loop-preserved c = λ names tree h. rw add-one (is_not names tree c.loop.counter c.in_ok-new.field-0 c.loop.negated c.in_ok-new.ensures.ok (c.loop.invariant names tree h))

pub returns : goal.returns
returns c = λ names tree h.
    let all : c.loop.counter ≡ c.args.count = omega arith in
    subst (λ (n : ℕ). IsGuard names (negations n tree) c.loop.negated) all (c.loop.invariant names tree h)
