use Rattle.std.proofs.Common.{◌≡◌, ◌+◌, length, get_or, take, refl, subst, ◌∙◌, ap, arith}
use Rattle.std.proofs.lemmas.List.{take_more}
use Rattle.std.proofs.lemmas.Option.{slice_get-get_or}
use Rattle.std.proofs.Math.Seq.{take-length}
use Rattle.fil_share.specs.Sharing.{CanShare}
use Rattle.fil_share.proofs.SharingLemmas.{no_hold, CanShare-take}
use Rattle.fil_share.proofs.judge.meeting.Goals as goal

pub returns-in-Some-clause-none : goal.returns-in-Some-clause-none
returns-in-Some-clause-none c =
    let uses = c.args.uses.now in
    let n = c.loop-number.number in (
      λ none. absurd (cc),
      λ kept. c.in-Some.ensures.none.1 (subst (CanShare c.args.delay) (take_more uses n no_hold c.loop-number-test.true) (CanShare-take c.args.delay (n + 1) uses kept)),
    )

pub returns-in-Some-clause-met : goal.returns-in-Some-clause-met
returns-in-Some-clause-met c =
    let uses = c.args.uses.now in
    let n = c.loop-number.number in
    record {
      number = n;
      use_now = get_or uses n no_hold;
      at = slice_get-get_or uses n no_hold c.loop-number-test.true;
      kept = c.loop-number.invariant;
      broken = c.in-Some.ensures.met;
    }

pub returns-clause-none : goal.returns-clause-none
returns-clause-none c =
    let uses = c.args.uses.now in
    let n = c.loop-number.number in
    let end : n ≡ length uses = omega arith in
    (λ none. subst (CanShare c.args.delay) (ap (λ k. take k uses) end ∙ take-length uses) c.loop-number.invariant, λ kept. refl)
