use Rattle.std.proofs.Common.{◌≤◌, ◌<◌, ◌+◌, [], ◌∷◌, ◌++◌, length, refl, arith}
use Rattle.std.proofs.lemmas.Grind.{common_steps}
use Rattle.std.proofs.lemmas.List.{length-append}
use Rattle.fil_share.specs.Sharing.{AreApart}
use Rattle.fil_share.proofs.ListLemmas.{AllPairs-last}
use Rattle.fil_share.proofs.SharingLemmas.{ends_in_span, spans_in_time}
use Rattle.fil_share.proofs.span.overrun.Goals as goal

pub returns-then-last-first-clause-none : goal.returns-then-last-first-clause-none
returns-then-last-first-clause-none c = (
  λ none. ends_in_span c.args.delay (c.args.earlier.now ++ c.args.use_now.now ∷ []) c.requires.held c.requires.apart c.first_of-first.result c.last_of-last.result c.first_of-first.ensures c.last_of-last.ensures c.if-last-first.true,
  λ ends. refl,
)

pub returns-clause-none : goal.returns-clause-none
returns-clause-none c =
    let so_far = c.args.earlier.now ++ c.args.use_now.now ∷ [] in
    let several : 0 < length c.args.earlier.now = grind (arith, common_steps) in
    let two : 2 ≤ length so_far = omega (arith, length-append c.args.earlier.now (c.args.use_now.now ∷ [])) in (
      λ none. absurd (cc),
      λ ends.
          let first = c.first_of-first.result in
          let last = c.last_of-last.result in
          let fits : last.to ≤ first.from + c.args.delay = spans_in_time c.args.delay so_far c.requires.held c.requires.apart ends two first last c.first_of-first.ensures c.last_of-last.ensures in
          absurd (omega arith),
    )

pub returns-clause-late : goal.returns-clause-late
returns-clause-late c =
    record {
      apart = AllPairs-last AreApart c.args.earlier.now c.args.use_now.now c.requires.apart;
      several = grind (arith, common_steps);
      first = c.first_of-first.result;
      last = c.last_of-last.result;
      is_first = c.first_of-first.ensures;
      is_last = c.last_of-last.ensures;
      late = c.if-last-first.false;
      gap = c.max-gap.ensures;
      cycle = refl;
    }
