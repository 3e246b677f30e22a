use Rattle.std.proofs.Common.{refl, ap, ◌∙◌, inl}
use Rattle.std.specs.Prelude.{max}
use Rattle.std.proofs.lemmas.List.Elements.{All-contains}
use Rattle.std.proofs.lemmas.Option.{get_or_from_slice_get}
use Rattle.fil_share.specs.Sharing.{AreApart}
use Rattle.fil_share.specs.declared.hold.Hold.{Hold}
use Rattle.fil_share.proofs.ListLemmas.{AllPairs-last, Contains-at}
use Rattle.fil_share.proofs.MeetLemmas.{KeepsApart-push}
use Rattle.fil_share.proofs.SharingLemmas.{no_hold}
use Rattle.fil_share.proofs.judge.meets.Goals as goal

pub returns-in-Some-clause-none : goal.returns-in-Some-clause-none
returns-in-Some-clause-none c =
    let earlier = c.args.earlier.now in
    let use_now = c.args.use_now.now in
    let o = c.in-Some.ensures.first in (
      λ none. absurd (cc),
      λ kept. absurd (o.overlaps (All-contains (λ hold. AreApart hold use_now) earlier o.other (AllPairs-last AreApart earlier use_now kept.0) (Contains-at earlier c.in-Some.place o.other o.at))),
    )

pub returns-in-Some-clause-met : goal.returns-in-Some-clause-met
returns-in-Some-clause-met c =
    let o = c.in-Some.ensures.first in
    inl (record {
      place = c.in-Some.place;
      overlap = o;
      gap = refl;
      cycle = c.max-cycle.ensures ∙ ap (λ (h : Hold). max h.from c.args.use_now.now.from) (get_or_from_slice_get c.args.earlier.now c.in-Some.place o.other no_hold o.at);
    })

pub returns-in-None-clause-none : goal.returns-in-None-clause-none
returns-in-None-clause-none c = (
  λ none. (KeepsApart-push c.args.earlier.now c.args.use_now.now c.requires.kept.0 (c.in-None.ensures.none.0 refl), c.overrun.ensures.none.0 none),
  λ kept. c.overrun.ensures.none.1 kept.1,
)
