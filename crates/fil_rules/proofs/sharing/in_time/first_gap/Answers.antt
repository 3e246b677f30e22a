use Rattle.std.proofs.Common.{◌≡◌, ◌≤◌, inl, inr, length, map, ap, subst, arith}
use Rattle.std.proofs.lemmas.Bool.{cases_lt}
use Rattle.std.proofs.lemmas.List.{length-map}
use Rattle.fil_sig.specs.Seen.{seen, seen_event}
use Rattle.fil_rules.specs.inside.Sharing.{EndsAt}
use Rattle.fil_place.specs.Tables.{calls_at}
use Rattle.fil_place.proofs.EachLemmas.{item_at}
use Rattle.fil_place.proofs.UseLemmas.{has_delay}
use Rattle.fil_rules.proofs.SpanLemmas.{ends_all, first_broken}
use Rattle.fil_place.proofs.UseLemmas.{good_at}
use Rattle.fil_rules.proofs.sharing.in_time.first_gap.Goals as goal

pub returns-in-Some : goal.returns-in-Some
returns-in-Some c with v is lists kept =
    let sig = c.args.sig.now in
    let n = c.loop-number.number in
    let e = c.event-item.result in
    let here = item_at sig.events.items c.deref-event-items.result.now n e c.deref-event-items.ensures.value c.loop-number-test.true c.event-item.is in
    first_broken c.args.place.now.names.now c.args.place.now.comp.now c.args.place.now.tables.now (calls_at c.args.place.now.tables.now c.args.instance) (seen sig) c.args.at.now with v is c.requires.times kept n c.in-Some.meet
    (c.loop-number.invariant with v is lists kept)
    (c.in-Some.ensures (seen sig) with v is lists c.requires.times (has_delay sig n e here) kept)

pub loop-number-preserved : goal.loop-number-preserved
loop-number-preserved c with v is lists kept k below =
    let sig = c.args.sig.now in
    let n = c.loop-number.number in
    let e = c.event-item.result in
    let here = item_at sig.events.items c.deref-event-items.result.now n e c.deref-event-items.ensures.value c.loop-number-test.true c.event-item.is in
    elim (cases_lt k n) [
      | inl before ↦ c.loop-number.invariant with v is lists kept k before
      | inr after ↦
          let same : n ≡ k = omega arith in
          let ends : EndsAt with v n = c.in_default.ensures (seen sig) with v is lists c.requires.times (has_delay sig n e here) kept in
          subst (EndsAt with v) same ends
    ]

pub returns : goal.returns
returns c with v is lists kept =
    let sig = c.args.sig.now in
    let count = length-map sig.events.items seen_event in
    let end : length (map seen_event sig.events.items) ≤ c.loop-number.number = omega (arith, ap length c.deref-event-items.ensures.value, count) in
    ends_all c.args.place.now.names.now c.args.place.now.comp.now c.args.place.now.tables.now (calls_at c.args.place.now.tables.now c.args.instance) (seen sig) c.args.at.now with v is c.requires.times kept c.loop-number.number end
    (c.loop-number.invariant with v is lists kept)

pub gap_at-requires : goal.gap_at-requires
gap_at-requires c =
    let sig = c.args.sig.now in
    let n = c.loop-number.number in
    let e = c.event-item.result in
    let here = item_at sig.events.items c.deref-event-items.result.now n e c.deref-event-items.ensures.value c.loop-number-test.true c.event-item.is in
    record { good = good_at sig n e c.requires.times here }
