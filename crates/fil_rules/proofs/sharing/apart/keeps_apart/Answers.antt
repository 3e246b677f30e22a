use Rattle.std.proofs.Common.{◌≡◌, ◌<◌, ◌≤◌, inl, inr, length, ap, refl, subst, arith}
use Rattle.std.proofs.lemmas.Bool.{cases_lt}
use Rattle.fil_sig.specs.Seen.{seen}
use Rattle.fil_rules.specs.inside.Sharing.{KeepsApartAt}
use Rattle.fil_place.specs.Tables.{calls_at}
use Rattle.fil_place.proofs.EachLemmas.{item_at}
use Rattle.fil_rules.proofs.SharingLemmas.{event_within, from_own}
use Rattle.fil_place.proofs.UseLemmas.{has_delay}
use Rattle.fil_rules.proofs.sharing.apart.keeps_apart.Goals as goal

pub loop-number-preserved : goal.loop-number-preserved
loop-number-preserved c names comp with v is lists k below =
    let sig = c.args.sig.now in
    let n = c.loop-number.number in
    let e = c.event-item.result in
    let here = item_at sig.events.items c.deref-event-items.result.now n e c.deref-event-items.ensures.value c.loop-number-test.true c.event-item.is in
    elim (cases_lt k n) [
      | inl before ↦ c.loop-number.invariant names comp with v is lists k before
      | inr after ↦
          let same : n ≡ k = omega arith in
          let apart : KeepsApartAt with v n = c.keeps_apart_at.ensures names comp (seen sig) with v is lists (has_delay sig n e here) c.if-not-keeps_apart_at.false in
          subst (KeepsApartAt with v) same apart
    ]

pub returns : goal.returns
returns c names comp with v is lists told u earlier is_u known =
    let sig = c.args.sig.now in
    let calls = calls_at c.args.tables.now c.args.instance in
    let end : length sig.events.items ≤ c.loop-number.number = omega (arith, ap length c.deref-event-items.ensures.value) in
    let within : u.event < length sig.events.items = event_within sig v.inst v.gives.times u (from_own names comp c.args.tables.now calls (seen sig) c.args.at.now with v is u is_u) in
    c.loop-number.invariant names comp with v is lists u.event (omega arith) u earlier is_u known refl
