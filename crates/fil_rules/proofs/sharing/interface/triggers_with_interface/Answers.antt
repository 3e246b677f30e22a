use Rattle.std.proofs.Common.{◌≡◌, ◌<◌, ◌≤◌, inl, inr, length, ap, subst, arith}
use Rattle.std.proofs.lemmas.Bool.{cases_lt}
use Rattle.fil_ast.specs.Sharing.{TriggersWithInterface}
use Rattle.fil_sig.specs.Seen.{seen, seen_event}
use Rattle.fil_sig.proofs.ListLemmas.{told_false, told_true}
use Rattle.fil_rules.specs.inside.Sharing.{IsMarkedAt}
use Rattle.fil_place.specs.Tables.{calls_at}
use Rattle.fil_place.proofs.EachLemmas.{item_at}
use Rattle.fil_place.proofs.GeneralLemmas.{clash, mapped_at}
use Rattle.fil_rules.proofs.MarkedLemmas.{marked_all, marked_each}
use Rattle.fil_rules.proofs.SharingLemmas.{event_within, from_own}
use Rattle.fil_rules.proofs.sharing.interface.triggers_with_interface.Goals as goal

pub returns-then-not-is_marked : goal.returns-then-not-is_marked
returns-then-not-is_marked c with v is lists kept =
    let sig = c.args.sig.now in
    let n = c.loop-number.number in
    let e = c.event-item.result in
    let here = item_at sig.events.items c.deref-event-items.result.now n e c.deref-event-items.ensures.value c.loop-number-test.true c.event-item.is in
    told_false (TriggersWithInterface with v)
    (λ keeps. clash c.is_marked.result
    ((c.is_marked.ensures (seen sig) with v is lists (mapped_at seen_event sig.events.items n e here)).1
    (marked_each c.args.place.now.names.now c.args.place.now.comp.now c.args.place.now.tables.now (calls_at c.args.place.now.tables.now c.args.instance) (seen sig) c.args.at.now with v is kept keeps n))
    c.if-not-is_marked.true)

pub loop-number-preserved : goal.loop-number-preserved
loop-number-preserved c with v is lists k below =
    let sig = c.args.sig.now in
    let n = c.loop-number.number in
    let e = c.event-item.result in
    let here = item_at sig.events.items c.deref-event-items.result.now n e c.deref-event-items.ensures.value c.loop-number-test.true c.event-item.is in
    elim (cases_lt k n) [
      | inl before ↦ c.loop-number.invariant with v is lists k before
      | inr after ↦
          let same : n ≡ k = omega arith in
          let marked : IsMarkedAt with v n = (c.is_marked.ensures (seen sig) with v is lists (mapped_at seen_event sig.events.items n e here)).0 c.if-not-is_marked.false in
          subst (IsMarkedAt with v) same marked
    ]

pub returns : goal.returns
returns c with v is lists kept =
    let names = c.args.place.now.names.now in
    let comp = c.args.place.now.comp.now in
    let tables = c.args.place.now.tables.now in
    let calls = calls_at c.args.place.now.tables.now c.args.instance in
    let sig = c.args.sig.now in
    let at = c.args.at.now in
    let end : length sig.events.items ≤ c.loop-number.number = omega (arith, ap length c.deref-event-items.ensures.value) in
    told_true (TriggersWithInterface with v)
    (marked_all names comp tables calls (seen sig) at with v is kept
    (λ k u is_u event why.
    let within : u.event < length sig.events.items = event_within sig v.inst v.gives.times u (from_own names comp tables calls (seen sig) at with v is u is_u) in
    c.loop-number.invariant with v is lists k (omega (arith, event)) u is_u event why))
