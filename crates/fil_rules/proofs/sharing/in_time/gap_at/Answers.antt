use Rattle.std.proofs.Common.{List, Option, sym, subst}
use Rattle.std.specs.Prelude.{MatchOption}
use Rattle.std.specs.Slice.{IsItemAt}
use Rattle.fil_ast.specs.declared.tree.EventDef.{EventDef}
use Rattle.fil_share.specs.declared.hold.Meet.{Meet}
use Rattle.fil_sig.specs.Seen.{seen_delay}
use Rattle.fil_rules.specs.inside.Sharing.{EndsAt, GapAt, SpanFits, SpanMeets}
use Rattle.fil_place.specs.Tables.{calls_at}
use Rattle.fil_place.proofs.UseLemmas.{a_use, no_use}
use Rattle.fil_rules.proofs.SharingLemmas.{from_own, to_own}
use Rattle.fil_rules.proofs.SpanLemmas.{ends_at, gap_here, has_on, told_other}
use Rattle.fil_place.proofs.TimeLemmas.{got_none, got_some}
use Rattle.fil_rules.proofs.sharing.in_time.gap_at.Goals as goal

pub returns-in_err-own : goal.returns-in_err-own
returns-in_err-own c sig with v is lists good has kept =
    let tables = c.args.place.now.tables.now in
    let k = c.args.number in
    let M : Option Meet → Type 0 = λ r. MatchOption r (EndsAt with v k) (GapAt with v k) in
    subst M (sym c.from_residual.ensures)
    (λ u earlier is_u known here e there named.
    absurd (no_use tables.events sig v.inst v.gives.times k (seen_delay c.args.delay) has (c.in_err-own.ensures.shown tables.events v.gives.times is.own_times) u
    (from_own c.args.place.now.names.now c.args.place.now.comp.now tables (calls_at c.args.place.now.tables.now c.args.instance) sig c.args.at.now with v is u is_u) here))

pub returns-in_err-event : goal.returns-in_err-event
returns-in_err-event c sig with v is lists good has kept =
    let comp = c.args.place.now.comp.now in
    let tables = c.args.place.now.tables.now in
    let calls = calls_at c.args.place.now.tables.now c.args.instance in
    let at = c.args.at.now in
    let k = c.args.number in
    let span = c.span_of-span.result in
    let x = a_use tables.events sig v.inst v.gives.times k (seen_delay c.args.delay) has c.in_ok-own.own (c.in_ok-own.ensures.shown tables.events v.gives.times is.own_times) in
    let spans = c.span_of-span.ensures.spans c.args.place.now.names.now comp sig at with v x.0 is lists (to_own c.args.place.now.names.now comp tables calls sig at with v is x.0 x.1) x.2 x.3 in
    let I : List EventDef → Type 0 = λ es. IsItemAt es span.first.at.event c.get.result in
    absurd (has_on c.args.place.now.names.now comp tables calls sig at with v is good kept k span spans
    (got_none comp.events.items span.first.at.event c.get.result (subst I c.deref.ensures.value c.get.ensures.lookup) c.in_err-event.was))

pub returns : goal.returns
returns c sig with v is lists good has kept =
    let comp = c.args.place.now.comp.now in
    let tables = c.args.place.now.tables.now in
    let calls = calls_at c.args.place.now.tables.now c.args.instance in
    let at = c.args.at.now in
    let k = c.args.number in
    let span = c.span_of-span.result in
    let x = a_use tables.events sig v.inst v.gives.times k (seen_delay c.args.delay) has c.in_ok-own.own (c.in_ok-own.ensures.shown tables.events v.gives.times is.own_times) in
    let spans = c.span_of-span.ensures.spans c.args.place.now.names.now comp sig at with v x.0 is lists (to_own c.args.place.now.names.now comp tables calls sig at with v is x.0 x.1) x.2 x.3 in
    let I : List EventDef → Type 0 = λ es. IsItemAt es span.first.at.event c.get.result in
    let d = c.in_ok-event.event.now in
    let here = got_some comp.events.items span.first.at.event c.get.result c.in_ok-event.event (subst I c.deref.ensures.value c.get.ensures.lookup) c.in_ok-event.was in
    told_other (SpanFits span d.delay) (EndsAt with v k) (SpanMeets span d.delay) (GapAt with v k) c.overrun.result c.overrun.ensures
    (ends_at c.args.place.now.names.now comp tables calls sig at with v is good kept k span spans d here)
    (gap_here c.args.place.now.names.now comp tables calls sig at with v is good kept k span spans d here)
