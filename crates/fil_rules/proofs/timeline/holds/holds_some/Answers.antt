use Rattle.std.proofs.Common.{◌≤◌, length, ap, arith}
use Rattle.fil_ast.specs.Timeline.{HoldsSome}
use Rattle.fil_sig.specs.Seen.{seen}
use Rattle.fil_sig.proofs.ListLemmas.{told_false, told_true}
use Rattle.fil_place.proofs.EachLemmas.{each_all, each_more, item_at}
use Rattle.fil_place.proofs.GeneralLemmas.{clash}
use Rattle.fil_rules.proofs.HoldLemmas.{Holds, holds_each, holds_of_each}
use Rattle.fil_rules.proofs.timeline.holds.holds_some.Goals as goal

pub returns-then-not-holds_at : goal.returns-then-not-holds_at
returns-then-not-holds_at c events times are =
    let sig = c.args.sig.now in
    let here = item_at sig.events.items c.deref-event-items.result.now c.loop-number.number c.event-item.result c.deref-event-items.ensures.value c.loop-number-test.true c.event-item.is in
    told_false (HoldsSome (seen sig) times)
    (λ all. clash c.holds_at.result ((c.holds_at.ensures events times are).1 (holds_of_each sig times all c.loop-number.number c.event-item.result here)) c.if-not-holds_at.true)

pub loop-number-preserved : goal.loop-number-preserved
loop-number-preserved c events times are =
    let sig = c.args.sig.now in
    let here = item_at sig.events.items c.deref-event-items.result.now c.loop-number.number c.event-item.result c.deref-event-items.ensures.value c.loop-number-test.true c.event-item.is in
    each_more (Holds sig times) sig.events.items c.loop-number.number c.event-item.result here (c.loop-number.invariant events times are) ((c.holds_at.ensures events times are).0 c.if-not-holds_at.false)

pub returns : goal.returns
returns c events times are =
    let sig = c.args.sig.now in
    let end : length sig.events.items ≤ c.loop-number.number = omega (arith, ap length c.deref-event-items.ensures.value) in
    told_true (HoldsSome (seen sig) times) (holds_each sig times (each_all (Holds sig times) sig.events.items c.loop-number.number end (c.loop-number.invariant events times are)))
