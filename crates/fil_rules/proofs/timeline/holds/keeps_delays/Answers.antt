use Rattle.std.proofs.Common.{◌≤◌, length, ap, ◌∙◌, arith}
use Rattle.fil_ast.specs.Naming.{event_names}
use Rattle.fil_ast.specs.Timeline.{KeepsDelays}
use Rattle.fil_ast.specs.Tree.{component_tree}
use Rattle.fil_sig.specs.Seen.{seen}
use Rattle.fil_sig.proofs.ListLemmas.{told_false, told_true}
use Rattle.fil_place.proofs.EachLemmas.{each_all, each_more, item_at}
use Rattle.fil_place.proofs.GeneralLemmas.{clash}
use Rattle.fil_rules.proofs.HoldLemmas.{Keeps, keeps_each, keeps_of_each}
use Rattle.fil_rules.proofs.timeline.holds.keeps_delays.Goals as goal

pub returns-then-not-keeps_delay : goal.returns-then-not-keeps_delay
returns-then-not-keeps_delay c names events times scope inst args is_comp named distinct are =
    let sig = c.args.sig.now in
    let comp = component_tree names c.args.comp.now in
    let here = item_at sig.events.items c.deref-event-items.result.now c.loop-number.number c.event-item.result c.deref-event-items.ensures.value c.loop-number-test.true c.event-item.is in
    told_false (KeepsDelays scope (seen sig) inst (record { times = times; args = args }))
    (λ all. clash c.keeps_delay.result
    ((c.keeps_delay.ensures names events times (named ∙ ap event_names is_comp) distinct are).1 (keeps_of_each sig times comp scope is_comp inst args all c.loop-number.number c.event-item.result here))
    c.if-not-keeps_delay.true)

pub loop-number-preserved : goal.loop-number-preserved
loop-number-preserved c names events times named distinct are =
    let sig = c.args.sig.now in
    let here = item_at sig.events.items c.deref-event-items.result.now c.loop-number.number c.event-item.result c.deref-event-items.ensures.value c.loop-number-test.true c.event-item.is in
    each_more (Keeps sig times (component_tree names c.args.comp.now)) sig.events.items c.loop-number.number c.event-item.result here (c.loop-number.invariant names events times named distinct are)
    ((c.keeps_delay.ensures names events times named distinct are).0 c.if-not-keeps_delay.false)

pub returns : goal.returns
returns c names events times scope inst args is_comp named distinct are =
    let sig = c.args.sig.now in
    let comp = component_tree names c.args.comp.now in
    let end : length sig.events.items ≤ c.loop-number.number = omega (arith, ap length c.deref-event-items.ensures.value) in
    told_true (KeepsDelays scope (seen sig) inst (record { times = times; args = args }))
    (keeps_each sig times comp scope is_comp inst args
    (each_all (Keeps sig times comp) sig.events.items c.loop-number.number end (c.loop-number.invariant names events times (named ∙ ap event_names is_comp) distinct are)))
