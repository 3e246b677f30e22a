use Rattle.std.proofs.Common.{List, refl, subst}
use Rattle.std.specs.Slice.{IsItemAt}
use Rattle.fil_ast.specs.Tree.{component_tree}
use Rattle.fil_ast.specs.declared.tree.EventDef.{EventDef}
use Rattle.fil_sig.specs.Seen.{seen_delay}
use Rattle.fil_rules.specs.inside.Holds.{KeepsDelayAt}
use Rattle.fil_place.proofs.TimeLemmas.{got_none, got_some}
use Rattle.fil_rules.proofs.HoldLemmas.{has_event, kept, kept_within, told_le}
use Rattle.fil_rules.proofs.timeline.holds.keeps_delay.Goals as goal

pub returns-in-None : goal.returns-in-None
returns-in-None c names events times named distinct are =
    let comp = c.args.comp.now in
    let held = c.in-Some.held in
    let I : List EventDef → Type 0 = λ es. IsItemAt es held.at.event c.get.result in
    absurd (has_event names comp events named times (seen_delay c.args.delay) c.args.number held (c.in-Some.ensures.shown events times are)
    (got_none comp.events.items held.at.event c.get.result (subst I c.deref.ensures.value c.get.ensures.lookup) c.in-None.is))

pub returns-in-Some-get : goal.returns-in-Some-get
returns-in-Some-get c names events times named distinct are =
    let comp = c.args.comp.now in
    let held = c.in-Some.held in
    let delay = seen_delay c.args.delay in
    let d = c.in-Some-get.event.now in
    let I : List EventDef → Type 0 = λ es. IsItemAt es held.at.event c.get.result in
    let here = got_some comp.events.items held.at.event c.get.result c.in-Some-get.event (subst I c.deref.ensures.value c.get.ensures.lookup) c.in-Some-get.is in
    let shown = c.in-Some.ensures.shown events times are in
    told_le (KeepsDelayAt (component_tree names comp) delay times c.args.number) held.hold held.hold d.delay refl
    (kept names comp events named times delay c.args.number held shown distinct d here)
    (kept_within names comp events named times delay c.args.number held shown distinct d here)
