use Rattle.std.proofs.Common.{◌-◌, List, Contains, subst}
use Rattle.std.specs.Slice.{IsItemAt}
use Rattle.hw_names.proofs.NameLemmas.{text_of-slice_get}
use Rattle.fil_ast.specs.declared.tree.EventDef.{EventDef}
use Rattle.fil_sig.proofs.ListLemmas.{told_true}
use Rattle.fil_place.proofs.LookupLemmas.{not_found}
use Rattle.fil_rules.proofs.ShortLemmas.{Short, is_short, short_missing, short_unnamed, short_within}
use Rattle.fil_place.proofs.TimeLemmas.{got_none, got_some}
use Rattle.fil_rules.proofs.HoldLemmas.{told_le}
use Rattle.fil_rules.proofs.timeline.is_short.Goals as goal

pub returns-in-None : goal.returns-in-None
returns-in-None c =
    let names = c.args.names.now in
    let comp = c.args.comp.now in
    let I : List EventDef → Type 0 = λ es. IsItemAt es c.in-Some.number.0 c.get.result in
    let named = text_of-slice_get names c.args.port.from.event c.text.result.now c.text.ensures in
    absurd (short_missing names comp c.args.events.now c.requires.events c.args.port c.text.result.now named c.in-Some.number.0 c.in-Some.ensures.text
    (got_none comp.events.items c.in-Some.number.0 c.get.result (subst I c.deref.ensures.value c.get.ensures.lookup) c.in-None.is))

pub returns-in-Some-get : goal.returns-in-Some-get
returns-in-Some-get c =
    let names = c.args.names.now in
    let comp = c.args.comp.now in
    let port = c.args.port in
    let d = c.in-Some-get.event.now in
    let I : List EventDef → Type 0 = λ es. IsItemAt es c.in-Some.number.0 c.get.result in
    let named = text_of-slice_get names port.from.event c.text.result.now c.text.ensures in
    let here = got_some comp.events.items c.in-Some.number.0 c.get.result c.in-Some-get.event (subst I c.deref.ensures.value c.get.ensures.lookup) c.in-Some-get.is in
    told_le (Short names comp port) c.saturating_sub.result (port.to.plus - port.from.plus) d.delay c.saturating_sub.ensures
    (is_short names comp c.args.events.now c.requires.events port c.text.result.now named c.in-Some.number.0 c.in-Some.ensures.text c.find.ensures.distinct d here)
    (short_within names comp c.args.events.now c.requires.events port c.text.result.now named c.in-Some.number.0 c.in-Some.ensures.text c.find.ensures.distinct d here)

pub returns-in_default : goal.returns-in_default
returns-in_default c =
    let names = c.args.names.now in
    let comp = c.args.comp.now in
    let named = text_of-slice_get names c.args.port.from.event c.text.result.now c.text.ensures in
    told_true (Short names comp c.args.port)
    (short_unnamed names comp c.args.events.now c.requires.events c.args.port c.text.result.now named
    (not_found (Contains c.args.events.now c.text.result.now) c.in_default.ensures.present))
