use Rattle.std.proofs.Common.{List, refl, sym, subst}
use Rattle.std.specs.Slice.{IsItemAt}
use Rattle.hw_names.proofs.NameLemmas.{text_of-slice_get}
use Rattle.fil_ast.specs.Sharing.{HasInterface}
use Rattle.fil_ast.specs.Tree.{component_tree}
use Rattle.fil_ast.specs.declared.tree.EventDef.{EventDef}
use Rattle.fil_sig.specs.Seen.{seen_delay, seen_event}
use Rattle.fil_sig.proofs.ListLemmas.{told_true}
use Rattle.fil_place.specs.Uses.{HasDelay}
use Rattle.fil_rules.specs.inside.Sharing.{IsMarkedAt}
use Rattle.fil_place.specs.Tables.{calls_at}
use Rattle.fil_place.proofs.GeneralLemmas.{clash}
use Rattle.fil_rules.proofs.MarkedLemmas.{marked_by, marked_free, on_some, port_of}
use Rattle.fil_place.proofs.TimeLemmas.{got_none, got_some}
use Rattle.fil_rules.proofs.sharing.interface.is_marked.Goals as goal

pub returns-then-not-needs_interface : goal.returns-then-not-needs_interface
returns-then-not-needs_interface c sig with v is lists at_event =
    let names = c.args.place.now.names.now in
    let comp = c.args.place.now.comp.now in
    let tables = c.args.place.now.tables.now in
    let calls = calls_at c.args.place.now.tables.now c.args.instance in
    let at = c.args.at.now in
    let k = c.args.number in
    let delay = seen_delay c.args.event.now.delay in
    let has : HasDelay sig k delay = (seen_event c.args.event.now, at_event, refl) in
    told_true (IsMarkedAt with v k)
    (marked_free names comp tables calls sig at with v is k delay has
    (λ why. clash c.needs_interface.result ((c.needs_interface.ensures with v lists).1 why) c.if-not-needs_interface.true))

pub returns-in-Some-get : goal.returns-in-Some-get
returns-in-Some-get c sig with v is lists at_event =
    let names = c.args.place.now.names.now in
    let comp = c.args.place.now.comp.now in
    let tables = c.args.place.now.tables.now in
    let calls = calls_at c.args.place.now.tables.now c.args.instance in
    let at = c.args.at.now in
    let k = c.args.number in
    let delay = seen_delay c.args.event.now.delay in
    let has : HasDelay sig k delay = (seen_event c.args.event.now, at_event, refl) in
    let held = c.in-Some.held in
    let told = c.in-Some.ensures.shown tables.events v.gives.times is.own_times in
    let I : List EventDef → Type 0 = λ es. IsItemAt es held.at.event c.get.result in
    let d = c.in-Some-get.event.now in
    let there = got_some comp.events.items held.at.event c.get.result c.in-Some-get.event (subst I c.deref.ensures.value c.get.ensures.lookup) c.in-Some-get.is in
    let text = text_of-slice_get names d.name c.text.result.now c.text.ensures in
    let why = (c.needs_interface.ensures with v lists).0 c.if-not-needs_interface.false in (
      λ t. marked_by names comp tables calls sig at with v is k delay has held told d there (subst (HasInterface (component_tree names comp)) (sym text) (c.has_interface.ensures.0 t)),
      λ marked. c.has_interface.ensures.1 (subst (HasInterface (component_tree names comp)) text (port_of names comp tables calls sig at with v is k delay has held told d there why marked)),
    )

pub returns-in-None : goal.returns-in-None
returns-in-None c sig with v is lists at_event =
    let comp = c.args.place.now.comp.now in
    let tables = c.args.place.now.tables.now in
    let k = c.args.number in
    let delay = seen_delay c.args.event.now.delay in
    let has : HasDelay sig k delay = (seen_event c.args.event.now, at_event, refl) in
    let held = c.in-Some.held in
    let told = c.in-Some.ensures.shown tables.events v.gives.times is.own_times in
    let I : List EventDef → Type 0 = λ es. IsItemAt es held.at.event c.get.result in
    absurd (on_some c.args.place.now.names.now comp tables (calls_at c.args.place.now.tables.now c.args.instance) sig c.args.at.now with v is k delay has held told
    (got_none comp.events.items held.at.event c.get.result (subst I c.deref.ensures.value c.get.ensures.lookup) c.in-None.is))
