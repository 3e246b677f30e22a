use Rattle.std.proofs.Common.{◌≡◌, List, map, take, get_or, slice_get, Some, sym, ap, subst, ◌∙◌}
use Rattle.hw_names.specs.Name.{KeepsTexts}
use Rattle.fil_ast.specs.Tree.{Component, Event, event_tree}
use Rattle.fil_ast.specs.declared.tree.EventDef.{EventDef}
use Rattle.fil_fsm.proofs.FreshLemmas.{KeepsTexts-refl, KeepsTexts-trans}
use Rattle.fil_lower.proofs.PlaceLemmas.{has_new_names}
use Rattle.fil_lower.proofs.RegisterLemmas.{all_made, more_made, none_made}
use Rattle.fil_lower.proofs.StepLemmas.{map_read, whole_taken}
use Rattle.fil_lower.proofs.bits.EventBits.make.Goals as goal

no_event : EventDef
no_event = record { name = record { 0 = 0 }; delay = 0 }

pub loop-event-init : goal.loop-event-init
loop-event-init c = record {
  kept = KeepsTexts-refl c.args.names.now;
  made = λ scope shows. none_made c.args.names.now scope _ c.new.ensures.items c.new-2.ensures.items c.new-3.ensures.items;
}

pub loop-event-preserved : goal.loop-event-preserved
unfolding no_event
loop-event-preserved c =
    let old = c.args.names.now in
    let names = c.loop-event.names in
    let new = c.event_parts.new.names in
    let own = c.args.body.now.names.now in
    let i = c.loop-event.event-index in
    let events = c.deref-event-items.result.now in
    let e = event_tree own (get_or events i no_event) in
    let keeps : KeepsTexts names new = c.event_parts.ensures.kept in
    record {
      kept = KeepsTexts-trans old names new c.loop-event.invariant.kept keeps;
      made = λ scope shows.
          let at : slice_get scope.comp.events i ≡ Some e =
          ap (λ (c : Component). slice_get c.events i) shows.comp ∙ ap (λ (es : List EventDef). slice_get (map (event_tree own) es) i) (sym c.deref-event-items.ensures.value) ∙ map_read (event_tree own) events i no_event c.loop-event-test.true in
          more_made old names new scope i e c.loop-event.made c.add.new.self c.in_ok-parts.parts (c.loop-event.invariant.made scope shows) c.loop-event.invariant.kept keeps
          (c.in_ok-parts.ensures.parts scope shows) at c.in_ok-add.ensures.cells c.in_ok-add.ensures.sets c.in_ok-add.ensures.bits;
    }

pub returns-clause-made : goal.returns-clause-made
returns-clause-made c = λ scope shows.
    let own = c.args.body.now.names.now in
    let i = c.loop-event.event-index in
    let P : List Event → Type 0 = λ es. take i es ≡ es in
    let whole = subst P (ap (λ (c : Component). c.events) (sym shows.comp)) (whole_taken (event_tree own) c.args.body.now.comp.now.events.items c.deref-event-items.result.now i c.deref-event-items.ensures.value c.loop-event-test.false) in
    all_made c.args.names.now c.loop-event.names scope c.loop-event.made (has_new_names c.args.body.now scope shows).events i whole (c.loop-event.invariant.made scope shows)
