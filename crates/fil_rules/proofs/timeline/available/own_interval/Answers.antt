use Rattle.std.proofs.Common.{Option, Contains, sym, ap, subst, ◌∙◌, Some}
use Rattle.hw_names.specs.Name.{Text}
use Rattle.hw_names.proofs.NameLemmas.{Contains-slice_get, text_of-slice_get}
use Rattle.fil_place.specs.declared.times.Interval.{Interval}
use Rattle.fil_rules.proofs.AvailableLemmas.{Own, own_no_from, own_no_to, own_shown}
use Rattle.fil_place.proofs.LookupLemmas.{not_found}
use Rattle.fil_rules.proofs.timeline.available.own_interval.Goals as goal

pub returns-in_err-event : goal.returns-in_err-event
returns-in_err-event c comp are =
    let names = c.args.names.now in
    let events = c.args.events.now in
    let C : Text → Type 0 = Contains events in
    let from = text_of-slice_get names c.args.port.from.event c.text.result.now c.text.ensures in
    let O : Option Interval → Type 0 = Own names events comp are c.args.port in
    subst O (sym c.from_residual.ensures)
    (own_no_from names events comp are c.args.port (λ there. not_found (Contains events c.text.result.now) c.in_err-event.ensures.present (subst C from there)))

pub returns-in_err-_end : goal.returns-in_err-_end
returns-in_err-_end c comp are =
    let names = c.args.names.now in
    let events = c.args.events.now in
    let C : Text → Type 0 = Contains events in
    let to = text_of-slice_get names c.args.port.to.event c.text-2.result.now c.text-2.ensures in
    let O : Option Interval → Type 0 = Own names events comp are c.args.port in
    subst O (sym c.from_residual-in_err-_end.ensures)
    (own_no_to names events comp are c.args.port (λ there. not_found (Contains events c.text-2.result.now) c.in_err-_end.ensures.present (subst C to there)))

pub returns : goal.returns
returns c comp are =
    let names = c.args.names.now in
    let events = c.args.events.now in
    let C : Text → Type 0 = Contains events in
    let n = c.in_ok-event.field-0.0 in
    let from = text_of-slice_get names c.args.port.from.event c.text.result.now c.text.ensures in
    let to = text_of-slice_get names c.args.port.to.event c.text-2.result.now c.text-2.ensures in
    own_shown names events comp are c.args.port n (c.in_ok-event.ensures.text ∙ ap Some (sym from))
    (subst C (sym from) (Contains-slice_get events n c.text.result.now c.in_ok-event.ensures.text))
    (subst C (sym to) (Contains-slice_get events c.in_ok-_end._end.0 c.text-2.result.now c.in_ok-_end.ensures.text))
