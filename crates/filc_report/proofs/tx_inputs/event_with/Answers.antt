use Rattle.std.proofs.Common.{◌≡◌, ◌∙◌, sym, ap, subst, false, true}
use Rattle.std.specs.Prelude.{IsSome, bytes_eq}
use Rattle.std.specs.Option.{option_map_or}
use Rattle.fil_sig.specs.Seen.{seen_event}
use Rattle.fil_sig.specs.declared.time_sig.SigEvent.{SigEvent}
use Rattle.filc_report.proofs.TxInputLemmas.{found_later, none_found}
use Rattle.filc_report.proofs.tx_inputs.event_with.Goals as goal

pub loop-number-preserved : goal.loop-number-preserved
loop-number-preserved c =
    let d = c.index-events-number.result in
    c.loop-number.invariant
    ∙ found_later c.args.events.now c.loop-number.number d c.args.port.now c.loop-number-test.true
    (ap (λ (e : SigEvent). option_map_or (bytes_eq c.args.port.now) (seen_event e).go false) (sym c.index-events-number.is) ∙ sym c.has_interface.ensures ∙ c.if-has_interface.false)

pub returns : goal.returns
returns c = λ some. let never : false ≡ true = subst IsSome (c.loop-number.invariant ∙ none_found c.args.events.now c.loop-number.number c.args.port.now c.loop-number-test.false) some in cc
