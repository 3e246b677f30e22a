use Rattle.std.proofs.Common.{◌≡◌, ◌∙◌, List, [], ◌∷◌, Some, ap, subst, length, map, get_or, arith, ⊎_elim, length-append}
use Rattle.std.specs.Prelude.{slice_get, IsSome}
use Rattle.std.proofs.lemmas.List.{length-map}
use Rattle.std.proofs.lemmas.Option.{get_or_from_slice_get}
use Rattle.hw_names.specs.Name.{Text}
use Rattle.fil_sig.specs.Seen.{seen_event}
use Rattle.fil_driven.specs.TxDrive.{event_with}
use Rattle.filc_report.specs.declared.tx_inputs.Gives.TheVariants.{Start}
use Rattle.filc_report.specs.declared.tx_inputs.TxInput.{TxInput}
use Rattle.filc_report.proofs.TxInputLemmas.{event_within, pushed_at}
use Rattle.filc_report.proofs.tx_inputs.interface_inputs.Goals as goal

-- the event that was found has the port
found : (c : goal.After-event_with-event) → event_with 0 (map seen_event c.args.events.now) c.name_of.result.now ≡ Some c.event_with-event.result
found c =
    c.event_with-event.ensures (subst (λ (name : Text). IsSome (event_with 0 (map seen_event c.args.events.now) name)) (get_or_from_slice_get c.args.table.now.names c.loop-input.input c.name_of.result.now [] c.name_of.ensures)
    (c.requires.interfaces c.loop-input.input c.loop-input-test.true))

pub overflow_cast-interval : goal.overflow_cast-interval
overflow_cast-interval c =
    omega (arith, event_within (map seen_event c.args.events.now) 0 c.name_of.result.now c.event_with-event.result (found c), length-map c.args.events.now seen_event, c.requires.few)

pub loop-input-preserved : goal.loop-input-preserved
loop-input-preserved c =
    let events = map seen_event c.args.events.now in
    let made : TxInput = record { interval = record { event = c.event_with-event.result; from = 0; to = 1 }; gives = Start } in
    let pushed = c.in_ok-push.ensures.items in
    let is : event_with 0 events c.name_of.result.now ≡ Some c.event_with-event.result =
    c.event_with-event.ensures (subst (λ (name : Text). IsSome (event_with 0 events name)) (get_or_from_slice_get c.args.table.now.names c.loop-input.input c.name_of.result.now [] c.name_of.ensures)
    (c.requires.interfaces c.loop-input.input c.loop-input-test.true)) in
    record {
      as_many = omega (arith, ap length pushed, length-append c.loop-input.inputs.items (made ∷ []), c.loop-input.invariant.as_many);
      each = λ k i at. ⊎_elim (λ old. c.loop-input.invariant.each k i old)
          (λ (here, same).
          let name : get_or c.args.table.now.names k [] ≡ c.name_of.result.now =
          ap (λ j. get_or c.args.table.now.names j []) (here ∙ c.loop-input.invariant.as_many) ∙ get_or_from_slice_get c.args.table.now.names c.loop-input.input c.name_of.result.now [] c.name_of.ensures in
          record { event = c.event_with-event.result; is = ap (event_with 0 events) name ∙ is; starts = same })
          (pushed_at c.loop-input.inputs.items made i k (subst (λ (l : List TxInput). slice_get l k ≡ Some i) pushed at));
    }
