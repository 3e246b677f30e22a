use Rattle.std.proofs.Common.{◌≡◌, ◌∙◌, ℕ, ◌+◌, ◌<◌, List, [], ◌∷◌, Some, refl, sym, ap, ap₂, subst, length, map, take, get_or, arith, ⊎_elim, length-append, length-take}
use Rattle.std.specs.Prelude.{slice_get}
use Rattle.std.proofs.lemmas.List.{length-map, get_or-replicate, get_or-map, length-set}
use Rattle.std.proofs.lemmas.Option.{slice_get-get_or, slice_get_within}
use Rattle.fil_sig.specs.Seen.{seen_port}
use Rattle.stim_read.specs.TxEvents.{ports_after}
use Rattle.filc_report.specs.Driving.{IsDataInput}
use Rattle.filc_report.specs.Intervals.{port_interval}
use Rattle.filc_report.specs.declared.intervals.Interval.{Interval}
use Rattle.filc_report.specs.declared.tx_inputs.Gives.TheVariants.{Value}
use Rattle.filc_report.specs.declared.tx_inputs.TxInput.{TxInput}
use Rattle.filc_report.proofs.TxInputLemmas.{pushed_at, few_of_event, counted_more}
use Rattle.filc_report.proofs.tx_inputs.data_inputs.Goals as goal

pub loop-port-init : goal.loop-port-init
loop-port-init c = record {
  as_many = ap length c.new-inputs.ensures.items;
  each = λ k i at. absurd (omega (arith, slice_get_within c.new-inputs.result.items k i at, ap length c.new-inputs.ensures.items));
  events = refl;
  counted = λ e within. get_or-replicate 256 e 0 0 within;
}

-- the port that is made an input
port_here : (c : goal.In_ok-push) → slice_get (map seen_port c.args.ports.now) c.loop-port.port-index ≡ Some (seen_port c.port-item.result)
port_here c =
    let ports = map seen_port c.args.ports.now in
    let d = seen_port c.port-item.result in
    slice_get-get_or ports c.loop-port.port-index d (omega (arith, c.loop-port-test.true, length-map c.args.ports.now seen_port))
    ∙ ap Some (get_or-map seen_port c.args.ports.now c.loop-port.port-index c.port-item.result d c.loop-port-test.true ∙ ap seen_port (sym c.port-item.is))

small_event : (c : goal.In_ok-push) → c.port-item.result.from.event < 256
small_event c = omega arith

pub overflow_add-places : goal.overflow_add-places
overflow_add-places c =
    let ports = map seen_port c.args.ports.now in
    let e = c.from-event.result in
    let small : e < 256 = omega (arith, small_event c, c.from-event.ensures) in
    omega (arith, c.loop-port.invariant.counted e small, few_of_event e (take c.loop-port.port-index ports), length-take c.loop-port.port-index ports, c.loop-port.inputs.small, c.loop-port.invariant.as_many)

pub loop-port-preserved : goal.loop-port-preserved
loop-port-preserved c =
    let ports = map seen_port c.args.ports.now in
    let at = c.loop-port.port-index in
    let e = c.from-event.result in
    let small : e < 256 = omega (arith, small_event c, c.from-event.ensures) in
    let made : TxInput = record { interval = c.of.result; gives = Value (get_or c.loop-port.places e 0) } in
    let pushed = c.in_ok-push.ensures.items in
    let port = seen_port c.port-item.result in
    let place : get_or c.loop-port.places e 0 ≡ length (ports_after port.from.event (take at ports)) =
    c.loop-port.invariant.counted e small ∙ ap (λ (n : ℕ). length (ports_after n (take at ports))) c.from-event.ensures in
    let made_is : made ≡ record { interval = port_interval port; gives = Value (length (ports_after port.from.event (take at ports))) } =
    ap₂ (λ (i : Interval) (n : ℕ). let x : TxInput = record { interval = i; gives = Value n } in x) c.of.ensures place in
    record {
      as_many = omega (arith, ap length pushed, length-append c.loop-port.inputs.items (made ∷ []), c.loop-port.invariant.as_many);
      each = λ k i is. ⊎_elim (λ old. c.loop-port.invariant.each k i old)
          (λ (here, same).
          let k_is : k ≡ at = here ∙ c.loop-port.invariant.as_many in
          subst (λ (j : ℕ). IsDataInput ports j i) (sym k_is) (record { port = port; at = port_here c; is = same ∙ made_is }))
          (pushed_at c.loop-port.inputs.items made i k (subst (λ (l : List TxInput). slice_get l k ≡ Some i) pushed is));
      events = omega (arith, length-set c.loop-port.places e (get_or c.loop-port.places e 0 + 1), c.loop-port.invariant.events);
      counted = λ n within. counted_more ports at port c.loop-port.places e n (port_here c) (sym c.from-event.ensures) (omega (arith, small, c.loop-port.invariant.events)) (c.loop-port.invariant.counted n within);
    }
