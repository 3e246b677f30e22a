use Rattle.net_steps.proofs.GateLemmas.{mux_gate}
use Rattle.net_steps.proofs.gates.gate_of_three.Goals as goal

pub returns-in_ok-chosen_slot-in-FilMux : goal.returns-in_ok-chosen_slot-in-FilMux
returns-in_ok-chosen_slot-in-FilMux c =
    let a = c.args in
    mux_gate a.steps.now c.chosen_slot.new.steps a.prim c.in-FilMux.w a.on a.value a.other c.in_ok-chosen_slot-in-FilMux.field-0 c.in-FilMux.is c.in_ok-chosen_slot-in-FilMux.ensures
