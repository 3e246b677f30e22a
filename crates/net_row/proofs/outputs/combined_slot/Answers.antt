use Rattle.std.proofs.Common.{[], ◌∷◌, arith}
use Rattle.net_row.proofs.OutputLemmas.{ok_gate, slots_of_none, slots_of_one, slots_of_two, slots_of_three}
use Rattle.net_row.proofs.outputs.combined_slot.Goals as goal

pub returns-in-0 : goal.returns-in-0
returns-in-0 c =
    ok_gate c.gate_of_none.result c.args.steps.now c.gate_of_none.new.steps c.args.ports.now.slots.items c.args.cell []
    (slots_of_none c.args.ports.now.slots.items c.args.cell (omega arith)) c.gate_of_none.ensures

pub returns-in_ok-a-in-1 : goal.returns-in_ok-a-in-1
returns-in_ok-a-in-1 c =
    ok_gate c.gate_of_one.result c.args.steps.now c.gate_of_one.new.steps c.args.ports.now.slots.items c.args.cell (c.in_ok-a-in-1.a ∷ [])
    (slots_of_one c.args.ports.now.slots.items c.args.cell c.in_ok-a-in-1.a (omega arith) c.in_ok-a-in-1.ensures) c.gate_of_one.ensures

pub returns-in_ok-b-in-2 : goal.returns-in_ok-b-in-2
returns-in_ok-b-in-2 c =
    ok_gate c.gate_of_two.result c.args.steps.now c.gate_of_two.new.steps c.args.ports.now.slots.items c.args.cell (c.in_ok-a-in-2.a ∷ c.in_ok-b-in-2.b ∷ [])
    (slots_of_two c.args.ports.now.slots.items c.args.cell c.in_ok-a-in-2.a c.in_ok-b-in-2.b (omega arith) c.in_ok-a-in-2.ensures c.in_ok-b-in-2.ensures) c.gate_of_two.ensures

pub returns-in_ok-other-in-3 : goal.returns-in_ok-other-in-3
returns-in_ok-other-in-3 c =
    ok_gate c.gate_of_three.result c.args.steps.now c.gate_of_three.new.steps c.args.ports.now.slots.items c.args.cell
    (c.in_ok-on-in-3.on ∷ c.in_ok-value-in-3.value ∷ c.in_ok-other-in-3.other ∷ [])
    (slots_of_three c.args.ports.now.slots.items c.args.cell c.in_ok-on-in-3.on c.in_ok-value-in-3.value c.in_ok-other-in-3.other (omega arith)
    c.in_ok-on-in-3.ensures c.in_ok-value-in-3.ensures c.in_ok-other-in-3.ensures)
    c.gate_of_three.ensures
