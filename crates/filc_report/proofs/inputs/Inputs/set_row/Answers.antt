use Rattle.std.proofs.Common.{◌≡◌, ◌∙◌, ℕ, ◌+◌, List, Some, length, get_or, sym, ap, subst, arith}
use Rattle.std.specs.Prelude.{slice_get}
use Rattle.std.specs.Vec.{with_items}
use Rattle.std.proofs.lemmas.List.{with_items_is}
use Rattle.hw_bits.specs.Values.{values_of, widths_of}
use Rattle.hw_bits.specs.declared.bits.Bits.{Bits}
use Rattle.net_core.specs.declared.stimulus.InputSet.{InputSet}
use Rattle.net_sim.specs.Sim.{input_row}
use Rattle.filc_report.specs.Driving.{trace_of, FitsDrive, AreInputsAt, GiveValues, value_in}
use Rattle.filc_report.specs.Intervals.{ArePassed}
use Rattle.filc_report.specs.declared.drive.Drive.{Drive}
use Rattle.filc_report.specs.declared.inputs.Inputs.{Inputs}
use Rattle.filc_report.specs.declared.tx_inputs.TxInput.{TxInput}
use Rattle.fil_sig.specs.Seen.{seen}
use Rattle.filc_report.proofs.DriveLemmas.{rises}
use Rattle.filc_report.proofs.InputStepLemmas.{AreSetDue, cycles_next, cycles_given, tx_given_so, txs_next, txs_given}
use Rattle.filc_report.proofs.inputs.Inputs.set_row.Goals as goal

pub set_inputs-requires-clause-rise : goal.set_inputs-requires-clause-rise
set_inputs-requires-clause-rise c = rises c.requires.0 (seen c.in-Txs.field-1.now) c.in-Txs.list.now (subst (λ (d : Drive). FitsDrive c.requires.0 d) c.in-Txs.is c.requires.1)

pub set_inputs-requires-clause-given : goal.set_inputs-requires-clause-given
set_inputs-requires-clause-given c = λ k i is.
    let at = subst (λ (d : Drive). AreInputsAt c.requires.0 d c.args.self.now c.args.row) c.in-Txs.is c.requires.2 in
    subst (λ (bits : List Bits). GiveValues i (get_or (widths_of bits) k 0) c.in-Txs.list.now.txs.items) (sym c.deref_mut-in-Txs-2.ensures.value)
    (tx_given_so c.requires.0 c.in-Txs.list c.in-Txs.field-1 c.args.self.now c.args.row at k i (subst (λ (ports : List TxInput). slice_get ports k ≡ Some i) c.deref-in-Txs.ensures.value is))

-- the inputs after the sets that are due
set_due : (c : goal.After-self-in-Cycles-1) → AreSetDue c.in-Cycles.list.now.sets.items c.args.self.now.values.items (with_items c.args.self.now.values c.set_due-self.new.inputs).items c.args.self.now.taken c.set_due-self.result c.args.row
set_due c =
    let due = c.set_due-self.ensures in
    let size : length c.set_due-self.new.inputs ≡ c.args.self.now.values.len = omega (arith, c.set_due-self.auto.inputs, ap length c.deref_mut.ensures.value, c.args.self.now.values.ok.0) in
    let items = with_items_is c.args.self.now.values c.set_due-self.new.inputs size in
    subst (λ (after : List Bits). AreSetDue c.in-Cycles.list.now.sets.items c.args.self.now.values.items after c.args.self.now.taken c.set_due-self.result c.args.row) (sym items)
    (subst (λ (before : List Bits). AreSetDue c.in-Cycles.list.now.sets.items before c.set_due-self.new.inputs c.args.self.now.taken c.set_due-self.result c.args.row) c.deref_mut.ensures.value
    (subst (λ (sets : List InputSet). AreSetDue sets c.deref_mut.result.now c.set_due-self.new.inputs c.args.self.now.taken c.set_due-self.result c.args.row) c.deref.ensures.value
    (record { in_order = due.in_order; within = due.within; due = due.due; values = due.values; later = due.later; widths = due.widths })))

pub returns-in-Cycles-clause-at : goal.returns-in-Cycles-clause-at
returns-in-Cycles-clause-at c = λ n fits at.
    let old = c.args.self.now in
    let new : Inputs = record { values = with_items old.values c.set_due-self.new.inputs; taken = c.set_due-self.result; ports = old.ports; nexts = old.nexts } in
    subst (λ (d : Drive). AreInputsAt n d new (c.args.row + 1)) (sym c.in-Cycles.is)
    (cycles_next n c.in-Cycles.list old new c.args.row (subst (λ (d : Drive). AreInputsAt n d old c.args.row) c.in-Cycles.is at) (set_due c))

pub returns-in-Cycles-clause-given : goal.returns-in-Cycles-clause-given
returns-in-Cycles-clause-given c = λ n fits at port has.
    let old = c.args.self.now in
    let new : Inputs = record { values = with_items old.values c.set_due-self.new.inputs; taken = c.set_due-self.result; ports = old.ports; nexts = old.nexts } in
    cycles_given n c.in-Cycles.list old new c.args.row (subst (λ (d : Drive). AreInputsAt n d old c.args.row) c.in-Cycles.is at) (set_due c) (subst (λ (d : Drive). FitsDrive n d) c.in-Cycles.is fits) port
    ∙ ap (λ (d : Drive). trace_of n d c.args.row port) (sym c.in-Cycles.is)

-- the values and the numbers after a row of transactions
values_are : (c : goal.After-self-in-Txs-2-1) → (with_items c.args.self.now.values c.set_inputs.new.inputs).items ≡ c.set_inputs.new.inputs
values_are c = with_items_is c.args.self.now.values c.set_inputs.new.inputs (omega (arith, c.set_inputs.auto.inputs, ap length c.deref_mut-in-Txs-2.ensures.value, c.args.self.now.values.ok.0))

nexts_are : (c : goal.After-self-in-Txs-2-1) → (with_items c.args.self.now.nexts c.set_inputs.new.nexts).items ≡ c.set_inputs.new.nexts
nexts_are c = with_items_is c.args.self.now.nexts c.set_inputs.new.nexts (omega (arith, c.set_inputs.auto.nexts, ap length c.deref_mut-in-Txs.ensures.value, c.args.self.now.nexts.ok.0))

widths_are : (c : goal.After-self-in-Txs-2-1) → widths_of c.set_inputs.new.inputs ≡ widths_of c.args.self.now.values.items
widths_are c = c.set_inputs.ensures.widths ∙ ap widths_of c.deref_mut-in-Txs-2.ensures.value

pub returns-in-Txs-clause-at : goal.returns-in-Txs-clause-at
returns-in-Txs-clause-at c = λ n fits at.
    let old = c.args.self.now in
    let values = with_items old.values c.set_inputs.new.inputs in let nexts = with_items old.nexts c.set_inputs.new.nexts in
    let at' = subst (λ (d : Drive). AreInputsAt n d old c.args.row) c.in-Txs.is at in
    subst (λ (d : Drive). AreInputsAt n d (record { values = values; taken = old.taken; ports = old.ports; nexts = nexts }) (c.args.row + 1)) (sym c.in-Txs.is)
    (txs_next n c.in-Txs.list c.in-Txs.field-1 old c.args.row at' values nexts
    (omega (arith, ap length (nexts_are c), c.set_inputs.auto.nexts, ap length c.deref_mut-in-Txs.ensures.value)) (ap widths_of (values_are c) ∙ widths_are c)
    (λ k i is. subst (λ (ns : List ℕ). ArePassed i.interval c.in-Txs.list.now.txs.items (get_or ns k 0) c.args.row) (sym (nexts_are c))
    (c.set_inputs.ensures.passed k i (subst (λ (ports : List TxInput). slice_get ports k ≡ Some i) (sym c.deref-in-Txs.ensures.value) is))))

pub returns-in-Txs-clause-given : goal.returns-in-Txs-clause-given
returns-in-Txs-clause-given c = λ n fits at port has.
    let old = c.args.self.now in
    let at' = subst (λ (d : Drive). AreInputsAt n d old c.args.row) c.in-Txs.is at in
    ap (λ (bits : List Bits). input_row n (values_of bits) port) (values_are c)
    ∙ txs_given n c.in-Txs.list c.in-Txs.field-1 old c.args.row at' c.set_inputs.new.inputs (widths_are c)
    (λ k i is. c.set_inputs.ensures.values k i (subst (λ (ports : List TxInput). slice_get ports k ≡ Some i) (sym c.deref-in-Txs.ensures.value) is)
    ∙ ap (λ (bits : List Bits). value_in i c.in-Txs.list.now c.args.row (get_or (widths_of bits) k 0)) c.deref_mut-in-Txs-2.ensures.value) port has
    ∙ ap (λ (d : Drive). trace_of n d c.args.row port) (sym c.in-Txs.is)
