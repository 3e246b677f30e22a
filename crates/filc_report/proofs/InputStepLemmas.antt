-- The inputs of a run, from one row to the next.
use Rattle.std.proofs.Common.{◌≡◌, ℕ, ◌+◌, ◌<◌, ◌≤◌, List, [], length, get_or, Some, Vec, Global, sym, ap, subst, ◌∙◌, arith, add-one, slice_range, replicate}
use Rattle.std.specs.Prelude.{slice_get}
use Rattle.std.specs.Borrow.{Bor}
use Rattle.std.specs.List.{AllWithin}
use Rattle.std.proofs.lemmas.List.{length-map, get_or-map, length-replicate}
use Rattle.std.proofs.lemmas.Option.{slice_get-get_or, slice_get_within, get_or_from_slice_get}
use Rattle.hw_bits.specs.Values.{values_of, widths_of}
use Rattle.hw_bits.specs.declared.bits.Bits.{Bits}
use Rattle.hw_names.specs.Name.{Text}
use Rattle.hw_prims.specs.Table.{Pin, pin_names, pin_widths}
use Rattle.net_core.specs.NetRun.{HasPin}
use Rattle.net_core.specs.Netlist.{Netlist}
use Rattle.net_core.specs.Rules.{IsValid}
use Rattle.net_core.specs.declared.stimulus.CycleList.{CycleList}
use Rattle.net_core.specs.declared.stimulus.InputSet.{InputSet}
use Rattle.net_sim.specs.Sim.{input_row}
use Rattle.net_sim.specs.Slots.{row_of}
use Rattle.fil_ast.specs.declared.tx.TxList.{TxList}
use Rattle.fil_sig.specs.Seen.{seen}
use Rattle.fil_sig.specs.declared.time_sig.TimeSig.{TimeSig}
use Rattle.stim_read.specs.TxRun.{tx_run_seen}
use Rattle.filc_load.specs.Given.{with_sets, AreSetsFor}
use Rattle.filc_report.specs.Driving.{trace_of, AreInputsAt, AreMade, DrivesPin, value_in, GiveValues}
use Rattle.filc_report.specs.Intervals.{ArePassed}
use Rattle.fil_driven.specs.TxDrive.{driven_by}
use Rattle.filc_report.specs.declared.drive.Drive.TheVariants.{Cycles, Txs}
use Rattle.filc_report.specs.declared.inputs.Inputs.{Inputs}
use Rattle.filc_report.specs.declared.tx_inputs.Gives.TheVariants.{Start}
use Rattle.filc_report.specs.declared.tx_inputs.TxInput.{TxInput}
use Rattle.filc_report.proofs.DriveLemmas.{ins_differ}
use Rattle.filc_report.proofs.InputLemmas.{none_made, more_made, values_are, read_same}
use Rattle.filc_report.proofs.IntervalLemmas.{passed_later, passed_at_first}
use Rattle.filc_report.proofs.StandLemmas.{row_of_at}

-- what setting the sets that are due makes of the inputs
pub record AreSetDue (sets : List InputSet) (before after : List Bits) (taken next row : ℕ) : Type 0 where
  pub in_order : taken ≤ next
  pub within : next ≤ length sets
  pub due : AllWithin (λ (s : InputSet). s.from ≤ row) sets taken next
  pub values : values_of after ≡ with_sets (slice_range sets taken next) (values_of before)
  pub later : (s : InputSet) → next < length sets → slice_get sets next ≡ Some s → row < s.from
  pub widths : widths_of after ≡ widths_of before

module _ (n : Netlist) (list : Bor CycleList) (old new : Inputs) (row : ℕ) (at : AreInputsAt n (Cycles list) old row) (due : AreSetDue list.now.sets.items old.values.items new.values.items old.taken new.taken row) where
  pub cycles_next : AreInputsAt n (Cycles list) new (row + 1)
  cycles_next = record {
    widths = at.widths ∙ sym due.widths;
    distinct = at.distinct;
    stand = subst (λ (t : ℕ). AreMade list.now.sets.items new.values.items new.taken t (length n.ins)) (sym (add-one row)) (more_made list.now.sets.items old.values.items new.values.items old.taken new.taken row (length n.ins) at.stand due.in_order due.within due.due due.values);
  }

  pub cycles_given : AreSetsFor (pin_widths n.ins) list.now.sets.items → (port : Text) → input_row n (values_of new.values.items) port ≡ trace_of n (Cycles list) row port
  cycles_given fits port =
      ap (λ vs. row_of (pin_names n.ins) vs port)
      (values_are list.now.sets.items old.values.items new.values.items old.taken new.taken row (length n.ins) at.stand due.in_order due.within due.due due.values due.later fits.in_order)

module _ (n : Netlist) (list : Bor TxList) (sig : Bor TimeSig) (old : Inputs) (row : ℕ) (at : AreInputsAt n (Txs list sig) old row) where
  -- an input by its number
  width_at : (k : ℕ) (p : Pin) → slice_get n.ins k ≡ Some p → get_or (widths_of old.values.items) k 0 ≡ p.width
  width_at k p is =
      let within : k < length n.ins = slice_get_within n.ins k p is in
      ap (λ (ws : List ℕ). get_or ws k 0) (sym at.widths) ∙ get_or-map (λ (q : Pin). q.width) n.ins k p 0 within ∙ ap (λ (q : Pin). q.width) (get_or_from_slice_get n.ins k p p is)

  pub tx_given_so : (k : ℕ) (i : TxInput) → slice_get old.ports.items k ≡ Some i → GiveValues i (get_or (widths_of old.values.items) k 0) list.now.txs.items
  tx_given_so k i is =
      let within : k < length n.ins = omega (arith, slice_get_within old.ports.items k i is, at.stand.as_many) in
      let none : Pin = record { name = []; width = 0 } in
      let p = get_or n.ins k none in
      let here = slice_get-get_or n.ins k none within in
      subst (λ (w : ℕ). GiveValues i w list.now.txs.items) (sym (width_at k p here)) (at.stand.drives k i p is here).given

  pub txs_next : (values : Vec Bits Global) (nexts : Vec ℕ Global) → length nexts.items ≡ length old.nexts.items → widths_of values.items ≡ widths_of old.values.items → ((k : ℕ) (i : TxInput) → slice_get old.ports.items k ≡ Some i → ArePassed i.interval list.now.txs.items (get_or nexts.items k 0) row) → AreInputsAt n (Txs list sig) (record { values = values; taken = old.taken; ports = old.ports; nexts = nexts }) (row + 1)
  txs_next values nexts each widths passed = record {
    widths = at.widths ∙ sym widths;
    distinct = at.distinct;
    stand = record {
      as_many = at.stand.as_many;
      each = each ∙ at.stand.each;
      drives = at.stand.drives;
      passed = λ k i is. passed_later i.interval list.now.txs.items (get_or nexts.items k 0) row (passed k i is);
    };
  }

  pub txs_given : (after : List Bits) → widths_of after ≡ widths_of old.values.items → ((k : ℕ) (i : TxInput) → slice_get old.ports.items k ≡ Some i → get_or (values_of after) k 0 ≡ value_in i list.now row (get_or (widths_of old.values.items) k 0)) → (port : Text) → HasPin n.ins port → input_row n (values_of after) port ≡ trace_of n (Txs list sig) row port
  txs_given after widths values port (k, within, is) =
      let names = pin_names n.ins in
      let inside : k < length n.ins = omega (arith, within, length-map n.ins (λ (q : Pin). q.name)) in
      let none : Pin = record { name = []; width = 0 } in
      let p = get_or n.ins k none in
      let here = slice_get-get_or n.ins k none inside in
      let first : TxInput = record { interval = record { event = 0; from = 0; to = 0 }; gives = Start } in
      let i = get_or old.ports.items k first in
      let there = slice_get-get_or old.ports.items k first (omega (arith, inside, at.stand.as_many)) in
      let named : get_or names k [] ≡ port = read_same names k [] port within ∙ is in
      let name_is : p.name ≡ port = sym (get_or-map (λ (q : Pin). q.name) n.ins k none [] inside) ∙ named in
      let valued : k < length (values_of after) = omega (arith, inside, length-map after (λ (b : Bits). b.value), length-map after (λ (b : Bits). b.width), ap length widths, ap length at.widths, length-map n.ins (λ (q : Pin). q.width)) in
      ap (row_of names (values_of after)) (sym named) ∙ row_of_at names (values_of after) k at.distinct within valued
      ∙ values k i there ∙ ap (λ (w : ℕ). value_in i list.now row w) (width_at k p here)
      ∙ (at.stand.drives k i p there here).values row ∙ ap (driven_by (seen sig.now) (tx_run_seen list.now) row) name_is

-- ---- before the first row

module _ (n : Netlist) (valid : IsValid n) (inputs : Inputs) (widths : pin_widths n.ins ≡ widths_of inputs.values.items) where
  pub cycles_begin : (list : Bor CycleList) → values_of inputs.values.items ≡ replicate (length n.ins) 0 → inputs.taken ≡ 0 → AreInputsAt n (Cycles list) inputs 0
  cycles_begin list clear none = record {
    widths = widths;
    distinct = ins_differ n valid;
    stand = subst (λ (taken : ℕ). AreMade list.now.sets.items inputs.values.items taken 0 (length n.ins)) (sym none) (none_made list.now.sets.items inputs.values.items (length n.ins) clear);
  }

  pub txs_begin : (list : Bor TxList) (sig : Bor TimeSig) (count : ℕ) → inputs.nexts.items ≡ replicate count 0 → count ≡ length inputs.ports.items → length inputs.ports.items ≡ length n.ins → ((k : ℕ) (i : TxInput) (p : Pin) → slice_get inputs.ports.items k ≡ Some i → slice_get n.ins k ≡ Some p → DrivesPin list.now (driven_by (seen sig.now) (tx_run_seen list.now)) i p) → AreInputsAt n (Txs list sig) inputs 0
  txs_begin list sig count clear each as_many drives = record {
    widths = widths;
    distinct = ins_differ n valid;
    stand = record {
      as_many = as_many;
      each = ap length clear ∙ length-replicate count 0 ∙ each;
      drives = drives;
      passed = λ k i is. passed_at_first i.interval list.now.txs.items inputs.nexts.items count clear k;
    };
  }
