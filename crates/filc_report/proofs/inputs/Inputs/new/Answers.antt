use Rattle.std.proofs.Common.{◌≡◌, ◌∙◌, ◌≤◌, ℕ, List, Vec, Global, Some, length, map, take, replicate, refl, ap, sym, subst, arith}
use Rattle.std.specs.Prelude.{slice_get, All}
use Rattle.std.proofs.lemmas.List.{length-map, length-take-le}
use Rattle.hw_bits.specs.Values.{values_of, widths_of}
use Rattle.hw_prims.specs.Table.{pin_widths}
use Rattle.net_core.specs.Netlist.{netlist_of, pin_of}
use Rattle.net_core.specs.declared.table.PortInfo.{PortInfo}
use Rattle.filc_load.proofs.InputPortLemmas.{inputs_within, inputs_wide, input_widths}
use Rattle.filc_report.specs.Driving.{FitsDrive, AreInputsAt}
use Rattle.filc_report.specs.declared.drive.Drive.{Drive}
use Rattle.filc_report.specs.declared.inputs.Inputs.{Inputs}
use Rattle.filc_report.specs.declared.tx_inputs.TxInput.{TxInput}
use Rattle.filc_report.proofs.InputStepLemmas.{cycles_begin, txs_begin}
use Rattle.filc_report.proofs.inputs.Inputs.new.Goals as goal
use Rattle.filc_report.proofs.inputs.Inputs.new.Goals.{in-Cycles, in-Txs+in_ok-ports-in-Txs}

pub slice_bounds-zeros-end : goal.slice_bounds-zeros-end
slice_bounds-zeros-end c =
    let within = inputs_within (netlist_of c.args.net.now) c.args.table.now c.requires.table in
    sym (length-take-le c.len.result c.deref.result.now (omega (arith, within, c.len.ensures, c.args.net.now.ins.ok.0, length-map c.args.net.now.ins.items (pin_of c.args.net.now.names), ap length c.deref.ensures.value)))

pub zeros-requires : goal.zeros-requires
zeros-requires c =
    let n = netlist_of c.args.net.now in
    let wide = inputs_wide n c.args.table.now c.requires.table c.requires.valid in
    let count : length n.ins ≡ c.len.result = omega (arith, c.len.ensures, c.args.net.now.ins.ok.0, length-map c.args.net.now.ins.items (pin_of c.args.net.now.names)) in
    let same : take (length n.ins) c.args.table.now.ports.items ≡ take c.len.result c.deref.result.now =
    ap (λ k. take k c.args.table.now.ports.items) count ∙ ap (take c.len.result) (sym c.deref.ensures.value) in
    subst (λ (ports : List PortInfo). All (λ (p : PortInfo). (1 ≤ p.width) × (p.width ≤ 128)) ports) same wide

pub returns : goal.returns
returns c =
    let n = netlist_of c.args.net.now in
    let table = c.args.table.now in
    let made : Inputs = record { values = c.in_ok-values.values; taken = 0; ports = c.match-drive.ports; nexts = c.in_ok-nexts.nexts } in
    let count : length n.ins ≡ c.len.result = omega (arith, c.len.ensures, c.args.net.now.ins.ok.0, length-map c.args.net.now.ins.items (pin_of c.args.net.now.names)) in
    let same : take (length n.ins) table.ports.items ≡ take c.len.result c.deref.result.now =
    ap (λ k. take k table.ports.items) count ∙ ap (take c.len.result) (sym c.deref.ensures.value) in
    let widths : pin_widths n.ins ≡ widths_of c.in_ok-values.values.items =
    sym (input_widths n table c.requires.table) ∙ ap (map (λ (p : PortInfo). p.width)) same ∙ sym c.in_ok-values.ensures.widths in
    let many : length (take c.len.result c.deref.result.now) ≡ length n.ins =
    sym (ap length same) ∙ length-take-le (length n.ins) table.ports.items (inputs_within n table c.requires.table) in
    let clear : values_of c.in_ok-values.values.items ≡ replicate (length n.ins) 0 = c.in_ok-values.ensures.values ∙ ap (λ (m : ℕ). replicate m 0) many in
    elim c.match-drive.branch [
      | in-Cycles w ↦ subst (λ (d : Drive). AreInputsAt n d made 0) (sym w.in-Cycles.is) (cycles_begin n c.requires.valid made widths w.in-Cycles.field-0 clear refl)
      | in-Txs+in_ok-ports-in-Txs w ↦
          let driven = w.in_ok-ports-in-Txs.ensures in
          let fit = subst (λ (d : Drive). FitsDrive n d) w.in-Txs.is c.requires.fits in
          subst (λ (d : Drive). AreInputsAt n d made 0) (sym w.in-Txs.is)
          (txs_begin n c.requires.valid made widths w.in-Txs.field-0 w.in-Txs.sig c.len-2.result (c.in_ok-nexts.ensures.items_if_clones_equal (λ y same. same))
          (omega (arith, c.len-2.ensures, c.match-drive.ports.ok.0))
          (ap (λ (v : Vec TxInput Global). length v.items) w.ports-is ∙ driven.as_many)
          (λ k i p at pin. driven.drives w.in-Txs.field-0.now fit k i p (subst (λ (v : Vec TxInput Global). slice_get v.items k ≡ Some i) w.ports-is at) pin))
    ]
