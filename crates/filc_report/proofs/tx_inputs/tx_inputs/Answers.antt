use Rattle.std.proofs.Common.{◌≡◌, ◌∙◌, ◌-◌, ◌++◌, List, [], Some, length, map, get_or, ap, sym, subst, arith}
use Rattle.std.specs.Prelude.{slice_get, IsSome}
use Rattle.std.proofs.lemmas.List.{length-map}
use Rattle.net_core.specs.Netlist.{netlist_of, pin_of}
use Rattle.fil_sig.specs.Seen.{seen, seen_event, seen_port}
use Rattle.fil_sig.specs.declared.time_sig.SigEvent.{SigEvent}
use Rattle.fil_sig.specs.declared.time_sig.SigPort.{SigPort}
use Rattle.filc_load.proofs.InputPortLemmas.{inputs_within}
use Rattle.filc_report.specs.Driving.{IsInterface, IsDataInput}
use Rattle.fil_driven.specs.TxDrive.{event_with}
use Rattle.filc_report.specs.declared.tx_inputs.TxInput.{TxInput}
use Rattle.filc_report.proofs.DriveLemmas.{ins_are, first_in, inputs_drive}
use Rattle.filc_report.proofs.RunLemmas.{table_numbers}
use Rattle.filc_report.proofs.tx_inputs.tx_inputs.Goals as goal

pub interface_inputs-requires-clause-named : goal.interface_inputs-requires-clause-named
interface_inputs-requires-clause-named c =
    let n = netlist_of c.args.net.now in
    omega (
      arith,
      inputs_within n c.args.table.now c.requires.table,
      (table_numbers n c.args.table.now c.requires.table).all,
      c.len.ensures,
      c.args.net.now.ins.ok.0,
      length-map c.args.net.now.ins.items (pin_of c.args.net.now.names),
    )

pub interface_inputs-requires-clause-numbers : goal.interface_inputs-requires-clause-numbers
interface_inputs-requires-clause-numbers c = table_numbers (netlist_of c.args.net.now) c.args.table.now c.requires.table

-- the inputs before the signature's are interface ports
counted : (c : goal.After-deref) → c.len.result - c.len-2.result ≡ length c.requires.ports.interfaces
counted c =
    omega (
      arith,
      ins_are (netlist_of c.args.net.now) (seen c.args.sig.now) c.requires.ports,
      c.len.ensures,
      c.len-2.ensures,
      c.args.net.now.ins.ok.0,
      c.args.sig.now.ins.ok.0,
      length-map c.args.net.now.ins.items (pin_of c.args.net.now.names),
      length-map c.args.sig.now.ins.items seen_port,
    )

pub interface_inputs-requires-clause-interfaces : goal.interface_inputs-requires-clause-interfaces
interface_inputs-requires-clause-interfaces c = λ k within.
    subst (λ (events : List SigEvent). IsSome (event_with 0 (map seen_event events) (get_or c.args.table.now.names k []))) (sym c.deref.ensures.value)
    (first_in (netlist_of c.args.net.now) (seen c.args.sig.now) c.requires.ports c.args.table.now.names c.requires.table.names k (omega (arith, within, counted c)))

pub returns-clause-drives : goal.returns-clause-drives
returns-clause-drives c = λ list fit k i p at pin.
    let names = c.args.table.now.names in
    let first = c.in_ok-inputs.inputs.items in
    let many : length first ≡ length c.requires.ports.interfaces =
    omega (
      arith,
      c.in_ok-inputs.ensures.as_many,
      ins_are (netlist_of c.args.net.now) (seen c.args.sig.now) c.requires.ports,
      c.len.ensures,
      c.len-2.ensures,
      c.args.net.now.ins.ok.0,
      c.args.sig.now.ins.ok.0,
      length-map c.args.net.now.ins.items (pin_of c.args.net.now.names),
      length-map c.args.sig.now.ins.items seen_port,
    ) in
    inputs_drive (netlist_of c.args.net.now) (seen c.args.sig.now) c.requires.ports c.requires.valid names c.requires.table.names first c.in_ok-data.data.items many
    (λ j x is. subst (λ (events : List SigEvent). IsInterface (map seen_event events) (get_or names j []) x) c.deref.ensures.value (c.in_ok-inputs.ensures.each j x is))
    (λ j x is. subst (λ (ports : List SigPort). IsDataInput (map seen_port ports) j x) c.deref-2.ensures.value (c.in_ok-data.ensures.each j x is))
    list fit k i p
    (subst (λ (items : List TxInput). slice_get items k ≡ Some i) (c.in_ok-extend_from_slice.ensures.items ∙ ap (λ (ys : List TxInput). first ++ ys) c.deref-3.ensures.value) at)
    pin
