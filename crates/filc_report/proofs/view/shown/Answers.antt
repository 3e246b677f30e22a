use Rattle.std.proofs.Common.{◌≡◌, ◌+◌, ◌≤◌, length, slice_range, ap, sym, ◌∙◌, arith}
use Rattle.std.proofs.lemmas.List.{length-map}
use Rattle.hw_prims.specs.Table.{Pin}
use Rattle.net_core.specs.Netlist.{netlist_of, pin_of}
use Rattle.filc_report.specs.Rows.{outputs_of_net}
use Rattle.filc_report.specs.Streams.{shown_ports}
use Rattle.filc_report.proofs.PortLemmas.{pin_texts, inner_names, names_of_ports, middle_range}
use Rattle.filc_report.proofs.view.shown.Goals as goal

outputs : (c : goal.After-len) → (c.len-first.result + c.len.result ≤ length c.args.table.now.names) × (slice_range c.args.table.now.names c.len-first.result (c.len-first.result + c.len.result) ≡ outputs_of_net (netlist_of c.args.net.now))
outputs c =
    let n = netlist_of c.args.net.now in
    let ins : c.len-first.result ≡ length (pin_texts n.ins) = omega (arith, c.len-first.ensures, c.args.net.now.ins.ok.0, length-map n.ins (λ (p : Pin). p.name), length-map c.args.net.now.ins.items (pin_of c.args.net.now.names)) in
    let outs : c.len.result ≡ length (pin_texts n.outs) = omega (arith, c.len.ensures, c.args.net.now.outs.ok.0, length-map n.outs (λ (p : Pin). p.name), length-map c.args.net.now.outs.items (pin_of c.args.net.now.names)) in
    middle_range c.args.table.now.names (pin_texts n.ins) (pin_texts n.outs) (inner_names n) c.len-first.result c.len.result (c.requires.names ∙ names_of_ports n) ins outs

pub returns-else-all-clause-within : goal.returns-else-all-clause-within
returns-else-all-clause-within c = (outputs c).0

pub returns-else-all-clause-ports : goal.returns-else-all-clause-ports
returns-else-all-clause-ports c = (outputs c).1 ∙ ap (shown_ports (netlist_of c.args.net.now)) (sym c.if-all.false)
