use Rattle.std.proofs.Common.{◌≡◌, ◌+◌, ◌≤◌, ◌++◌, ℕ, length, get_or, Vec, Global, ap, sym, ◌∙◌, arith}
use Rattle.std.proofs.lemmas.Option.{same_Some}
use Rattle.hw_names.specs.Name.{Text}
use Rattle.net_core.specs.Netlist.{netlist_of}
use Rattle.net_core.specs.Rules.{ports_of}
use Rattle.ver_print.proofs.PortLemmas.{info_at, length_table, no_info, table_name_within, table_port, wires_all, wires_more, wires_none, wires_skip}
use Rattle.ver_print.proofs.ports.put_wires.Goals.{then-number-first+in_ok-put_wire, else-number-first}
use Rattle.ver_print.proofs.ports.put_wires.Goals as goal

pub loop-number-init : goal.loop-number-init
loop-number-init c = wires_none (ports_of (netlist_of c.args.net.now)) (c.len.result + c.len-2.result) c.args.out.now.items

pub text-requires : goal.text-requires
text-requires c =
    let n = netlist_of c.args.net.now in
    let table = c.args.table.now in
    let i = c.loop-number.number in
    let items = c.deref-info-items.result.now in
    table_name_within n table c.requires i (get_or items i no_info) (info_at n table c.requires items i c.deref-info-items.ensures.value c.loop-number-test.true)

pub loop-number-preserved : goal.loop-number-preserved
loop-number-preserved c =
    let n = netlist_of c.args.net.now in
    let table = c.args.table.now in
    let first = c.len.result + c.len-2.result in
    let i = c.loop-number.number in
    let items = c.deref-info-items.result.now in
    let before = c.args.out.now.items in
    let out = c.loop-number.out.items in
    let has = table_port n table c.requires i (get_or items i no_info) (info_at n table c.requires items i c.deref-info-items.ensures.value c.loop-number-test.true) in
    elim c.if-number-first.branch [
      | then-number-first+in_ok-put_wire w ↦
          let named = same_Some has.port.name w.text.result.now (sym has.name ∙ w.text.ensures) in
          ap (λ (o : Vec ℕ Global). o.items) w.out-is
          ∙ wires_more (ports_of n) first i has.port before out w.put_wire.new.out.items has.at w.if-number-first.true c.loop-number.invariant (w.in_ok-put_wire.ensures has.port named has.width)
      | else-number-first w ↦ ap (λ (o : Vec ℕ Global). o.items) w.out-is ∙ wires_skip (ports_of n) first i before out w.if-number-first.false c.loop-number.invariant
    ]

pub returns : goal.returns
returns c =
    let net = c.args.net.now in
    let n = netlist_of net in
    let i = c.loop-number.number in
    let counted : c.len.result + c.len-2.result ≡ length net.ins.items + length net.outs.items = omega (arith, c.len.ensures, c.len-2.ensures, net.ins.ok.0, net.outs.ok.0) in
    let all : length (ports_of n) ≤ i = omega (arith, c.loop-number-test.false, ap length c.deref-info-items.ensures.value, length_table n c.args.table.now c.requires) in
    c.loop-number.invariant ∙ ap (λ (t : Text). c.args.out.now.items ++ t) (wires_all net (c.len.result + c.len-2.result) i counted all)
