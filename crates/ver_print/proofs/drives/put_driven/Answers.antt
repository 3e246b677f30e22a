use Rattle.std.proofs.Common.{◌≤◌, ◌++◌, ℕ, length, get_or, Vec, Global, ap, sym, ◌∙◌, arith}
use Rattle.std.proofs.lemmas.List.{length-map}
use Rattle.std.proofs.lemmas.Option.{same_Some}
use Rattle.hw_names.specs.Name.{Text}
use Rattle.net_core.specs.Netlist.{netlist_of}
use Rattle.net_core.specs.Rules.{PortLine, ports_of}
use Rattle.ver_print.proofs.DriveLemmas.{drives_all, drives_more, drives_skip, writable_here}
use Rattle.ver_print.proofs.PortLemmas.{info_at, length_table, no_info, table_name_within, table_port}
use Rattle.ver_print.proofs.drives.put_driven.Goals.{then-writable-number+in_ok-put_drive, else-writable-number}
use Rattle.ver_print.proofs.drives.put_driven.Goals as goal

pub bounds-writable-number : goal.bounds-writable-number
bounds-writable-number c =
    let n = netlist_of c.args.net.now in
    omega (arith, c.loop-number-test.true, ap length c.deref-info-items.ensures.value, length_table n c.args.table.now c.requires.table, ap length c.requires.writable, length-map (ports_of n) (λ (p : PortLine). p.writable))

pub text-requires : goal.text-requires
text-requires c =
    let n = netlist_of c.args.net.now in
    let table = c.args.table.now in
    let i = c.loop-number.number in
    let items = c.deref-info-items.result.now in
    table_name_within n table c.requires.table i (get_or items i no_info) (info_at n table c.requires.table items i c.deref-info-items.ensures.value c.loop-number-test.true)

pub loop-number-preserved : goal.loop-number-preserved
loop-number-preserved c =
    let n = netlist_of c.args.net.now in
    let table = c.args.table.now in
    let i = c.loop-number.number in
    let items = c.deref-info-items.result.now in
    let before = c.args.out.now.items in
    let out = c.loop-number.out.items in
    let has = table_port n table c.requires.table i (get_or items i no_info) (info_at n table c.requires.table items i c.deref-info-items.ensures.value c.loop-number-test.true) in
    let here = sym (writable_here n c.args.writable.now i has.port c.requires.writable has.at) in
    elim c.if-writable-number.branch [
      | then-writable-number+in_ok-put_drive w ↦
          let named = same_Some has.port.name w.text.result.now (sym has.name ∙ w.text.ensures) in
          ap (λ (o : Vec ℕ Global). o.items) w.out-is
          ∙ drives_more n i has.port before out w.put_drive.new.out.items has.at (here ∙ w.if-writable-number.true) c.loop-number.invariant (w.in_ok-put_drive.ensures has.port named has.width)
      | else-writable-number w ↦
          ap (λ (o : Vec ℕ Global). o.items) w.out-is ∙ drives_skip n i has.port before out has.at (here ∙ w.if-writable-number.false) c.loop-number.invariant
    ]

pub returns : goal.returns
returns c =
    let n = netlist_of c.args.net.now in
    let i = c.loop-number.number in
    let all : length (ports_of n) ≤ i = omega (arith, c.loop-number-test.false, ap length c.deref-info-items.ensures.value, length_table n c.args.table.now c.requires.table) in
    c.loop-number.invariant ∙ ap (λ (t : Text). c.args.out.now.items ++ t) (drives_all n i all)
