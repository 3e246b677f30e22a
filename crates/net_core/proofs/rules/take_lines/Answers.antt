use Rattle.std.proofs.Common.{◌+◌, ◌++◌, [], List, Result, Ok, Err, subst}
use Rattle.std.specs.Prelude.{OnOk}
use Rattle.net_core.specs.Judging.{own_part, cell_lines, set_lines, first_broken, Tells}
use Rattle.net_core.specs.Netlist.{netlist_of, lines_of}
use Rattle.net_core.specs.Rules.{PortLine, ports_of}
use Rattle.net_core.specs.declared.net.NetAssign.{NetAssign}
use Rattle.net_core.specs.declared.net.NetCell.{NetCell}
use Rattle.net_core.proofs.JudgingLemmas.{begun_none, tells_begun, tells_broken, tells_prefix}
use Rattle.net_core.proofs.LineLemmas.{begun_own, begun_cells, all_ports}
use Rattle.net_core.proofs.rules.take_lines.Goals as goal

pub returns-in_err-take_own-clause-judged : goal.returns-in_err-take_own-clause-judged
returns-in_err-take_own-clause-judged c =
    let net = c.args.net.now in
    let all = ports_of (netlist_of net) in
    let own = own_part net in
    let cells = cell_lines net.names net.cells.items in
    let sets = set_lines net.names net.sets.items in
    let answer = c.from_residual.result in
    let is_err = c.from_residual.ensures.0 in
    tells_prefix answer all (own ++ cells) sets is_err (tells_prefix answer all own cells is_err
    (tells_broken answer c.in_err-take_own.field-0.0 all [] own [] [] 1 c.from_residual.ensures.1 (begun_none all) (c.in_err-take_own.ensures.judged all)))

pub returns-in_err-take_cells-clause-judged : goal.returns-in_err-take_cells-clause-judged
returns-in_err-take_cells-clause-judged c =
    let net = c.args.net.now in
    let all = ports_of (netlist_of net) in
    let own = own_part net in
    let sets = set_lines net.names net.sets.items in
    let answer = c.from_residual-in_err-take_cells.result in
    let e = c.in_err-take_cells.field-0.0 in
    let after_own = begun_own all net c.take_own.new.ports c.args.cells.now c.len.result (c.in_ok-take_own.ensures.judged all) c.in_ok-take_own.ensures.ports c.requires.no_cells c.len.ensures.len in
    let P : List NetCell → Type 0 = λ cs. Tells {T = Unit {0}} (Err e) (first_broken all c.take_own.new.ports c.args.cells.now (1 + c.len.result) (cell_lines net.names cs)) in
    tells_prefix answer all (own ++ cell_lines net.names net.cells.items) sets c.from_residual-in_err-take_cells.ensures.0
    (tells_broken answer e all own (cell_lines net.names net.cells.items) c.take_own.new.ports c.args.cells.now (1 + c.len.result) c.from_residual-in_err-take_cells.ensures.1 after_own
    (subst P c.deref.ensures.value (c.in_err-take_cells.ensures.judged all)))

pub returns-clause-judged : goal.returns-clause-judged
returns-clause-judged c =
    let net = c.args.net.now in
    let all = c.take_cells.new.ports in
    let lines = own_part net ++ cell_lines net.names net.cells.items in
    let answer = c.check_sets.result in
    let after_own = begun_own all net c.take_own.new.ports c.args.cells.now c.len.result (c.in_ok-take_own.ensures.judged all) c.in_ok-take_own.ensures.ports c.requires.no_cells c.len.ensures.len in
    let after_cells = begun_cells all net c.take_own.new.ports c.take_cells.new.ports c.args.cells.now c.take_cells.new.cells (1 + c.len.result) c.len-2.result c.deref.result.now after_own c.requires.no_cells c.deref.ensures.value
    (c.in_ok-take_cells.ensures.judged all) c.in_ok-take_cells.ensures.added c.in_ok-take_cells.ensures.named c.len-2.ensures.len in
    let P : List NetAssign → Type 0 = λ sets. Tells answer (first_broken all [] [] 1 (lines ++ set_lines net.names sets)) in
    let A : List PortLine → Type 0 = λ ports. Tells answer (first_broken ports [] [] 1 (lines_of (netlist_of net))) in
    subst A (all_ports all net c.take_cells.new.ports c.take_cells.new.cells (1 + c.len.result + c.len-2.result) after_cells)
    (subst P c.deref-2.ensures.value (tells_begun answer after_cells (set_lines net.names c.deref-2.result.now) (c.check_sets.ensures c.take_cells.new.ports c.take_cells.new.cells)))

on_ok : {T E : Type 0} (r : Result T E) (P : Type 0) → P → OnOk r P
on_ok (Ok x) P p = p
on_ok (Err e) P p = tt

pub returns-clause-ports : goal.returns-clause-ports
returns-clause-ports c =
    let net = c.args.net.now in
    let all = c.take_cells.new.ports in
    let after_own = begun_own all net c.take_own.new.ports c.args.cells.now c.len.result (c.in_ok-take_own.ensures.judged all) c.in_ok-take_own.ensures.ports c.requires.no_cells c.len.ensures.len in
    let after_cells = begun_cells all net c.take_own.new.ports c.take_cells.new.ports c.args.cells.now c.take_cells.new.cells (1 + c.len.result) c.len-2.result c.deref.result.now after_own c.requires.no_cells c.deref.ensures.value
    (c.in_ok-take_cells.ensures.judged all) c.in_ok-take_cells.ensures.added c.in_ok-take_cells.ensures.named c.len-2.ensures.len in
    on_ok c.check_sets.result _ (all_ports all net c.take_cells.new.ports c.take_cells.new.cells (1 + c.len.result + c.len-2.result) after_cells)
