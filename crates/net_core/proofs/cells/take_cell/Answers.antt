use Rattle.std.proofs.Common.{◌≡◌, ◌++◌, [], ◌∷◌, not, None, Ok, refl, ap, subst, sym, ◌∙◌}
use Rattle.std.specs.Prelude.{IsSome}
use Rattle.hw_names.specs.Name.{Text}
use Rattle.hw_names.proofs.NameLemmas.{text_of-slice_get}
use Rattle.hw_prims.specs.Table.{prim_of, is_memory}
use Rattle.net_core.specs.Judging.{made_fault, or_later}
use Rattle.net_core.specs.Netlist.{cell_of}
use Rattle.net_core.specs.Rules.{ports_from, are_new, port_names, is_among}
use Rattle.net_core.proofs.LineLemmas.{makes_from, prim_of-result_ok, named_as, made_where_good, cell_named_twice, cell_ports_taken, cell_made}
use Rattle.net_core.proofs.cells.take_cell.Goals as goal

pub take_ports-requires : goal.take_ports-requires
take_ports-requires c =
    let name = c.text-prim_name.result.now in
    let params = c.as_slice.result.now in
    let made = c.make-made.ensures in
    named_as {name = name} {params = params} c.make-made.result c.ok.result (makes_from name name params params c.make-made.result refl refl made.made made.unknown made.bad) c.ok.ensures.value

pub returns-then-not-branch-clause-judged : goal.returns-then-not-branch-clause-judged
returns-then-not-branch-clause-judged c all =
    let named = text_of-slice_get c.args.names.now c.args.cell.now.name c.text-cell_name.result.now c.text-cell_name.ensures in
    cell_named_twice all c.args.ports.now c.args.cells.now c.args.item (cell_of c.args.names.now c.args.cell.now) c.text-cell_name.result.now named
    (sym c.in_ok-add_name.ensures.new ∙ c.if-not-branch.true)

-- the ports of the cell's line are those that the code put
same_ports : (p p' : _) (name name' prim prim' : Text) → p ≡ p' → name ≡ name' → prim ≡ prim' → ports_from p name prim ≡ ports_from p' name' prim'
same_ports p p' name name' prim prim' e f g = cc

pub returns-then-not-branch-2-clause-judged : goal.returns-then-not-branch-2-clause-judged
returns-then-not-branch-2-clause-judged c all =
    let cell = cell_of c.args.names.now c.args.cell.now in
    let named = text_of-slice_get c.args.names.now c.args.cell.now.name c.text-cell_name.result.now c.text-cell_name.ensures in
    let prim_named = text_of-slice_get c.args.names.now c.args.cell.now.prim c.text-prim_name.result.now c.text-prim_name.ensures in
    let made = c.make-made.ensures in
    let m = makes_from c.text-prim_name.result.now cell.prim c.as_slice.result.now cell.params c.make-made.result prim_named (sym c.as_slice.ensures.value) made.made made.unknown made.bad in
    let ports = same_ports (prim_of cell.prim cell.params) c.ok.result cell.name c.text-cell_name.result.now cell.prim c.text-prim_name.result.now (prim_of-result_ok c.make-made.result m ∙ sym c.ok.ensures.value) named prim_named in
    cell_ports_taken all c.args.ports.now c.args.cells.now c.args.item cell
    (ap (λ ps. are_new (port_names c.args.ports.now) (port_names ps)) ports ∙ sym c.in_ok-take_ports.ensures.new ∙ c.if-not-branch-2.true)

pub returns-in-Some-clause-judged : goal.returns-in-Some-clause-judged
returns-in-Some-clause-judged c all =
    let cell = cell_of c.args.names.now c.args.cell.now in
    let named = text_of-slice_get c.args.names.now c.args.cell.now.name c.text-cell_name.result.now c.text-cell_name.ensures in
    let prim_named = text_of-slice_get c.args.names.now c.args.cell.now.prim c.text-prim_name.result.now c.text-prim_name.ensures in
    let made = c.make-made.ensures in
    let m = makes_from c.text-prim_name.result.now cell.prim c.as_slice.result.now cell.params c.make-made.result prim_named (sym c.as_slice.ensures.value) made.made made.unknown made.bad in
    let ports = same_ports (prim_of cell.prim cell.params) c.ok.result cell.name c.text-cell_name.result.now cell.prim c.text-prim_name.result.now (prim_of-result_ok c.make-made.result m ∙ sym c.ok.ensures.value) named prim_named in
    let fault = ap (λ memory. made_fault c.make-made.result cell.shown memory) (ap is_memory prim_named ∙ sym c.is_memory.ensures) ∙ sym c.parameter_fault.ensures ∙ c.in-Some.is in
    cell_made all c.args.ports.now c.args.cells.now c.args.item cell c.make-made.result m
    (ap (λ ps. are_new (port_names c.args.ports.now) (port_names ps)) ports ∙ sym c.in_ok-take_ports.ensures.new ∙ c.if-not-branch-2.false)
    (ap (λ n. not (is_among c.args.cells.now n)) named ∙ sym c.in_ok-add_name.ensures.new ∙ c.if-not-branch.false)
    ∙ ap (λ rule. or_later rule c.args.item None) fault

pub returns-in-None-clause-judged : goal.returns-in-None-clause-judged
returns-in-None-clause-judged c all =
    let cell = cell_of c.args.names.now c.args.cell.now in
    let named = text_of-slice_get c.args.names.now c.args.cell.now.name c.text-cell_name.result.now c.text-cell_name.ensures in
    let prim_named = text_of-slice_get c.args.names.now c.args.cell.now.prim c.text-prim_name.result.now c.text-prim_name.ensures in
    let made = c.make-made.ensures in
    let m = makes_from c.text-prim_name.result.now cell.prim c.as_slice.result.now cell.params c.make-made.result prim_named (sym c.as_slice.ensures.value) made.made made.unknown made.bad in
    let ports = same_ports (prim_of cell.prim cell.params) c.ok.result cell.name c.text-cell_name.result.now cell.prim c.text-prim_name.result.now (prim_of-result_ok c.make-made.result m ∙ sym c.ok.ensures.value) named prim_named in
    let fault = ap (λ memory. made_fault c.make-made.result cell.shown memory) (ap is_memory prim_named ∙ sym c.is_memory.ensures) ∙ sym c.parameter_fault.ensures ∙ c.in-None.is in
    cell_made all c.args.ports.now c.args.cells.now c.args.item cell c.make-made.result m
    (ap (λ ps. are_new (port_names c.args.ports.now) (port_names ps)) ports ∙ sym c.in_ok-take_ports.ensures.new ∙ c.if-not-branch-2.false)
    (ap (λ n. not (is_among c.args.cells.now n)) named ∙ sym c.in_ok-add_name.ensures.new ∙ c.if-not-branch.false)
    ∙ ap (λ rule. or_later rule c.args.item None) fault

pub returns-in-None-clause-added : goal.returns-in-None-clause-added
returns-in-None-clause-added c =
    let cell = cell_of c.args.names.now c.args.cell.now in
    let named = text_of-slice_get c.args.names.now c.args.cell.now.name c.text-cell_name.result.now c.text-cell_name.ensures in
    let prim_named = text_of-slice_get c.args.names.now c.args.cell.now.prim c.text-prim_name.result.now c.text-prim_name.ensures in
    let made = c.make-made.ensures in
    let m = makes_from c.text-prim_name.result.now cell.prim c.as_slice.result.now cell.params c.make-made.result prim_named (sym c.as_slice.ensures.value) made.made made.unknown made.bad in
    let ports = same_ports (prim_of cell.prim cell.params) c.ok.result cell.name c.text-cell_name.result.now cell.prim c.text-prim_name.result.now (prim_of-result_ok c.make-made.result m ∙ sym c.ok.ensures.value) named prim_named in
    let fault = sym c.parameter_fault.ensures ∙ c.in-None.is in
    let some = (let P : _ → Type 0 = IsSome in subst P (sym c.ok.ensures.value) (made_where_good c.make-made.result c.args.cell.now.shown c.is_memory.result fault)) in
    c.in_ok-take_ports.ensures.added (ap Ok c.if-not-branch-2.false) some ∙ ap (λ ps. c.args.ports.now ++ ps) (sym ports)

pub returns-in-None-clause-named : goal.returns-in-None-clause-named
returns-in-None-clause-named c =
    let named = text_of-slice_get c.args.names.now c.args.cell.now.name c.text-cell_name.result.now c.text-cell_name.ensures in
    c.in_ok-add_name.ensures.added (ap Ok c.if-not-branch.false) ∙ ap (λ name. c.args.cells.now ++ name ∷ []) (sym named)
