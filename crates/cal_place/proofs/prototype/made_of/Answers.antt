use Rattle.std.proofs.Common.{Err, ap, sym, subst}
use Rattle.hw_names.proofs.NameLemmas.{text_of-slice_get}
use Rattle.cal_ast.specs.Naming.{component_names}
use Rattle.cal_ast.specs.Tree.{cell_tree}
use Rattle.cal_place.specs.Prototypes.{IsMadeOf}
use Rattle.cal_place.proofs.PrototypeLemmas.{told_component, told_nothing, told_primitive, told_wrong}
use Rattle.cal_place.proofs.prototype.made_of.Goals as goal

pub returns-in-Ok : goal.returns-in-Ok
returns-in-Ok c design shows =
    let names = c.args.names.now in
    let cell = c.args.cell.now in
    let named = text_of-slice_get names cell.made c.text-made.result.now c.text-made.ensures in
    told_primitive design (cell_tree names cell) c.text-made.result.now c.deref.result.now named c.deref.ensures.value c.in-Ok.prim c.in-Ok.ensures.made

pub returns-in-Err-BadParams : goal.returns-in-Err-BadParams
returns-in-Err-BadParams c design shows =
    let names = c.args.names.now in
    let cell = c.args.cell.now in
    let named = text_of-slice_get names cell.made c.text-made.result.now c.text-made.ensures in
    told_wrong design (cell_tree names cell) c.text-made.result.now c.deref.result.now named c.deref.ensures.value (c.in-Err-BadParams.ensures.bad.0 (ap Err c.in-Err-BadParams.field-0-is))

pub returns-in_err-find-in-Err-UnknownPrim : goal.returns-in_err-find-in-Err-UnknownPrim
returns-in_err-find-in-Err-UnknownPrim c design shows =
    let names = c.args.names.now in
    let cell = c.args.cell.now in
    let named = text_of-slice_get names cell.made c.text-made.result.now c.text-made.ensures in
    subst (IsMadeOf design (cell_tree names cell)) (sym c.from_residual.ensures)
    (told_nothing design (cell_tree names cell) c.text-made.result.now c.deref.result.now named c.deref.ensures.value
    (c.in-Err-UnknownPrim.ensures.unknown.0 (ap Err c.in-Err-UnknownPrim.field-0-is)) (c.in_err-find-in-Err-UnknownPrim.ensures (component_names design) shows))

pub returns-in_ok-find-in-Err-UnknownPrim : goal.returns-in_ok-find-in-Err-UnknownPrim
returns-in_ok-find-in-Err-UnknownPrim c design shows =
    let names = c.args.names.now in
    let cell = c.args.cell.now in
    let named = text_of-slice_get names cell.made c.text-made.result.now c.text-made.ensures in
    told_component design (cell_tree names cell) c.text-made.result.now c.deref.result.now named c.deref.ensures.value c.in_ok-find-in-Err-UnknownPrim.field-0
    (c.in-Err-UnknownPrim.ensures.unknown.0 (ap Err c.in-Err-UnknownPrim.field-0-is)) (c.in_ok-find-in-Err-UnknownPrim.ensures (component_names design) shows)
