use Rattle.std.proofs.Common.{◌≡◌, ◌++◌, Option, None, Some, ap, ap₂, sym, ◌∙◌, append-nil}
use Rattle.std.specs.Result.{result_ok}
use Rattle.hw_names.proofs.NameLemmas.{text_of-slice_get}
use Rattle.hw_names.specs.Name.{Text}
use Rattle.hw_prims.specs.Table.{prim_of}
use Rattle.hw_prims.specs.declared.prim.Primitive.{Primitive}
use Rattle.net_core.proofs.LineLemmas.{makes_from, prim_of-result_ok}
use Rattle.net_core.specs.Netlist.{cell_of}
use Rattle.ver_print.specs.Cells.{made_text}
use Rattle.ver_print.proofs.PutLemmas.{OnOk-is}
use Rattle.ver_print.proofs.cells.put_cell.Goals as goal

pub returns-in-Ok : goal.returns-in-Ok
returns-in-Ok c =
    let names = c.args.names.now in
    let line = cell_of names c.args.cell.now in
    let made = text_of-slice_get names c.args.cell.now.prim c.text.result.now c.text.ensures in
    let makes = makes_from c.text.result.now line.prim c.deref.result.now line.params c.make.result made (sym c.deref.ensures.value) c.make.ensures.made c.make.ensures.unknown c.make.ensures.bad in
    let is : prim_of line.prim line.params ≡ Some c.in-Ok.prim = prim_of-result_ok c.make.result makes ∙ ap result_ok c.in-Ok.is in
    let named = text_of-slice_get names c.args.cell.now.name c.text-in-Ok.result.now c.text-in-Ok.ensures in
    OnOk-is c.put_primitive.result c.put_primitive.new.out.items _ _ c.put_primitive.ensures
    (ap₂ (λ (name : Text) (o : Option Primitive). c.args.out.now.items ++ made_text name o) (sym named) (sym is))

pub returns-in-Err : goal.returns-in-Err
returns-in-Err c =
    let names = c.args.names.now in
    let line = cell_of names c.args.cell.now in
    let made = text_of-slice_get names c.args.cell.now.prim c.text.result.now c.text.ensures in
    let makes = makes_from c.text.result.now line.prim c.deref.result.now line.params c.make.result made (sym c.deref.ensures.value) c.make.ensures.made c.make.ensures.unknown c.make.ensures.bad in
    let is : prim_of line.prim line.params ≡ None = prim_of-result_ok c.make.result makes ∙ ap result_ok c.in-Err.is in
    sym (ap (λ (o : Option Primitive). c.args.out.now.items ++ made_text line.name o) is ∙ append-nil c.args.out.now.items)
