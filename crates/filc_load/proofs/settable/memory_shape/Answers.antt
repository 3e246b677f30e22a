use Rattle.std.proofs.Common.{None, sym, ap, ◌∙◌}
use Rattle.std.specs.Result.{result_ok}
use Rattle.hw_names.proofs.NameLemmas.{text_of-slice_get}
use Rattle.hw_names.specs.Name.{text_of}
use Rattle.net_core.proofs.LineLemmas.{makes_from, prim_of-result_ok}
use Rattle.filc_load.specs.Settable.{shape_with}
use Rattle.filc_load.proofs.settable.memory_shape.Goals as goal

pub returns-in-Err : goal.returns-in-Err
returns-in-Err c =
    let names = c.args.names.now in
    let cell = c.args.cell.now in
    let named = text_of-slice_get names cell.name c.text.result.now c.text.ensures in
    let prim_named = text_of-slice_get names cell.prim c.text-2.result.now c.text-2.ensures in
    let made = c.make-2.ensures in
    let makes = makes_from c.text-2.result.now (text_of names cell.prim) c.deref.result.now cell.params.items c.make-2.result prim_named (sym c.deref.ensures.value) made.made made.unknown made.bad in
    let none = prim_of-result_ok c.make-2.result makes ∙ ap result_ok c.in-Err.is in
    let same = c.in_ok-name.ensures ∙ sym named in
    ap (λ name. shape_with name None) same ∙ ap (shape_with (text_of names cell.name)) (sym none)
