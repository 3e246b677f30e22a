use Rattle.std.proofs.Common.{ap, sym, ◌∙◌}
use Rattle.std.specs.Result.{result_ok}
use Rattle.hw_names.proofs.NameLemmas.{text_of-slice_get}
use Rattle.net_core.proofs.LineLemmas.{makes_from, prim_of-result_ok}
use Rattle.cal_ast.specs.Tree.{cell_tree}
use Rattle.cal_group.proofs.CellLemmas.{part_starts}
use Rattle.cal_group.proofs.expand.start_port.Goals as goal

pub returns-in-Err : goal.returns-in-Err
returns-in-Err c = λ names part go named is.
    let cell = cell_tree c.args.source.now c.args.cell.now in
    let text = text_of-slice_get c.args.source.now c.args.cell.now.made c.text.result.now c.text.ensures in
    let made = c.make.ensures in
    let m = makes_from c.text.result.now cell.made c.deref.result.now cell.params c.make.result text (sym c.deref.ensures.value) made.made made.unknown made.bad in
    part_starts names c.args.ports cell part go (prim_of-result_ok c.make.result m ∙ ap result_ok c.in-Err.is) named is
