use Rattle.std.proofs.Common.{ap, sym, ◌∙◌}
use Rattle.std.specs.Result.{result_ok}
use Rattle.hw_names.proofs.NameLemmas.{text_of-slice_get}
use Rattle.net_core.specs.Netlist.{cell_of}
use Rattle.net_core.specs.Words.{made_words}
use Rattle.net_core.proofs.LineLemmas.{makes_from, prim_of-result_ok}
use Rattle.net_core.proofs.words.cell_words.Goals as goal

pub returns-in-Err : goal.returns-in-Err
returns-in-Err c =
    let cell = cell_of c.args.names.now c.args.cell.now in
    let named = text_of-slice_get c.args.names.now c.args.cell.now.prim c.text.result.now c.text.ensures in
    let made = c.make.ensures in
    let m = makes_from c.text.result.now cell.prim c.deref.result.now cell.params c.make.result named (sym c.deref.ensures.value) made.made made.unknown made.bad in
    sym (ap made_words (prim_of-result_ok c.make.result m ∙ ap result_ok c.in-Err.is))
