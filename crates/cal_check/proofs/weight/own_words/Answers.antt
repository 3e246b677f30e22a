use Rattle.std.proofs.Common.{◌<◌, ◌≤◌, length, refl, ap, ◌∙◌, arith}
use Rattle.net_core.specs.Weight.{saturated}
use Rattle.cal_check.specs.Weight.{cell_words}
use Rattle.cal_check.proofs.WeightLemmas.{is_in_range, sum_all, words_step}
use Rattle.cal_check.proofs.weight.own_words.Goals as goal

pub words_of-requires : goal.words_of-requires
words_of-requires c =
    let within : c.loop-cell.cell-index < length c.args.made.now = omega arith in
    is_in_range c.requires.0 c.requires.1 c.args.made.now c.loop-cell.cell-index _ c.requires.2 within

pub loop-cell-init : goal.loop-cell-init
loop-cell-init c = λ design cells are. refl

pub loop-cell-preserved : goal.loop-cell-preserved
loop-cell-preserved c = λ design cells are.
    let within : c.loop-cell.cell-index < length c.args.made.now = omega arith in
    words_step design cells c.args.made.now c.loop-cell.cell-index _ c.loop-cell.words c.words_of.result c.saturating_add-words.result are within (c.loop-cell.invariant design cells are) c.words_of.ensures c.saturating_add-words.ensures

pub returns : goal.returns
returns c = λ design cells are.
    let end : length cells ≤ c.loop-cell.cell-index = omega (arith, are.sized) in
    c.loop-cell.invariant design cells are ∙ ap saturated (sum_all cell_words cells c.loop-cell.cell-index end)
