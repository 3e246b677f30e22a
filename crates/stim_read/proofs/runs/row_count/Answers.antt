use Rattle.std.proofs.Common.{◌≤◌, length, sym, ◌∙◌, arith}
use Rattle.stim_read.specs.CycleText.{Cycles, cycles_seen}
use Rattle.stim_read.proofs.RunsLemmas.{sum_all}
use Rattle.stim_read.proofs.runs.row_count.Goals as goal

pub returns : goal.returns
returns c =
    let past : length c.args.texts.now ≤ c.loop-text.text-index = omega arith in
    sym (sum_all cycles_seen (λ (c : Cycles). c.cycles) c.loop-text.count c.args.texts.now c.loop-text.text-index past c.loop-text.invariant.small) ∙ c.loop-text.invariant.count
