use Rattle.std.proofs.Common.{◌≤◌, ◌-◌, ◌^◌, length, sym, ◌∙◌, arith}
use Rattle.stim_read.proofs.TxRunLemmas.{count_all}
use Rattle.stim_read.proofs.txs.count_of.Goals as goal

pub returns : goal.returns
returns c =
    let past : length c.args.entries.now ≤ c.loop-entry.entry-index = omega arith in
    sym (count_all (2 ^ 64 - 1) c.loop-entry.count c.args.entries.now c.loop-entry.entry-index past c.loop-entry.invariant.small) ∙ c.loop-entry.invariant.count
