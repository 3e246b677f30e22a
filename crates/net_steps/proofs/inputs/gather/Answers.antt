use Rattle.std.proofs.Common.{length-set, ◌∙◌, arith}
use Rattle.net_steps.proofs.GatherLemmas.{gathered_more}
use Rattle.net_steps.proofs.inputs.gather.Goals as goal

pub loop-number-preserved : goal.loop-number-preserved
loop-number-preserved c =
    let inputs = c.loop-number.inputs in
    let i = c.loop-number.number in
    record {
      count = length-set inputs i c.wrap.result ∙ c.loop-number.invariant.count;
      made = gathered_more c.args.slots.now c.args.places c.args.widths.now i inputs c.wrap.result (omega arith) (omega arith) (omega (arith, c.loop-number.invariant.count, c.requires.count)) c.wrap.ensures.width c.wrap.ensures.value c.loop-number.invariant.made;
    }
