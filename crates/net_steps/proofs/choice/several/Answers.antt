use Rattle.std.proofs.Common.{get_or}
use Rattle.net_steps.specs.Operations.{is_on}
use Rattle.net_steps.specs.declared.choice.Choice.{Choice}
use Rattle.net_steps.proofs.ChoiceLemmas.{within_more, count_more, several_is}
use Rattle.net_steps.proofs.choice.several.Goals as goal

pub loop-choice-preserved : goal.loop-choice-preserved
loop-choice-preserved c =
    let l = c.loop-choice in
    let slots = c.args.slots.now in
    let choices = c.args.choices.now in
    let d : Choice = record { on = 0; value = 0 } in
    record {
      within = within_more (is_on slots (get_or choices l.choice-index d).on) l.count l.choice-index l.invariant.within;
      counted = count_more slots choices l.choice-index l.count d c.loop-choice-test.true l.invariant.counted;
    }

pub returns : goal.returns
returns c = several_is c.args.slots.now c.args.choices.now c.loop-choice.choice-index c.loop-choice.count c.loop-choice-test.false c.loop-choice.invariant.counted
