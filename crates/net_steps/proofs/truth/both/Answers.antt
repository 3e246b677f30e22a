use Rattle.net_steps.specs.declared.truth.Truth.TheVariants.{Slot}
use Rattle.net_steps.proofs.TruthLemmas.{ok_both}
use Rattle.net_steps.proofs.truth.both.Goals as goal

pub returns-in-Slot-Slot : goal.returns-in-Slot-Slot
returns-in-Slot-Slot c =
    let w = c.in-Slot-Slot in
    ok_both c.both_slots.result c.args.steps.now c.both_slots.new.steps c.args.left c.args.right (Slot w.a w.not_a) (Slot w.b w.not_b) w.is-0 w.is-1 c.both_slots.ensures
