use Rattle.std.proofs.Common.{refl}
use Rattle.cal_state.proofs.MadeLemmas.{registers_push}
use Rattle.cal_state.proofs.places.Registers.push.Goals as goal

pub returns : goal.returns
returns c = λ names list tree shows is.
    registers_push names list tree c.args.self.now (record { texts = c.args.self.now.texts; cells = c.push.new.self; on = c.push-2.new.self; enables = c.push-3.new.self })
    c.in_ok-cell.field-0 c.in_ok-is_on.field-0 c.enable.result shows refl c.in_ok-push.ensures.items c.in_ok-push-2.ensures.items c.in_ok-push-3.ensures.items
    (c.in_ok-cell.ensures names tree shows.texts is) (c.in_ok-is_on.ensures names tree shows.texts is) (c.enable.ensures names tree shows.texts is)
