use Rattle.std.proofs.Common.{refl}
use Rattle.cal_state.proofs.MadeLemmas.{place_push}
use Rattle.cal_state.proofs.places.Places.push.Goals as goal

pub returns : goal.returns
returns c = λ names walk tree shows here.
    place_push names walk tree c.args.self.now (record { registers = c.args.self.now.registers; pieces = c.push.new.self }) c.args.place shows here refl c.in_ok-push.ensures.items
