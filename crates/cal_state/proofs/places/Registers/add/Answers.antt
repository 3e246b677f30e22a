use Rattle.cal_state.proofs.MadeLemmas.{registers_kept}
use Rattle.cal_state.proofs.places.Registers.add.Goals as goal

pub returns-clause-made : goal.returns-clause-made
returns-clause-made c = λ list shows.
    c.in_ok-push.ensures c.make.new.names list (record { part = c.args.part; last = c.args.last })
    (registers_kept c.args.names.now c.make.new.names c.make.ensures.kept list c.args.self.now shows) c.in_ok-thread.ensures.thread
