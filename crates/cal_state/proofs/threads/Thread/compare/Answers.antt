use Rattle.std.proofs.Common.{codes}
use Rattle.cal_lower.specs.inside.Pieces.{shown}
use Rattle.cal_state.specs.inside.States.{thread_name, width_of}
use Rattle.cal_state.proofs.MadeLemmas.{compare_shown}
use Rattle.cal_state.proofs.threads.Thread.compare.Goals as goal

pub returns : goal.returns
returns c = λ names thread are shows.
    compare_shown names c.args.how (shown (thread_name thread)) c.port_of.result (width_of thread) c.args.number c.args.self.width c.in_ok-new.field-0 c.in_ok-new-2.field-0
    c.in_ok-new.ensures.ok c.in_ok-new-2.ensures.ok (c.port_of.ensures names (thread_name thread) (codes "out") shows.register are.output) shows.width
