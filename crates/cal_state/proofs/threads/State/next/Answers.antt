use Rattle.std.proofs.Common.{codes}
use Rattle.cal_ast.specs.Tree.{port_of}
use Rattle.cal_state.specs.inside.States.{thread_name, width_of}
use Rattle.cal_state.proofs.MadeLemmas.{literal_set}
use Rattle.cal_state.proofs.threads.State.next.Goals as goal

pub returns : goal.returns
returns c = λ names state when are shows drives.
    literal_set names (port_of (thread_name state.thread) (codes "in")) c.port_of.result when c.args.guard (width_of state.thread) state.number c.args.self.thread.width c.args.self.number
    (c.port_of.ensures names (thread_name state.thread) (codes "in") shows.thread.register are.input) drives shows.thread.width shows.number
