use Rattle.std.proofs.Common.{None, codes, refl}
use Rattle.cal_ast.specs.Tree.{port_of}
use Rattle.cal_state.specs.inside.States.{thread_name}
use Rattle.cal_state.proofs.MadeLemmas.{literal_set, no_guard}
use Rattle.cal_state.proofs.threads.Thread.enable.Goals as goal

pub returns : goal.returns
returns c = λ names thread are shows.
    literal_set names (port_of (thread_name thread) (codes "write_en")) c.port_of.result None None 1 1 1 1
    (c.port_of.ensures names (thread_name thread) (codes "write_en") shows.register are.enable) (no_guard names) refl refl
