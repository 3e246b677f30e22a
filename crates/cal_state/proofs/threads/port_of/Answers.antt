use Rattle.cal_lower.proofs.GrownLemmas.{cell_port}
use Rattle.cal_state.proofs.threads.port_of.Goals as goal

pub returns : goal.returns
returns c = λ names one other cell port. cell_port names one other c.args.cell c.args.port cell port
