use Rattle.net_steps.proofs.GateLemmas.{const_gate}
use Rattle.net_steps.proofs.gates.gate_of_none.Goals as goal

pub returns-in-StdConst : goal.returns-in-StdConst
returns-in-StdConst c = const_gate c.constant.result c.args.steps.now c.constant.new.steps c.args.prim c.in-StdConst.w c.in-StdConst.v c.in-StdConst.is c.constant.ensures
