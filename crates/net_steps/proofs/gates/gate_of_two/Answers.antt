use Rattle.net_steps.proofs.GateLemmas.{eq_gate, neq_gate, lt_gate, gt_gate, le_gate, ge_gate}
use Rattle.net_steps.proofs.gates.gate_of_two.Goals as goal

pub returns-in-StdEq : goal.returns-in-StdEq
returns-in-StdEq c = eq_gate c.equal_bit.result c.args.steps.now c.equal_bit.new.steps c.args.prim c.in-StdEq.w c.args.a c.args.b c.in-StdEq.is c.equal_bit.ensures

pub returns-in_ok-equal-in-StdNeq : goal.returns-in_ok-equal-in-StdNeq
returns-in_ok-equal-in-StdNeq c =
    neq_gate c.not_on.result c.args.steps.now c.equal_bit-in-StdNeq.new.steps c.not_on.new.steps c.args.prim c.in-StdNeq.w c.args.a c.args.b c.in_ok-equal-in-StdNeq.equal c.in-StdNeq.is c.in_ok-equal-in-StdNeq.ensures c.not_on.ensures

pub returns-in-StdLt : goal.returns-in-StdLt
returns-in-StdLt c = lt_gate c.less_bit.result c.args.steps.now c.less_bit.new.steps c.args.prim c.in-StdLt.w c.args.a c.args.b c.in-StdLt.is c.less_bit.ensures

pub returns-in-StdGt : goal.returns-in-StdGt
returns-in-StdGt c = let call = c.less_bit-in-StdGt in gt_gate call.result c.args.steps.now call.new.steps c.args.prim c.in-StdGt.w c.args.a c.args.b c.in-StdGt.is call.ensures

pub returns-in_ok-greater-in-StdLe : goal.returns-in_ok-greater-in-StdLe
returns-in_ok-greater-in-StdLe c =
    let call = c.not_on-in-StdLe in
    le_gate call.result c.args.steps.now c.less_bit-in-StdLe.new.steps call.new.steps c.args.prim c.in-StdLe.w c.args.a c.args.b c.in_ok-greater-in-StdLe.greater c.in-StdLe.is c.in_ok-greater-in-StdLe.ensures call.ensures

pub returns-in_ok-less-in-StdGe : goal.returns-in_ok-less-in-StdGe
returns-in_ok-less-in-StdGe c =
    let call = c.not_on-in-StdGe in
    ge_gate call.result c.args.steps.now c.less_bit-in-StdGe.new.steps call.new.steps c.args.prim c.in-StdGe.w c.args.a c.args.b c.in_ok-less-in-StdGe.less c.in-StdGe.is c.in_ok-less-in-StdGe.ensures call.ensures
