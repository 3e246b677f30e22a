use Rattle.std.proofs.Common.{arith}
use Rattle.net_steps.proofs.GateLemmas.{add_gate, sub_gate, and_gate, or_gate, xor_gate, lsh_gate, rsh_gate, join_gate}
use Rattle.net_steps.proofs.gates.step_of_two.Goals as goal

pub returns-in_ok-mask-in-StdAdd : goal.returns-in_ok-mask-in-StdAdd
returns-in_ok-mask-in-StdAdd c =
    let m = c.in_ok-mask-in-StdAdd in
    add_gate c.args.prim c.in-StdAdd.w m.mask c.args.a c.args.b c.in-StdAdd.is m.ensures

pub returns-in_ok-mask-in-StdSub : goal.returns-in_ok-mask-in-StdSub
returns-in_ok-mask-in-StdSub c =
    let m = c.in_ok-mask-in-StdSub in
    sub_gate c.args.prim c.in-StdSub.w m.mask c.args.a c.args.b c.in-StdSub.is m.ensures

pub returns-in-StdAnd : goal.returns-in-StdAnd
returns-in-StdAnd c = and_gate c.args.prim c.in-StdAnd.w c.args.a c.args.b c.in-StdAnd.is

pub returns-in-StdOr : goal.returns-in-StdOr
returns-in-StdOr c = or_gate c.args.prim c.in-StdOr.w c.args.a c.args.b c.in-StdOr.is

pub returns-in-StdXor : goal.returns-in-StdXor
returns-in-StdXor c = xor_gate c.args.prim c.in-StdXor.w c.args.a c.args.b c.in-StdXor.is

pub returns-in_ok-mask-in-StdLsh : goal.returns-in_ok-mask-in-StdLsh
returns-in_ok-mask-in-StdLsh c =
    let m = c.in_ok-mask-in-StdLsh in
    lsh_gate c.args.prim c.in-StdLsh.w m.mask c.args.a c.args.b c.in-StdLsh.is m.ensures

pub returns-in_ok-_mask-in-StdRsh : goal.returns-in_ok-_mask-in-StdRsh
returns-in_ok-_mask-in-StdRsh c =
    let m = c.in_ok-_mask-in-StdRsh in
    rsh_gate c.args.prim c.in-StdRsh.w m._mask c.args.a c.args.b c.in-StdRsh.is m.ensures

pub returns-else-above-shift : goal.returns-else-above-shift
returns-else-above-shift c =
    let p = c.in-FilConcat in
    join_gate c.args.prim p.above p.shift c.args.a c.args.b p.is (omega arith)
