use Rattle.net_steps.proofs.GateLemmas.{not_gate, slice_gate, between_gate}
use Rattle.net_steps.proofs.gates.step_of_one.Goals as goal

pub returns-in_ok-mask-in-StdNot : goal.returns-in_ok-mask-in-StdNot
returns-in_ok-mask-in-StdNot c = let m = c.in_ok-mask-in-StdNot in not_gate c.args.prim c.in-StdNot.w m.mask c.args.a c.in-StdNot.is m.ensures

pub returns-in_ok-mask-in-StdSlice : goal.returns-in_ok-mask-in-StdSlice
returns-in_ok-mask-in-StdSlice c =
    let m = c.in_ok-mask-in-StdSlice in
    slice_gate c.args.prim c.in-StdSlice.i c.in-StdSlice.o m.mask c.args.a c.in-StdSlice.is m.ensures

pub returns-in_ok-mask-in-FilSlice : goal.returns-in_ok-mask-in-FilSlice
returns-in_ok-mask-in-FilSlice c =
    let m = c.in_ok-mask-in-FilSlice in
    let p = c.in-FilSlice in
    between_gate c.args.prim p.w p.hi p.lo m.mask c.args.a p.is c.if-lo-hi.false m.ensures
