use Rattle.net_steps.proofs.GateLemmas.{wire_gate, pad_gate}
use Rattle.net_steps.proofs.gates.gate_of_one.Goals as goal

pub returns-in-StdWire : goal.returns-in-StdWire
returns-in-StdWire c = wire_gate c.args.steps.now c.args.prim c.in-StdWire.w c.args.a c.in-StdWire.is

pub returns-in-StdPad : goal.returns-in-StdPad
returns-in-StdPad c = pad_gate c.args.steps.now c.args.prim c.in-StdPad.i c.in-StdPad.o c.args.a c.in-StdPad.is
