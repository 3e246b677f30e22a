use Rattle.std.proofs.Common.{arith}
use Rattle.hw_bits.proofs.WidthLemmas.{ones-shifted}
use Rattle.net_steps.proofs.gates.ones.Goals as goal

pub returns : goal.returns
returns c = record { is = ones-shifted c.args.width 64 (omega arith); wide = omega arith; within = omega arith }
