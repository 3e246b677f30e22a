use Rattle.hw_bits.proofs.WidthLemmas.{ones-shifted}
use Rattle.hw_bits.proofs.bits.ones.Goals as goal

pub returns : goal.returns
returns c = ones-shifted c.args.width 128 c.requires.narrow
