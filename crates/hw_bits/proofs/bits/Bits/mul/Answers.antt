use Rattle.std.proofs.Common.{◌*◌, ◌∙◌}
use Rattle.hw_bits.proofs.WidthLemmas.{low_bits-low_bits}
use Rattle.hw_bits.proofs.bits.Bits.mul.Goals as goal

pub returns-clause-value : goal.returns-clause-value
returns-clause-value c =
    c.wrap.ensures.value
    ∙ low_bits-low_bits c.args.self.width 128 (c.args.self.value * c.args.other.value) c.args.self.narrow
