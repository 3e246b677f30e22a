use Rattle.std.proofs.Common.{◌<◌, ◌^◌, ◌+◌, subst, sym, ℕ}
use Rattle.hw_bits.proofs.WidthLemmas.{joined_bits-lt, joined_bits-or}
use Rattle.hw_bits.proofs.bits.Bits.concat.Goals as goal

pub invariant_of-result-clause-fits : goal.invariant_of-result-clause-fits
invariant_of-result-clause-fits c =
    subst (λ (x : ℕ). x < 2 ^ (c.args.self.width + c.args.low.width))
    (sym (joined_bits-or c.args.self.width c.args.low.width 128 c.args.self.value c.args.low.value c.args.self.fits c.args.low.fits c.requires))
    (joined_bits-lt c.args.self.width c.args.low.width c.args.self.value c.args.low.value c.args.self.fits c.args.low.fits)

pub returns-clause-value : goal.returns-clause-value
returns-clause-value c =
    joined_bits-or c.args.self.width c.args.low.width 128 c.args.self.value c.args.low.value c.args.self.fits c.args.low.fits c.requires
