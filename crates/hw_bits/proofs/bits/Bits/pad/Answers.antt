use Rattle.hw_bits.proofs.WidthLemmas.{lt-wider}
use Rattle.hw_bits.proofs.bits.Bits.pad.Goals as goal

pub invariant_of-result-clause-fits : goal.invariant_of-result-clause-fits
invariant_of-result-clause-fits c =
    lt-wider c.args.self.width c.args.width c.args.self.value c.requires.wider c.args.self.fits
