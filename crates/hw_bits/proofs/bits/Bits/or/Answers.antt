use Rattle.std.proofs.Common.{◌<◌, ◌^◌, subst, sym, ℕ}
use Rattle.std.proofs.lemmas.Nat.{or_lt}
use Rattle.hw_bits.proofs.bits.Bits.or.Goals as goal

pub invariant_of-result-clause-fits : goal.invariant_of-result-clause-fits
invariant_of-result-clause-fits c =
    or_lt c.args.self.width c.args.self.value c.args.other.value c.args.self.fits
    (subst (λ (w : ℕ). c.args.other.value < 2 ^ w) (sym c.requires) c.args.other.fits)
