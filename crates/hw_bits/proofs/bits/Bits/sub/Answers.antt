use Rattle.std.proofs.Common.{◌<◌, ◌^◌, ◌∙◌, subst, sym, ℕ}
use Rattle.hw_bits.proofs.WidthLemmas.{difference_bits-wrapped}
use Rattle.hw_bits.proofs.bits.Bits.sub.Goals as goal

pub returns-clause-value : goal.returns-clause-value
returns-clause-value c =
    let fits : c.args.other.value < 2 ^ c.args.self.width = subst (λ (w : ℕ). c.args.other.value < 2 ^ w) (sym c.requires) c.args.other.fits in
    c.wrap.ensures.value
    ∙ difference_bits-wrapped c.args.self.width 128 c.args.self.value c.args.other.value c.args.self.narrow fits
