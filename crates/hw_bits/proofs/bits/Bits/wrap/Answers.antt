use Rattle.std.proofs.Common.{ℕ, ap, ◌∙◌, bit_and}
use Rattle.std.proofs.lemmas.Nat.{and_mask}
use Rattle.hw_bits.proofs.bits.Bits.wrap.Goals as goal

pub returns-clause-value : goal.returns-clause-value
returns-clause-value c =
    ap (λ (mask : ℕ). bit_and c.args.value mask) c.ones.ensures ∙ and_mask c.args.value c.args.width
