-- A `Bits` is no more than its value and its width.
use Rattle.std.proofs.Common.{◌≡◌, ℕ, ◌^◌, ◌<◌, ◌≤◌, ap}
use Rattle.std.proofs.Math.Path.{subst₂}
use Rattle.std.specs.Coded.{le_prop}
use Rattle.hw_bits.specs.declared.bits.Bits.{Bits}
use Rattle.hw_bits.specs.declared.bits.TheConstants.{MAX_WIDTH}

-- what the ghost fields say
abbrev Fits : ℕ → ℕ → Type 0
Fits value width = (1 ≤ width) × (width ≤ MAX_WIDTH) × (value < 2 ^ width)

Fits-prop : (value width : ℕ) → IsProp (Fits value width)
Fits-prop value width = hlevel le_prop

abbrev bits_of : (value width : ℕ) → Fits value width → Bits
bits_of value width facts = record { value = value; width = width; wide = facts.0; narrow = facts.1; fits = facts.2 }

bits_of-same : (v w x y : ℕ) (facts : Fits v w) → v ≡ x → w ≡ y → (others : Fits x y) → bits_of v w facts ≡ bits_of x y others
bits_of-same v w x y facts values widths =
    subst₂ (λ (p q : ℕ). (others : Fits p q) → bits_of v w facts ≡ bits_of p q others) values widths
    (λ others. ap (bits_of v w) (Fits-prop v w facts others))

pub same_bits : (a b : Bits) → a.value ≡ b.value → a.width ≡ b.width → a ≡ b
same_bits a b values widths =
    bits_of-same a.value a.width b.value b.width (a.wide, a.narrow, a.fits) values widths (b.wide, b.narrow, b.fits)
