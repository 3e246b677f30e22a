-- Guards of the bits of a shift register: one of them is 1 exactly in the rows of an interval after a start.
use Rattle.std.proofs.Common.{◌≡◌, ℕ, zero, suc, ◌+◌, ◌-◌, ◌<◌, ◌≤◌, Bool, true, false, List, [], ◌∷◌, map, refl, ap, ap₂, ◌∙◌, inl, inr, arith}
use Rattle.std.specs.Prelude.{◌==◌, ◌&&◌, ◌||◌, nat_le, Contains}
use Rattle.std.proofs.lemmas.Bool.{and_from, and_parts, cases_lt, false≢true, le-leb, leb-true, or_cases, or_left, or_right}
use Rattle.std.proofs.lemmas.Bool.Decides.{Decides-eqb}
use Rattle.net_core.specs.Guard.{Reads, any_holds, guards_of, holds}
use Rattle.net_core.specs.declared.net.Src.TheVariants.{Port}
use Rattle.cal_ast.specs.Tree.{PortName}
use Rattle.hw_names.specs.Name.{Text}
use Rattle.fil_lower.specs.inside.Lowering.{Lowering, any_of, bit_at, bits_from}
use Rattle.fil_lower.proofs.ListLemmas.{contains_none, first_or_later}
use Rattle.fil_share.proofs.ListLemmas.{Contains-here, Contains-there}

-- ---- one of some ports is 1

abbrev pub some_on : (PortName → ℕ) → List PortName → Bool
some_on see [] = false
some_on see (bit ∷ bits) = (see bit == 1) || some_on see bits

or_none : (b : Bool) → b ≡ (b || false)
or_none true = refl
or_none false = refl

any_on : (see : PortName → ℕ) (bits : List PortName) → any_holds see (guards_of (map (λ p. Reads (Port p)) bits)) ≡ some_on see bits
any_on see [] = refl
any_on see (bit ∷ bits) = ap (λ rest. (see bit == 1) || rest) (any_on see bits)

pub any_of_holds : (see : PortName → ℕ) (bits : List PortName) → holds see (any_of bits) ≡ some_on see bits
any_of_holds see [] = refl
any_of_holds see (bit ∷ []) = or_none (see bit == 1)
any_of_holds see (bit ∷ next ∷ bits) = any_on see (bit ∷ next ∷ bits)

pub on_among : (see : PortName → ℕ) (bits : List PortName) → some_on see bits ≡ true → (bit : PortName) × Contains bits bit × (see bit ≡ 1)
on_among see [] is = absurd (false≢true is)
on_among see (bit ∷ bits) is =
    elim (or_cases (see bit == 1) (some_on see bits) is) [
      | inl here ↦ (bit, Contains-here bit bits, (Decides-eqb (see bit) 1).0 here)
      | inr there ↦ let m = on_among see bits there in (m.0, Contains-there bit bits m.0 m.1, m.2)
    ]

pub among_on : (see : PortName → ℕ) (bits : List PortName) (bit : PortName) → Contains bits bit → see bit ≡ 1 → some_on see bits ≡ true
among_on see [] bit has on = absurd (contains_none bit has)
among_on see (first ∷ bits) bit has on =
    elim (first_or_later first bits bit has) [
      | inl same ↦ or_left (see first == 1) (some_on see bits) ((Decides-eqb (see first) 1).1 (ap see same ∙ on))
      | inr later ↦ or_right (see first == 1) (some_on see bits) (among_on see bits bit later on)
    ]

-- ---- a port that was 1 so many rows before

-- where `go` gives the value of the port in each row
abbrev pub was_on : (ℕ → ℕ) → ℕ → ℕ → Bool
was_on go r i = nat_le i r && (go (r - i) == 1)

-- the same, for one of so many numbers of rows from this one on
abbrev pub was_on_in : (ℕ → ℕ) → ℕ → ℕ → ℕ → Bool
was_on_in go r from zero = false
was_on_in go r from (suc count) = was_on go r from || was_on_in go r (suc from) count

pub was_on_parts : (go : ℕ → ℕ) (r i : ℕ) → was_on go r i ≡ true → (i ≤ r) × (go (r - i) ≡ 1)
was_on_parts go r i is =
    let both = and_parts (nat_le i r) (go (r - i) == 1) is in (leb-true i r both.0, (Decides-eqb (go (r - i)) 1).0 both.1)

pub was_on_from : (go : ℕ → ℕ) (r i u : ℕ) → u + i ≡ r → go u ≡ 1 → was_on go r i ≡ true
was_on_from go r i u sum on =
    let row : r - i ≡ u = omega (arith, sum) in
    and_from (nat_le i r) (go (r - i) == 1) (le-leb i r (omega (arith, sum))) ((Decides-eqb (go (r - i)) 1).1 (ap go row ∙ on))

pub was_on_start : (go : ℕ → ℕ) (r from count : ℕ) → was_on_in go r from count ≡ true → (u : ℕ) × (go u ≡ 1) × (u + from ≤ r) × (r < u + from + count)
was_on_start go r from zero is = absurd (false≢true is)
was_on_start go r from (suc count) is =
    elim (or_cases (was_on go r from) (was_on_in go r (suc from) count) is) [
      | inl here ↦ let p = was_on_parts go r from here in (r - from, p.1, omega (arith, p.0), omega (arith, p.0))
      | inr there ↦ let m = was_on_start go r (suc from) count there in (m.0, m.1, omega (arith, m.2), omega (arith, m.3))
    ]

pub start_was_on : (go : ℕ → ℕ) (r from count u : ℕ) → go u ≡ 1 → u + from ≤ r → r < u + from + count → was_on_in go r from count ≡ true
start_was_on go r from zero u on low high = absurd (omega (arith, low, high))
start_was_on go r from (suc count) u on low high =
    elim (cases_lt (u + from) r) [
      | inl later ↦
          or_right (was_on go r from) (was_on_in go r (suc from) count) (start_was_on go r (suc from) count u on (omega (arith, later)) (omega (arith, high)))
      | inr here ↦ or_left (was_on go r from) (was_on_in go r (suc from) count) (was_on_from go r from u (omega (arith, low, here)) on)
    ]

-- ---- bits that follow a port

-- where each of these bits is the port as it was so many rows before
pub bits_were_on : (see : PortName → ℕ) (go : ℕ → ℕ) (r : ℕ) (l : Lowering) (event : Text) (from count : ℕ) → ((i : ℕ) → from ≤ i → i < from + count → (see (bit_at l event i) == 1) ≡ was_on go r i) →
    some_on see (bits_from l event from count) ≡ was_on_in go r from count
bits_were_on see go r l event from zero each = refl
bits_were_on see go r l event from (suc count) each =
    ap₂ (λ (a b : Bool). a || b) (each from (omega arith) (omega arith)) (bits_were_on see go r l event (suc from) count (λ i low high. each i (omega (arith, low)) (omega (arith, high))))
