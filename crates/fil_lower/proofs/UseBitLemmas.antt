-- Uses of an instance's events, as bits of the lowered component.
use Rattle.std.proofs.Common.{◌≡◌, ℕ, Bool, true, filter, take}
use Rattle.std.specs.Prelude.{◌==◌, ◌&&◌, Contains, bytes_eq}
use Rattle.std.proofs.lemmas.Bool.{and_from, and_parts}
use Rattle.std.proofs.lemmas.Bool.Decides.{Decides-eqb}
use Rattle.std.proofs.lemmas.Slice.Eq.{bytes_eq-Decides}
use Rattle.hw_names.specs.Name.{Text}
use Rattle.cal_ast.specs.Tree.{PortName}
use Rattle.fil_ast.specs.Holds.{uses_of}
use Rattle.fil_ast.specs.Scope.{Invocation}
use Rattle.fil_ast.specs.Timeline as timeline
use Rattle.fil_lower.specs.inside.Lowering.{Lowering, bit_at, lowering_with, starting_bits, starts_of}
use Rattle.fil_lower.proofs.GuardLemmas.{filtered_has}
use Rattle.fil_lower.proofs.ListLemmas.{contains_in_flat, from_flat}
use Rattle.fil_lower.proofs.LoweredParts.{LoweredComp}
use Rattle.fil_lower.proofs.NameLemmas.{from_map, same_name}
use Rattle.fil_lower.proofs.PinLemmas.{from_filter}
use Rattle.fil_lower.proofs.TimedAsLemmas.{contains_map}

module _ (comp : LoweredComp) where
  open comp use {pair, pair.{comps, rules, plain, design, lowered}, n, c, here, registers, enough, new}

  abbrev l : Lowering
  l = lowering_with (take n comps) c registers

  module _ (inst : Text) (k : ℕ) where
    abbrev test : timeline.Use → Bool
    test u = bytes_eq u.inst inst && (u.event == k)

    -- the use that a bit starts
    pub record IsUseBit (bit : PortName) : Type 0 where
      pub v : Invocation
      pub has_v : Contains l.scope.invocations v
      pub use_at : timeline.Use
      pub has_use : Contains (uses_of l.scope v) use_at
      pub of_inst : use_at.inst ≡ inst
      pub target : use_at.event ≡ k
      pub is : bit_at l use_at.at.event use_at.at.plus ≡ bit

    pub use_of_bit : (bit : PortName) → Contains (starting_bits l inst k) bit → IsUseBit bit
    use_of_bit bit has =
        let m = from_flat (starts_of l inst k) l.scope.invocations bit has in
        let b = from_map (λ (u : timeline.Use). bit_at l u.at.event u.at.plus) (filter test (uses_of l.scope m.0)) bit m.2 in
        let kept = from_filter test (uses_of l.scope m.0) b.0 b.1 in
        let both = and_parts (bytes_eq b.0.inst inst) (b.0.event == k) kept.1 in
        record { v = m.0; has_v = m.1; use_at = b.0; has_use = kept.0; of_inst = (bytes_eq-Decides b.0.inst inst).0 both.0; target = (Decides-eqb b.0.event k).0 both.1; is = b.2 }

    pub bit_of_use : (v : Invocation) → Contains l.scope.invocations v → (u : timeline.Use) → Contains (uses_of l.scope v) u → u.inst ≡ inst → u.event ≡ k → Contains (starting_bits l inst k) (bit_at l u.at.event u.at.plus)
    bit_of_use v has_v u has_u of_inst target =
        let passes : test u ≡ true = and_from (bytes_eq u.inst inst) (u.event == k) (same_name u.inst inst of_inst) ((Decides-eqb u.event k).1 target) in
        contains_in_flat (starts_of l inst k) l.scope.invocations v (bit_at l u.at.event u.at.plus) has_v
        (contains_map (λ (y : timeline.Use). bit_at l y.at.event y.at.plus) (filter test (uses_of l.scope v)) u (filtered_has test (uses_of l.scope v) u has_u passes))
