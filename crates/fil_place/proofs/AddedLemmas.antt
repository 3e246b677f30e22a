-- The uses by one more invocation, event by event.
use Rattle.std.proofs.Common.{◌≡◌, ℕ, ◌+◌, ◌<◌, ◌≤◌, ◌⊎◌, inl, inr, List, length, Option, Some, None, refl, sym, ap, ap₂, subst, ◌∙◌, arith}
use Rattle.std.specs.Option.{IsSome}
use Rattle.std.proofs.lemmas.Bool.{cases_eq, cases_lt}
use Rattle.std.proofs.lemmas.Option.{none-some, same_Some, slice_get_within}
use Rattle.hw_names.specs.Name.{Text}
use Rattle.fil_ast.specs.Signature.{Delay, Signature}
use Rattle.fil_ast.specs.Timeline.{IsUse, Use}
use Rattle.fil_ast.specs.Tree.{TimeAt}
use Rattle.fil_place.specs.Uses.{HasDelay, IsShownBy}
use Rattle.fil_place.specs.Starts.{AddsUses, PutsUse, use_at}
use Rattle.fil_place.specs.Uses.{ShowsUse}
use Rattle.fil_place.specs.declared.starts.Starts.{Starts}
use Rattle.fil_place.specs.declared.uses.Use as numbers
use Rattle.fil_place.proofs.UseLemmas.{a_use, no_use, same_use}

-- without a signature nothing is added
pub adds_nothing : (events : List Text) (inst : Text) (times : List TimeAt) (instance : ℕ) (starts : Starts) → AddsUses events None inst times instance starts starts
adds_nothing events inst times instance starts = record {
  kept = λ i k start some. some;
  has = λ sig u none used. absurd (none-some sig none);
  are = λ i k start held here. inl here;
}

-- the uses of the first n events
pub record AddsBelow (events : List Text) (sig : Signature) (inst : Text) (times : List TimeAt) (instance n : ℕ) (old new : Starts) : Type 0 where
  pub kept : (i k start : ℕ) → IsSome (use_at old i k start) → IsSome (use_at new i k start)
  pub has : (u : Use) → IsUse sig inst times u → u.event < n → IsSome (use_at new instance u.event u.at.plus)
  pub are : (i k start : ℕ) (held : numbers.Use) → use_at new i k start ≡ Some held
      → (use_at old i k start ≡ Some held) ⊎ ((i ≡ instance) × (u : Use) × IsUse sig inst times u × (u.event ≡ k) × (u.at.plus ≡ start) × IsShownBy events held u)

module _ (events : List Text) (sig : Signature) (inst : Text) (times : List TimeAt) (instance : ℕ) (old : Starts) where
  pub below_none : AddsBelow events sig inst times instance 0 old old
  below_none = record {
    kept = λ i k start some. some;
    has = λ u used below. absurd (omega arith);
    are = λ i k start held here. inl here;
  }

  pub below_all : (n : ℕ) (new : Starts) → length sig.events ≤ n → AddsBelow events sig inst times instance n old new → AddsUses events (Some sig) inst times instance old new
  below_all n new end adds = record {
    kept = adds.kept;
    has = λ s u is used.
        (let its : IsUse sig inst times u = subst (λ (x : Signature). IsUse x inst times u) (sym (same_Some sig s is)) used in
        let within = slice_get_within sig.events u.event its.event its.of in
        adds.has u its (omega arith));
    are = λ i k start held here. elim (adds.are i k start held here) [
      | inl before ↦ inl before
      | inr (same, u, used, event, plus, shown) ↦ inr (same, sig, u, refl, used, event, plus, shown)
    ];
  }

  module _ (n : ℕ) (delay : Delay) (has_delay : HasDelay sig n delay) (mid : Starts) (adds : AddsBelow events sig inst times instance n old mid) where
    -- one that is not used
    pub below_skip : ShowsUse events delay times n None → AddsBelow events sig inst times instance (n + 1) old mid
    below_skip told = record {
      kept = adds.kept;
      has = λ u used below. elim (cases_lt u.event n) [
        | inl before ↦ adds.has u used before
        | inr after ↦
            let here : u.event ≡ n = omega arith in
            absurd (no_use events sig inst times n delay has_delay told u used here)
      ];
      are = adds.are;
    }

    -- one that is used
    module _ (held : numbers.Use) (told : ShowsUse events delay times n (Some held)) (new : Starts) (puts : PutsUse instance n held mid new) where
      x : (u : Use) × IsUse sig inst times u × (u.event ≡ n) × IsShownBy events held u
      x = a_use events sig inst times n delay has_delay held told

      abbrev IsPlace : ℕ → ℕ → ℕ → Type 0
      IsPlace i k start = (i ≡ instance) × (k ≡ n) × (start ≡ held.at.plus)

      at_place : (i k start : ℕ) → IsPlace i k start → use_at new i k start ≡ Some held
      at_place i k start (same_i, same_k, same_start) =
          let key : (i, k, start) ≡ (instance, n, held.at.plus) = ap₂ (λ (p : ℕ × ℕ) (z : ℕ). (p.0, p.1, z)) (ap₂ (λ (a b : ℕ). (a, b)) same_i same_k) same_start in
          ap (λ (p : ℕ × ℕ × ℕ). use_at new p.0 p.1 p.2) key ∙ puts.here

      is_place : (i k start : ℕ) → IsPlace i k start ⊎ (IsPlace i k start → ⊥)
      is_place i k start = elim (cases_eq i instance) [
        | inl same_i ↦ elim (cases_eq k n) [
          | inl same_k ↦ elim (cases_eq start held.at.plus) [
            | inl same_start ↦ inl (same_i, same_k, same_start)
            | inr apart ↦ inr (λ same. apart same.2)
          ]
          | inr apart ↦ inr (λ same. apart same.1)
        ]
        | inr apart ↦ inr (λ same. apart same.0)
      ]

      put_kept : (i k start : ℕ) → IsSome (use_at mid i k start) → IsSome (use_at new i k start)
      put_kept i k start some = elim (is_place i k start) [
        | inl here ↦ subst (λ (o : Option numbers.Use). IsSome o) (sym (at_place i k start here)) refl
        | inr apart ↦ subst (λ (o : Option numbers.Use). IsSome o) (sym (puts.others i k start apart)) some
      ]

      put_has : (u : Use) → IsUse sig inst times u → u.event < n + 1 → IsSome (use_at new instance u.event u.at.plus)
      put_has u used below = elim (cases_lt u.event n) [
        | inl before ↦ put_kept instance u.event u.at.plus (adds.has u used before)
        | inr after ↦
            let here : u.event ≡ n = omega arith in
            let like = same_use sig times inst inst x.0 u x.1 used (x.2 ∙ sym here) in
            let plus : u.at.plus ≡ held.at.plus = ap (λ (t : TimeAt). t.plus) (sym like.0) ∙ sym x.3.plus in
            subst (λ (o : Option numbers.Use). IsSome o) (sym (at_place instance u.event u.at.plus (refl, here, plus))) refl
      ]

      pub below_put : AddsBelow events sig inst times instance (n + 1) old new
      below_put = record {
        kept = λ i k start some. put_kept i k start (adds.kept i k start some);
        has = λ u used below. put_has u used below;
        are = λ i k start other here. elim (is_place i k start) [
          | inl place ↦
              let same : held ≡ other = same_Some held other (sym (at_place i k start place) ∙ here) in
              inr (place.0, x.0, x.1, x.2 ∙ sym place.1, sym x.3.plus ∙ sym place.2, subst (λ (o : numbers.Use). IsShownBy events o x.0) same x.3)
          | inr apart ↦ adds.are i k start other (sym (puts.others i k start apart) ∙ here)
        ];
      }
