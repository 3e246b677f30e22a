-- The first use from an offset on and the last up to one, of the use of an instance that came first and those after it.
use Rattle.std.proofs.Common.{◌≡◌, ◌≤◌, ◌<◌, ◌^◌, ◌⊎◌, inl, inr, ℕ, true, slice_index_or, Option, Some, None, refl, sym, ap, ap₂, subst, ◌∙◌, arith}
use Rattle.std.specs.Option.{IfSome, IsSome, option_or}
use Rattle.std.specs.Prelude.{MatchOption}
use Rattle.std.specs.BTreeMap.{get}
use Rattle.std.proofs.lemmas.Bool.{cases_lt}
use Rattle.fil_place.specs.inside.StoredUses.{HasNoOtherFrom, HasNoOtherUntil, IsAlone, IsFirstOther, IsFrom, IsLastOther, IsUntil, first_at, key_cmp}
use Rattle.fil_place.specs.Starts.{IsFirstFrom, IsLastUntil, StartsNoneFrom, StartsNoneUntil, use_at}
use Rattle.fil_place.specs.declared.starts.First.{First}
use Rattle.fil_place.specs.declared.starts.Starts.{Starts}
use Rattle.fil_place.specs.declared.uses.Use as numbers
use Rattle.fil_place.proofs.StartsLemmas.{first_is, first_only, first_other, not_none, small_at, some_either, some_none}

-- an instance without a first use has none
pub no_uses : (starts : Starts) (i k s : ℕ) → slice_index_or starts.firsts.items i None ≡ None → use_at starts i k s ≡ None
no_uses starts i k s none =
    ap₂ (λ (o : Option numbers.Use) (f : Option First). option_or o (first_at f k s)) (starts.alone i k s (subst IsAlone (sym none) tt)) none

pub small_from : (starts : Starts) (i k a : ℕ) (r : Option numbers.Use) → MatchOption r (StartsNoneFrom starts i k a) (IsFirstFrom starts i k a) → IfSome r (λ held. held.hold < 2 ^ 16)
small_from starts i k a None found = tt
small_from starts i k a (Some held) found = small_at starts i k found.start held found.there

pub small_until : (starts : Starts) (i k a : ℕ) (r : Option numbers.Use) → MatchOption r (StartsNoneUntil starts i k a) (IsLastUntil starts i k a) → IfSome r (λ held. held.hold < 2 ^ 16)
small_until starts i k a None found = tt
small_until starts i k a (Some held) found = small_at starts i k found.start held found.there

module _ (starts : Starts) (i k a : ℕ) (f : First) (is : slice_index_or starts.firsts.items i None ≡ Some f) where
  abbrev Other : ℕ → Option numbers.Use
  Other s = get key_cmp starts.others (i, k, s)

  use_is : (s : ℕ) → use_at starts i k s ≡ option_or (Other s) (first_at (Some f) k s)
  use_is s = ap (λ (o : Option First). option_or (Other s) (first_at o k s)) is

  use_other : (s : ℕ) (held : numbers.Use) → Other s ≡ Some held → use_at starts i k s ≡ Some held
  use_other s held there = use_is s ∙ ap (λ (o : Option numbers.Use). option_or o (first_at (Some f) k s)) there

  use_first : (s : ℕ) → Other s ≡ None → use_at starts i k s ≡ first_at (Some f) k s
  use_first s none = use_is s ∙ ap (λ (o : Option numbers.Use). option_or o (first_at (Some f) k s)) none

  either : (s : ℕ) → IsSome (use_at starts i k s) → IsSome (Other s) ⊎ ((f.event ≡ k) × (f.held.at.plus ≡ s))
  either s some = elim (some_either (Other s) (first_at (Some f) k s) (subst (λ (o : Option numbers.Use). IsSome o) (use_is s) some)) [
    | inl other ↦ inl other
    | inr first ↦ inr (first_only f k s first)
  ]

  placed : (s : ℕ) (held : numbers.Use) → Other s ≡ Some held → held.at.plus ≡ s
  placed s held there = starts.placed i k s held (use_other s held there)

  pub alone_at : f.alone ≡ true → (s : ℕ) → Other s ≡ None
  alone_at alone s = starts.alone i k s (subst IsAlone (sym is) alone)

  -- from an offset on
  abbrev pub OwnFrom : Option numbers.Use → Type 0
  OwnFrom own = MatchOption own (IsFrom f k a → ⊥) (λ held. (held ≡ f.held) × IsFrom f k a)

  pub own_from : (own : Option numbers.Use) → OwnFrom own → HasNoOtherFrom starts.others i k a → MatchOption own (StartsNoneFrom starts i k a) (IsFirstFrom starts i k a)
  own_from None apart none = λ s le. use_first s (none s le) ∙ first_other f k s (λ both. apart (both.0, subst (λ (x : ℕ). a ≤ x) (sym both.1) le))
  own_from (Some held) (same, (of, le)) none = record {
    start = f.held.at.plus;
    after = le;
    there = use_first f.held.at.plus (none f.held.at.plus le) ∙ first_is f k f.held.at.plus of refl ∙ ap Some (sym same);
    least = λ s from some. elim (either s some) [
      | inl other ↦ absurd (not_none (Other s) (none s from) other)
      | inr here ↦ let e : f.held.at.plus ≡ s = here.1 in omega arith
    ];
  }

  other_from : (held : numbers.Use) → IsFirstOther starts.others i k a held → (IsFrom f k a → ⊥) → IsFirstFrom starts i k a held
  other_from held first apart = record {
    start = first.start;
    after = first.after;
    there = use_other first.start held first.there;
    least = λ s from some. elim (either s some) [
      | inl other ↦ first.least s from other
      | inr here ↦ absurd (apart (here.0, subst (λ (x : ℕ). a ≤ x) (sym here.1) from))
    ];
  }

  earlier_other : (held : numbers.Use) → IsFirstOther starts.others i k a held → held.at.plus ≤ f.held.at.plus → IsFirstFrom starts i k a held
  earlier_other held first le =
      let e : held.at.plus ≡ first.start = placed first.start held first.there in
      record {
        start = first.start;
        after = first.after;
        there = use_other first.start held first.there;
        least = λ s from some. elim (either s some) [
          | inl other ↦ first.least s from other
          | inr here ↦ let at : f.held.at.plus ≡ s = here.1 in omega arith
        ];
      }

  earlier_own : (held : numbers.Use) → IsFirstOther starts.others i k a held → f.event ≡ k → a ≤ f.held.at.plus → f.held.at.plus < held.at.plus → IsFirstFrom starts i k a f.held
  earlier_own held first of le less =
      let e : held.at.plus ≡ first.start = placed first.start held first.there in
      let none : Other f.held.at.plus ≡ None = some_none (Other f.held.at.plus) (λ some. let bad : first.start ≤ f.held.at.plus = first.least f.held.at.plus le some in absurd (omega arith)) in
      record {
        start = f.held.at.plus;
        after = le;
        there = use_first f.held.at.plus none ∙ first_is f k f.held.at.plus of refl;
        least = λ s from some. elim (either s some) [
          | inl other ↦ let after : first.start ≤ s = first.least s from other in omega arith
          | inr here ↦ let at : f.held.at.plus ≡ s = here.1 in omega arith
        ];
      }

  pub earlier : (o own r : Option numbers.Use) → MatchOption o (HasNoOtherFrom starts.others i k a) (IsFirstOther starts.others i k a) → OwnFrom own → (own ≡ None → r ≡ o) → (o ≡ None → r ≡ own)
      → ((x y : numbers.Use) → o ≡ Some x → own ≡ Some y → x.at.plus ≤ y.at.plus → r ≡ Some x) → ((x y : numbers.Use) → o ≡ Some x → own ≡ Some y → y.at.plus < x.at.plus → r ≡ Some y)
      → MatchOption r (StartsNoneFrom starts i k a) (IsFirstFrom starts i k a)
  earlier o own r other mine only only_other first second = by o own refl refl other mine
    where
      R : Option numbers.Use → Type 0
      R q = MatchOption q (StartsNoneFrom starts i k a) (IsFirstFrom starts i k a)

      by : (p q : Option numbers.Use) → o ≡ p → own ≡ q → MatchOption p (HasNoOtherFrom starts.others i k a) (IsFirstOther starts.others i k a) → OwnFrom q → R r
      by None q e d none is_own = subst R (sym (only_other e ∙ d)) (own_from q is_own none)
      by (Some x) None e d is_first apart = subst R (sym (only d ∙ e)) (other_from x is_first apart)
      by (Some x) (Some y) e d is_first (same, (of, le)) =
          let at : y.at.plus ≡ f.held.at.plus = ap (λ (u : numbers.Use). u.at.plus) same in
          elim (cases_lt y.at.plus x.at.plus) [
            | inl less ↦ subst R (sym (second x y e d less)) (subst (λ (u : numbers.Use). IsFirstFrom starts i k a u) (sym same) (earlier_own x is_first of le (subst (λ (n : ℕ). n < x.at.plus) at less)))
            | inr more ↦ subst R (sym (first x y e d more)) (earlier_other x is_first (subst (λ (n : ℕ). x.at.plus ≤ n) at more))
          ]

  -- up to an offset
  abbrev pub OwnUntil : Option numbers.Use → Type 0
  OwnUntil own = MatchOption own (IsUntil f k a → ⊥) (λ held. (held ≡ f.held) × IsUntil f k a)

  pub own_until : (own : Option numbers.Use) → OwnUntil own → HasNoOtherUntil starts.others i k a → MatchOption own (StartsNoneUntil starts i k a) (IsLastUntil starts i k a)
  own_until None apart none = λ s le. use_first s (none s le) ∙ first_other f k s (λ both. apart (both.0, subst (λ (x : ℕ). x ≤ a) (sym both.1) le))
  own_until (Some held) (same, (of, le)) none = record {
    start = f.held.at.plus;
    before = le;
    there = use_first f.held.at.plus (none f.held.at.plus le) ∙ first_is f k f.held.at.plus of refl ∙ ap Some (sym same);
    greatest = λ s to some. elim (either s some) [
      | inl other ↦ absurd (not_none (Other s) (none s to) other)
      | inr here ↦ let e : f.held.at.plus ≡ s = here.1 in omega arith
    ];
  }

  other_until : (held : numbers.Use) → IsLastOther starts.others i k a held → (IsUntil f k a → ⊥) → IsLastUntil starts i k a held
  other_until held last apart = record {
    start = last.start;
    before = last.before;
    there = use_other last.start held last.there;
    greatest = λ s to some. elim (either s some) [
      | inl other ↦ last.greatest s to other
      | inr here ↦ absurd (apart (here.0, subst (λ (x : ℕ). x ≤ a) (sym here.1) to))
    ];
  }

  later_other : (held : numbers.Use) → IsLastOther starts.others i k a held → f.held.at.plus ≤ held.at.plus → IsLastUntil starts i k a held
  later_other held last le =
      let e : held.at.plus ≡ last.start = placed last.start held last.there in
      record {
        start = last.start;
        before = last.before;
        there = use_other last.start held last.there;
        greatest = λ s to some. elim (either s some) [
          | inl other ↦ last.greatest s to other
          | inr here ↦ let at : f.held.at.plus ≡ s = here.1 in omega arith
        ];
      }

  later_own : (held : numbers.Use) → IsLastOther starts.others i k a held → f.event ≡ k → f.held.at.plus ≤ a → held.at.plus < f.held.at.plus → IsLastUntil starts i k a f.held
  later_own held last of le less =
      let e : held.at.plus ≡ last.start = placed last.start held last.there in
      let none : Other f.held.at.plus ≡ None = some_none (Other f.held.at.plus) (λ some. let bad : f.held.at.plus ≤ last.start = last.greatest f.held.at.plus le some in absurd (omega arith)) in
      record {
        start = f.held.at.plus;
        before = le;
        there = use_first f.held.at.plus none ∙ first_is f k f.held.at.plus of refl;
        greatest = λ s to some. elim (either s some) [
          | inl other ↦ let before : s ≤ last.start = last.greatest s to other in omega arith
          | inr here ↦ let at : f.held.at.plus ≡ s = here.1 in omega arith
        ];
      }

  pub later : (o own r : Option numbers.Use) → MatchOption o (HasNoOtherUntil starts.others i k a) (IsLastOther starts.others i k a) → OwnUntil own → (own ≡ None → r ≡ o) → (o ≡ None → r ≡ own)
      → ((x y : numbers.Use) → o ≡ Some x → own ≡ Some y → y.at.plus ≤ x.at.plus → r ≡ Some x) → ((x y : numbers.Use) → o ≡ Some x → own ≡ Some y → x.at.plus < y.at.plus → r ≡ Some y)
      → MatchOption r (StartsNoneUntil starts i k a) (IsLastUntil starts i k a)
  later o own r other mine only only_other first second = by o own refl refl other mine
    where
      R : Option numbers.Use → Type 0
      R q = MatchOption q (StartsNoneUntil starts i k a) (IsLastUntil starts i k a)

      by : (p q : Option numbers.Use) → o ≡ p → own ≡ q → MatchOption p (HasNoOtherUntil starts.others i k a) (IsLastOther starts.others i k a) → OwnUntil q → R r
      by None q e d none is_own = subst R (sym (only_other e ∙ d)) (own_until q is_own none)
      by (Some x) None e d is_last apart = subst R (sym (only d ∙ e)) (other_until x is_last apart)
      by (Some x) (Some y) e d is_last (same, (of, le)) =
          let at : y.at.plus ≡ f.held.at.plus = ap (λ (u : numbers.Use). u.at.plus) same in
          elim (cases_lt x.at.plus y.at.plus) [
            | inl less ↦ subst R (sym (second x y e d less)) (subst (λ (u : numbers.Use). IsLastUntil starts i k a u) (sym same) (later_own x is_last of le (subst (λ (n : ℕ). x.at.plus < n) at less)))
            | inr more ↦ subst R (sym (first x y e d more)) (later_other x is_last (subst (λ (n : ℕ). n ≤ x.at.plus) at more))
          ]
