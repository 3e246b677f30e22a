-- F12 for each two uses, and with the first start and the last end.
use Rattle.std.proofs.Common.{◌≡◌, ◌⊎◌, ℕ, ◌+◌, ◌<◌, ◌≤◌, List, [], ◌∷◌, ◌++◌, length, get_or, All, sym, ap, subst, inl, inr, arith}
use Rattle.std.specs.Prelude.{Contains, take, ◌↔◌}
use Rattle.std.proofs.lemmas.Bool.{cases_lt}
use Rattle.std.proofs.lemmas.List.{take_more}
use Rattle.std.proofs.lemmas.List.Elements.{All-contains, Contains-get_or}
use Rattle.fil_share.specs.Sharing.{IsHeld, AreApart, IsWithin, KeepsApart, EndsInPairs, CanShare, StartsFirst, StartsLast, SpansInTime}
use Rattle.fil_share.specs.declared.hold.Hold.{Hold}
use Rattle.fil_share.proofs.ListLemmas.{two_of, leader, leads_now, leads_still, AllPairs-take}

abbrev pub StartsBefore : Hold → Hold → Type 0
StartsBefore a b = a.from ≤ b.from

abbrev pub StartsAfter : Hold → Hold → Type 0
StartsAfter a b = b.from ≤ a.from

-- uses that are held, apart and start in the same row are one
starts_once : (uses : List Hold) → All IsHeld uses → KeepsApart uses → (a b : Hold) → Contains uses a → Contains uses b → a.from ≡ b.from → a ≡ b
starts_once uses held apart a b has_a has_b same =
    let held_a : a.from < a.to = All-contains IsHeld uses a held has_a in
    let held_b : b.from < b.to = All-contains IsHeld uses b held has_b in
    elim (two_of AreApart uses a b apart has_a has_b) [
      | inl one ↦ one
      | inr (inl (inl h)) ↦ absurd (omega arith)
      | inr (inl (inr h)) ↦ absurd (omega arith)
      | inr (inr (inl h)) ↦ absurd (omega arith)
      | inr (inr (inr h)) ↦ absurd (omega arith)
    ]

-- where the use that starts last ends in time, each use does, from the start of each
pub within_span : (delay : ℕ) (uses : List Hold) → All IsHeld uses → KeepsApart uses → (first last : Hold) → StartsFirst uses first → StartsLast uses last → IsWithin delay first last →
    (a b : Hold) → Contains uses a → Contains uses b → IsWithin delay a b
within_span delay uses held apart first last is_first is_last fits a b has_a has_b =
    let before : first.from ≤ a.from = All-contains (λ hold. first.from ≤ hold.from) uses a is_first.1 has_a in
    let after : b.from ≤ last.from = All-contains (λ hold. hold.from ≤ last.from) uses b is_last.1 has_b in
    let held_last : last.from < last.to = All-contains IsHeld uses last held is_last.0 in
    let held_b : b.from < b.to = All-contains IsHeld uses b held has_b in
    let in_time : last.to ≤ first.from + delay = fits in
    elim (two_of AreApart uses b last apart has_b is_last.0) [
      | inl one ↦ let same : b.to ≡ last.to = ap (λ (h : Hold). h.to) one in omega arith
      | inr (inl (inl h)) ↦ omega arith
      | inr (inl (inr h)) ↦ omega arith
      | inr (inr (inl h)) ↦ omega arith
      | inr (inr (inr h)) ↦ omega arith
    ]

pub ends_in_span : (delay : ℕ) (uses : List Hold) → All IsHeld uses → KeepsApart uses → (first last : Hold) → StartsFirst uses first → StartsLast uses last → IsWithin delay first last → EndsInPairs delay uses
ends_in_span delay uses held apart first last is_first is_last fits i j d less within =
    let i_in : i < length uses = omega arith in
    let at = within_span delay uses held apart first last is_first is_last fits in (
      at (get_or uses i d) (get_or uses j d) (Contains-get_or uses i d i_in) (Contains-get_or uses j d within),
      at (get_or uses j d) (get_or uses i d) (Contains-get_or uses j d within) (Contains-get_or uses i d i_in),
    )

-- of two uses or more, the first and the last start in two rows
pub starts_differ : (uses : List Hold) → All IsHeld uses → KeepsApart uses → 2 ≤ length uses → (first last : Hold) → StartsFirst uses first → StartsLast uses last → first.from < last.from
starts_differ uses held apart several first last is_first is_last =
    let one = get_or uses 0 first in
    let two = get_or uses 1 first in
    let a : first.from ≤ one.from = is_first.1 0 first (omega arith) in
    let b : first.from ≤ two.from = is_first.1 1 first (omega arith) in
    let c : one.from ≤ last.from = is_last.1 0 first (omega arith) in
    let d : two.from ≤ last.from = is_last.1 1 first (omega arith) in
    let held_one : one.from < one.to = held 0 first (omega arith) in
    let held_two : two.from < two.to = held 1 first (omega arith) in
    elim (apart 0 1 first (omega arith) (omega arith)) [ inl h ↦ omega arith | inr h ↦ omega arith ]

pub spans_in_time : (delay : ℕ) (uses : List Hold) → All IsHeld uses → KeepsApart uses → EndsInPairs delay uses → SpansInTime delay uses
spans_in_time delay uses held apart ends several first last is_first is_last =
    let less : first.from < last.from = starts_differ uses held apart several first last is_first is_last in
    elim (two_of (λ a b. IsWithin delay a b × IsWithin delay b a) uses first last ends is_first.0 is_last.0) [
      | inl one ↦ let same : first.from ≡ last.from = ap (λ (h : Hold). h.from) one in absurd (omega arith)
      | inr (inl h) ↦ h.0
      | inr (inr h) ↦ h.1
    ]

pub ends_in_time : (delay : ℕ) (uses : List Hold) → All IsHeld uses → KeepsApart uses → SpansInTime delay uses → EndsInPairs delay uses
ends_in_time delay [] held apart spans i j d less within = absurd (omega arith)
ends_in_time delay (use_now ∷ uses) held apart spans i j d less within =
    let first = leader StartsBefore (λ a b c h k. omega arith) (λ a b. elim (cases_lt a.from b.from) [ inl h ↦ inl (omega arith) | inr h ↦ inr h ]) use_now uses in
    let last = leader StartsAfter (λ a b c h k. omega arith) (λ a b. elim (cases_lt a.from b.from) [ inl h ↦ inr (omega arith) | inr h ↦ inl h ]) use_now uses in
    ends_in_span delay (use_now ∷ uses) held apart first.0 last.0 first.1 last.1 (spans (omega arith) first.0 last.0 first.1 last.1) i j d less within

pub forms_agree : (delay : ℕ) (uses : List Hold) → All IsHeld uses → KeepsApart uses → EndsInPairs delay uses ↔ SpansInTime delay uses
forms_agree delay uses held apart = (spans_in_time delay uses held apart, ends_in_time delay uses held apart)

-- a value where there is none
abbrev pub no_hold : Hold
no_hold = record { inst = record { 0 = 0 }; event = 0; from = 0; to = 0; call = record { 0 = 0 }; tx = 0 }

-- the first of one use more
pub first_more : (xs : List Hold) (i : ℕ) (use_now first now : Hold) → i < length xs → StartsFirst (take i xs ++ use_now ∷ []) first →
    ((now ≡ get_or xs i no_hold) × ((get_or xs i no_hold).from < first.from)) ⊎ ((now ≡ first) × (first.from ≤ (get_or xs i no_hold).from)) → StartsFirst (take (i + 1) xs ++ use_now ∷ []) now
first_more xs i use_now first now within known choice =
    let hold = get_or xs i no_hold in
    subst (λ ys. StartsFirst (ys ++ use_now ∷ []) now) (sym (take_more xs i no_hold within))
    (elim choice [
      | inl new ↦ subst (StartsFirst ((take i xs ++ hold ∷ []) ++ use_now ∷ [])) (sym new.0) (leads_now StartsBefore (take i xs) (use_now ∷ []) hold first (λ a b c h k. omega arith) (omega arith) known (omega (arith, new.1)))
      | inr old ↦ subst (StartsFirst ((take i xs ++ hold ∷ []) ++ use_now ∷ [])) (sym old.0) (leads_still StartsBefore (take i xs) (use_now ∷ []) hold first known old.1)
    ])

-- the last of one use more
pub last_more : (xs : List Hold) (i : ℕ) (use_now last now : Hold) → i < length xs → StartsLast (take i xs ++ use_now ∷ []) last →
    ((now ≡ get_or xs i no_hold) × (last.from < (get_or xs i no_hold).from)) ⊎ ((now ≡ last) × ((get_or xs i no_hold).from ≤ last.from)) → StartsLast (take (i + 1) xs ++ use_now ∷ []) now
last_more xs i use_now last now within known choice =
    let hold = get_or xs i no_hold in
    subst (λ ys. StartsLast (ys ++ use_now ∷ []) now) (sym (take_more xs i no_hold within))
    (elim choice [
      | inl new ↦ subst (StartsLast ((take i xs ++ hold ∷ []) ++ use_now ∷ [])) (sym new.0) (leads_now StartsAfter (take i xs) (use_now ∷ []) hold last (λ a b c h k. omega arith) (omega arith) known (omega (arith, new.1)))
      | inr old ↦ subst (StartsLast ((take i xs ++ hold ∷ []) ++ use_now ∷ [])) (sym old.0) (leads_still StartsAfter (take i xs) (use_now ∷ []) hold last known old.1)
    ])

pub CanShare-take : (delay n : ℕ) (uses : List Hold) → CanShare delay uses → CanShare delay (take n uses)
CanShare-take delay n uses kept = (AllPairs-take AreApart n uses kept.0, AllPairs-take (λ a b. IsWithin delay a b × IsWithin delay b a) n uses kept.1)
