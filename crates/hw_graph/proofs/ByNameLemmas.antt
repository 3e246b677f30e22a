-- The least of marked ports by their names.
use Rattle.std.proofs.Common.{◌≡◌, ℕ, ◌+◌, ◌<◌, ◌≤◌, inl, inr, Bool, true, false, List, length, get_or, Option, Some, None, sym, ap, ◌∙◌, arith, subst}
use Rattle.std.specs.Prelude.{IfSome, IfNone}
use Rattle.std.proofs.lemmas.Bool.{cases_lt}
use Rattle.hw_names.specs.Name.{Text}
use Rattle.hw_graph.proofs.NameOrderLemmas.{at_most_trans, at_most_itself}
use Rattle.hw_graph.specs.ByName.{IsAtMost, IsLeastWith, IsLeastMarked}

-- the least marked port of the first ones
pub record IsLeastOf (names : List Text) (marks : List Bool) (n least : ℕ) : Type 0 where
  pub within : least < n
  pub marked : get_or marks least false ≡ true
  pub first : (port : ℕ) → port < n → get_or marks port false ≡ true → IsAtMost names least port

-- the first ports have no mark, or this is the least of them that has
abbrev pub IsLeastSoFar : List Text → List Bool → ℕ → Option ℕ → Type 0
IsLeastSoFar names marks n None = (port : ℕ) → port < n → get_or marks port false ≡ false
IsLeastSoFar names marks n (Some least) = IsLeastOf names marks n least

pub so_far_within : (names : List Text) (marks : List Bool) (n : ℕ) (found : Option ℕ) → n ≤ length names → IsLeastSoFar names marks n found → IfSome found (λ least. least < length names)
so_far_within names marks n None le so_far = tt
so_far_within names marks n (Some least) le so_far = omega (arith, so_far.within, le)

-- one more port without a mark
pub so_far_same : (names : List Text) (marks : List Bool) (n : ℕ) (found : Option ℕ) → get_or marks n false ≡ false → IsLeastSoFar names marks n found → IsLeastSoFar names marks (n + 1) found
so_far_same names marks n None here so_far = λ port lt. elim (cases_lt port n) [
  | inl before ↦ so_far port before
  | inr last ↦ ap (λ k. get_or marks k false) (let e : port ≡ n = omega (arith, lt, last) in e) ∙ here
]
so_far_same names marks n (Some least) here so_far = record {
  within = omega (arith, so_far.within);
  marked = so_far.marked;
  first = λ port lt marked. elim (cases_lt port n) [
    | inl before ↦ so_far.first port before marked
    | inr last ↦ let e : get_or marks port false ≡ false = ap (λ k. get_or marks k false) (let e : port ≡ n = omega (arith, lt, last) in e) ∙ here in absurd (cc)
  ];
}

-- one more port with a mark
pub so_far_more : (names : List Text) (marks : List Bool) (n : ℕ) (found : Option ℕ) (least : ℕ) → get_or marks n false ≡ true → IsLeastSoFar names marks n found → IsLeastWith names found n least → IsLeastSoFar names marks (n + 1) (Some least)
so_far_more names marks n None least here so_far is = record {
  within = omega (arith, is);
  marked = ap (λ k. get_or marks k false) is ∙ here;
  first = λ port lt marked. elim (cases_lt port n) [
    | inl before ↦ let e = so_far port before in absurd (cc)
    | inr last ↦ let e : port ≡ least = omega (arith, lt, last, is) in subst (IsAtMost names least) (sym e) (at_most_itself names least)
  ];
}
so_far_more names marks n (Some found) least here so_far is = record {
  within = elim is.one [ inl e ↦ omega (arith, so_far.within, e) | inr e ↦ omega (arith, e) ];
  marked = elim is.one [ inl e ↦ ap (λ k. get_or marks k false) e ∙ so_far.marked | inr e ↦ ap (λ k. get_or marks k false) e ∙ here ];
  first = λ port lt marked. elim (cases_lt port n) [
    | inl before ↦ at_most_trans names least found port is.first (so_far.first port before marked)
    | inr last ↦ let e : port ≡ n = omega (arith, lt, last) in subst (IsAtMost names least) (sym e) is.second
  ];
}

-- all ports are looked at
pub least_none : (names : List Text) (marks : List Bool) (n : ℕ) (found : Option ℕ) → length marks ≤ n → IsLeastSoFar names marks n found → IfNone found ((port : ℕ) → port < length marks → get_or marks port false ≡ false)
least_none names marks n None le so_far = λ port lt. so_far port (omega (arith, lt, le))
least_none names marks n (Some least) le so_far = tt

pub least_some : (names : List Text) (marks : List Bool) (n : ℕ) (found : Option ℕ) → length marks ≤ n → n ≤ length marks → IsLeastSoFar names marks n found → IfSome found (λ least. IsLeastMarked names marks least)
least_some names marks n None le ge so_far = tt
least_some names marks n (Some least) le ge so_far = record {
  within = omega (arith, so_far.within, ge);
  marked = so_far.marked;
  first = λ port lt marked. so_far.first port (omega (arith, lt, le)) marked;
}
