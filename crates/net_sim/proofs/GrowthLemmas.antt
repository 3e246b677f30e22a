-- Lists that grow by an element at their end.
use Rattle.std.proofs.Common.{◌≡◌, ℕ, ◌+◌, List, [], ◌∷◌, ◌++◌, Some, length, sym, ap, ◌∙◌, arith, inl, inr, subst}
use Rattle.std.specs.Prelude.{slice_get}
use Rattle.std.proofs.lemmas.Bool.{cases_lt}
use Rattle.std.proofs.lemmas.List.{length_push}
use Rattle.std.proofs.lemmas.Option.{slice_get_within, same_Some}
use Rattle.net_sim.proofs.ValidLemmas.{slice_get-append_right, slice_get-append_before}

-- the element that was added
pub slice_get-last : {X : Type 0} (xs : List X) (x : X) → slice_get (xs ++ x ∷ []) (length xs) ≡ Some x
slice_get-last xs x = ap (slice_get (xs ++ x ∷ [])) (let e : length xs ≡ length xs + 0 = omega arith in e) ∙ slice_get-append_right xs (x ∷ []) 0

-- what holds of each pair of two lists, with one more in the second
pub each_more : {A B : Type 0} (P Q : ℕ → A → B → Type 0) (xs : List A) (ys : List B) (x : A) (y : B) → ((k : ℕ) (a : A) (b : B) → P k a b → Q k a b) → slice_get xs (length ys) ≡ Some x → Q (length ys) x y
    → ((k : ℕ) (a : A) (b : B) → slice_get xs k ≡ Some a → slice_get ys k ≡ Some b → P k a b)
    → (k : ℕ) (a : A) (b : B) → slice_get xs k ≡ Some a → slice_get (ys ++ y ∷ []) k ≡ Some b → Q k a b
each_more P Q xs ys x y keeps at is each k a b at' there = elim (cases_lt k (length ys)) [
  | inl before ↦ keeps k a b (each k a b at' (sym (slice_get-append_before ys (y ∷ []) k before) ∙ there))
  | inr past ↦
      let same : length ys ≡ k = omega (arith, slice_get_within (ys ++ y ∷ []) k b there, length_push ys y, past) in
      let e : x ≡ a = same_Some x a (sym at ∙ ap (slice_get xs) same ∙ at') in
      let e' : y ≡ b = same_Some y b (sym (slice_get-last ys y) ∙ ap (slice_get (ys ++ y ∷ [])) same ∙ there) in
      subst (λ i. Q i a b) same (subst (λ v. Q (length ys) v b) e (subst (Q (length ys) x) e' is))
]
