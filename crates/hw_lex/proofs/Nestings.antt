-- How deep tokens stand, token by token.
use Rattle.std.proofs.Common.{◌≡◌, ℕ, zero, suc, ◌+◌, ◌-◌, ◌≤◌, true, false, eqb, cond, inl, inr, List, [], ◌∷◌, ◌++◌, take, max, reverse, Some, refl, sym, ap, ◌∙◌, arith, add-one}
use Rattle.std.specs.Prelude.{slice_get, slice_range, length, ◌<◌}
use Rattle.std.specs.List.{prefix_len}
use Rattle.std.proofs.lemmas.List.{reverse-append}
use Rattle.std.proofs.lemmas.List.Sums.{fold-append}
use Rattle.std.proofs.lemmas.Bool.{eqb-true, false≢true}
use Rattle.hw_lex.proofs.Fronts.{by_test, or_true}
use Rattle.hw_lex.specs.Nesting.{byte_tokens, is_not, opens, closes, open_after, open_count, run_of_nots, deepest}

-- one more token
pub take-get : {X : Type 0} (xs : List X) (i : ℕ) (x : X) → slice_get xs i ≡ Some x → take (i + 1) xs ≡ take i xs ++ x ∷ []
take-get [] i x e = absurd cc
take-get (y ∷ xs) zero x e = let same : y ≡ x = cc in rw same refl
take-get (y ∷ xs) (suc i) x e =
    let r = take-get xs i x e in
    let s : take (suc i) xs ≡ take i xs ++ x ∷ [] = rw add-one at r in
    rw add-one (ap (λ (t : List _). y ∷ t) s)

pub open_count-next : (tokens : List (List ℕ)) (i : ℕ) (token : List ℕ) → slice_get tokens i ≡ Some token → open_count (take (i + 1) tokens) ≡ open_after (open_count (take i tokens)) token
open_count-next tokens i token e = ap open_count (take-get tokens i token e) ∙ fold-append open_after 0 (take i tokens) (token ∷ [])

pub run_of_nots-next : (tokens : List (List ℕ)) (i : ℕ) (token : List ℕ) → slice_get tokens i ≡ Some token → run_of_nots (take (i + 1) tokens) ≡ cond (is_not token) (run_of_nots (take i tokens) + 1) 0
run_of_nots-next tokens i token e =
    let whole : run_of_nots (take (i + 1) tokens) ≡ prefix_len is_not (token ∷ reverse (take i tokens)) = ap run_of_nots (take-get tokens i token e) ∙ ap (prefix_len is_not) (reverse-append (take i tokens) (token ∷ [])) in
    whole ∙ ap (λ (n : ℕ). cond (is_not token) n 0) (omega arith)

pub deepest-next : (tokens : List (List ℕ)) (i : ℕ) → deepest tokens (i + 1) ≡ max (deepest tokens i) (open_count (take (i + 1) tokens) + run_of_nots (take (i + 1) tokens))
deepest-next tokens i = ap (λ (n : ℕ). deepest tokens n) (add-one i)

-- the state after one more token
pub next_depth : (tokens : List (List ℕ)) (i : ℕ) (token : List ℕ) (brackets nots most brackets' nots' most' : ℕ) → slice_get tokens i ≡ Some token
    → brackets ≡ open_count (take i tokens) → nots ≡ run_of_nots (take i tokens) → most ≡ deepest tokens i
    → brackets' ≡ open_after brackets token → nots' ≡ cond (is_not token) (nots + 1) 0 → most' ≡ max most (brackets' + nots')
    → (brackets' ≡ open_count (take (i + 1) tokens)) × (nots' ≡ run_of_nots (take (i + 1) tokens)) × (most' ≡ deepest tokens (i + 1))
next_depth tokens i token brackets nots most brackets' nots' most' e b n m b' n' m' =
    let open_is : brackets' ≡ open_count (take (i + 1) tokens) = b' ∙ ap (λ (x : ℕ). open_after x token) b ∙ sym (open_count-next tokens i token e) in
    let nots_is : nots' ≡ run_of_nots (take (i + 1) tokens) = n' ∙ ap (λ (x : ℕ). cond (is_not token) (x + 1) 0) n ∙ sym (run_of_nots-next tokens i token e) in
    let most_is : most' ≡ deepest tokens (i + 1) =
    m' ∙ ap (λ (x : ℕ). max x (brackets' + nots')) m ∙ ap (λ (x : ℕ). max (deepest tokens i) (x + nots')) open_is ∙ ap (λ (x : ℕ). max (deepest tokens i) (open_count (take (i + 1) tokens) + x)) nots_is ∙ sym (deepest-next tokens i) in
    (open_is, nots_is, most_is)

-- a bracket is no `!`
not_opens_none : (count : ℕ) (token : List ℕ) → is_not token ≡ true → open_after count token ≡ count
not_opens_none count [] h = absurd (false≢true h)
not_opens_none count (byte ∷ []) h =
    elim (or_true (eqb 33 byte) false h) [
      | inl i ↦ let is : byte ≡ 33 = sym (eqb-true 33 byte i) in rw is refl
      | inr i ↦ absurd (false≢true i)
    ]
not_opens_none count (byte ∷ second ∷ bytes) h = absurd (false≢true h)

open_after-most : (count : ℕ) (token : List ℕ) → open_after count token ≤ count + 1
open_after-most count token =
    by_test (λ v. cond v (count + 1) (cond (closes token) (count - 1) count) ≤ count + 1) (opens token)
    (λ _. omega arith)
    (λ _. by_test (λ v. cond v (count - 1) count ≤ count + 1) (closes token) (λ _. omega arith) (λ _. omega arith))

-- the depth grows by at most one at a token
pub depth-most : (i brackets nots brackets' nots' : ℕ) (token : List ℕ) → brackets + nots ≤ i → brackets' ≡ open_after brackets token → nots' ≡ cond (is_not token) (nots + 1) 0 → brackets' + nots' ≤ i + 1
depth-most i brackets nots brackets' nots' token le b n =
    by_test (λ v. is_not token ≡ v → nots' ≡ cond v (nots + 1) 0 → brackets' + nots' ≤ i + 1) (is_not token)
    (λ _ h n. let same = not_opens_none brackets token h in omega (arith, b, n, same))
    (λ _ h n. let most = open_after-most brackets token in omega (arith, b, n, most))
    refl n

-- the byte with this number as a token
pub byte_token_at : (text : List ℕ) (i : ℕ) → i < length text → slice_get (byte_tokens text) i ≡ Some (slice_range text i (i + 1))
byte_token_at [] i h = absurd (omega (arith, h))
byte_token_at (byte ∷ text) zero h = refl
byte_token_at (byte ∷ text) (suc i) h =
    let e : suc i + 1 ≡ suc (i + 1) = omega arith in
    let d : suc (i + 1) - suc i ≡ i + 1 - i = omega arith in
    rw e (rw d (byte_token_at text i (omega (arith, h))))
