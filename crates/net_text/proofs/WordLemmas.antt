-- Words at the front of a text.
use Rattle.std.proofs.Common.{◌≡◌, ℕ, suc, ◌+◌, ◌<◌, ◌≤◌, ◌&&◌, Bool, true, false, cond, List, [], ◌∷◌, ◌++◌, length, take, drop, Option, Some, None, nat_eq, refl, sym, ap, ◌∙◌, arith}
use Rattle.std.proofs.lemmas.Bool.Decides.{nat_tests}
use lib.Pointwise.{pointwise}
use Rattle.net_text.specs.inside.ReadWords.{Read, whole, after}
use Rattle.net_text.specs.inside.ReadTexts.{in_line}
use Rattle.std.specs.List.{prefix_len, list_all}
use Rattle.std.proofs.lemmas.List.{take_all}
use Rattle.std.proofs.lemmas.List.Sums.{prefix_len-le-length}

pub prefix_fits : (p : ℕ → Bool) (xs : List ℕ) → prefix_len p xs ≤ length xs
prefix_fits p xs = prefix_len-le-length p xs

-- a step of both, at a byte
strip_step : (c d : ℕ) (b : Bool) (found : Option (List ℕ)) (rest : List ℕ) → (b ≡ true → found ≡ Some rest) → (nat_eq d c && b) ≡ true → cond (nat_eq c d) found None ≡ Some rest
strip_step c d b found rest h e = grind (arith, nat_tests)

none_step : (c d : ℕ) (b : Bool) (found : Option (List ℕ)) → (b ≡ false → found ≡ None) → (nat_eq d c && b) ≡ false → cond (nat_eq c d) found None ≡ None
none_step c d b found h e = grind (arith, nat_tests)

-- what stripping a prefix gives
pub after_strip : (mark text : List ℕ) → pointwise nat_eq (take (length mark) text) mark ≡ true → after mark text ≡ Some (drop (length mark) text)
after_strip [] text h = refl
after_strip (c ∷ cs) [] h = absurd cc
after_strip (c ∷ cs) (d ∷ ds) h = strip_step c d _ _ _ (after_strip cs ds) h

pub after_none : (mark text : List ℕ) → pointwise nat_eq (take (length mark) text) mark ≡ false → after mark text ≡ None
after_none [] text h = absurd cc
after_none (c ∷ cs) [] h = refl
after_none (c ∷ cs) (d ∷ ds) h = none_step c d _ _ (after_none cs ds) h

pub pair_rest : {A : Type 0} (a b : A) (s t : List ℕ) → ◌≡◌ {A = Option (A × List ℕ)} (Some (a, s)) (Some (b, t)) → s ≡ t
pair_rest {A} a b s t e = let same : ◌≡◌ {A = A × List ℕ} (a, s) (b, t) = cc in ap (λ (p : A × List ℕ). p.1) same

-- where text is left, nothing is read to the end
pub whole_none : {A : Type 0} (read : Read A) (a : A) (rest : List ℕ) → read ≡ Some (a, rest) → 0 < length rest → whole read ≡ None
whole_none None a rest e some = refl
whole_none (Some (b, [])) a rest e some = absurd (omega (arith, ap length (pair_rest b a [] rest e)))
whole_none (Some (b, c ∷ cs)) a rest e some = refl

passes_step : (b : Bool) (n : ℕ) (x : ℕ) (xs : List ℕ) (p : ℕ → Bool) → p x ≡ b → list_all p (take n xs) ≡ true → list_all p (take (cond b (1 + n) 0) (x ∷ xs)) ≡ true
passes_step true n x xs p e h = let k : 1 + n ≡ suc n = omega arith in rw (k, e) h
passes_step false n x xs p e h = refl

-- the bytes before the first that fails pass
pub passes_front : (p : ℕ → Bool) (xs : List ℕ) → list_all p (take (prefix_len p xs) xs) ≡ true
passes_front p [] = refl
passes_front p (x ∷ xs) = passes_step (p x) (prefix_len p xs) x xs p refl (passes_front p xs)

-- where none fails, all pass
pub passes_all : (p : ℕ → Bool) (xs : List ℕ) → prefix_len p xs ≡ length xs → list_all p xs ≡ true
passes_all p xs e =
    ap (list_all p) (sym (take_all (length xs) xs (omega arith))) ∙ ap (λ (n : ℕ). list_all p (take n xs)) (sym e) ∙ passes_front p xs

pub is_feed : (x : ℕ) → in_line x ≡ false → x ≡ 10
is_feed x e = grind (arith, nat_tests)

split_step : (b : Bool) (n x : ℕ) (xs : List ℕ) → in_line x ≡ b → cond b (1 + n) 0 < suc (length xs) → (n < length xs → xs ≡ take n xs ++ 10 ∷ drop (n + 1) xs)
    → x ∷ xs ≡ take (cond b (1 + n) 0) (x ∷ xs) ++ 10 ∷ drop (cond b (1 + n) 0 + 1) (x ∷ xs)
split_step true n x xs e lt h =
    let k : 1 + n ≡ suc n = omega arith in
    let j : suc n + 1 ≡ suc (n + 1) = omega arith in
    rw (k, j) (ap (λ (l : List ℕ). x ∷ l) (h (omega arith)))
split_step false n x xs e lt h = ap (λ (c : ℕ). c ∷ xs) (is_feed x e)

-- the first line feed
pub splits_at : (xs : List ℕ) → prefix_len in_line xs < length xs → xs ≡ take (prefix_len in_line xs) xs ++ 10 ∷ drop (prefix_len in_line xs + 1) xs
splits_at [] lt = absurd (omega arith)
splits_at (x ∷ xs) lt = split_step (in_line x) (prefix_len in_line xs) x xs refl lt (splits_at xs)
