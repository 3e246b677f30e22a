-- Reading parameters one after the other, as a loop does.
use Rattle.std.proofs.Common.{◌≡◌, ℕ, zero, suc, ◌+◌, ◌<◌, ◌≤◌, List, [], ◌∷◌, ◌++◌, length, take, drop, codes, Bool, true, false, cond, eqb, Option, Some, None, Err, refl, sym, ap, ◌∙◌, append_assoc, arith}
use Rattle.std.proofs.lemmas.List.{append-nil, length-drop}
use Rattle.std.specs.Global.{Vec}
use Rattle.hw_names.specs.Name.{Text}
use Rattle.net_text.specs.declared.line_end.LineEnd.{LineEnd}
use Rattle.net_text.specs.declared.line_end.LineEnd.TheVariants as ends
use Rattle.net_text.proofs.WordLemmas.{pair_rest}
use Rattle.net_text.specs.inside.ReadWords.{◌>>=◌, word_len, after, number_at, number_of}
use Rattle.net_text.specs.inside.ReadResults.{Gives}
use Rattle.net_text.specs.inside.ReadLines.{param_at, params_of_text}

-- what was read before, and what is still read
abbrev pub with_front : List ℕ → Option (List ℕ) → Option (List ℕ)
with_front front read = read >>= λ params. Some (front ++ params)

regroup : (front : List ℕ) (n : ℕ) (read : Option (List ℕ)) → with_front front (read >>= λ params. Some (n ∷ params)) ≡ with_front (front ++ n ∷ []) read
regroup front n (Some params) = ap (λ (ns : List ℕ). Some ns) (simp append_assoc)
regroup front n None = refl

-- a step that did not fail
pub bind_some : {A B : Type 0} (o : Option A) (f : A → Option B) (b : B) → (o >>= f) ≡ Some b → (a : A) × (o ≡ Some a) × (f a ≡ Some b)
bind_some None f b e = absurd cc
bind_some (Some a) f b e = (a, refl, e)

some_of : {A : Type 0} (b : Bool) (o : Option A) (x : A) → cond b o None ≡ Some x → o ≡ Some x
some_of true o x e = e
some_of false o x e = absurd cc

same_bind : {A B : Type 0} (o : Option A) (f g : A → Option B) → ((x : A) → o ≡ Some x → f x ≡ g x) → (o >>= f) ≡ (o >>= g)
same_bind None f g h = refl
same_bind (Some x) f g h = h x refl

-- what a number leaves
number_leaves : (text : Text) (n : ℕ) (rest : Text) → number_at text ≡ Some (n, rest) → length rest ≤ length text
unfolding number_at
number_leaves text n rest e =
    let b = bind_some (number_of (take (word_len text) text)) (λ v. Some (v, drop (word_len text) text)) (n, rest) e in
    let r : drop (word_len text) text ≡ rest = pair_rest b.0 n _ rest b.2 in
    omega (arith, ap length r, length-drop (word_len text) text)

after_leaves : (mark text rest : Text) → after mark text ≡ Some rest → length mark + length rest ≡ length text
after_leaves [] text rest e = let same : text ≡ rest = cc in omega (arith, ap length same)
after_leaves (c ∷ cs) [] rest e = absurd cc
after_leaves (c ∷ cs) (d ∷ ds) rest e = omega (arith, after_leaves cs ds rest (some_of (eqb c d) (after cs ds) rest e))

param_leaves : (text : Text) (n : ℕ) (rest : Text) → param_at text ≡ Some (n, rest) → length rest < length text
unfolding param_at
param_leaves text n rest e =
    let b = bind_some (after (codes " ") text) number_at (n, rest) e in
    omega (arith, after_leaves (codes " ") text b.0 b.1, number_leaves b.0 n rest b.2)

-- more turns than there are bytes change nothing
turns : (m n : ℕ) (text : Text) → length text ≤ m → length text ≤ n → params_of_text m text ≡ params_of_text n text
unfolding params_of_text
turns zero zero text p q = refl
turns zero (suc n) [] p q = refl
turns zero (suc n) (c ∷ cs) p q = absurd (omega arith)
turns (suc m) zero [] p q = refl
turns (suc m) zero (c ∷ cs) p q = absurd (omega arith)
turns (suc m) (suc n) [] p q = refl
turns (suc m) (suc n) (c ∷ cs) p q =
    same_bind (param_at (c ∷ cs)) _ _ (λ x e. let shorter = param_leaves (c ∷ cs) x.0 x.1 e in ap (λ (read : Option (List ℕ)). read >>= λ params. Some (x.0 ∷ params)) (turns m n x.1 (omega arith) (omega arith)))

-- one turn
turn : (text : Text) (n : ℕ) (rest : Text) → 0 < length text → param_at text ≡ Some (n, rest) → params_of_text (length text) text ≡ (params_of_text (length rest) rest >>= λ params. Some (n ∷ params))
unfolding params_of_text
turn [] n rest some e = absurd (omega arith)
turn (c ∷ cs) n rest some e =
    let shorter = param_leaves (c ∷ cs) n rest e in
    let same = turns (length cs) (length rest) rest (omega arith) (omega arith) in
    rw (e, same) refl

pub goes_on : (front : List ℕ) (text : Text) (n : ℕ) (rest : Text) (total : Option (List ℕ)) → 0 < length text → param_at text ≡ Some (n, rest)
    → with_front front (params_of_text (length text) text) ≡ total → with_front (front ++ n ∷ []) (params_of_text (length rest) rest) ≡ total
goes_on front text n rest total some e so_far =
    sym (ap (with_front front) (turn text n rest some e) ∙ regroup front n (params_of_text (length rest) rest)) ∙ so_far

none_turn : (text : Text) → 0 < length text → param_at text ≡ None → params_of_text (length text) text ≡ None
unfolding params_of_text
none_turn [] some e = absurd (omega arith)
none_turn (c ∷ cs) some e = rw e refl

pub fails : (e : LineEnd) (front : List ℕ) (text : Text) (total : Option (List ℕ)) → 0 < length text → Gives {X = ℕ} {Y = ℕ × Text} (λ n. (n, [])) (Err e) (param_at text)
    → with_front front (params_of_text (length text) text) ≡ total → Gives {X = Vec ℕ} (λ v. v.items) (Err e) total
fails ends.Memory front text total some h so_far = tt
fails ends.Grammar front text total some h so_far = sym so_far ∙ ap (with_front front) (none_turn text some h)

pub is_done : (front : List ℕ) (text : Text) (total : Option (List ℕ)) → length text ≡ 0 → with_front front (params_of_text (length text) text) ≡ total → total ≡ Some front
unfolding params_of_text
is_done front [] total none so_far = sym so_far ∙ ap (λ (ns : List ℕ). Some ns) (append-nil front)
is_done front (c ∷ cs) total none so_far = absurd (omega arith)
