-- Reading guards no deeper than the text is long: more depth changes nothing.
use Rattle.std.proofs.Common.{◌≡◌, ℕ, zero, suc, ◌+◌, ◌<◌, ◌≤◌, cond, [], ◌∷◌, length, codes, Option, Some, None, refl, sym, ap, ◌∙◌, ◌==◌, arith}
use Rattle.std.proofs.lemmas.List.{length-append}
use Rattle.hw_names.specs.Name.{Text}
use Rattle.net_core.specs.Guard.{GuardTree, GuardTrees, Reads, AllOf, AnyOf, MoreGuards}
use Rattle.net_text.specs.Layout.{guard_text}
use Rattle.net_text.specs.inside.ReadWords.{Read, ◌>>=◌, after, where_after, source_at}
use Rattle.net_text.specs.inside.ReadGuards.{listed, bracket_from, negated_read, guard_from, operands_from, guard_within, operands_within}
use Rattle.net_text.proofs.WordLaws.{after_takes}
use Rattle.net_text.proofs.GuardLaws.{guard_takes, guard_some}

same_after : {A : Type 0} (o : Option Text) (f g : Text → Option A) (x y : Option A) → ((rest : Text) → o ≡ Some rest → f rest ≡ g rest) → x ≡ y → where_after o f x ≡ where_after o g y
same_after (Some rest) f g x y h e = h rest refl
same_after None f g x y h e = e

pub after_shorter : (mark text rest : Text) → after mark text ≡ Some rest → length text ≡ length mark + length rest
after_shorter mark text rest e = ap length (after_takes mark text rest e) ∙ length-append mark rest

-- what is left after a guard is shorter than the text
pub guard_leaves : (n : ℕ) (text : Text) (g : GuardTree Text) (rest : Text) → guard_within n text ≡ Some (g, rest) → length rest < length text
guard_leaves n text g rest e =
    let is = guard_takes n text g rest e in
    omega (arith, ap length is.parts, length-append (guard_text g) rest, guard_some g is.has)

pub same_bracket : (read : Read (GuardTree Text)) (f g : Text → Text → Read (GuardTrees Text)) (k : ℕ) → ((first : GuardTree Text) (text : Text) → read ≡ Some (first, text) → length text < k) → ((between text : Text) → length text + 3 < k → f between text ≡ g between text)
    → bracket_from read f ≡ bracket_from read g
unfolding bracket_from
same_bracket None f g k short same = refl
same_bracket (Some (first, text)) f g k short same =
    let len = short first text refl in
    same_after (after (codes " & ") text) _ _ _ _ (λ rest e. ap (listed AllOf first) (same (codes " & ") rest (omega (arith, after_shorter (codes " & ") text rest e))))
    (same_after (after (codes " | ") text) _ _ _ _ (λ rest e. ap (listed AnyOf first) (same (codes " | ") rest (omega (arith, after_shorter (codes " | ") text rest e)))) refl)

pub same_operands : (read : Read (GuardTree Text)) (between : Text) (f g : Text → Read (GuardTrees Text)) (k : ℕ) → ((first : GuardTree Text) (text : Text) → read ≡ Some (first, text) → length text < k) → ((text : Text) → length text < k → f text ≡ g text)
    → operands_from read between f ≡ operands_from read between g
unfolding operands_from
same_operands None between f g k short same = refl
same_operands (Some (first, text)) between f g k short same =
    let len = short first text refl in
    same_after (after between text) _ _ _ _ (λ rest e. ap (λ (read : Read (GuardTrees Text)). read >>= λ gs. Some (MoreGuards first gs.0, gs.1)) (same rest (omega (arith, after_shorter between text rest e)))) refl

same_guard : (f f' : Text → Read (GuardTree Text)) (g g' : Text → Text → Read (GuardTrees Text)) (text : Text) → ((t : Text) → length t < length text → f t ≡ f' t) → ((between t : Text) → length t + 1 < length text → g between t ≡ g' between t)
    → ((t : Text) (first : GuardTree Text) (rest : Text) → f' t ≡ Some (first, rest) → length rest < length t) → guard_from f g text ≡ guard_from f' g' text
unfolding guard_from
same_guard f f' g g' [] same all short = refl
same_guard f f' g g' (c ∷ cs) same all short =
    let inner : f cs ≡ f' cs = same cs (omega arith) in
    let bracket : bracket_from (f cs) g ≡ bracket_from (f' cs) g' =
    ap (λ (read : Read (GuardTree Text)). bracket_from read g) inner ∙ same_bracket (f' cs) g g' (length cs) (short cs) (λ between t lt. all between t (omega arith)) in
    λ i. cond (c == 33) (negated_read (inner i)) (cond (c == 40) (bracket i) (source_at (c ∷ cs) >>= λ s. Some (Reads s.0, s.1)))

nothing : (f : Text → Read (GuardTree Text)) (g : Text → Text → Read (GuardTrees Text)) (text : Text) → length text ≤ 0 → guard_from f g text ≡ None
unfolding guard_from
nothing f g [] le = refl
nothing f g (c ∷ cs) le = absurd (omega arith)

mutual
  unfolding guard_within

  pub guard_turns : (m n : ℕ) (text : Text) → length text ≤ m → length text ≤ n → guard_within m text ≡ guard_within n text
  guard_turns zero zero text p q = refl
  guard_turns zero (suc n) text p q = sym (nothing (guard_within n) (operands_within n) text p)
  guard_turns (suc m) zero text p q = nothing (guard_within m) (operands_within m) text q
  guard_turns (suc m) (suc n) text p q =
      same_guard (guard_within m) (guard_within n) (operands_within m) (operands_within n) text (λ t lt. guard_turns m n t (omega arith) (omega arith)) (λ between t lt. operands_turn m n between t (omega arith) (omega arith)) (guard_leaves n)

  pub operands_turn : (m n : ℕ) (between text : Text) → length text < m → length text < n → operands_within m between text ≡ operands_within n between text
  operands_turn zero n between text p q = absurd (omega arith)
  operands_turn (suc m) zero between text p q = absurd (omega arith)
  operands_turn (suc m) (suc n) between text p q =
      ap (λ (read : Read (GuardTree Text)). operands_from read between (operands_within m between)) (guard_turns m n text (omega arith) (omega arith))
      ∙ same_operands (guard_within n text) between (operands_within m between) (operands_within n between) (length text) (guard_leaves n text) (λ t lt. operands_turn m n between t (omega arith) (omega arith))
