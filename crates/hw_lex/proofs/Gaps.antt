-- Blanks and comments: what is computed is what the definition says.
use Rattle.std.proofs.Common.{◌≡◌, ℕ, ◌<◌, true, false, not, cond, eqb, List, [], ◌∷◌, ◌++◌, length, take, drop, Some, None, refl, sym, ap, subst, ◌∙◌, arith}
use Rattle.std.specs.List.{prefix_len}
use Rattle.std.proofs.lemmas.Bool.{eqb-true, false≢true}
use Rattle.std.proofs.lemmas.List.{take-append-drop, length-append}
use Rattle.std.proofs.Math.Seq.{drop-append_seam}
use Rattle.hw_lex.specs.Byte.{is_blank}
use Rattle.hw_lex.specs.Gap.{is_in_line, EndsLine, is_closing, is_open, Space, blank, line, block, Gap, none, more}
use Rattle.hw_lex.specs.inside.Front.{after_close, after_slash, after_space}
use Rattle.hw_lex.proofs.Fronts.{by_test, and_true, not_true, not_false, Ends, run_passes, run_ends, run_stops}

-- whether `*/` begins somewhere depends on two bytes
same_closing : (byte : ℕ) (bytes rest : List ℕ) → is_closing (byte ∷ (bytes ++ 42 ∷ rest)) ≡ is_closing (byte ∷ (bytes ++ 42 ∷ []))
same_closing byte [] rest = refl
same_closing byte (c ∷ bytes) rest = refl

close_found : (inner rest : List ℕ) → is_open (inner ++ 42 ∷ []) ≡ true → after_close (inner ++ 42 ∷ 47 ∷ rest) ≡ Some rest
close_found [] rest h = refl
close_found (byte ∷ inner) rest h =
    let t = and_true (not (is_closing (byte ∷ (inner ++ 42 ∷ [])))) (is_open (inner ++ 42 ∷ [])) h in
    let other : is_closing (byte ∷ (inner ++ 42 ∷ 47 ∷ rest)) ≡ false = same_closing byte inner (47 ∷ rest) ∙ not_true _ t.0 in
    rw other (close_found inner rest t.1)

closing_is : (byte : ℕ) (bytes rest : List ℕ) → is_closing (byte ∷ bytes) ≡ true → Some (drop 1 bytes) ≡ Some rest → byte ∷ bytes ≡ 42 ∷ 47 ∷ rest
closing_is byte [] rest h e = absurd (false≢true h)
closing_is byte (c ∷ bytes) rest h e =
    let t = and_true (eqb byte 42) (eqb c 47) h in
    let first : byte ≡ 42 = eqb-true byte 42 t.0 in
    let second : c ≡ 47 = eqb-true c 47 t.1 in
    let others : bytes ≡ rest = cc in
    rw (first, second, others) refl

-- what stands before the rest is a comment's inside
pub record Closes (text rest : List ℕ) : Type 0 where
  pub inner : List ℕ
  pub parts : text ≡ inner ++ 42 ∷ 47 ∷ rest
  pub first : is_open (inner ++ 42 ∷ []) ≡ true

close_told : (text rest : List ℕ) → after_close text ≡ Some rest → Closes text rest
close_told [] rest e = absurd cc
close_told (byte ∷ bytes) rest e =
    by_test (λ v. is_closing (byte ∷ bytes) ≡ v → cond v (Some (drop 1 bytes)) (after_close bytes) ≡ Some rest → Closes (byte ∷ bytes) rest) (is_closing (byte ∷ bytes))
    (λ _ h e. record { inner = []; parts = closing_is byte bytes rest h e; first = refl })
    (λ _ h e.
    let r = close_told bytes rest e in
    let open_here : is_closing (byte ∷ (r.inner ++ 42 ∷ [])) ≡ false = sym (same_closing byte r.inner (47 ∷ rest)) ∙ ap (λ (x : List ℕ). is_closing (byte ∷ x)) (sym r.parts) ∙ h in
    record { inner = byte ∷ r.inner; parts = ap (λ (x : List ℕ). byte ∷ x) r.parts; first = rw (open_here, r.first) refl })
    refl e

ends_line : (text : List ℕ) → Ends is_in_line text → EndsLine text
ends_line [] h = tt
ends_line (byte ∷ bytes) h = eqb-true byte 10 (not_false _ h)

line_ends : (text : List ℕ) → EndsLine text → Ends is_in_line text
line_ends [] h = tt
line_ends (byte ∷ bytes) h = rw h refl

slash_told : (bytes rest : List ℕ) → after_slash bytes ≡ Some rest → Space (47 ∷ bytes) rest
slash_told [] rest e = absurd cc
slash_told (second ∷ inner) rest e =
    let tail = drop (prefix_len is_in_line inner) inner in
    by_test (λ v. cond v (Some tail) (cond (eqb second 42) (after_close inner) None) ≡ Some rest → Space (47 ∷ second ∷ inner) rest) (eqb second 47)
    (λ h e.
    let is : second ≡ 47 = eqb-true second 47 h in
    let same : tail ≡ rest = cc in
    let s = line (take (prefix_len is_in_line inner) inner) (run_passes is_in_line inner) (ends_line tail (run_stops is_in_line inner)) in
    let whole = subst (λ (x : List ℕ). Space (47 ∷ 47 ∷ x) tail) (take-append-drop (prefix_len is_in_line inner) inner) s in
    rw is (subst (λ (x : List ℕ). Space (47 ∷ 47 ∷ inner) x) same whole))
    (λ h e.
    by_test (λ v. cond v (after_close inner) None ≡ Some rest → Space (47 ∷ second ∷ inner) rest) (eqb second 42)
    (λ i e.
    let is : second ≡ 42 = eqb-true second 42 i in
    let r = close_told inner rest e in
    rw (is, r.parts) (block r.inner r.first))
    (λ i e. absurd cc)
    e)
    e

-- what after_space gives is what follows one blank or comment
pub after_space_told : (text rest : List ℕ) → after_space text ≡ Some rest → Space text rest
after_space_told [] rest e = absurd cc
after_space_told (byte ∷ bytes) rest e =
    by_test (λ v. is_blank byte ≡ v → cond v (Some bytes) (cond (eqb byte 47) (after_slash bytes) None) ≡ Some rest → Space (byte ∷ bytes) rest) (is_blank byte)
    (λ _ h e. let same : bytes ≡ rest = cc in rw same (blank h))
    (λ _ h e.
    by_test (λ v. cond v (after_slash bytes) None ≡ Some rest → Space (byte ∷ bytes) rest) (eqb byte 47)
    (λ i e. let is : byte ≡ 47 = eqb-true byte 47 i in rw is (slash_told bytes rest e))
    (λ i e. absurd cc)
    e)
    refl e

-- where a blank or a comment stands, after_space gives what follows
pub after_space_is : (text rest : List ℕ) → Space text rest → after_space text ≡ Some rest
after_space_is text rest (blank h) = rw h refl
after_space_is text rest (line inner h e) =
    let n : prefix_len is_in_line (inner ++ rest) ≡ length inner = run_ends is_in_line inner rest h (line_ends rest e) in
    rw (n, drop-append_seam inner rest) refl
after_space_is text rest (block inner h) = close_found inner rest h

pub Space-shorter : (text rest : List ℕ) → Space text rest → length rest < length text
Space-shorter text rest (blank h) = omega arith
Space-shorter text rest (line inner h e) = omega (arith, length-append inner rest)
Space-shorter text rest (block inner h) = omega (arith, length-append inner (42 ∷ 47 ∷ rest))

pub Gap-then : (text mid rest : List ℕ) → Gap text mid → Space mid rest → Gap text rest
Gap-then text mid rest none s = more s none
Gap-then text mid rest (more t g) s = more t (Gap-then _ mid rest g s)

pub Gap-append : (text mid rest : List ℕ) → Gap text mid → Gap mid rest → Gap text rest
Gap-append text mid rest none h = h
Gap-append text mid rest (more t g) h = more t (Gap-append _ mid rest g h)

-- no blank or comment stands at the front of the text
abbrev pub HasNoSpace : List ℕ → Type 0
HasNoSpace text = (rest : List ℕ) → Space text rest → ⊥

Space-unique : (text a b : List ℕ) → Space text a → Space text b → a ≡ b
Space-unique text a b s t =
    let x = after_space_is text a s in
    let y = after_space_is text b t in
    cc

-- gaps that cannot go on end at one place
pub Gap-unique : (text a b : List ℕ) → Gap text a → Gap text b → HasNoSpace a → HasNoSpace b → a ≡ b
Gap-unique text a b none none p q = refl
Gap-unique text a b none (more {mid = m} t h) p q = absurd (p m t)
Gap-unique text a b (more {mid = m} s g) none p q = absurd (q m s)
Gap-unique text a b (more {mid = m} s g) (more {mid = n} t h) p q =
    let same = Space-unique text m n s t in
    Gap-unique n a b (subst (λ (x : List ℕ). Gap x a) same g) h p q
