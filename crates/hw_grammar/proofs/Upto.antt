-- Readers that are exact on texts of a bounded length, as those that call themselves.
use Rattle.std.proofs.Common.{◌≡◌, ℕ, zero, suc, ◌≤◌, ◌<◌, Bool, true, false, ◌&&◌, cond, List, [], ◌∷◌, ◌++◌, length, Result, Ok, inl, inr, refl, sym, subst, arith}
use Rattle.std.proofs.lemmas.Bool.{false≢true}
use Rattle.hw_grammar.specs.declared.sort.Sort.{Sort}
use Rattle.hw_grammar.specs.declared.terminal.Terminal.{Terminal}
use Rattle.hw_grammar.specs.Sort.{has}
use Rattle.hw_grammar.specs.Grammar.{One, Then, Either, Mapped, Many, Separated}
use Rattle.hw_grammar.specs.Reading.{◌>>=◌, one, then, either, mapped, times, many, after, separated}
use Rattle.hw_grammar.proofs.Exact.{Shares, Stops, IsLang, Reads, Exact, apart, clash, no_start, One-law, one-exact, then_first, then_ext, then-law, then_reads, mapped_reads, mapped-law, reads_within, either_ext, either-law, either_reads, many-law, regroup, stop_twice, Stops-left, apart_none, shorter}

pub record Upto {A : Type 0} (bound : ℕ) (L : List Terminal → A → List Terminal → Type 0) (p : List Terminal → Result (A × List Terminal) (List Terminal)) (first : List Sort) (null : Bool) (ext : List Sort) : Type 0 where
  pub law : IsLang L first null
  pub reads : (ts : List Terminal) → length ts ≤ bound → Reads L ext ts (p ts)

pub upto : {A : Type 0} {L : List Terminal → A → List Terminal → Type 0} {p : List Terminal → Result (A × List Terminal) (List Terminal)} {f : List Sort} {n : Bool} {e : List Sort} (bound : ℕ) → Exact L p f n e → Upto bound L p f n e
upto bound x = record { law = x.law; reads = λ ts le. x.reads ts }

left_within : {A : Type 0} {L : List Terminal → A → List Terminal → Type 0} {f : List Sort} {n : Bool} → IsLang L f n → (e : List Sort) (ts : List Terminal) (r : Result (A × List Terminal) (List Terminal)) (x : A × List Terminal) → Reads L e ts r → r ≡ Ok x → length x.1 ≤ length ts
left_within {A = A} {L = L} law e ts r x d i =
    let d2 : Reads L e ts (Ok x) = subst (λ (r : Result (A × List Terminal) (List Terminal)). Reads L e ts r) i d in
    let mv = law.moves ts x.0 x.1 d2.spelled in
    shorter ts mv.0 x.1 mv.1

pub upto-then : {A B : Type 0} {P : List Terminal → A → List Terminal → Type 0} {Q : List Terminal → B → List Terminal → Type 0} {p : List Terminal → Result (A × List Terminal) (List Terminal)} {q : List Terminal → Result (B × List Terminal) (List Terminal)} {f g d e : List Sort} {n k : Bool} (bound : ℕ) → Upto bound P p f n d → Upto bound Q q g k e → apart g d ≡ true → Upto bound (Then P Q) (then p q) (then_first n f g) (n && k) (then_ext k d e)
upto-then {p = p} {q = q} {d = d} {e = e} bound a b side = record {
  law = then-law a.law b.law;
  reads = λ ts le. then_reads d e a.law b.law side ts (p ts) q (a.reads ts le) (λ x i. let k = left_within a.law d ts (p ts) x (a.reads ts le) i in b.reads x.1 (omega arith));
}

pub upto-mapped : {A B : Type 0} {P : List Terminal → A → List Terminal → Type 0} {p : List Terminal → Result (A × List Terminal) (List Terminal)} {g : List Sort} {n : Bool} {e : List Sort} (bound : ℕ) (f : A → B) → Upto bound P p g n e → Upto bound (Mapped f P) (mapped f p) g n e
upto-mapped {P = P} {p = p} {e = e} bound f x = record { law = mapped-law f x.law; reads = λ ts le. mapped_reads P f e ts (p ts) (x.reads ts le) }

pub upto-either : {A : Type 0} {P Q : List Terminal → A → List Terminal → Type 0} {p q : List Terminal → Result (A × List Terminal) (List Terminal)} {f g d e : List Sort} {k : Bool} (bound : ℕ) → Upto bound P p f false d → Upto bound Q q g k e → apart f g ≡ true → Upto bound (Either P Q) (either f p q) (f ++ g) k (either_ext k f d e)
upto-either {p = p} {q = q} {d = d} {e = e} bound a b side = record {
  law = either-law a.law b.law;
  reads = λ ts le. either_reads d e a.law b.law side ts (p ts) (q ts) (λ _. a.reads ts le) (λ _. b.reads ts le);
}

-- behind a token the bound is one less
one_less : (s : Sort) (ts : List Terminal) (x : Terminal × List Terminal) → one s ts ≡ Ok x → length x.1 < length ts
one_less s ts x i =
    let r : Reads (One s) [] ts (Ok x) = subst (λ (r : Result (Terminal × List Terminal) (List Terminal)). Reads (One s) [] ts r) i ((one-exact s).reads ts) in
    elim ((One-law s).eats ts x.0 x.1 r.spelled) [ inl h ↦ absurd (false≢true h) | inr h ↦ h ]

pub upto-after : {A : Type 0} {P : List Terminal → A → List Terminal → Type 0} {p : List Terminal → Result (A × List Terminal) (List Terminal)} {f e : List Sort} {n : Bool} (bound : ℕ) (s : Sort) → Upto bound P p f n e → Upto (suc bound) (Mapped (λ x. x.1) (Then (One s) P)) (after s p) (s ∷ []) false (then_ext n [] e)
upto-after {A = A} {P = P} {p = p} {f = f} {e = e} {n = n} bound s a = record {
  law = mapped-law (λ (x : Terminal × A). x.1) (then-law (One-law s) a.law);
  reads = λ ts le. mapped_reads (Then (One s) P) (λ (x : Terminal × A). x.1) (then_ext n [] e) ts _ (then_reads [] e (One-law s) a.law (apart_none f) ts (one s ts) p ((one-exact s).reads ts) (λ x i. let k = one_less s ts x i in a.reads x.1 (omega arith)));
}

module _ {A : Type 0} {P : List Terminal → A → List Terminal → Type 0} {p : List Terminal → Result (A × List Terminal) (List Terminal)} {f e : List Sort} (bound : ℕ) (a : Upto bound P p f false e) (side : apart f e ≡ true) where
  up_many_is : (w : List Terminal) (xs : List A) (m : List Terminal) → Many P w xs m → Stops (f ++ e) m → has f w ≡ true → Mapped (λ (z : A × List A). z.0 ∷ z.1) (Then P (Many P)) w xs m
  up_many_is w [] m l st h = absurd (clash (subst (λ (v : List Terminal). has f v ≡ true) l h) (Stops-left f e m st))
  up_many_is w (x ∷ xs) m l st h = ((x, xs), l, refl)

  up_less : (n : ℕ) (ts : List Terminal) (x : A × List Terminal) → length ts ≤ bound → p ts ≡ Ok x → length ts ≤ suc n → length x.1 ≤ n
  up_less n ts x le i lt =
      let r : Reads P e ts (Ok x) = subst (λ (r : Result (A × List Terminal) (List Terminal)). Reads P e ts r) i (a.reads ts le) in
      elim (a.law.eats ts x.0 x.1 r.spelled) [ inl h ↦ absurd (false≢true h) | inr h ↦ omega arith ]

  up_many_ends : (ts : List Terminal) → has f ts ≡ false → Reads (Many P) (f ++ e) ts (Ok ([], ts))
  up_many_ends ts h = record {
    spelled = refl;
    only = λ w bad xs m l st sh le. elim xs as (λ xs. Many P w xs m → (xs ≡ []) × Shares m ts bad) [
      | [] ↦ λ l. (refl, subst (λ (v : List Terminal). Shares v ts bad) l sh)
      | x ∷ xs ↦ λ l. absurd (no_start a.law ts w bad x l.0 h l.1 sh)
    ] l;
  }

  up_shrinks : (ts : List Terminal) (x : A × List Terminal) → length ts ≤ bound → p ts ≡ Ok x → length x.1 ≤ length ts
  up_shrinks ts x le i =
      let r : Reads P e ts (Ok x) = subst (λ (r : Result (A × List Terminal) (List Terminal)). Reads P e ts r) i (a.reads ts le) in
      elim (a.law.eats ts x.0 x.1 r.spelled) [ inl h ↦ absurd (false≢true h) | inr h ↦ omega arith ]

  up_more : (n : ℕ) (ts : List Terminal) → length ts ≤ bound → has f ts ≡ true → ((x : A × List Terminal) → p ts ≡ Ok x → Reads (Many P) (f ++ e) x.1 (times f p n x.1)) → Reads (Many P) (f ++ e) ts (p ts >>= λ x. (times f p n x.1 >>= λ y. Ok (x.0 ∷ y.0, y.1)))
  up_more n ts le h inner =
      let both = then_reads e (f ++ e) a.law (many-law a.law) side ts (p ts) (times f p n) (a.reads ts le) inner in
      let mapped = mapped_reads (Then P (Many P)) (λ (z : A × List A). z.0 ∷ z.1) ((f ++ e) ++ e) ts _ both in
      let moved = subst (λ r. Reads (Mapped (λ (z : A × List A). z.0 ∷ z.1) (Then P (Many P))) ((f ++ e) ++ e) ts r) (regroup (λ (z : A × List A). z.0 ∷ z.1) (p ts) (times f p n)) mapped in
      reads_within f ((f ++ e) ++ e) (f ++ e) true ts _ (λ w xs m l. subst (λ (v : List A). Many P w v m) (sym l.2) l.1) (λ w xs m l st i. (up_many_is w xs m l st i, stop_twice f e m st)) h moved

  pub times_upto : (n : ℕ) (ts : List Terminal) → length ts ≤ bound → length ts ≤ n → Reads (Many P) (f ++ e) ts (times f p n ts)
  times_upto zero [] le lt = up_many_ends [] refl
  times_upto zero (t ∷ ts) le lt = absurd (omega arith)
  times_upto (suc n) ts le lt =
      let yes : has f ts ≡ true → Reads (Many P) (f ++ e) ts (p ts >>= λ x. (times f p n x.1 >>= λ y. Ok (x.0 ∷ y.0, y.1))) = λ h. up_more n ts le h (λ x i. let k = up_less n ts x le i lt in let j : length x.1 ≤ bound = omega (arith, up_shrinks ts x le i) in times_upto n x.1 j (up_less n ts x le i lt)) in
      let other : has f ts ≡ false → Reads (Many P) (f ++ e) ts (Ok ([], ts)) = up_many_ends ts in
      let go : (v : Bool) → has f ts ≡ v → Reads (Many P) (f ++ e) ts (cond v (p ts >>= λ x. (times f p n x.1 >>= λ y. Ok (x.0 ∷ y.0, y.1))) (Ok ([], ts))) = λ v. elim v as (λ v. has f ts ≡ v → Reads (Many P) (f ++ e) ts (cond v (p ts >>= λ x. (times f p n x.1 >>= λ y. Ok (x.0 ∷ y.0, y.1))) (Ok ([], ts)))) [ true ↦ yes | false ↦ other ] in
      go (has f ts) refl

pub upto-many : {A : Type 0} {P : List Terminal → A → List Terminal → Type 0} {p : List Terminal → Result (A × List Terminal) (List Terminal)} {f e : List Sort} (bound : ℕ) → Upto bound P p f false e → apart f e ≡ true → Upto bound (Many P) (many f p) f true (f ++ e)
upto-many bound a side = record { law = many-law a.law; reads = λ ts le. times_upto bound a side (length ts) ts le (omega arith) }

pub upto-less : {A : Type 0} {L : List Terminal → A → List Terminal → Type 0} {p : List Terminal → Result (A × List Terminal) (List Terminal)} {f : List Sort} {n : Bool} {e : List Sort} (bound : ℕ) → Upto (suc bound) L p f n e → Upto bound L p f n e
upto-less bound x = record { law = x.law; reads = λ ts le. x.reads ts (omega arith) }

pub upto-separated : {A : Type 0} {P : List Terminal → A → List Terminal → Type 0} {p : List Terminal → Result (A × List Terminal) (List Terminal)} {f e : List Sort} (bound : ℕ) (s : Sort) → Upto bound P p f false e → apart (s ∷ []) e ≡ true → Upto bound (Separated s P) (separated s p) f false (((s ∷ []) ++ e) ++ e)
upto-separated {A = A} bound s a side = upto-mapped bound (λ (x : A × List A). x.0 ∷ x.1) (upto-then bound a (upto-many bound (upto-less bound (upto-after bound s a)) side) side)
