-- What a loop that reads parts keeps.
use Rattle.std.proofs.Common.{◌≡◌, ℕ, suc, ◌+◌, ◌-◌, ◌≤◌, ◌<◌, true, false, List, [], ◌∷◌, ◌++◌, Result, Ok, Err, refl, sym, ap, ◌∙◌, append_assoc, arith}
use Rattle.std.proofs.lemmas.List.{append-nil}
use Rattle.hw_grammar.specs.declared.sort.Sort.{Sort}
use Rattle.hw_grammar.specs.declared.terminal.Terminal.{Terminal}
use Rattle.hw_grammar.specs.Sort.{has}
use Rattle.hw_grammar.specs.declared.end.ReadEnd.{ReadEnd}
use Rattle.hw_grammar.specs.declared.end.ReadEnd.TheVariants as errors
use Rattle.hw_grammar.proofs.Exact.{seen, paired}
use Rattle.hw_grammar.specs.Reading.{◌>>=◌, one, times, list_tail_times, Fails, with_front}

regroup : {A : Type 0} (front : List A) (n : A) (read : Result (List A × List Terminal) (List Terminal)) → with_front front (read >>= λ x. Ok (n ∷ x.0, x.1)) ≡ with_front (front ++ n ∷ []) read
regroup {A = A} front n (Ok x) = ap (λ (ns : List A). Ok (ns, x.1)) (simp append_assoc)
regroup front n (Err f) = refl

abbrev cons_of : {A : Type 0} → A × List A → List A
cons_of z = z.0 ∷ z.1

abbrev second_of : {A B : Type 0} → A × B → B
second_of z = z.1

strip : {A : Type 0} (c : Terminal) (x : A) (r : Result (List A × List Terminal) (List Terminal)) → seen (second_of {A = Terminal} {B = List A}) (paired c (seen (cons_of {A = A}) (paired x r))) ≡ (r >>= λ y. Ok (x ∷ y.0, y.1))
strip c x (Ok y) = refl
strip c x (Err bad) = refl

module _ {A : Type 0} (set : List Sort) (p : List Terminal → Result (A × List Terminal) (List Terminal)) (front : List A) (count i : ℕ) (ts : List Terminal) (total : Result (List A × List Terminal) (List Terminal)) (so_far : with_front front (times set p (count - i) ts) ≡ total) where
  pub goes_on : (x : A) (after : List Terminal) → i < count → has set ts ≡ true → p ts ≡ Ok (x, after) → with_front (front ++ x ∷ []) (times set p (count - (i + 1)) after) ≡ total
  goes_on x after lt h e =
      let k : count - i ≡ suc (count - (i + 1)) = omega arith in
      let one : with_front front (times set p (count - i) ts) ≡ with_front (front ++ x ∷ []) (times set p (count - (i + 1)) after) = rw (k, h, e) (regroup front x (times set p (count - (i + 1)) after)) in
      sym one ∙ so_far

  pub stops : i < count → has set ts ≡ false → total ≡ Ok (front, ts)
  stops lt h =
      let k : count - i ≡ suc (count - (i + 1)) = omega arith in
      let one : with_front front (times set p (count - i) ts) ≡ Ok (front, ts) = rw (k, h) (ap (λ (ns : List A). Ok (ns, ts)) (append-nil front)) in
      sym so_far ∙ one

  pub fails : (e : ReadEnd) → i < count → has set ts ≡ true → Fails e (p ts) → Fails e total
  fails errors.Memory lt h f = tt
  fails (errors.Refused bad) lt h f =
      let k : count - i ≡ suc (count - (i + 1)) = omega arith in
      let one : with_front front (times set p (count - i) ts) ≡ Err (bad.now) = rw (k, h, f) refl in
      sym so_far ∙ one

  pub ends : count ≤ i → has set ts ≡ false → total ≡ Ok (front, ts)
  ends le h =
      let k : count - i ≡ 0 = omega arith in
      let one : with_front front (times set p (count - i) ts) ≡ Ok (front, ts) = rw (k, h) (ap (λ (ns : List A). Ok (ns, ts)) (append-nil front)) in
      sym so_far ∙ one

  pub runs_out : count ≤ i → has set ts ≡ true → total ≡ Err ts
  runs_out le h =
      let k : count - i ≡ 0 = omega arith in
      let one : with_front front (times set p (count - i) ts) ≡ Err ts = rw (k, h) refl in
      sym so_far ∙ one

-- the tail of a list with commas
module _ {A : Type 0} (s : Sort) (set : List Sort) (p : List Terminal → Result (A × List Terminal) (List Terminal)) (front : List A) (count i : ℕ) (ts : List Terminal) (total : Result (List A × List Terminal) (List Terminal)) (so_far : with_front front (list_tail_times s set p (count - i) ts) ≡ total) where
  pub list_tail_goes_on : (c : Terminal) (mid : List Terminal) (x : A) (after : List Terminal) → i < count → has (s ∷ []) ts ≡ true → one s ts ≡ Ok (c, mid) → has set mid ≡ true → p mid ≡ Ok (x, after) → with_front (front ++ x ∷ []) (list_tail_times s set p (count - (i + 1)) after) ≡ total
  list_tail_goes_on c mid x after lt h e1 h2 e2 =
      let k : count - i ≡ suc (count - (i + 1)) = omega arith in
      let step : list_tail_times s set p (count - i) ts ≡ (list_tail_times s set p (count - (i + 1)) after >>= λ y. Ok (x ∷ y.0, y.1)) = rw (k, h, e1, h2, e2) (strip c x (list_tail_times s set p (count - (i + 1)) after)) in
      let one : with_front front (list_tail_times s set p (count - i) ts) ≡ with_front (front ++ x ∷ []) (list_tail_times s set p (count - (i + 1)) after) = ap (with_front front) step ∙ regroup front x (list_tail_times s set p (count - (i + 1)) after) in
      sym one ∙ so_far

  pub list_tail_stops : i < count → has (s ∷ []) ts ≡ false → total ≡ Ok (front, ts)
  list_tail_stops lt h =
      let k : count - i ≡ suc (count - (i + 1)) = omega arith in
      let one : with_front front (list_tail_times s set p (count - i) ts) ≡ Ok (front, ts) = rw (k, h) (ap (λ (ns : List A). Ok (ns, ts)) (append-nil front)) in
      sym so_far ∙ one

  pub list_tail_trails : (c : Terminal) (mid : List Terminal) → i < count → has (s ∷ []) ts ≡ true → one s ts ≡ Ok (c, mid) → has set mid ≡ false → total ≡ Ok (front, mid)
  list_tail_trails c mid lt h e1 h2 =
      let k : count - i ≡ suc (count - (i + 1)) = omega arith in
      let one : with_front front (list_tail_times s set p (count - i) ts) ≡ Ok (front, mid) = rw (k, h, e1, h2) (ap (λ (ns : List A). Ok (ns, mid)) (append-nil front)) in
      sym so_far ∙ one

  pub list_tail_unmarked : (e : ReadEnd) → i < count → has (s ∷ []) ts ≡ true → Fails e (one s ts) → Fails e total
  list_tail_unmarked errors.Memory lt h f = tt
  list_tail_unmarked (errors.Refused bad) lt h f =
      let k : count - i ≡ suc (count - (i + 1)) = omega arith in
      let one : with_front front (list_tail_times s set p (count - i) ts) ≡ Err (bad.now) = rw (k, h, f) refl in
      sym so_far ∙ one

  pub list_tail_fails : (e : ReadEnd) (c : Terminal) (mid : List Terminal) → i < count → has (s ∷ []) ts ≡ true → one s ts ≡ Ok (c, mid) → has set mid ≡ true → Fails e (p mid) → Fails e total
  list_tail_fails errors.Memory c mid lt h e1 h2 f = tt
  list_tail_fails (errors.Refused bad) c mid lt h e1 h2 f =
      let k : count - i ≡ suc (count - (i + 1)) = omega arith in
      let one : with_front front (list_tail_times s set p (count - i) ts) ≡ Err (bad.now) = rw (k, h, e1, h2, f) refl in
      sym so_far ∙ one

  pub list_tail_ends : count ≤ i → has (s ∷ []) ts ≡ false → total ≡ Ok (front, ts)
  list_tail_ends le h =
      let k : count - i ≡ 0 = omega arith in
      let one : with_front front (list_tail_times s set p (count - i) ts) ≡ Ok (front, ts) = rw (k, h) (ap (λ (ns : List A). Ok (ns, ts)) (append-nil front)) in
      sym so_far ∙ one

  pub list_tail_runs_out : count ≤ i → has (s ∷ []) ts ≡ true → total ≡ Err ts
  list_tail_runs_out le h =
      let k : count - i ≡ 0 = omega arith in
      let one : with_front front (list_tail_times s set p (count - i) ts) ≡ Err ts = rw (k, h) refl in
      sym so_far ∙ one
