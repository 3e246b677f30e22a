-- What a reader gives, told by what its parts give.
use Rattle.std.proofs.Common.{◌≡◌, ℕ, zero, suc, ◌+◌, ◌≤◌, Bool, true, false, ◌||◌, cond, List, [], ◌∷◌, ◌++◌, length, Option, Some, None, Result, Ok, Err, ◌-◌, refl, sym, ap, subst, ◌∙◌, arith}
use Rattle.hw_grammar.specs.declared.sort.Sort.{Sort}
use Rattle.hw_grammar.specs.declared.terminal.Terminal.{Terminal}
use Rattle.hw_grammar.specs.declared.end.ReadEnd.{ReadEnd}
use Rattle.hw_grammar.specs.declared.end.ReadEnd.TheVariants as errors
use Rattle.hw_grammar.specs.Sort.{has}
use Rattle.hw_grammar.specs.Reading.{Reader, Answer, Fails, ◌>>=◌, one, then, either, mapped, after, closed, between, times, many, separated, with_front}
use Rattle.hw_grammar.proofs.Exact.{seen, paired}

pub bind_fails : {A B : Type 0} (f : A → Result B (List Terminal)) (r : Result A (List Terminal)) (e : ReadEnd) → Fails e r → Fails e (r >>= f)
bind_fails f r errors.Memory h = tt
bind_fails f r (errors.Refused bad) h = ap (λ (x : _). x >>= f) h

module _ {A B : Type 0} (p : Reader A) (q : Reader B) (ts mid : List Terminal) (x : A) (first : p ts ≡ Ok (x, mid)) where
  pub then_ok : (y : B) (rest : List Terminal) → q mid ≡ Ok (y, rest) → then p q ts ≡ Ok ((x, y), rest)
  then_ok y rest second = rw (first, second) refl

  pub then_fails : (e : ReadEnd) → Fails e (q mid) → Fails e (then p q ts)
  then_fails e h = rw first (bind_fails (λ (y : B × List Terminal). Ok ((x, y.0), y.1)) (q mid) e h)

module _ {A B : Type 0} (f : A → B) (p : Reader A) (ts : List Terminal) where
  pub mapped_ok : (x : A) (rest : List Terminal) → p ts ≡ Ok (x, rest) → mapped f p ts ≡ Ok (f x, rest)
  mapped_ok x rest h = rw h refl

  pub mapped_fails : (e : ReadEnd) → Fails e (p ts) → Fails e (mapped f p ts)
  mapped_fails e h = bind_fails (λ (x : A × List Terminal). Ok (f x.0, x.1)) (p ts) e h

module _ {A : Type 0} (set : List Sort) (p q : Reader A) (ts : List Terminal) where
  pub either_first : has set ts ≡ true → either set p q ts ≡ p ts
  either_first h = rw h refl

  pub either_second : has set ts ≡ false → either set p q ts ≡ q ts
  either_second h = rw h refl

module _ {A : Type 0} (s : Sort) (p : Reader A) (ts mid : List Terminal) (t : Terminal) (first : one s ts ≡ Ok (t, mid)) where
  pub after_ok : (x : A) (rest : List Terminal) → p mid ≡ Ok (x, rest) → after s p ts ≡ Ok (x, rest)
  after_ok x rest h = rw (first, h) refl

  pub after_fails : (e : ReadEnd) → Fails e (p mid) → Fails e (after s p ts)
  after_fails e h = mapped_fails (λ (x : Terminal × A). x.1) (then (one s) p) ts e (then_fails (one s) p ts mid t first e h)

pub then_missing : {A B : Type 0} (p : Reader A) (q : Reader B) (ts : List Terminal) (e : ReadEnd) → Fails e (p ts) → Fails e (then p q ts)
then_missing {A = A} {B = B} p q ts e h = bind_fails (λ (x : A × List Terminal). (q x.1 >>= λ (y : B × List Terminal). Ok ((x.0, y.0), y.1))) (p ts) e h

pub after_missing : {A : Type 0} (s : Sort) (p : Reader A) (ts : List Terminal) (e : ReadEnd) → Fails e (one s ts) → Fails e (after s p ts)
after_missing {A = A} s p ts e h =
    mapped_fails (λ (x : Terminal × A). x.1) (then (one s) p) ts e (bind_fails (λ (x : Terminal × List Terminal). (p x.1 >>= λ (y : A × List Terminal). Ok ((x.0, y.0), y.1))) (one s ts) e h)

module _ {A : Type 0} (s last : Sort) (p : Reader A) (ts mid : List Terminal) (t : Terminal) (first : one s ts ≡ Ok (t, mid)) where
  pub between_fails : (e : ReadEnd) → Fails e (p mid) → Fails e (between s p last ts)
  between_fails e h =
      after_fails s (closed p last) ts mid t first e (mapped_fails (λ (x : A × Terminal). x.0) (then p (one last)) mid e (bind_fails (λ (x : A × List Terminal). (one last x.1 >>= λ (y : Terminal × List Terminal). Ok ((x.0, y.0), y.1))) (p mid) e h))

  pub between_ok : (x : A) (rest out : List Terminal) (u : Terminal) → p mid ≡ Ok (x, rest) → one last rest ≡ Ok (u, out) → between s p last ts ≡ Ok (x, out)
  between_ok x rest out u h k = after_ok s (closed p last) ts mid t first x out (mapped_ok (λ (x : A × Terminal). x.0) (then p (one last)) mid (x, u) out (then_ok p (one last) mid rest x h u out k))

  pub between_open : (x : A) (rest : List Terminal) (e : ReadEnd) → p mid ≡ Ok (x, rest) → Fails e (one last rest) → Fails e (between s p last ts)
  between_open x rest e h k =
      after_fails s (closed p last) ts mid t first e (mapped_fails (λ (x : A × Terminal). x.0) (then p (one last)) mid e (then_fails p (one last) mid rest x h e k))

-- ---- lists

list_step : {A : Type 0} (x : A) (r : Result (List A × List Terminal) (List Terminal)) → seen (λ (z : A × List A). z.0 ∷ z.1) (paired x r) ≡ with_front (x ∷ []) r
list_step x (Ok y) = refl
list_step x (Err bad) = refl

-- p, then q any number of times
module _ {A : Type 0} (set : List Sort) (p q : Reader A) (ts : List Terminal) where
  pub first_missing : (e : ReadEnd) → Fails e (p ts) → Fails e (mapped (λ (x : A × List A). x.0 ∷ x.1) (then p (many set q)) ts)
  first_missing e h =
      mapped_fails (λ (x : A × List A). x.0 ∷ x.1) (then p (many set q)) ts e
      (bind_fails (λ (x : A × List Terminal). (many set q x.1 >>= λ (y : List A × List Terminal). Ok ((x.0, y.0), y.1))) (p ts) e h)

  pub first_is : (x : A) (mid : List Terminal) → p ts ≡ Ok (x, mid) → mapped (λ (x : A × List A). x.0 ∷ x.1) (then p (many set q)) ts ≡ with_front (x ∷ []) (many set q mid)
  first_is x mid h = rw h (list_step x (many set q mid))

module _ {A : Type 0} (s : Sort) (p : Reader A) (ts : List Terminal) where
  pub separated_missing : (e : ReadEnd) → Fails e (p ts) → Fails e (separated s p ts)
  separated_missing e h = first_missing (s ∷ []) p (after s p) ts e h

  pub separated_is : (x : A) (mid : List Terminal) → p ts ≡ Ok (x, mid) → separated s p ts ≡ with_front (x ∷ []) (many (s ∷ []) (after s p) mid)
  separated_is x mid h = first_is (s ∷ []) p (after s p) ts x mid h

-- ---- vectors

-- one item, put into an empty list
pub alone : {A : Type 0} (items old : List A) (x : A) → items ≡ old ++ x ∷ [] → old ≡ [] → items ≡ x ∷ []
alone items old x e n = e ∙ ap (λ (o : List _). o ++ x ∷ []) n

-- ---- loops

front_none : {A : Type 0} (r : Result (List A × List Terminal) (List Terminal)) → with_front [] r ≡ r
front_none (Ok x) = refl
front_none (Err bad) = refl

-- before the first round
pub unchanged : {A : Type 0} (set : List Sort) (p : Reader A) (ts : List Terminal) → with_front [] (times set p (length ts - 0) ts) ≡ many set p ts
unchanged set p ts = let k : length ts - 0 ≡ length ts = omega arith in rw k (front_none (times set p (length ts) ts))
