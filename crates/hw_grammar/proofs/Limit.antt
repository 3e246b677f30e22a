-- Languages that are defined by their depth.
use Rattle.std.proofs.Common.{◌≡◌, ℕ, zero, suc, ◌+◌, ◌≤◌, Bool, true, false, ◌||◌, cond, List, [], ◌∷◌, ◌++◌, length, Result, Ok, Err, inl, inr, refl, subst, arith, add_comm, add-suc, add-zero}
use Rattle.std.proofs.lemmas.Bool.{false≢true}
use Rattle.hw_grammar.specs.declared.sort.Sort.{Sort}
use Rattle.hw_grammar.specs.declared.terminal.Terminal.{Terminal}
use Rattle.hw_grammar.specs.Sort.{same_sort, has_sort, has}
use Rattle.hw_grammar.specs.Grammar.{One, After, Then, Either, Mapped, Many, Separated}
use Rattle.hw_grammar.proofs.Sorts.{same_sort-true}
use Rattle.hw_grammar.proofs.Exact.{start, Stops, IsLang, Reads, clash, no_start, reads_as, mapped-law, then-law, many-law, One-law}
use Rattle.hw_grammar.proofs.Upto.{Upto}

-- ---- one language within another

abbrev pub Within : {A : Type 0} → (List Terminal → A → List Terminal → Type 0) → (List Terminal → A → List Terminal → Type 0) → Type 0
Within {A = A} P Q = (w : List Terminal) (a : A) (m : List Terminal) → P w a m → Q w a m

pub within-mapped : {A B : Type 0} (P Q : List Terminal → A → List Terminal → Type 0) (f : A → B) → Within P Q → Within (Mapped f P) (Mapped f Q)
within-mapped P Q f h w a m l = (l.0, h w l.0 m l.1, l.2)

pub within-then : {A B : Type 0} (P Q : List Terminal → A → List Terminal → Type 0) (R S : List Terminal → B → List Terminal → Type 0) → Within P Q → Within R S → Within (Then P R) (Then Q S)
within-then P Q R S h k w a m l = (l.0, h w a.0 l.0 l.1, k l.0 a.1 m l.2)

pub within-either : {A : Type 0} (P Q R S : List Terminal → A → List Terminal → Type 0) → Within P Q → Within R S → Within (Either P R) (Either Q S)
within-either P Q R S h k w a m (inl l) = inl (h w a m l)
within-either P Q R S h k w a m (inr l) = inr (k w a m l)

pub within-many : {A : Type 0} (P Q : List Terminal → A → List Terminal → Type 0) → Within P Q → Within (Many P) (Many Q)
within-many P Q h w [] m l = l
within-many P Q h w (x ∷ xs) m l = (l.0, h w x l.0 l.1, within-many P Q h l.0 xs m l.2)

pub within-self : {A : Type 0} (P : List Terminal → A → List Terminal → Type 0) → Within P P
within-self P w a m l = l

pub within-after : {A : Type 0} (s : Sort) (P Q : List Terminal → A → List Terminal → Type 0) → Within P Q → Within (After s P) (After s Q)
within-after {A = A} s P Q h = within-mapped (Then (One s) P) (Then (One s) Q) (λ (x : Terminal × A). x.1) (within-then (One s) (One s) P Q (within-self (One s)) h)

pub within-separated : {A : Type 0} (s : Sort) (P Q : List Terminal → A → List Terminal → Type 0) → Within P Q → Within (Separated s P) (Separated s Q)
within-separated {A = A} s P Q h = within-mapped (Then P (Many (After s P))) (Then Q (Many (After s Q))) (λ (x : A × List A). x.0 ∷ x.1) (within-then P Q (Many (After s P)) (Many (After s Q)) h (within-many (After s P) (After s Q) (within-after s P Q h)))

-- ---- what languages by depth come to

pub record Limit {A : Type 0} (P : ℕ → List Terminal → A → List Terminal → Type 0) (L : List Terminal → A → List Terminal → Type 0) : Type 0 where
  pub up : (d : ℕ) → Within (P d) L
  pub down : (w : List Terminal) (a : A) (m : List Terminal) → L w a m → (d : ℕ) × P d w a m
  pub grows : (d : ℕ) → Within (P d) (P (suc d))

grown : {A : Type 0} (P : ℕ → List Terminal → A → List Terminal → Type 0) → ((d : ℕ) → Within (P d) (P (suc d))) → (d k : ℕ) → Within (P d) (P (d + k))
grown P g d zero w a m l = rw add-zero l
grown P g d (suc k) w a m l = rw add-suc (g (d + k) w a m (grown P g d k w a m l))

pub limit-const : {A : Type 0} (P : List Terminal → A → List Terminal → Type 0) → Limit (λ _. P) P
limit-const P = record { up = λ d w a m l. l; down = λ w a m l. (0, l); grows = λ d w a m l. l }

pub limit-mapped : {A B : Type 0} (P : ℕ → List Terminal → A → List Terminal → Type 0) (L : List Terminal → A → List Terminal → Type 0) (f : A → B) → Limit P L → Limit (λ d. Mapped f (P d)) (Mapped f L)
limit-mapped P L f x = record {
  up = λ d w a m l. (l.0, x.up d w l.0 m l.1, l.2);
  down = λ w a m l. let v = x.down w l.0 m l.1 in (v.0, (l.0, v.1, l.2));
  grows = λ d w a m l. (l.0, x.grows d w l.0 m l.1, l.2);
}

pub limit-then : {A B : Type 0} (P : ℕ → List Terminal → A → List Terminal → Type 0) (L : List Terminal → A → List Terminal → Type 0) (Q : ℕ → List Terminal → B → List Terminal → Type 0) (M : List Terminal → B → List Terminal → Type 0) → Limit P L → Limit Q M → Limit (λ d. Then (P d) (Q d)) (Then L M)
limit-then P L Q M x y = record {
  up = λ d w a m l. (l.0, x.up d w a.0 l.0 l.1, y.up d l.0 a.1 m l.2);
  down = λ w a m l.
      let u = x.down w a.0 l.0 l.1 in
      let v = y.down l.0 a.1 m l.2 in
      (u.0 + v.0, (l.0, grown P x.grows u.0 v.0 w a.0 l.0 u.1, subst (λ (k : ℕ). Q k l.0 a.1 m) (add_comm v.0 u.0) (grown Q y.grows v.0 u.0 l.0 a.1 m v.1)));
  grows = λ d w a m l. (l.0, x.grows d w a.0 l.0 l.1, y.grows d l.0 a.1 m l.2);
}

pub limit-either : {A : Type 0} (P : ℕ → List Terminal → A → List Terminal → Type 0) (L : List Terminal → A → List Terminal → Type 0) (Q : ℕ → List Terminal → A → List Terminal → Type 0) (M : List Terminal → A → List Terminal → Type 0) → Limit P L → Limit Q M → Limit (λ d. Either (P d) (Q d)) (Either L M)
limit-either P L Q M x y = record {
  up = λ d. within-either (P d) L (Q d) M (x.up d) (y.up d);
  down = λ w a m l. elim l as (λ _. (d : ℕ) × Either (P d) (Q d) w a m) [ inl l ↦ let v = x.down w a m l in (v.0, inl v.1) | inr l ↦ let v = y.down w a m l in (v.0, inr v.1) ];
  grows = λ d. within-either (P d) (P (suc d)) (Q d) (Q (suc d)) (x.grows d) (y.grows d);
}

many_down : {A : Type 0} (P : ℕ → List Terminal → A → List Terminal → Type 0) (L : List Terminal → A → List Terminal → Type 0) → Limit P L → (w : List Terminal) (xs : List A) (m : List Terminal) → Many L w xs m → (d : ℕ) × Many (P d) w xs m
many_down P L x w [] m l = (0, l)
many_down P L x w (y ∷ ys) m l =
    let u = x.down w y l.0 l.1 in
    let v = many_down P L x l.0 ys m l.2 in
    (u.0 + v.0, (l.0, grown P x.grows u.0 v.0 w y l.0 u.1, subst (λ (k : ℕ). Many (P k) l.0 ys m) (add_comm v.0 u.0) (grown (λ d. Many (P d)) (λ d. within-many (P d) (P (suc d)) (x.grows d)) v.0 u.0 l.0 ys m v.1)))

pub limit-many : {A : Type 0} (P : ℕ → List Terminal → A → List Terminal → Type 0) (L : List Terminal → A → List Terminal → Type 0) → Limit P L → Limit (λ d. Many (P d)) (Many L)
limit-many P L x = record {
  up = λ d. within-many (P d) L (x.up d);
  down = many_down P L x;
  grows = λ d. within-many (P d) (P (suc d)) (x.grows d);
}

pub limit-after : {A : Type 0} (s : Sort) (P : ℕ → List Terminal → A → List Terminal → Type 0) (L : List Terminal → A → List Terminal → Type 0) → Limit P L → Limit (λ d. After s (P d)) (After s L)
limit-after {A = A} s P L x = limit-mapped (λ d. Then (One s) (P d)) (Then (One s) L) (λ (x : Terminal × A). x.1) (limit-then (λ _. One s) (One s) P L (limit-const (One s)) x)

pub limit-separated : {A : Type 0} (s : Sort) (P : ℕ → List Terminal → A → List Terminal → Type 0) (L : List Terminal → A → List Terminal → Type 0) → Limit P L → Limit (λ d. Separated s (P d)) (Separated s L)
limit-separated {A = A} s P L x = limit-mapped (λ d. Then (P d) (Many (After s (P d)))) (Then L (Many (After s L))) (λ (x : A × List A). x.0 ∷ x.1) (limit-then P L (λ d. Many (After s (P d))) (Many (After s L)) x (limit-many (λ d. After s (P d)) (After s L) (limit-after s P L x)))

-- ---- sets

abbrev pub inside : List Sort → List Sort → Bool
inside [] e = true
inside (x ∷ d) e = cond (has_sort x e) (inside d e) false

has_sort_inside : (d e : List Sort) (s : Sort) → inside d e ≡ true → has_sort s e ≡ false → has_sort s d ≡ false
has_sort_inside [] e s h n = refl
has_sort_inside (x ∷ d) e s h n =
    let split : (v : Bool) → has_sort x e ≡ v → cond v (inside d e) false ≡ true → (same_sort s x || has_sort s d) ≡ false = λ v. elim v as (λ v. has_sort x e ≡ v → cond v (inside d e) false ≡ true → (same_sort s x || has_sort s d) ≡ false) [
      | true ↦ λ q i.
          let inner : (u : Bool) → same_sort s x ≡ u → (u || has_sort s d) ≡ false = λ u. elim u as (λ u. same_sort s x ≡ u → (u || has_sort s d) ≡ false) [
            | true ↦ λ j. absurd (clash q (subst (λ (y : Sort). has_sort y e ≡ false) (same_sort-true s x j) n))
            | false ↦ λ j. has_sort_inside d e s i n
          ] in
          inner (same_sort s x) refl
      | false ↦ λ q i. absurd (false≢true i)
    ] in
    split (has_sort x e) refl h

stops_inside : (d e : List Sort) (m : List Terminal) → inside d e ≡ true → Stops e m → Stops d m
stops_inside d e [] h n = refl
stops_inside d e (t ∷ m) h n = has_sort_inside d e t.sort h n

reads_wider : {A : Type 0} (L : List Terminal → A → List Terminal → Type 0) (d e : List Sort) (ts : List Terminal) (r : Result (A × List Terminal) (List Terminal)) → inside d e ≡ true → Reads L d ts r → Reads L e ts r
reads_wider L d e ts (Ok x) h r = record { spelled = r.spelled; only = λ w bad b m l st sh le. r.only w bad b m l (stops_inside d e m h st) sh le }
reads_wider L d e ts (Err bad) h r = record { none = λ w b m l st sh. r.none w b m l (stops_inside d e m h st) sh; begun = r.begun }

pub upto-wider : {A : Type 0} {L : List Terminal → A → List Terminal → Type 0} {p : List Terminal → Result (A × List Terminal) (List Terminal)} {f : List Sort} {n : Bool} {d : List Sort} (bound : ℕ) (e : List Sort) → inside d e ≡ true → Upto bound L p f n d → Upto bound L p f n e
upto-wider {L = L} {p = p} {d = d} bound e h x = record { law = x.law; reads = λ ts le. reads_wider L d e ts (p ts) h (x.reads ts le) }

pub upto-same : {A : Type 0} {L K : List Terminal → A → List Terminal → Type 0} {p : List Terminal → Result (A × List Terminal) (List Terminal)} {f : List Sort} {n : Bool} {e : List Sort} (bound : ℕ) → IsLang K f n → Within L K → Within K L → Upto bound L p f n e → Upto bound K p f n e
upto-same {p = p} {e = e} bound law up down x = record { law = law; reads = λ ts le. reads_as up down e ts (p ts) (x.reads ts le) }

-- where there is nothing, something is missing
pub upto-nothing : {A : Type 0} {L : List Terminal → A → List Terminal → Type 0} {f : List Sort} (e : List Sort) → IsLang L f false → Upto 0 L (λ ts. Err ts) f false e
upto-nothing {A = A} {L = L} {f = f} e law = record {
  law = law;
  reads = λ ts. elim ts as (λ ts. length ts ≤ 0 → Reads L e ts (Err ts)) [
    | [] ↦ λ le. record { none = λ w b m l st sh. no_start law [] w [] b m refl l sh; begun = λ m. let v = law.sample m in (v.0, v.1, v.2, start) }
    | t ∷ ts ↦ λ le. absurd (omega arith)
  ];
}

-- ---- laws

has_inside : (f g : List Sort) (w : List Terminal) → inside f g ≡ true → has f w ≡ true → has g w ≡ true
has_inside f g w i h =
    let go : (v : Bool) → has g w ≡ v → has g w ≡ true = λ v. elim v as (λ v. has g w ≡ v → has g w ≡ true) [ true ↦ λ e. e | false ↦ λ e. absurd (clash h (stops_inside f g w i e)) ] in
    go (has g w) refl

pub law-wider : {A : Type 0} {L : List Terminal → A → List Terminal → Type 0} {f : List Sort} {n : Bool} (g : List Sort) → inside f g ≡ true → IsLang L f n → IsLang L g n
law-wider {f = f} g i x = record {
  starts = λ w a m l. elim (x.starts w a m l) [ inl h ↦ inl (has_inside f g w i h) | inr h ↦ inr h ];
  moves = x.moves;
  eats = x.eats;
  sample = x.sample;
}

pub separated-law : {A : Type 0} {P : List Terminal → A → List Terminal → Type 0} {f : List Sort} (s : Sort) → IsLang P f false → IsLang (Separated s P) f false
separated-law {A = A} s p = mapped-law (λ (x : A × List A). x.0 ∷ x.1) (then-law p (many-law (mapped-law (λ (x : Terminal × A). x.1) (then-law (One-law s) p))))

pub after-law : {A : Type 0} {P : List Terminal → A → List Terminal → Type 0} {f : List Sort} {n : Bool} (s : Sort) → IsLang P f n → IsLang (After s P) (s ∷ []) false
after-law {A = A} s p = mapped-law (λ (x : Terminal × A). x.1) (then-law (One-law s) p)

pub limit-law : {A : Type 0} {P : ℕ → List Terminal → A → List Terminal → Type 0} {L : List Terminal → A → List Terminal → Type 0} {f : List Sort} {n : Bool} → Limit P L → ((d : ℕ) → IsLang (P d) f n) → IsLang L f n
limit-law x law = record {
  starts = λ w a m l. let v = x.down w a m l in (law v.0).starts w a m v.1;
  moves = λ w a m l. let v = x.down w a m l in let u = (law v.0).moves w a m v.1 in (u.0, u.1, λ r. x.up v.0 (u.0 ++ r) a r (u.2 r));
  eats = λ w a m l. let v = x.down w a m l in (law v.0).eats w a m v.1;
  sample = λ m. let v = (law 0).sample m in (v.0, v.1, x.up 0 v.0 v.1 m v.2);
}
