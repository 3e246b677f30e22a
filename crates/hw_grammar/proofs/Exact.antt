-- A reader is exact for a language.
use Rattle.std.proofs.Common.{◌≡◌, ℕ, zero, suc, ◌≤◌, ◌<◌, Bool, true, false, ◌||◌, ◌&&◌, cond, List, [], ◌∷◌, ◌++◌, length, Option, Some, None, Result, Ok, Err, ◌⊎◌, inl, inr, refl, sym, ap, subst, ◌∙◌, append_assoc, arith}
use Rattle.std.proofs.lemmas.Bool.{false≢true}
use Rattle.std.proofs.lemmas.List.{length-append}
use Rattle.hw_grammar.specs.declared.sort.Sort.{Sort}
use Rattle.hw_grammar.specs.declared.terminal.Terminal.{Terminal}
use Rattle.hw_grammar.specs.Sort.{same_sort, has_sort, has}
use Rattle.hw_grammar.specs.Grammar.{One, Empty, Then, Either, Mapped, Optional, Many, ListTail, Separated, Listed}
use Rattle.hw_grammar.proofs.Sorts.{same_sort-true, same_sort-refl, terminal_of}
use Rattle.hw_grammar.specs.Reading.{◌>>=◌, one, empty, then, either, mapped, optional, times, many, list_tail_times, list_tail, after, separated, listed}

abbrev pub SameHead : List Terminal → List Terminal → Type 0
SameHead [] [] = Unit {0}
SameHead [] (y ∷ b) = ⊥
SameHead (x ∷ a) [] = ⊥
SameHead (x ∷ a) (y ∷ b) = x ≡ y

-- w has the tokens of ts up to and including the first of bad, the end of ts
pub data Shares : List Terminal → List Terminal → List Terminal → Type 0 where
  here : {w bad : List Terminal} → SameHead w bad → Shares w bad bad
  there : {t : Terminal} {w ts bad : List Terminal} → Shares w ts bad → Shares (t ∷ w) (t ∷ ts) bad

-- w has the tokens of ts before bad, the end of ts
pub data Begins : List Terminal → List Terminal → List Terminal → Type 0 where
  start : {w bad : List Terminal} → Begins w bad bad
  next : {t : Terminal} {w ts bad : List Terminal} → Begins w ts bad → Begins (t ∷ w) (t ∷ ts) bad

abbrev pub Stops : List Sort → List Terminal → Type 0
Stops set ts = has set ts ≡ false

pub record IsLang {A : Type 0} (L : List Terminal → A → List Terminal → Type 0) (first : List Sort) (null : Bool) : Type 0 where
  pub starts : (w : List Terminal) (a : A) (m : List Terminal) → L w a m → (has first w ≡ true) ⊎ ((null ≡ true) × (w ≡ m))
  pub moves : (w : List Terminal) (a : A) (m : List Terminal) → L w a m → (front : List Terminal) × (w ≡ front ++ m) × ((n : List Terminal) → L (front ++ n) a n)
  pub eats : (w : List Terminal) (a : A) (m : List Terminal) → L w a m → (null ≡ true) ⊎ (length m < length w)
  pub sample : (m : List Terminal) → (w : List Terminal) × (a : A) × L w a m

pub record Read {A : Type 0} (L : List Terminal → A → List Terminal → Type 0) (ext : List Sort) (ts : List Terminal) (a : A) (mid : List Terminal) : Type 0 where
  pub spelled : L ts a mid
  pub only : (w bad : List Terminal) (b : A) (m : List Terminal) → L w b m → Stops ext m → Shares w ts bad → length bad ≤ length mid → (b ≡ a) × Shares m mid bad

pub record Stuck {A : Type 0} (L : List Terminal → A → List Terminal → Type 0) (ext : List Sort) (ts bad : List Terminal) : Type 0 where
  pub none : (w : List Terminal) (b : A) (m : List Terminal) → L w b m → Stops ext m → Shares w ts bad → ⊥
  pub begun : (m : List Terminal) → (w : List Terminal) × (b : A) × L w b m × Begins w ts bad

abbrev pub Reads : {A : Type 0} → (List Terminal → A → List Terminal → Type 0) → List Sort → List Terminal → Result (A × List Terminal) (List Terminal) → Type 0
Reads L ext ts (Ok x) = Read L ext ts x.0 x.1
Reads L ext ts (Err bad) = Stuck L ext ts bad

-- first: the sorts that L begins with; ext: those that may go on after a value
pub record Exact {A : Type 0} (L : List Terminal → A → List Terminal → Type 0) (p : List Terminal → Result (A × List Terminal) (List Terminal)) (first : List Sort) (null : Bool) (ext : List Sort) : Type 0 where
  pub law : IsLang L first null
  pub reads : (ts : List Terminal) → Reads L ext ts (p ts)

-- ---- tools

pub Shares-has : (set : List Sort) (w ts bad : List Terminal) → Shares w ts bad → has set w ≡ has set ts
Shares-has set [] [] _ s = refl
Shares-has set [] (y ∷ b) _ (here h) = absurd h
Shares-has set (x ∷ a) [] _ (here h) = absurd h
Shares-has set (x ∷ a) (y ∷ b) _ (here h) = ap (λ (t : Terminal). has_sort t.sort set) h
Shares-has set (x ∷ a) (y ∷ b) _ (there s) = refl

pub Shares-tail : {t u : Terminal} {w ts bad : List Terminal} → Shares (t ∷ w) (u ∷ ts) bad → length bad ≤ length ts → (t ≡ u) × Shares w ts bad
Shares-tail (here h) le = absurd (omega arith)
Shares-tail (there s) le = (refl, s)

pub Begins-front : (front w ts bad : List Terminal) → Begins w ts bad → Begins (front ++ w) (front ++ ts) bad
Begins-front [] w ts bad b = b
Begins-front (t ∷ front) w ts bad b = next (Begins-front front w ts bad b)

pub Begins-length : {w ts bad : List Terminal} → Begins w ts bad → length bad ≤ length ts
Begins-length start = omega arith
Begins-length (next b) = let h = Begins-length b in omega arith

has-append : (a b : List Sort) (ts : List Terminal) → has (a ++ b) ts ≡ (has a ts || has b ts)
has-append a b [] = refl
has-append [] b (t ∷ ts) = refl
has-append (x ∷ a) b (t ∷ ts) = elim (same_sort t.sort x) as (λ v. (v || has_sort t.sort (a ++ b)) ≡ ((v || has_sort t.sort a) || has_sort t.sort b)) [ true ↦ refl | false ↦ has-append a b (t ∷ ts) ]

abbrev pub apart : List Sort → List Sort → Bool
apart [] e = true
apart (x ∷ f) e = cond (has_sort x e) false (apart f e)

or_true : (a b : Bool) → (a || b) ≡ true → (a ≡ true) ⊎ (b ≡ true)
or_true true b h = inl refl
or_true false b h = inr h

or_false : (a b : Bool) → (a || b) ≡ false → (a ≡ false) × (b ≡ false)
or_false true b h = absurd cc
or_false false b h = (refl, h)

pub clash : {b : Bool} → b ≡ true → b ≡ false → ⊥
clash p q = false≢true (sym q ∙ p)

has_sort_apart : (f e : List Sort) (s : Sort) → apart f e ≡ true → has_sort s f ≡ true → has_sort s e ≡ false
has_sort_apart [] e s a h = absurd cc
has_sort_apart (x ∷ f) e s a h =
    let split : (m : Bool) → has_sort x e ≡ m → cond m false (apart f e) ≡ true → has_sort s e ≡ false = λ m. elim m as (λ v. has_sort x e ≡ v → cond v false (apart f e) ≡ true → has_sort s e ≡ false) [
      | true ↦ λ q a'. absurd (false≢true a')
      | false ↦ λ q a'. elim (or_true (same_sort s x) (has_sort s f) h) [ inl i ↦ rw (same_sort-true s x i) q | inr i ↦ has_sort_apart f e s a' i ]
    ] in
    split (has_sort x e) refl a

pub has_apart : (f e : List Sort) (w : List Terminal) → apart f e ≡ true → has f w ≡ true → has e w ≡ false
has_apart f e [] a h = refl
has_apart f e (t ∷ w) a h = has_sort_apart f e t.sort a h

pub Stops-left : (a b : List Sort) (m : List Terminal) → Stops (a ++ b) m → Stops a m
Stops-left a b m h = (or_false (has a m) (has b m) (sym (has-append a b m) ∙ h)).0

Stops-right : (a b : List Sort) (m : List Terminal) → Stops (a ++ b) m → Stops b m
Stops-right a b m h = (or_false (has a m) (has b m) (sym (has-append a b m) ∙ h)).1

has-left : (a b : List Sort) (m : List Terminal) → has a m ≡ true → has (a ++ b) m ≡ true
has-left a b m h = has-append a b m ∙ ap (λ (v : Bool). v || has b m) h

has-right : (a b : List Sort) (m : List Terminal) → has b m ≡ true → has (a ++ b) m ≡ true
has-right a b m h = has-append a b m ∙ ap (λ (v : Bool). has a m || v) h ∙ (elim (has a m) as (λ v. (v || true) ≡ true) [ true ↦ refl | false ↦ refl ])

-- ---- one token

pub has_sort_one : (s t : Sort) → t ≡ s → has_sort t (s ∷ []) ≡ true
has_sort_one s t e = rw e (ap (λ (v : Bool). v || false) (same_sort-refl s))

pub One-law : (s : Sort) → IsLang (One s) (s ∷ []) false
One-law s = record {
  starts = λ w a m l. inl (rw l.0 (has_sort_one s a.sort l.1));
  moves = λ w a m l. (a ∷ [], l.0, λ n. (refl, l.1));
  eats = λ w a m l. inr (rw l.0 (omega arith));
  sample = λ m. (terminal_of s ∷ m, terminal_of s, (refl, refl));
}

-- nothing that begins otherwise than ts shares its first token
pub no_start : {A : Type 0} {L : List Terminal → A → List Terminal → Type 0} {first : List Sort} → IsLang L first false → (ts w bad : List Terminal) (b : A) (m : List Terminal) → has first ts ≡ false → L w b m → Shares w ts bad → ⊥
no_start {L = L} {first = first} law ts w bad b m miss l sh = elim (law.starts w b m l) [ inl h ↦ clash h (Shares-has first w ts bad sh ∙ miss) | inr h ↦ false≢true h.0 ]

one_reads : (s : Sort) (t : Terminal) (rest : List Terminal) (v : Bool) → same_sort t.sort s ≡ v → Reads (One s) [] (t ∷ rest) (cond v (Ok (t, rest)) (Err (t ∷ rest)))
one_reads s t rest true e = record {
  spelled = (refl, same_sort-true t.sort s e);
  only = λ w bad b m l st sh le. Shares-tail (subst (λ (x : List Terminal). Shares x (t ∷ rest) bad) l.0 sh) le;
}
one_reads s t rest false e = record {
  none = λ w b m l st sh. no_start (One-law s) (t ∷ rest) w (t ∷ rest) b m (ap (λ (v : Bool). v || false) e) l sh;
  begun = λ m. (terminal_of s ∷ m, terminal_of s, (refl, refl), start);
}

pub one-exact : (s : Sort) → Exact (One s) (one s) (s ∷ []) false []
one-exact s = record {
  law = One-law s;
  reads = λ ts. elim ts as (λ ts. Reads (One s) [] ts (one s ts)) [
    | [] ↦ record {
      none = λ w b m l st sh. no_start (One-law s) [] w [] b m refl l sh;
      begun = λ m. (terminal_of s ∷ m, terminal_of s, (refl, refl), start);
    }
    | t ∷ rest ↦ one_reads s t rest (same_sort t.sort s) refl
  ];
}

-- ---- nothing

pub empty-exact : {A : Type 0} (v : A) → Exact (Empty v) (empty v) [] true []
empty-exact v = record {
  law = record {
    starts = λ w a m l. inr (refl, l.1);
    moves = λ w a m l. ([], l.1, λ n. (l.0, refl));
    eats = λ w a m l. inl refl;
    sample = λ m. (m, v, (refl, refl));
  };
  reads = λ ts. record {
    spelled = (refl, refl);
    only = λ w bad b m l st sh le. (l.0, subst (λ (x : List Terminal). Shares x ts bad) l.1 sh);
  };
}

-- ---- one after the other

abbrev pub then_first : Bool → List Sort → List Sort → List Sort
then_first true f g = f ++ g
then_first false f g = f

abbrev pub then_ext : Bool → List Sort → List Sort → List Sort
then_ext true d e = e ++ d
then_ext false d e = e

first_left : (n : Bool) (f g : List Sort) (w : List Terminal) → has f w ≡ true → has (then_first n f g) w ≡ true
first_left true f g w h = has-left f g w h
first_left false f g w h = h

pub ext_right : (n : Bool) (d e : List Sort) (m : List Terminal) → Stops (then_ext n d e) m → Stops e m
ext_right true d e m h = Stops-left e d m h
ext_right false d e m h = h

pub ext_left : (n : Bool) (d e : List Sort) (m : List Terminal) → n ≡ true → Stops (then_ext n d e) m → Stops d m
ext_left true d e m h st = Stops-right e d m st
ext_left false d e m h st = absurd (false≢true h)

both_true : (a b : Bool) → a ≡ true → b ≡ true → (a && b) ≡ true
both_true a b p q = rw (p, q) refl

pub then_starts : (f : List Sort) (n : Bool) (g : List Sort) (k : Bool) (w mid m : List Terminal) → (has f w ≡ true) ⊎ ((n ≡ true) × (w ≡ mid)) → (has g mid ≡ true) ⊎ ((k ≡ true) × (mid ≡ m)) → (has (then_first n f g) w ≡ true) ⊎ (((n && k) ≡ true) × (w ≡ m))
then_starts f n g k w mid m (inl h) y = inl (first_left n f g w h)
then_starts f n g k w mid m (inr h) (inl i) = inl (rw (h.0, h.1) (has-right f g mid i))
then_starts f n g k w mid m (inr h) (inr i) = inr (both_true n k h.0 i.0, h.1 ∙ i.1)

pub eats_both : (n k : Bool) (w mid m : List Terminal) → length mid ≤ length w → length m ≤ length mid → (n ≡ true) ⊎ (length mid < length w) → (k ≡ true) ⊎ (length m < length mid) → ((n && k) ≡ true) ⊎ (length m < length w)
eats_both n k w mid m a b (inl h) (inl i) = inl (both_true n k h i)
eats_both n k w mid m a b (inl h) (inr i) = inr (omega arith)
eats_both n k w mid m a b (inr h) y = inr (omega arith)

pub shorter : (w front m : List Terminal) → w ≡ front ++ m → length m ≤ length w
shorter w front m e = omega (arith, length-append front m, ap length e)

pub then-law : {A B : Type 0} {P : List Terminal → A → List Terminal → Type 0} {Q : List Terminal → B → List Terminal → Type 0} {f g : List Sort} {n k : Bool} → IsLang P f n → IsLang Q g k → IsLang (Then P Q) (then_first n f g) (n && k)
then-law {f = f} {g = g} {n = n} {k = k} p q = record {
  starts = λ w x m l. then_starts f n g k w l.0 m (p.starts w x.0 l.0 l.1) (q.starts l.0 x.1 m l.2);
  moves = λ w x m l.
      let a = p.moves w x.0 l.0 l.1 in
      let b = q.moves l.0 x.1 m l.2 in
      (a.0 ++ b.0, a.1 ∙ ap (λ (r : List Terminal). a.0 ++ r) b.1 ∙ sym (append_assoc a.0 b.0 m), λ r. (b.0 ++ r, rw append_assoc (a.2 (b.0 ++ r)), b.2 r));
  eats = λ w x m l.
      let a = p.moves w x.0 l.0 l.1 in
      let b = q.moves l.0 x.1 m l.2 in
      eats_both n k w l.0 m (shorter w a.0 l.0 a.1) (shorter l.0 b.0 m b.1) (p.eats w x.0 l.0 l.1) (q.eats l.0 x.1 m l.2);
  sample = λ m. let b = q.sample m in let a = p.sample b.0 in (a.0, (a.1, b.1), (b.0, a.2, b.2));
}

pub pair_is : {A B : Type 0} (x : A × B) (a : A) (b : B) → x.0 ≡ a → x.1 ≡ b → x ≡ (a, b)
pair_is x a b p q = ap (λ (u : _). (u, x.1)) p ∙ ap (λ (v : _). (a, v)) q

module _ {A B : Type 0} {P : List Terminal → A → List Terminal → Type 0} {Q : List Terminal → B → List Terminal → Type 0} {f g : List Sort} {n k : Bool} (d e : List Sort) (p : IsLang P f n) (q : IsLang Q g k) (side : apart g d ≡ true) (ts : List Terminal) where
  stop_between : (mid m : List Terminal) (b : B) → Q mid b m → Stops (then_ext k d e) m → Stops d mid
  stop_between mid m b l st = elim (q.starts mid b m l) [ inl h ↦ has_apart g d mid side h | inr h ↦ rw h.1 (ext_left k d e m h.0 st) ]

  then_second : (x : A × List Terminal) → Read P d ts x.0 x.1 → (s : Result (B × List Terminal) (List Terminal)) → Reads Q e x.1 s → Reads (Then P Q) (then_ext k d e) ts (s >>= λ y. Ok ((x.0, y.0), y.1))
  then_second x r (Ok y) s = record {
    spelled = (x.1, r.spelled, s.spelled);
    only = λ w bad b m l st sh le.
        let mv = q.moves x.1 y.0 y.1 s.spelled in
        let one = r.only w bad b.0 l.0 l.1 (stop_between l.0 m b.1 l.2 st) sh (omega (arith, shorter x.1 mv.0 y.1 mv.1)) in
        let two = s.only l.0 bad b.1 m l.2 (ext_right k d e m st) one.1 le in
        (pair_is b x.0 y.0 one.0 two.0, two.1);
  }
  then_second x r (Err bad) s = record {
    none = λ w b m l st sh.
        let one = r.only w bad b.0 l.0 l.1 (stop_between l.0 m b.1 l.2 st) sh (Begins-length (s.begun []).3) in
        s.none l.0 b.1 m l.2 (ext_right k d e m st) one.1;
    begun = λ m.
        let u = s.begun m in
        let mv = p.moves ts x.0 x.1 r.spelled in
        (mv.0 ++ u.0, (x.0, u.1), (u.0, mv.2 u.0, u.2), subst (λ (v : List Terminal). Begins (mv.0 ++ u.0) v bad) (sym mv.1) (Begins-front mv.0 u.0 x.1 bad u.3));
  }

  pub then_reads : (r : Result (A × List Terminal) (List Terminal)) (h : List Terminal → Result (B × List Terminal) (List Terminal)) → Reads P d ts r → ((x : A × List Terminal) → r ≡ Ok x → Reads Q e x.1 (h x.1)) → Reads (Then P Q) (then_ext k d e) ts (r >>= λ x. (h x.1 >>= λ y. Ok ((x.0, y.0), y.1)))
  then_reads (Ok x) h r s = then_second x r (h x.1) (s x refl)
  then_reads (Err bad) h r s = record {
    none = λ w b m l st sh. r.none w b.0 l.0 l.1 (stop_between l.0 m b.1 l.2 st) sh;
    begun = λ m. let v = q.sample m in let u = r.begun v.0 in (u.0, (u.1, v.1), (v.0, u.2, v.2), u.3);
  }

pub then-exact : {A B : Type 0} {P : List Terminal → A → List Terminal → Type 0} {Q : List Terminal → B → List Terminal → Type 0} {p : List Terminal → Result (A × List Terminal) (List Terminal)} {q : List Terminal → Result (B × List Terminal) (List Terminal)} {f g d e : List Sort} {n k : Bool} → Exact P p f n d → Exact Q q g k e → apart g d ≡ true → Exact (Then P Q) (then p q) (then_first n f g) (n && k) (then_ext k d e)
then-exact {p = p} {q = q} {d = d} {e = e} a b side = record {
  law = then-law a.law b.law;
  reads = λ ts. then_reads d e a.law b.law side ts (p ts) q (a.reads ts) (λ x _. b.reads x.1);
}

-- ---- a value seen by a function

pub mapped_reads : {A B : Type 0} (P : List Terminal → A → List Terminal → Type 0) (f : A → B) (e : List Sort) (ts : List Terminal) (r : Result (A × List Terminal) (List Terminal)) → Reads P e ts r → Reads (Mapped f P) e ts (r >>= λ x. Ok (f x.0, x.1))
mapped_reads P f e ts (Ok y) d = record {
  spelled = (y.0, d.spelled, refl);
  only = λ w bad b m l st sh le. let v = d.only w bad l.0 m l.1 st sh le in (l.2 ∙ ap f v.0, v.1);
}
mapped_reads P f e ts (Err bad) d = record {
  none = λ w b m l st sh. d.none w l.0 m l.1 st sh;
  begun = λ m. let v = d.begun m in (v.0, f v.1, (v.1, v.2, refl), v.3);
}

pub mapped-law : {A B : Type 0} {P : List Terminal → A → List Terminal → Type 0} {g : List Sort} {n : Bool} (f : A → B) → IsLang P g n → IsLang (Mapped f P) g n
mapped-law f p = record {
  starts = λ w b m l. p.starts w l.0 m l.1;
  moves = λ w b m l. let v = p.moves w l.0 m l.1 in (v.0, v.1, λ r. (l.0, v.2 r, l.2));
  eats = λ w b m l. p.eats w l.0 m l.1;
  sample = λ m. let v = p.sample m in (v.0, f v.1, (v.1, v.2, refl));
}

pub mapped-exact : {A B : Type 0} {P : List Terminal → A → List Terminal → Type 0} {p : List Terminal → Result (A × List Terminal) (List Terminal)} {g : List Sort} {n : Bool} {e : List Sort} (f : A → B) → Exact P p g n e → Exact (Mapped f P) (mapped f p) g n e
mapped-exact {P = P} {p = p} {e = e} f x = record { law = mapped-law f x.law; reads = λ ts. mapped_reads P f e ts (p ts) (x.reads ts) }

-- ---- a part of a language, told by the first token

-- where the first token tells that only L is left of K
pub reads_within : {A : Type 0} {L K : List Terminal → A → List Terminal → Type 0} (set d e : List Sort) (v : Bool) (ts : List Terminal) (r : Result (A × List Terminal) (List Terminal))
    → ((w : List Terminal) (a : A) (m : List Terminal) → L w a m → K w a m)
    → ((w : List Terminal) (a : A) (m : List Terminal) → K w a m → Stops e m → has set w ≡ v → L w a m × Stops d m)
    → has set ts ≡ v → Reads L d ts r → Reads K e ts r
reads_within set d e v ts (Ok x) up down h d' = record {
  spelled = up ts x.0 x.1 d'.spelled;
  only = λ w bad b m l st sh le. let u = down w b m l st (Shares-has set w ts bad sh ∙ h) in d'.only w bad b m u.0 u.1 sh le;
}
reads_within set d e v ts (Err bad) up down h d' = record {
  none = λ w b m l st sh. let u = down w b m l st (Shares-has set w ts bad sh ∙ h) in d'.none w b m u.0 u.1 sh;
  begun = λ m. let u = d'.begun m in (u.0, u.1, up u.0 u.1 m u.2, u.3);
}

abbrev pub either_ext : Bool → List Sort → List Sort → List Sort → List Sort
either_ext true f d e = f ++ (d ++ e)
either_ext false f d e = d ++ e

either_parts : (k : Bool) (f d e : List Sort) (m : List Terminal) → Stops (either_ext k f d e) m → Stops d m × Stops e m
either_parts true f d e m h = let r = Stops-right f (d ++ e) m h in (Stops-left d e m r, Stops-right d e m r)
either_parts false f d e m h = (Stops-left d e m h, Stops-right d e m h)

either_first : (k : Bool) (f d e : List Sort) (m : List Terminal) → k ≡ true → Stops (either_ext k f d e) m → Stops f m
either_first true f d e m t h = Stops-left f (d ++ e) m h
either_first false f d e m t h = absurd (false≢true t)

pub either_reads : {A : Type 0} {P Q : List Terminal → A → List Terminal → Type 0} {f g : List Sort} (d e : List Sort) {k : Bool} → IsLang P f false → IsLang Q g k → apart f g ≡ true → (ts : List Terminal) (r s : Result (A × List Terminal) (List Terminal)) → (has f ts ≡ true → Reads P d ts r) → (has f ts ≡ false → Reads Q e ts s) → Reads (Either P Q) (either_ext k f d e) ts (cond (has f ts) r s)
either_reads {A = A} {P = P} {Q = Q} {f = f} {g = g} d e {k = k} a b side ts r s first second =
    let ext = either_ext k f d e in
    let yes : has f ts ≡ true → Reads (Either P Q) ext ts r = λ h. reads_within f d ext true ts r (λ w x m l. inl l) (λ w x m l st i. elim l as (λ _. P w x m × Stops d m) [
      | inl l ↦ (l, (either_parts k f d e m st).0)
      | inr l ↦ elim (b.starts w x m l) [
        | inl j ↦ absurd (clash j (has_apart f g w side i))
        | inr j ↦ absurd (clash (subst (λ (v : List Terminal). has f v ≡ true) j.1 i) (either_first k f d e m j.0 st))
      ]
    ]) h (first h) in
    let other : has f ts ≡ false → Reads (Either P Q) ext ts s = λ h. reads_within f e ext false ts s (λ w x m l. inr l) (λ w x m l st i. elim l as (λ _. Q w x m × Stops e m) [
      | inl l ↦ elim (a.starts w x m l) [ inl j ↦ absurd (clash j i) | inr j ↦ absurd (false≢true j.0) ]
      | inr l ↦ (l, (either_parts k f d e m st).1)
    ]) h (second h) in
    let go : (v : Bool) → has f ts ≡ v → Reads (Either P Q) ext ts (cond v r s) = λ v. elim v as (λ v. has f ts ≡ v → Reads (Either P Q) ext ts (cond v r s)) [ true ↦ yes | false ↦ other ] in
    go (has f ts) refl

pub either-law : {A : Type 0} {P Q : List Terminal → A → List Terminal → Type 0} {f g : List Sort} {k : Bool} → IsLang P f false → IsLang Q g k → IsLang (Either P Q) (f ++ g) k
either-law {A = A} {P = P} {Q = Q} {f = f} {g = g} {k = k} a b = record {
  starts = λ w x m l. elim l as (λ _. (has (f ++ g) w ≡ true) ⊎ ((k ≡ true) × (w ≡ m))) [
    | inl l ↦ elim (a.starts w x m l) [ inl h ↦ inl (has-left f g w h) | inr h ↦ absurd (false≢true h.0) ]
    | inr l ↦ elim (b.starts w x m l) [ inl h ↦ inl (has-right f g w h) | inr h ↦ inr h ]
  ];
  moves = λ w x m l. elim l as (λ _. (front : List Terminal) × (w ≡ front ++ m) × ((n : List Terminal) → Either P Q (front ++ n) x n)) [
    | inl l ↦ let v = a.moves w x m l in (v.0, v.1, λ r. inl (v.2 r))
    | inr l ↦ let v = b.moves w x m l in (v.0, v.1, λ r. inr (v.2 r))
  ];
  eats = λ w x m l. elim l as (λ _. (k ≡ true) ⊎ (length m < length w)) [
    | inl l ↦ elim (a.eats w x m l) [ inl h ↦ absurd (false≢true h) | inr h ↦ inr h ]
    | inr l ↦ b.eats w x m l
  ];
  sample = λ m. let v = a.sample m in (v.0, v.1, inl v.2);
}

pub either-exact : {A : Type 0} {P Q : List Terminal → A → List Terminal → Type 0} {p q : List Terminal → Result (A × List Terminal) (List Terminal)} {f g d e : List Sort} {k : Bool} → Exact P p f false d → Exact Q q g k e → apart f g ≡ true → Exact (Either P Q) (either f p q) (f ++ g) k (either_ext k f d e)
either-exact {p = p} {q = q} {d = d} {e = e} a b side = record {
  law = either-law a.law b.law;
  reads = λ ts. either_reads d e a.law b.law side ts (p ts) (q ts) (λ _. a.reads ts) (λ _. b.reads ts);
}

pub optional-exact : {A : Type 0} {P : List Terminal → A → List Terminal → Type 0} {p : List Terminal → Result (A × List Terminal) (List Terminal)} {f d : List Sort} → Exact P p f false d → apart f [] ≡ true → Exact (Optional P) (optional f p) (f ++ []) true (f ++ (d ++ []))
optional-exact {A = A} a side = either-exact (mapped-exact Some a) (empty-exact {A = Option A} None) side

-- ---- any number

many_starts : {A : Type 0} (P : List Terminal → A → List Terminal → Type 0) (f : List Sort) → IsLang P f false → (w : List Terminal) (xs : List A) (m : List Terminal) → Many P w xs m → (has f w ≡ true) ⊎ ((true ≡ true) × (w ≡ m))
many_starts P f p w [] m l = inr (refl, l)
many_starts P f p w (x ∷ xs) m l = elim (p.starts w x l.0 l.1) [ inl h ↦ inl h | inr h ↦ absurd (false≢true h.0) ]

many_moves : {A : Type 0} (P : List Terminal → A → List Terminal → Type 0) (f : List Sort) → IsLang P f false → (w : List Terminal) (xs : List A) (m : List Terminal) → Many P w xs m → (front : List Terminal) × (w ≡ front ++ m) × ((n : List Terminal) → Many P (front ++ n) xs n)
many_moves P f p w [] m l = ([], l, λ n. refl)
many_moves P f p w (x ∷ xs) m l =
    let a = p.moves w x l.0 l.1 in
    let b = many_moves P f p l.0 xs m l.2 in
    (a.0 ++ b.0, a.1 ∙ ap (λ (r : List Terminal). a.0 ++ r) b.1 ∙ sym (append_assoc a.0 b.0 m), λ r. (b.0 ++ r, rw append_assoc (a.2 (b.0 ++ r)), b.2 r))

pub many-law : {A : Type 0} {P : List Terminal → A → List Terminal → Type 0} {f : List Sort} → IsLang P f false → IsLang (Many P) f true
many-law {P = P} {f = f} p = record {
  starts = many_starts P f p;
  moves = many_moves P f p;
  eats = λ w xs m l. inl refl;
  sample = λ m. (m, [], refl);
}

abbrev pub seen : {A C : Type 0} → (A → C) → Result (A × List Terminal) (List Terminal) → Result (C × List Terminal) (List Terminal)
seen f r = r >>= λ x. Ok (f x.0, x.1)

abbrev pub paired : {A B : Type 0} → A → Result (B × List Terminal) (List Terminal) → Result ((A × B) × List Terminal) (List Terminal)
paired a r = r >>= λ y. Ok ((a, y.0), y.1)

abbrev joined : {A B : Type 0} → Result (A × List Terminal) (List Terminal) → (List Terminal → Result (B × List Terminal) (List Terminal)) → Result ((A × B) × List Terminal) (List Terminal)
joined r h = r >>= λ x. paired x.0 (h x.1)

abbrev joined_by : {A B C : Type 0} → (A × B → C) → Result (A × List Terminal) (List Terminal) → (List Terminal → Result (B × List Terminal) (List Terminal)) → Result (C × List Terminal) (List Terminal)
joined_by f r h = r >>= λ x. (h x.1 >>= λ y. Ok (f (x.0, y.0), y.1))

regroup_second : {A B C : Type 0} (f : A × B → C) (a : A) (v : Result (B × List Terminal) (List Terminal)) → seen f (paired a v) ≡ seen (λ (y : B). f (a, y)) v
regroup_second f a (Ok y) = refl
regroup_second f a (Err bad) = refl

pub regroup : {A B C : Type 0} (f : A × B → C) (r : Result (A × List Terminal) (List Terminal)) (h : List Terminal → Result (B × List Terminal) (List Terminal)) → seen f (joined r h) ≡ joined_by f r h
regroup f (Ok x) h = regroup_second f x.0 (h x.1)
regroup f (Err bad) h = refl

pub stop_twice : (f e : List Sort) (m : List Terminal) → Stops (f ++ e) m → Stops ((f ++ e) ++ e) m
stop_twice f e m h = has-append (f ++ e) e m ∙ rw (h, Stops-right f e m h) refl

pub reads_as : {A : Type 0} {L K : List Terminal → A → List Terminal → Type 0} → ((w : List Terminal) (a : A) (m : List Terminal) → L w a m → K w a m) → ((w : List Terminal) (a : A) (m : List Terminal) → K w a m → L w a m) → (e : List Sort) (ts : List Terminal) (r : Result (A × List Terminal) (List Terminal)) → Reads L e ts r → Reads K e ts r
reads_as up down e ts (Ok x) d = record {
  spelled = up ts x.0 x.1 d.spelled;
  only = λ w bad b m l st sh le. d.only w bad b m (down w b m l) st sh le;
}
reads_as up down e ts (Err bad) d = record {
  none = λ w b m l st sh. d.none w b m (down w b m l) st sh;
  begun = λ m. let u = d.begun m in (u.0, u.1, up u.0 u.1 m u.2, u.3);
}

module _ {A : Type 0} {P : List Terminal → A → List Terminal → Type 0} {p : List Terminal → Result (A × List Terminal) (List Terminal)} {f e : List Sort} (a : Exact P p f false e) (side : apart f e ≡ true) where
  many_is : (w : List Terminal) (xs : List A) (m : List Terminal) → Many P w xs m → Stops (f ++ e) m → has f w ≡ true → Mapped (λ (z : A × List A). z.0 ∷ z.1) (Then P (Many P)) w xs m
  many_is w [] m l st h = absurd (clash (subst (λ (v : List Terminal). has f v ≡ true) l h) (Stops-left f e m st))
  many_is w (x ∷ xs) m l st h = ((x, xs), l, refl)

  less : (n : ℕ) (ts : List Terminal) (x : A × List Terminal) → p ts ≡ Ok x → length ts ≤ suc n → length x.1 ≤ n
  less n ts x i lt =
      let r : Reads P e ts (Ok x) = subst (λ (r : Result (A × List Terminal) (List Terminal)). Reads P e ts r) i (a.reads ts) in
      elim (a.law.eats ts x.0 x.1 r.spelled) [ inl h ↦ absurd (false≢true h) | inr h ↦ omega arith ]

  many_ends : (ts : List Terminal) → has f ts ≡ false → Reads (Many P) (f ++ e) ts (Ok ([], ts))
  many_ends ts h = record {
    spelled = refl;
    only = λ w bad xs m l st sh le. elim xs as (λ xs. Many P w xs m → (xs ≡ []) × Shares m ts bad) [
      | [] ↦ λ l. (refl, subst (λ (v : List Terminal). Shares v ts bad) l sh)
      | x ∷ xs ↦ λ l. absurd (no_start a.law ts w bad x l.0 h l.1 sh)
    ] l;
  }

  more : (n : ℕ) (ts : List Terminal) → has f ts ≡ true → ((x : A × List Terminal) → p ts ≡ Ok x → Reads (Many P) (f ++ e) x.1 (times f p n x.1)) → Reads (Many P) (f ++ e) ts (p ts >>= λ x. (times f p n x.1 >>= λ y. Ok (x.0 ∷ y.0, y.1)))
  more n ts h inner =
      let both = then_reads e (f ++ e) a.law (many-law a.law) side ts (p ts) (times f p n) (a.reads ts) inner in
      let mapped = mapped_reads (Then P (Many P)) (λ (z : A × List A). z.0 ∷ z.1) ((f ++ e) ++ e) ts _ both in
      let moved = subst (λ r. Reads (Mapped (λ (z : A × List A). z.0 ∷ z.1) (Then P (Many P))) ((f ++ e) ++ e) ts r) (regroup (λ (z : A × List A). z.0 ∷ z.1) (p ts) (times f p n)) mapped in
      reads_within f ((f ++ e) ++ e) (f ++ e) true ts _ (λ w xs m l. subst (λ (v : List A). Many P w v m) (sym l.2) l.1) (λ w xs m l st i. (many_is w xs m l st i, stop_twice f e m st)) h moved

  pub times_reads : (n : ℕ) (ts : List Terminal) → length ts ≤ n → Reads (Many P) (f ++ e) ts (times f p n ts)
  times_reads zero [] lt = many_ends [] refl
  times_reads zero (t ∷ ts) lt = absurd (omega arith)
  times_reads (suc n) ts lt =
      let yes : has f ts ≡ true → Reads (Many P) (f ++ e) ts (p ts >>= λ x. (times f p n x.1 >>= λ y. Ok (x.0 ∷ y.0, y.1))) = λ h. more n ts h (λ x i. times_reads n x.1 (less n ts x i lt)) in
      let other : has f ts ≡ false → Reads (Many P) (f ++ e) ts (Ok ([], ts)) = many_ends ts in
      let go : (v : Bool) → has f ts ≡ v → Reads (Many P) (f ++ e) ts (cond v (p ts >>= λ x. (times f p n x.1 >>= λ y. Ok (x.0 ∷ y.0, y.1))) (Ok ([], ts))) = λ v. elim v as (λ v. has f ts ≡ v → Reads (Many P) (f ++ e) ts (cond v (p ts >>= λ x. (times f p n x.1 >>= λ y. Ok (x.0 ∷ y.0, y.1))) (Ok ([], ts)))) [ true ↦ yes | false ↦ other ] in
      go (has f ts) refl

pub many-exact : {A : Type 0} {P : List Terminal → A → List Terminal → Type 0} {p : List Terminal → Result (A × List Terminal) (List Terminal)} {f e : List Sort} → Exact P p f false e → apart f e ≡ true → Exact (Many P) (many f p) f true (f ++ e)
many-exact a side = record { law = many-law a.law; reads = λ ts. times_reads a side (length ts) ts (omega arith) }

-- ---- another way to write a language, as one factored to the left

pub same-exact : {A : Type 0} {L K : List Terminal → A → List Terminal → Type 0} {p : List Terminal → Result (A × List Terminal) (List Terminal)} {f : List Sort} {n : Bool} {e : List Sort}
    → ((w : List Terminal) (a : A) (m : List Terminal) → L w a m → K w a m) → ((w : List Terminal) (a : A) (m : List Terminal) → K w a m → L w a m) → Exact L p f n e → Exact K p f n e
same-exact {L = L} {K = K} {p = p} {e = e} up down x = record {
  law = record {
    starts = λ w a m l. x.law.starts w a m (down w a m l);
    moves = λ w a m l. let v = x.law.moves w a m (down w a m l) in (v.0, v.1, λ r. up (v.0 ++ r) a r (v.2 r));
    eats = λ w a m l. x.law.eats w a m (down w a m l);
    sample = λ m. let v = x.law.sample m in (v.0, v.1, up v.0 v.1 m v.2);
  };
  reads = λ ts. reads_as up down e ts (p ts) (x.reads ts);
}

-- ---- the tail of a list with commas

Stops-join : (a b : List Sort) (m : List Terminal) → Stops a m → Stops b m → Stops (a ++ b) m
Stops-join a b m p q = has-append a b m ∙ rw (p, q) refl

module _ {A : Type 0} (P : List Terminal → A → List Terminal → Type 0) (s : Sort) where
  -- a tail that begins with a comma, factored to the left
  abbrev Comma : List Terminal → List A → List Terminal → Type 0
  Comma = Mapped (λ (x : Terminal × List A). x.1) (Then (One s) (Either (Mapped (λ (x : A × List A). x.0 ∷ x.1) (Then P (ListTail s P))) (Empty [])))

  comma_up : (w : List Terminal) (xs : List A) (m : List Terminal) → Comma w xs m → ListTail s P w xs m
  comma_up w xs m (u, (mid, first, inl (v, (mid2, p, ((ys, b), (mid3, l, o), e)), ez)), ex) = ((v.0 ∷ ys, b), (mid3, (mid2, ((u.0, v.0), (mid, first, p), refl), l), o), ex ∙ ez ∙ ap (λ (t : List A). v.0 ∷ t) e)
  comma_up w xs m (u, (mid, first, inr (ez, em)), ex) = (([], true), (w, refl, inl (u.0, subst (λ (t : List Terminal). One s w u.0 t) em first, refl)), ex ∙ ez)

  comma_down : (f : List Sort) (w : List Terminal) (xs : List A) (m : List Terminal) → ListTail s P w xs m → Stops (s ∷ f) m → has (s ∷ []) w ≡ true → Comma w xs m
  comma_down f w xs m (([], b), (mid, l, inl (c, first, eb)), ex) st h = ((c, []), (m, subst (λ (t : List Terminal). One s t c m) (sym l) first, inr (refl, refl)), ex)
  comma_down f w xs m (([], b), (mid, l, inr (eb, em)), ex) st h = absurd (clash (subst (λ (t : List Terminal). has (s ∷ []) t ≡ true) (l ∙ em) h) (Stops-left (s ∷ []) f m st))
  comma_down f w xs m ((y ∷ ys, b), (mid3, (mid2, ((c, y2), (mid, first, p), ey), l), o), ex) st h = ((c, y ∷ ys), (mid, first, inl ((y2, ys), (mid2, p, ((ys, b), (mid3, l, o), refl)), ap (λ (t : A). t ∷ ys) ey)), ex)

pub list_tail-law : {A : Type 0} {P : List Terminal → A → List Terminal → Type 0} {f : List Sort} (s : Sort) → IsLang P f false → IsLang (ListTail s P) (s ∷ s ∷ []) true
list_tail-law {A = A} {P = P} s p = mapped-law (λ x. x.0) (then-law (many-law (mapped-law (λ x. x.1) (then-law (One-law s) p))) (either-law (mapped-law (λ _. true) (One-law s)) (empty-exact false).law))

pub apart_none : (f : List Sort) → apart f [] ≡ true
apart_none [] = refl
apart_none (x ∷ f) = apart_none f

nothing_stops : (m : List Terminal) → Stops [] m
nothing_stops [] = refl
nothing_stops (t ∷ m) = refl

module _ {A : Type 0} {P : List Terminal → A → List Terminal → Type 0} {p : List Terminal → Result (A × List Terminal) (List Terminal)} {f e : List Sort} (s : Sort) (a : Exact P p f false e) (side : apart (s ∷ s ∷ []) e ≡ true) where
  abbrev ext_tail : List Sort
  ext_tail = s ∷ (f ++ e)

  stops_inner : (m : List Terminal) → Stops ext_tail m → Stops (f ++ ((ext_tail ++ e) ++ [])) m
  stops_inner m st =
      let r = Stops-right (s ∷ []) (f ++ e) m st in
      Stops-join f ((ext_tail ++ e) ++ []) m (Stops-left f e m r) (Stops-join (ext_tail ++ e) [] m (Stops-join ext_tail e m st (Stops-right f e m r)) (nothing_stops m))

  shorter_by : (ts : List Terminal) (x : A × List Terminal) → p ts ≡ Ok x → length x.1 < length ts
  shorter_by ts x i =
      let r : Reads P e ts (Ok x) = subst (λ (r : Result (A × List Terminal) (List Terminal)). Reads P e ts r) i (a.reads ts) in
      elim (a.law.eats ts x.0 x.1 r.spelled) [ inl h ↦ absurd (false≢true h) | inr h ↦ h ]

  one_shorter : (ts : List Terminal) (x : Terminal × List Terminal) → one s ts ≡ Ok x → length x.1 < length ts
  one_shorter ts x i =
      let r : Reads (One s) [] ts (Ok x) = subst (λ (r : Result (Terminal × List Terminal) (List Terminal)). Reads (One s) [] ts r) i ((one-exact s).reads ts) in
      elim ((One-law s).eats ts x.0 x.1 r.spelled) [ inl h ↦ absurd (false≢true h) | inr h ↦ h ]

  after_comma : (n : ℕ) (ts : List Terminal) → length ts ≤ n → ((ts : List Terminal) → length ts ≤ n → Reads (ListTail s P) ext_tail ts (list_tail_times s f p n ts)) → Reads (Either (Mapped (λ (x : A × List A). x.0 ∷ x.1) (Then P (ListTail s P))) (Empty [])) (f ++ ((ext_tail ++ e) ++ [])) ts (either f (mapped (λ x. x.0 ∷ x.1) (then p (list_tail_times s f p n))) (empty []) ts)
  after_comma n ts lt again =
      either_reads (ext_tail ++ e) [] (mapped-law (λ (x : A × List A). x.0 ∷ x.1) (then-law a.law (list_tail-law s a.law))) (empty-exact {A = List A} []).law (apart_none f) ts _ _
      (λ h. mapped_reads (Then P (ListTail s P)) (λ (x : A × List A). x.0 ∷ x.1) (ext_tail ++ e) ts _ (then_reads e ext_tail a.law (list_tail-law s a.law) side ts (p ts) (list_tail_times s f p n) (a.reads ts) (λ x i. let k = shorter_by ts x i in again x.1 (omega arith))))
      (λ h. (empty-exact {A = List A} []).reads ts)

  no_comma : (ts w bad : List Terminal) (xs : List A) (m : List Terminal) → has (s ∷ []) ts ≡ false → ListTail s P w xs m → Shares w ts bad → (xs ≡ []) × Shares m ts bad
  no_comma ts w bad xs m h (([], b), (mid, l, inl (c, first, eb)), ex) sh = absurd (no_start (One-law s) ts w bad c m h (subst (λ (t : List Terminal). One s t c m) (sym l) first) sh)
  no_comma ts w bad xs m h (([], b), (mid, l, inr (eb, em)), ex) sh = (ex, subst (λ (t : List Terminal). Shares t ts bad) (l ∙ em) sh)
  no_comma ts w bad xs m h ((y ∷ ys, b), (mid3, (mid2, ((c, y2), (mid, first, p), ey), l), o), ex) sh = absurd (no_start (One-law s) ts w bad c mid h first sh)

  list_tail_ends : (ts : List Terminal) → has (s ∷ []) ts ≡ false → Reads (ListTail s P) ext_tail ts (Ok ([], ts))
  list_tail_ends ts h = record {
    spelled = (([], false), (ts, refl, inr (refl, refl)), refl);
    only = λ w bad xs m l st sh le. no_comma ts w bad xs m h l sh;
  }

  pub list_tail_reads : (n : ℕ) (ts : List Terminal) → length ts ≤ n → Reads (ListTail s P) ext_tail ts (list_tail_times s f p n ts)
  list_tail_reads zero [] lt = list_tail_ends [] refl
  list_tail_reads zero (t ∷ ts) lt = absurd (omega arith)
  list_tail_reads (suc n) ts lt =
      let inner = f ++ ((ext_tail ++ e) ++ []) in
      let commaed = mapped (λ (x : Terminal × List A). x.1) (then (one s) (either f (mapped (λ (x : A × List A). x.0 ∷ x.1) (then p (list_tail_times s f p n))) (empty []))) in
      let yes : has (s ∷ []) ts ≡ true → Reads (ListTail s P) ext_tail ts (commaed ts) = λ h.
      reads_within (s ∷ []) (inner ++ []) ext_tail true ts (commaed ts) (comma_up P s) (λ w xs m l st i. (comma_down P s (f ++ e) w xs m l st i, Stops-join inner [] m (stops_inner m st) (nothing_stops m))) h
      (mapped_reads (Then (One s) (Either (Mapped (λ (x : A × List A). x.0 ∷ x.1) (Then P (ListTail s P))) (Empty []))) (λ (x : Terminal × List A). x.1) (inner ++ []) ts _
      (then_reads [] inner (One-law s) (either-law (mapped-law (λ (x : A × List A). x.0 ∷ x.1) (then-law a.law (list_tail-law s a.law))) (empty-exact {A = List A} []).law) (apart_none (f ++ [])) ts (one s ts) (either f (mapped (λ (x : A × List A). x.0 ∷ x.1) (then p (list_tail_times s f p n))) (empty []))
      ((one-exact s).reads ts)
      (λ x i. let k = one_shorter ts x i in after_comma n x.1 (omega arith) (list_tail_reads n)))) in
      let other : has (s ∷ []) ts ≡ false → Reads (ListTail s P) ext_tail ts (Ok ([], ts)) = list_tail_ends ts in
      let go : (v : Bool) → has (s ∷ []) ts ≡ v → Reads (ListTail s P) ext_tail ts (cond v (commaed ts) (Ok ([], ts))) = λ v. elim v as (λ v. has (s ∷ []) ts ≡ v → Reads (ListTail s P) ext_tail ts (cond v (commaed ts) (Ok ([], ts)))) [ true ↦ yes | false ↦ other ] in
      go (has (s ∷ []) ts) refl

pub list_tail-exact : {A : Type 0} {P : List Terminal → A → List Terminal → Type 0} {p : List Terminal → Result (A × List Terminal) (List Terminal)} {f e : List Sort} (s : Sort) → Exact P p f false e → apart (s ∷ s ∷ []) e ≡ true → Exact (ListTail s P) (list_tail s f p) (s ∷ s ∷ []) true (s ∷ (f ++ e))
list_tail-exact s a side = record { law = list_tail-law s a.law; reads = λ ts. list_tail_reads s a side (length ts) ts (omega arith) }

pub after-exact : {A : Type 0} {P : List Terminal → A → List Terminal → Type 0} {p : List Terminal → Result (A × List Terminal) (List Terminal)} {f e : List Sort} {n : Bool} (s : Sort) → Exact P p f n e → Exact (Mapped (λ x. x.1) (Then (One s) P)) (after s p) (s ∷ []) false (then_ext n [] e)
after-exact {A = A} {f = f} s a = mapped-exact (λ (x : Terminal × A). x.1) (then-exact (one-exact s) a (apart_none f))

pub separated-exact : {A : Type 0} {P : List Terminal → A → List Terminal → Type 0} {p : List Terminal → Result (A × List Terminal) (List Terminal)} {f e : List Sort} (s : Sort) → Exact P p f false e → apart (s ∷ []) e ≡ true → Exact (Separated s P) (separated s p) f false (((s ∷ []) ++ e) ++ e)
separated-exact {A = A} s a side = mapped-exact (λ (x : A × List A). x.0 ∷ x.1) (then-exact a (many-exact (after-exact s a) side) side)

pub listed-exact : {A : Type 0} {P : List Terminal → A → List Terminal → Type 0} {p : List Terminal → Result (A × List Terminal) (List Terminal)} {f e : List Sort} (s : Sort) → Exact P p f false e → apart (s ∷ s ∷ []) e ≡ true → Exact (Listed s P) (listed s f p) (f ++ []) true (f ++ (((s ∷ (f ++ e)) ++ e) ++ []))
listed-exact {A = A} {f = f} s a side = either-exact (mapped-exact (λ (x : A × List A). x.0 ∷ x.1) (then-exact a (list_tail-exact s a side) side)) (empty-exact {A = List A} []) (apart_none f)
