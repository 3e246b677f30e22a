-- A language that an earlier value chooses, and a choice that the first token tells.
use Rattle.std.proofs.Common.{◌≡◌, Bool, true, ◌&&◌, List, [], ◌++◌, Result, Ok, Err, ◌⊎◌, inl, inr, refl, sym, ap, subst, ◌∙◌, append_assoc, arith}
use Rattle.std.proofs.lemmas.List.{append-nil}
use Rattle.hw_grammar.specs.declared.sort.Sort.{Sort}
use Rattle.hw_grammar.specs.declared.terminal.Terminal.{Terminal}
use Rattle.hw_grammar.specs.Sort.{has}
use Rattle.hw_grammar.specs.Grammar.{ThenBy}
use Rattle.hw_grammar.specs.Reading.{◌>>=◌, then_by}
use Rattle.hw_grammar.proofs.Exact.{Begins, start, next, Begins-front, Begins-length, Shares-has, Stops, IsLang, Read, Reads, Exact, apart, has_apart, then_first, then_ext, then_starts, eats_both, shorter, ext_left, ext_right, pair_is}
use Rattle.hw_grammar.proofs.Limit.{inside, law-wider}

pub by-law : {A B : Type 0} {P : List Terminal → A → List Terminal → Type 0} (Q : A → List Terminal → B → List Terminal → Type 0) {f g : List Sort} {n k : Bool} → IsLang P f n → ((a : A) → IsLang (Q a) g k) → IsLang (ThenBy P Q) (then_first n f g) (n && k)
by-law Q {f = f} {g = g} {n = n} {k = k} p q = record {
  starts = λ w x m l. then_starts f n g k w l.0 m (p.starts w x.0 l.0 l.1) ((q x.0).starts l.0 x.1 m l.2);
  moves = λ w x m l.
      let a = p.moves w x.0 l.0 l.1 in
      let b = (q x.0).moves l.0 x.1 m l.2 in
      (a.0 ++ b.0, a.1 ∙ ap (λ (r : List Terminal). a.0 ++ r) b.1 ∙ sym (append_assoc a.0 b.0 m), λ r. (b.0 ++ r, rw append_assoc (a.2 (b.0 ++ r)), b.2 r));
  eats = λ w x m l.
      let a = p.moves w x.0 l.0 l.1 in
      let b = (q x.0).moves l.0 x.1 m l.2 in
      eats_both n k w l.0 m (shorter w a.0 l.0 a.1) (shorter l.0 b.0 m b.1) (p.eats w x.0 l.0 l.1) ((q x.0).eats l.0 x.1 m l.2);
  sample = λ m. let a0 = p.sample [] in let b = (q a0.1).sample m in let mv = p.moves a0.0 a0.1 [] a0.2 in (mv.0 ++ b.0, (a0.1, b.1), (b.0, mv.2 b.0, b.2));
}

Begins-more : {w ts bad : List Terminal} (r : List Terminal) → Begins w ts bad → Begins (w ++ r) ts bad
Begins-more r start = start
Begins-more r (next b) = next (Begins-more r b)

module _ {A B : Type 0} {P : List Terminal → A → List Terminal → Type 0} (Q : A → List Terminal → B → List Terminal → Type 0) {f g : List Sort} {n k : Bool} (d e : List Sort) (p : IsLang P f n) (q : (a : A) → IsLang (Q a) g k) (side : apart g d ≡ true) (ts : List Terminal) where
  by_between : (mid m : List Terminal) (a : A) (b : B) → Q a mid b m → Stops (then_ext k d e) m → Stops d mid
  by_between mid m a b l st = elim ((q a).starts mid b m l) [ inl h ↦ has_apart g d mid side h | inr h ↦ rw h.1 (ext_left k d e m h.0 st) ]

  by_second : (x : A × List Terminal) → Read P d ts x.0 x.1 → (s : Result (B × List Terminal) (List Terminal)) → Reads (Q x.0) e x.1 s → Reads (ThenBy P Q) (then_ext k d e) ts (s >>= λ y. Ok ((x.0, y.0), y.1))
  by_second x r (Ok y) s = record {
    spelled = (x.1, r.spelled, s.spelled);
    only = λ w bad b m l st sh le.
        let mv = (q x.0).moves x.1 y.0 y.1 s.spelled in
        let one = r.only w bad b.0 l.0 l.1 (by_between l.0 m b.0 b.1 l.2 st) sh (omega (arith, shorter x.1 mv.0 y.1 mv.1)) in
        let l2 = subst (λ (a : A). Q a l.0 b.1 m) one.0 l.2 in
        let two = s.only l.0 bad b.1 m l2 (ext_right k d e m st) one.1 le in
        (pair_is b x.0 y.0 one.0 two.0, two.1);
  }
  by_second x r (Err bad) s = record {
    none = λ w b m l st sh.
        let one = r.only w bad b.0 l.0 l.1 (by_between l.0 m b.0 b.1 l.2 st) sh (Begins-length (s.begun []).3) in
        s.none l.0 b.1 m (subst (λ (a : A). Q a l.0 b.1 m) one.0 l.2) (ext_right k d e m st) one.1;
    begun = λ m.
        let u = s.begun m in
        let mv = p.moves ts x.0 x.1 r.spelled in
        (mv.0 ++ u.0, (x.0, u.1), (u.0, mv.2 u.0, u.2), subst (λ (v : List Terminal). Begins (mv.0 ++ u.0) v bad) (sym mv.1) (Begins-front mv.0 u.0 x.1 bad u.3));
  }

  pub by_reads : (r : Result (A × List Terminal) (List Terminal)) (h : A → List Terminal → Result (B × List Terminal) (List Terminal)) → Reads P d ts r → ((x : A × List Terminal) → Reads (Q x.0) e x.1 (h x.0 x.1)) → Reads (ThenBy P Q) (then_ext k d e) ts (r >>= λ x. (h x.0 x.1 >>= λ y. Ok ((x.0, y.0), y.1)))
  by_reads (Ok x) h r s = by_second x r (h x.0 x.1) (s x)
  by_reads (Err bad) h r s = record {
    none = λ w b m l st sh. r.none w b.0 l.0 l.1 (by_between l.0 m b.0 b.1 l.2 st) sh;
    begun = λ m.
        let u0 = r.begun [] in
        let b = (q u0.1).sample m in
        let mv = p.moves u0.0 u0.1 [] u0.2 in
        let same : mv.0 ≡ u0.0 = sym (mv.1 ∙ append-nil mv.0) in
        (u0.0 ++ b.0, (u0.1, b.1), (b.0, subst (λ (v : List Terminal). P (v ++ b.0) u0.1 b.0) same (mv.2 b.0), b.2), Begins-more b.0 u0.3);
  }

Begins-has : (set : List Sort) {w ts bad : List Terminal} → Begins w ts bad → (has set w ≡ has set ts) ⊎ (bad ≡ ts)
Begins-has set start = inr refl
Begins-has set (next b) = inl refl

-- where the first token tells that K is L there; a text that is refused at once has any completion
pub reads_headed : {A : Type 0} {L K : List Terminal → A → List Terminal → Type 0} (set d e : List Sort) (v : Bool) (ts : List Terminal) (r : Result (A × List Terminal) (List Terminal)) → ((m : List Terminal) → (w : List Terminal) × (a : A) × K w a m)
    → ((w : List Terminal) (a : A) (m : List Terminal) → L w a m → has set w ≡ v → K w a m)
    → ((w : List Terminal) (a : A) (m : List Terminal) → K w a m → Stops e m → has set w ≡ v → L w a m × Stops d m)
    → has set ts ≡ v → Reads L d ts r → Reads K e ts r
reads_headed set d e v ts (Ok x) sample up down h d' = record {
  spelled = up ts x.0 x.1 d'.spelled h;
  only = λ w bad b m l st sh le. let u = down w b m l st (Shares-has set w ts bad sh ∙ h) in d'.only w bad b m u.0 u.1 sh le;
}
reads_headed set d e v ts (Err bad) sample up down h d' = record {
  none = λ w b m l st sh. let u = down w b m l st (Shares-has set w ts bad sh ∙ h) in d'.none w b m u.0 u.1 sh;
  begun = λ m. let u = d'.begun m in elim (Begins-has set u.3) [
    | inl i ↦ (u.0, u.1, up u.0 u.1 m u.2 (i ∙ h), u.3)
    | inr i ↦ let s = sample m in (s.0, s.1, s.2, subst (λ (x : List Terminal). Begins s.0 x bad) i start)
  ];
}

pub exact-wider : {A : Type 0} {L : List Terminal → A → List Terminal → Type 0} {p : List Terminal → Result (A × List Terminal) (List Terminal)} {f : List Sort} {n : Bool} {e : List Sort} (g : List Sort) → inside f g ≡ true → Exact L p f n e → Exact L p g n e
exact-wider g i x = record { law = law-wider g i x.law; reads = x.reads }

pub by-exact : {A B : Type 0} {P : List Terminal → A → List Terminal → Type 0} {p : List Terminal → Result (A × List Terminal) (List Terminal)} (Q : A → List Terminal → B → List Terminal → Type 0) (q : A → List Terminal → Result (B × List Terminal) (List Terminal)) {f g d e : List Sort} {n k : Bool} → Exact P p f n d → ((a : A) → Exact (Q a) (q a) g k e) → apart g d ≡ true → Exact (ThenBy P Q) (then_by p q) (then_first n f g) (n && k) (then_ext k d e)
by-exact {p = p} Q q {d = d} {e = e} a b side = record {
  law = by-law Q a.law (λ x. (b x).law);
  reads = λ ts. by_reads Q d e a.law (λ x. (b x).law) side ts (p ts) q (a.reads ts) (λ x. (b x.0).reads x.1);
}
