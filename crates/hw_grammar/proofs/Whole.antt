-- An exact reader answers the one tree, or the place.
use Rattle.std.proofs.Common.{◌≡◌, ◌+◌, ◌-◌, ◌<◌, Bool, List, [], ◌∷◌, ◌++◌, length, take, Result, Ok, Err, refl, sym, ap, subst, ◌∙◌, append_assoc, arith}
use Rattle.std.proofs.lemmas.List.{length-append}
use Rattle.std.proofs.Math.Seq.{take-append_seam, take-append-add}
use Rattle.hw_grammar.specs.declared.sort.Sort.{Sort}
use Rattle.hw_grammar.specs.declared.terminal.Terminal.{Terminal}
use Rattle.hw_grammar.specs.Place.{Spells, Place}
use Rattle.std.specs.Prelude.{IfOk, IfErr}
use Rattle.hw_grammar.specs.declared.end.ReadEnd.{ReadEnd}
use Rattle.hw_grammar.specs.declared.end.ReadEnd.TheVariants as errors
use Rattle.hw_grammar.specs.inside.Ends.{RefusedAt}
use Rattle.hw_grammar.specs.Reading.{whole, Gives}
use Rattle.hw_grammar.proofs.Exact.{Exact, SameHead, Shares, here, there, Begins, start, next, IsLang, Reads, Begins-front}

Shares-all : (ts : List Terminal) → Shares ts ts []
Shares-all [] = here tt
Shares-all (t ∷ ts) = there (Shares-all ts)

Shares-front : (front more : List Terminal) (t : Terminal) (r : List Terminal) → Shares (front ++ t ∷ more) (front ++ t ∷ r) (t ∷ r)
Shares-front [] more t r = here refl
Shares-front (x ∷ front) more t r = there (Shares-front front more t r)

Begins-parts : {w ts bad : List Terminal} → Begins w ts bad → (front : List Terminal) × (more : List Terminal) × (ts ≡ front ++ bad) × (w ≡ front ++ more)
Begins-parts {w = w} start = ([], w, refl, refl)
Begins-parts (next {t = t} b) = let p = Begins-parts b in (t ∷ p.0, p.1, ap (λ (v : List Terminal). t ∷ v) p.2, ap (λ (v : List Terminal). t ∷ v) p.3)

take_front : (front bad : List Terminal) → take (length (front ++ bad) - length bad) (front ++ bad) ≡ front
take_front front bad =
    let k : length (front ++ bad) - length bad ≡ length front = omega (arith, length-append front bad) in
    rw k (take-append_seam front bad)

-- what ends nothing shares nothing further
Shares-heads : (w ts bad : List Terminal) → Shares w ts bad → SameHead w ts
Shares-heads [] [] _ s = tt
Shares-heads [] (y ∷ b) _ (here h) = h
Shares-heads (x ∷ a) [] _ (here h) = h
Shares-heads (x ∷ a) (y ∷ b) _ (here h) = h
Shares-heads (x ∷ a) (y ∷ b) _ (there s) = refl

-- refused at bad: no text of the language has the same tokens up to and including its first
pub record Refused {A : Type 0} (L : List Terminal → A → List Terminal → Type 0) (ts bad : List Terminal) : Type 0 where
  pub none : (w : List Terminal) (a : A) → Spells L w a → Shares w ts bad → ⊥
  pub begun : (w : List Terminal) × (a : A) × Spells L w a × Begins w ts bad

next_of : (front : List Terminal) (t : Terminal) (r : List Terminal) → take (length (front ++ t ∷ r) - length (t ∷ r) + 1) (front ++ t ∷ r) ≡ front ++ t ∷ []
next_of front t r =
    let k : length (front ++ t ∷ r) - length (t ∷ r) + 1 ≡ length front + 1 = omega (arith, length-append front (t ∷ r)) in
    rw (k, take-append-add front (t ∷ r) 1) refl

viable_shares : (front : List Terminal) (bad w more : List Terminal) → length (front ++ bad) - length bad < length (front ++ bad) → w ≡ take (length (front ++ bad) - length bad + 1) (front ++ bad) ++ more → Shares w (front ++ bad) bad
viable_shares front [] w more lt e = absurd (omega arith)
viable_shares front (t ∷ r) w more lt e =
    let is : w ≡ front ++ t ∷ more = e ∙ ap (λ (x : List Terminal). x ++ more) (next_of front t r) ∙ append_assoc front (t ∷ []) more in
    subst (λ (x : List Terminal). Shares x (front ++ t ∷ r) (t ∷ r)) (sym is) (Shares-front front more t r)

Shares-self : (front bad : List Terminal) → Shares (front ++ bad) (front ++ bad) bad
Shares-self [] [] = here tt
Shares-self [] (t ∷ r) = here refl
Shares-self (x ∷ front) bad = there (Shares-self front bad)

place_at : {A : Type 0} (L : List Terminal → A → List Terminal → Type 0) (front bad w more : List Terminal) (a : A) → Spells L w a → w ≡ front ++ more → ((w : List Terminal) (a : A) → Spells L w a → Shares w (front ++ bad) bad → ⊥) → Place L (front ++ bad) (length (front ++ bad) - length bad)
place_at L front bad w more a sp e none = (
  (w, a, sp, more, e ∙ ap (λ (x : List Terminal). x ++ more) (sym (take_front front bad))),
  (λ (v, lt). none v.0 v.1 v.2 (viable_shares front bad v.0 v.3 lt v.4)),
  (λ b sp'. none (front ++ bad) b sp' (Shares-self front bad)),
)

pub place_of : {A : Type 0} (L : List Terminal → A → List Terminal → Type 0) (ts bad : List Terminal) → Refused L ts bad → Place L ts (length ts - length bad)
place_of L ts bad r =
    let b = r.begun in
    let q = Begins-parts b.3 in
    subst (λ (t : List Terminal). Place L t (length t - length bad)) (sym q.2) (place_at L q.0 bad b.0 q.1 b.1 b.2 q.3 (λ w a sp sh. r.none w a sp (subst (λ (t : List Terminal). Shares w t bad) (sym q.2) sh)))

-- what is told of a whole text
abbrev pub Judged : {A : Type 0} → (List Terminal → A → List Terminal → Type 0) → List Terminal → Result A (List Terminal) → Type 0
Judged L ts (Ok a) = Spells L ts a × ((b : _) → Spells L ts b → b ≡ a)
Judged L ts (Err bad) = Refused L ts bad

pub judge : {A : Type 0} (L : List Terminal → A → List Terminal → Type 0) (ext first : List Sort) (n : Bool) (law : IsLang L first n) (ts : List Terminal) (r : Result (A × List Terminal) (List Terminal)) → Reads L ext ts r → Judged L ts (whole r)
judge L ext first n law ts (Ok (a, [])) d = (d.spelled, λ b sp. (d.only ts [] b [] sp refl (Shares-all ts) (omega arith)).0)
judge L ext first n law ts (Ok (a, t ∷ r)) d =
    let mv = law.moves ts a (t ∷ r) d.spelled in
    record {
      none = λ w b sp sh. Shares-heads [] (t ∷ r) (t ∷ r) (d.only w (t ∷ r) b [] sp refl sh (omega arith)).1;
      begun = (mv.0 ++ [], a, mv.2 [], subst (λ (v : List Terminal). Begins (mv.0 ++ []) v (t ∷ r)) (sym mv.1) (Begins-front mv.0 [] (t ∷ r) (t ∷ r) start));
    }
judge L ext first n law ts (Err bad) d = record {
  none = λ w b sp sh. d.none w b [] sp refl sh;
  begun = d.begun [];
}

-- ---- what a function that gives it may promise

pub found : {A X : Type 0} (L : List Terminal → A → List Terminal → Type 0) (view : X → A) (ts : List Terminal) (j : Result A (List Terminal)) (r : Result X ReadEnd) → Judged L ts j → Gives view r j → IfOk r (λ v. Spells L ts (view v))
found L view ts j (Ok v) d g = let e : Judged L ts (Ok (view v)) = subst (λ (x : _). Judged L ts x) g d in e.0
found L view ts j (Err e) d g = tt

pub alone : {A X : Type 0} (L : List Terminal → A → List Terminal → Type 0) (view : X → A) (ts : List Terminal) (j : Result A (List Terminal)) (r : Result X ReadEnd) → Judged L ts j → Gives view r j → IfOk r (λ v. (other : A) → Spells L ts other → other ≡ view v)
alone L view ts j (Ok v) d g = let e : Judged L ts (Ok (view v)) = subst (λ (x : _). Judged L ts x) g d in e.1
alone L view ts j (Err e) d g = tt

pub refused : {A X : Type 0} (L : List Terminal → A → List Terminal → Type 0) (view : X → A) (ts : List Terminal) (j : Result A (List Terminal)) (r : Result X ReadEnd) → Judged L ts j → Gives view r j → IfErr r (λ e. RefusedAt L ts e)
refused L view ts j (Ok v) d g = tt
refused L view ts j (Err errors.Memory) d g = tt
refused L view ts j (Err (errors.Refused bad)) d g = let e : Judged L ts (Err (bad.now)) = subst (λ (x : _). Judged L ts x) g d in place_of L ts (bad.now) e

-- a language that has an exact reader gives terminals at most one value
pub spells_one : {A : Type 0} {L : List Terminal → A → List Terminal → Type 0} {p : List Terminal → Result (A × List Terminal) (List Terminal)} {f e : List Sort} {n : Bool} → Exact L p f n e → (ts : List Terminal) (x y : A) → Spells L ts x → Spells L ts y → x ≡ y
spells_one {A = A} {L = L} {p = p} {f = f} {e = e} {n = n} exact ts x y a b =
    let go : (r : Result A (List Terminal)) → Judged L ts r → x ≡ y = λ r. elim r as (λ r. Judged L ts r → x ≡ y) [
      | Ok v ↦ λ d. d.1 x a ∙ sym (d.1 y b)
      | Err bad ↦ λ d.
          let q = Begins-parts d.begun.3 in
          absurd (d.none ts x a (subst (λ (t : List Terminal). Shares t t bad) (sym q.2) (Shares-self q.0 bad)))
    ] in
    go (whole (p ts)) (judge L e f n exact.law ts (p ts) (exact.reads ts))
