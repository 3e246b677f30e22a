-- What is written is spelled.
use Rattle.std.proofs.Common.{◌≡◌, ℕ, suc, Bool, true, false, List, [], ◌∷◌, ◌++◌, inl, inr, refl, sym, ap, subst, ◌∙◌, append_assoc, cond, eqb, length, take, get_or, ◌<◌, ◌+◌, arith}
use Rattle.std.proofs.lemmas.List.{append-nil, take_more, length-take-le}
use Rattle.std.specs.List.{AllByRecursion}
use Rattle.std.proofs.lemmas.Bool.{eqb-true}
use Rattle.hw_grammar.specs.declared.sort.Sort.{Sort}
use Rattle.hw_grammar.specs.declared.terminal.Terminal.{Terminal}
use Rattle.hw_grammar.specs.Grammar.{One, Then, Mapped, Many, Separated, Listed}
use Rattle.hw_grammar.specs.Place.{Spells}
use Rattle.hw_grammar.specs.inside.Showing.{show_all, marked, show_separated}
use Rattle.hw_grammar.proofs.Exact.{IsLang}

-- what is spelled alone is spelled before anything
pub before : {A : Type 0} {L : List Terminal → A → List Terminal → Type 0} {f : List Sort} {n : Bool} → IsLang L f n → (u : List Terminal) (a : A) (r : List Terminal) → Spells L u a → L (u ++ r) a r
before {L = L} law u a r l =
    let mv = law.moves u a [] l in
    subst (λ (v : List Terminal). L (v ++ r) a r) (sym (mv.1 ∙ append-nil mv.0)) (mv.2 r)

pub both : {A B : Type 0} {P : List Terminal → A → List Terminal → Type 0} (Q : List Terminal → B → List Terminal → Type 0) {f : List Sort} {n : Bool} → IsLang P f n → (u v : List Terminal) (a : A) (b : B) → Spells P u a → Spells Q v b → Spells (Then P Q) (u ++ v) (a, b)
both Q law u v a b p q = (v, before law u a v p, q)

-- a token, then the others
pub tok_then : {B : Type 0} (Q : List Terminal → B → List Terminal → Type 0) (s : Sort) (t : Terminal) (v : List Terminal) (b : B) → t.sort ≡ s → Spells Q v b → Spells (Then (One s) Q) (t ∷ v) (t, b)
tok_then Q s t v b e q = (v, (refl, e), q)

pub many_shown : {A : Type 0} {P : List Terminal → A → List Terminal → Type 0} {f : List Sort} {n : Bool} → IsLang P f n → (show : A → List Terminal) (Good : A → Type 0) → ((x : A) → Good x → Spells P (show x) x) → (xs : List A) → AllByRecursion Good xs → Spells (Many P) (show_all show xs) xs
many_shown law show Good h [] g = refl
many_shown law show Good h (x ∷ xs) g = (show_all show xs, before law (show x) x (show_all show xs) (h x g.0), many_shown law show Good h xs g.1)

marks_shown : {A : Type 0} {P : List Terminal → A → List Terminal → Type 0} {f : List Sort} {n : Bool} (s : Sort) (t : Terminal) → t.sort ≡ s → IsLang P f n → (show : A → List Terminal) → ((x : A) → Spells P (show x) x) → (xs : List A) → Spells (Many (Mapped (λ x. x.1) (Then (One s) P))) (show_all (marked t show) xs) xs
marks_shown s t e law show h [] = refl
marks_shown s t e law show h (x ∷ xs) = (show_all (marked t show) xs, ((t, x), (show x ++ show_all (marked t show) xs, (refl, e), before law (show x) x (show_all (marked t show) xs) (h x)), refl), marks_shown s t e law show h xs)

pub separated_shown : {A : Type 0} {P : List Terminal → A → List Terminal → Type 0} {f : List Sort} {n : Bool} (s : Sort) (t : Terminal) → t.sort ≡ s → IsLang P f n → (show : A → List Terminal) → ((x : A) → Spells P (show x) x) → (x : A) (xs : List A) → Spells (Separated s P) (show_separated t show (x ∷ xs)) (x ∷ xs)
separated_shown s t e law show h x xs = ((x, xs), (show_all (marked t show) xs, before law (show x) x (show_all (marked t show) xs) (h x), marks_shown s t e law show h xs), refl)

pub listed_shown : {A : Type 0} {P : List Terminal → A → List Terminal → Type 0} {f : List Sort} {n : Bool} (s : Sort) (t : Terminal) → t.sort ≡ s → IsLang P f n → (show : A → List Terminal) → ((x : A) → Spells P (show x) x) → (xs : List A) → Spells (Listed s P) (show_separated t show xs) xs
listed_shown s t e law show h [] = inr (refl, refl)
listed_shown s t e law show h (x ∷ xs) = inl ((x, xs), (show_all (marked t show) xs, before law (show x) x (show_all (marked t show) xs) (h x), ((xs, false), ([], marks_shown s t e law show h xs, inr (refl, refl)), refl)), refl)

-- ---- one more

all_push : {A : Type 0} (show : A → List Terminal) (xs : List A) (x : A) → show_all show (xs ++ x ∷ []) ≡ show_all show xs ++ show x
all_push show [] x = append-nil (show x)
all_push show (y ∷ ys) x = ap (λ (v : List Terminal). show y ++ v) (all_push show ys x) ∙ sym (append_assoc (show y) (show_all show ys) (show x))

suc_not : (n : ℕ) → eqb (suc n) 0 ≡ false
suc_not n =
    let go : (v : Bool) → eqb (suc n) 0 ≡ v → eqb (suc n) 0 ≡ false = λ v. elim v as (λ v. eqb (suc n) 0 ≡ v → eqb (suc n) 0 ≡ false) [ true ↦ λ e. absurd (omega (arith, eqb-true (suc n) 0 e)) | false ↦ λ e. e ] in
    go (eqb (suc n) 0) refl

pub separated_push : {A : Type 0} (t : Terminal) (show : A → List Terminal) (xs : List A) (x : A) → show_separated t show (xs ++ x ∷ []) ≡ (show_separated t show xs ++ cond (eqb (length xs) 0) [] (t ∷ [])) ++ show x
separated_push t show [] x = append-nil (show x)
separated_push t show (y ∷ ys) x = rw (suc_not (length ys)) (ap (λ (v : List Terminal). show y ++ v) (all_push (marked t show) ys x) ∙ sym (append_assoc (show y) (show_all (marked t show) ys) (t ∷ show x)) ∙ sym (append_assoc (show y ++ show_all (marked t show) ys) (t ∷ []) (show x)))

pub separated_more : {A : Type 0} (t : Terminal) (show : A → List Terminal) (xs : List A) (i : ℕ) (d : A) (was out mid last : List Terminal) → i < length xs → out ≡ was ++ show_separated t show (take i xs) → mid ≡ out ++ cond (eqb i 0) [] (t ∷ []) → last ≡ mid ++ show (get_or xs i d) → last ≡ was ++ show_separated t show (take (i + 1) xs)
separated_more t show xs i d was out mid last lt e1 e2 e3 =
    let k : length (take i xs) ≡ i = length-take-le i xs (omega arith) in
    let p = separated_push t show (take i xs) (get_or xs i d) in
    let q : show_separated t show (take (i + 1) xs) ≡ (show_separated t show (take i xs) ++ cond (eqb i 0) [] (t ∷ [])) ++ show (get_or xs i d) = ap (show_separated t show) (take_more xs i d lt) ∙ p ∙ ap (λ (n : ℕ). (show_separated t show (take i xs) ++ cond (eqb n 0) [] (t ∷ [])) ++ show (get_or xs i d)) k in
    e3 ∙ rw (e2, e1, q) (simp append_assoc)
