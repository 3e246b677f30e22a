-- Reading from the front, on lists: what the functions of readers give. A reader has the names of its language in lower
-- case, with the set of sorts by which it chooses. That it is exact for its language is proved in proofs/.
use Rattle.std.specs.Prelude.{◌≡◌, ℕ, zero, suc, List, [], ◌∷◌, ◌++◌, length, cond, Option, Some, None, Result, Ok, Err}
use Rattle.hw_names.specs.Name.{Text, text_of}
use Rattle.hw_names.specs.declared.names.NameId.{NameId}
use Rattle.hw_grammar.specs.declared.sort.Sort.{Sort}
use Rattle.hw_grammar.specs.declared.sort.Sort.TheVariants.{Name, Number, Literal}
use Rattle.hw_grammar.specs.declared.terminal.Special.{Special}
use Rattle.hw_grammar.specs.declared.terminal.Terminal.{Terminal}
use Rattle.hw_grammar.specs.declared.end.ReadEnd.{ReadEnd}
use Rattle.hw_grammar.specs.declared.end.ReadEnd.TheVariants as ends
use Rattle.hw_grammar.specs.Sort.{same_sort, same_special, has}

-- what is read: a value and the terminals after it, or the terminals from the refused one on
abbrev pub Answer : Type 0 → Type 0
Answer A = Result (A × List Terminal) (List Terminal)

-- what a reader makes of terminals
abbrev pub Reader : Type 0 → Type 0
Reader A = List Terminal → Answer A

infixl 10 ◌>>=◌
-- one step after the other, unless the first is refused
abbrev pub ◌>>=◌ : {A B : Type 0} → Result A (List Terminal) → (A → Result B (List Terminal)) → Result B (List Terminal)
(Ok x) >>= f = f x
(Err e) >>= f = Err e

abbrev pub one : Sort → Reader Terminal
one sort [] = Err []
one sort (t ∷ ts) = cond (same_sort t.sort sort) (Ok (t, ts)) (Err (t ∷ ts))

abbrev pub one_special : Special → Reader Terminal
one_special special ts = one Name ts >>= λ x. cond (same_special x.0.special special) (Ok x) (Err ts)

abbrev pub empty : {A : Type 0} → A → Reader A
empty v ts = Ok (v, ts)

abbrev pub then : {A B : Type 0} → Reader A → Reader B → Reader (A × B)
then p q ts = p ts >>= λ x. (q x.1 >>= λ y. Ok ((x.0, y.0), y.1))

abbrev pub then_by : {A B : Type 0} → Reader A → (A → Reader B) → Reader (A × B)
then_by p q ts = p ts >>= λ x. (q x.0 x.1 >>= λ y. Ok ((x.0, y.0), y.1))

-- p where the first terminal's sort is in the set, else q
abbrev pub either : {A : Type 0} → List Sort → Reader A → Reader A → Reader A
either set p q ts = let r = q ts in cond (has set ts) (p ts) r

abbrev pub mapped : {A B : Type 0} → (A → B) → Reader A → Reader B
mapped f p ts = p ts >>= λ x. Ok (f x.0, x.1)

abbrev pub any_name : Reader NameId
any_name = mapped (λ t. t.name) (one Name)

abbrev pub any_word : List Text → Reader Text
any_word names = mapped (text_of names) any_name

abbrev pub any_number : Reader ℕ
any_number = mapped (λ t. t.value) (one Number)

abbrev pub any_literal : Reader (ℕ × ℕ)
any_literal = mapped (λ t. (t.width, t.value)) (one Literal)

abbrev pub optional : {A : Type 0} → List Sort → Reader A → Reader (Option A)
optional set p = either set (mapped Some p) (empty None)

abbrev pub after : {A : Type 0} → Sort → Reader A → Reader A
after sort p = mapped (λ x. x.1) (then (one sort) p)

abbrev pub closed : {A : Type 0} → Reader A → Sort → Reader A
closed p sort = mapped (λ x. x.0) (then p (one sort))

abbrev pub between : {A : Type 0} → Sort → Reader A → Sort → Reader A
between first p last = after first (closed p last)

-- p while the first terminal's sort is in the set, at most n times
abbrev pub times : {A : Type 0} → List Sort → Reader A → ℕ → Reader (List A)
times set p zero ts = cond (has set ts) (Err ts) (Ok ([], ts))
times set p (suc n) ts = cond (has set ts) (p ts >>= λ x. (times set p n x.1 >>= λ y. Ok (x.0 ∷ y.0, y.1))) (Ok ([], ts))

abbrev pub many : {A : Type 0} → List Sort → Reader A → Reader (List A)
many set p ts = times set p (length ts) ts

abbrev pub separated : {A : Type 0} → Sort → Reader A → Reader (List A)
separated sort p = mapped (λ x. x.0 ∷ x.1) (then p (many (sort ∷ []) (after sort p)))

abbrev pub list_tail_times : {A : Type 0} → Sort → List Sort → Reader A → ℕ → Reader (List A)
list_tail_times sort set p zero ts = cond (has (sort ∷ []) ts) (Err ts) (Ok ([], ts))
list_tail_times sort set p (suc n) ts = cond (has (sort ∷ []) ts)
    (mapped (λ x. x.1) (then (one sort) (either set (mapped (λ x. x.0 ∷ x.1) (then p (list_tail_times sort set p n))) (empty []))) ts) (Ok ([], ts))

abbrev pub list_tail : {A : Type 0} → Sort → List Sort → Reader A → Reader (List A)
list_tail sort set p ts = list_tail_times sort set p (length ts) ts

abbrev pub listed : {A : Type 0} → Sort → List Sort → Reader A → Reader (List A)
listed sort set p = either set (mapped (λ x. x.0 ∷ x.1) (then p (list_tail sort set p))) (empty [])

-- what was read before, and what is still read
abbrev pub with_front : {A : Type 0} → List A → Answer (List A) → Answer (List A)
with_front front read = read >>= λ x. Ok (front ++ x.0, x.1)

-- all of the terminals are to be read
abbrev pub whole : {A : Type 0} → Answer A → Result A (List Terminal)
whole (Ok (a, [])) = Ok a
whole (Ok (a, t ∷ ts)) = Err (t ∷ ts)
whole (Err bad) = Err bad

-- this is how reading ends, unless for want of memory
abbrev pub Fails : {Y : Type 0} → ReadEnd → Result Y (List Terminal) → Type 0
Fails ends.Memory read = Unit {0}
Fails (ends.Refused bad) read = read ≡ Err (bad.now)

-- what a function returned, seen by view, is what reading gives, unless for want of memory
abbrev pub Gives : {X Y : Type 0} → (X → Y) → Result X ReadEnd → Result Y (List Terminal) → Type 0
Gives view (Ok x) read = read ≡ Ok (view x)
Gives view (Err e) read = Fails e read

-- what a function returned is what reading gives, with whatever names
abbrev pub GivesNamed : {X Y : Type 0} → (List Text → X → Y) → Result X ReadEnd → (List Text → Result Y (List Terminal)) → Type 0
GivesNamed view result read = (names : List Text) → Gives (view names) result (read names)
