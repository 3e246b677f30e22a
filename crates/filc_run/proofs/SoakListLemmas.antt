-- The transactions of a soak are a legal list.
use Rattle.std.proofs.lemmas.List.{map-append, append_assoc}
use Rattle.std.proofs.Common.{◌≡◌, ℕ, zero, suc, ◌+◌, ◌-◌, ◌*◌, ◌/◌, ◌<◌, ◌≤◌, ◌^◌, List, [], ◌∷◌, ◌++◌, length, map, get_or, codes, refl, sym, ap, ap₂, subst, ◌∙◌, arith}
use Rattle.std.specs.Prelude.{AllPairs, slice_get, option_map}
use Rattle.fil_ast.specs.Holds.{Follows, AreLegalStarts, Start, start_of}
use Rattle.fil_ast.specs.Tree.{Event}
use Rattle.fil_ast.specs.declared.tx.Tx.{Tx}
use Rattle.fil_share.specs.Uses.{listed_start, starts_of}
use Rattle.stim_read.specs.TxRun.{Transaction, transaction_seen}
use Rattle.filc_run.specs.Soaked.{next_number, soak, soak_transaction, soak_transactions, transactions_from}

-- transactions of the event, one after another from a row on, none after a last row
abbrev pub AreSoaked : ℕ → ℕ → List Transaction → Type 0
AreSoaked from last [] = Unit {0}
AreSoaked from last (t ∷ ts) = (from ≤ t.start) × (t.start ≤ last) × (t.event ≡ 0) × (t.widths ≡ 32 ∷ []) × AreSoaked (t.start + 1) last ts

soaked_before : (from earlier last : ℕ) (ts : List Transaction) → earlier ≤ from → AreSoaked from last ts → AreSoaked earlier last ts
soaked_before from earlier last [] before are = tt
soaked_before from earlier last (t ∷ ts) before are = (omega (arith, are.0), are.1, are.2, are.3, are.4)

soaked_from : (count number start last : ℕ) → number < 2 ^ 64 → start + 2 * count ≤ last → AreSoaked start last (transactions_from count number start)
soaked_from zero number start last small few = tt
soaked_from (suc count) number start last small few =
    let next = next_number number in
    let small_next : next < 2 ^ 64 = omega arith in
    let bit : next / 2 ^ 63 ≤ 1 = omega arith in (
      omega arith,
      omega arith,
      refl,
      refl,
      soaked_before (start + (1 + next / 2 ^ 63)) (start + 1) last (transactions_from count next (start + (1 + next / 2 ^ 63))) (omega arith)
          (soaked_from count next (start + (1 + next / 2 ^ 63)) last small_next (omega arith)),
    )

pub soak_soaked : (count : ℕ) → count ≤ 100000 → AreSoaked 0 200000 (soak_transactions count)
soak_soaked count few = soaked_from count count 0 200000 (omega arith) (omega arith)

-- ---- a legal list

-- pairs of a longer list
pub pairs_more : {X : Type 0} (R : X → X → Type 0) (x : X) (xs : List X) → ((k : ℕ) (d : X) → k < length xs → R x (get_or xs k d)) → AllPairs R xs → AllPairs R (x ∷ xs)
pairs_more R x xs first later = by
  where
    by : (i j : ℕ) (d : _) → i < j → j < length (x ∷ xs) → R (get_or (x ∷ xs) i d) (get_or (x ∷ xs) j d)
    by i zero d before within = absurd (omega arith)
    by zero (suc j) d before within = first j d (omega arith)
    by (suc i) (suc j) d before within = later i j d (omega arith) (omega arith)

abbrev start_in : ℕ → Start
start_in row = record { event = codes "G"; row = row }

only_event : Event
only_event = record { name = codes "G"; delay = 1 }

event_is : (k : ℕ) (e : Event) → k < 1 → get_or soak.events k e ≡ e → e.delay ≡ 1
event_is zero e within is = sym (ap (λ (d : Event). d.delay) is)
event_is (suc k) e within is = absurd (omega arith)

follows : (a b : ℕ) → a < b → Follows soak (start_in a) (start_in b)
follows a b before same = (before, λ e has named. let delay = event_is has.0 e has.1 has.2 in omega (arith, delay))

start_here : (tx : Tx) → tx.event ≡ 0 → listed_start (start_of soak tx) ≡ start_in tx.start ∷ []
start_here tx first = ap (λ (k : ℕ). listed_start (option_map (λ (e : Event). record { event = e.name; row = tx.start }) (slice_get soak.events k))) first

starts_here : (txs : List Tx) (from last : ℕ) → AreSoaked from last (map transaction_seen txs) → starts_of soak txs ≡ map (λ (tx : Tx). start_in tx.start) txs
starts_here [] from last are = refl
starts_here (tx ∷ txs) from last are = ap₂ ◌++◌ (start_here tx are.2) (starts_here txs (tx.start + 1) last are.4)

late : (txs : List Tx) (from last : ℕ) → AreSoaked from last (map transaction_seen txs) → (k : ℕ) (d : Start) → k < length (map (λ (tx : Tx). start_in tx.start) txs) → (row : ℕ) × (get_or (map (λ (tx : Tx). start_in tx.start) txs) k d ≡ start_in row) × (from ≤ row)
late [] from last are k d within = absurd (omega arith)
late (tx ∷ txs) from last are zero d within = (tx.start, refl, are.0)
late (tx ∷ txs) from last are (suc k) d within =
    let later = late txs (tx.start + 1) last are.4 k d (omega arith) in (later.0, later.1, omega (arith, later.2, are.0))

legal_so : (txs : List Tx) (from last : ℕ) → AreSoaked from last (map transaction_seen txs) → AllPairs (Follows soak) (map (λ (tx : Tx). start_in tx.start) txs)
legal_so [] from last are = λ i j d before within. absurd (omega arith)
legal_so (tx ∷ txs) from last are =
    pairs_more (Follows soak) (start_in tx.start) (map (λ (tx : Tx). start_in tx.start) txs)
    (λ k d within.
    let later = late txs (tx.start + 1) last are.4 k d within in
    subst (Follows soak (start_in tx.start)) (sym later.1) (follows tx.start later.0 (omega (arith, later.2))))
    (legal_so txs (tx.start + 1) last are.4)

pub soaked_legal : (txs : List Tx) (from last : ℕ) → AreSoaked from last (map transaction_seen txs) → AreLegalStarts soak (starts_of soak txs)
soaked_legal txs from last are = subst (AreLegalStarts soak) (sym (starts_here txs from last are)) (legal_so txs from last are)

-- one more is made
pub one_made : (txs : List Tx) (tx : Tx) (count made number start : ℕ) (all : List Transaction) → made < count → transaction_seen tx ≡ soak_transaction number start
    → map transaction_seen txs ++ transactions_from (count - made) number start ≡ all
    → map transaction_seen (txs ++ tx ∷ []) ++ transactions_from (count - (made + 1)) (next_number number) (start + (1 + next_number number / 2 ^ 63)) ≡ all
one_made txs tx count made number start all more is so_far =
    let step : count - made ≡ suc (count - (made + 1)) = omega arith in
    let rest : List Transaction = transactions_from (count - (made + 1)) (next_number number) (start + (1 + next_number number / 2 ^ 63)) in
    ap (λ (front : List Transaction). front ++ rest) (map-append transaction_seen txs (tx ∷ []))
    ∙ append_assoc (map transaction_seen txs) (transaction_seen tx ∷ []) rest
    ∙ ap (λ (t : Transaction). map transaction_seen txs ++ t ∷ rest) is
    ∙ ap (λ (k : ℕ). map transaction_seen txs ++ transactions_from k number start) (sym step)
    ∙ so_far
