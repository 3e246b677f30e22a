-- The transaction in whose interval a row lies is the first that is not over, or there is none.
use Rattle.std.proofs.Common.{◌≡◌, ℕ, zero, suc, ◌+◌, ◌<◌, ◌≤◌, Bool, true, false, cond, List, [], ◌∷◌, length, map, get_or, replicate, None, Some, refl, sym, ap, subst, ◌∙◌, arith, ⊎_elim, inl, inr}
use Rattle.std.specs.Prelude.{◌==◌, ◌&&◌, nat_le, nat_lt, find}
use Rattle.std.proofs.lemmas.Bool.{cases_lt, cases_eq}
use Rattle.std.proofs.lemmas.Bool.Decides.{eqb_tells, nat_tests}
use Rattle.std.proofs.lemmas.Option.{slice_get-get_or}
use Rattle.fil_ast.specs.declared.tx.Tx.{Tx}
use Rattle.stim_read.specs.TxRun.{Transaction, transaction_seen}
use Rattle.filc_report.specs.Intervals.{lies_in, holding, IsOver, ArePassed, IsFirstLeft, RiseByEvent}
use Rattle.filc_report.specs.declared.intervals.Interval.{Interval}

-- ---- one transaction

le_no : (a b : ℕ) → b < a → nat_le a b ≡ false
le_no a b h = grind (arith, nat_tests)

lt_no : (a b : ℕ) → b ≤ a → nat_lt a b ≡ false
lt_no a b h = grind (arith, nat_tests)

le_yes : (a b : ℕ) → a ≤ b → nat_le a b ≡ true
le_yes a b h = grind (arith, nat_tests)

lt_yes : (a b : ℕ) → a < b → nat_lt a b ≡ true
lt_yes a b h = grind (arith, nat_tests)

and_no : (a : Bool) → (a && false) ≡ false
and_no true = refl
and_no false = refl

-- a test that holds only where the row lies elsewhere
not_there : (i : Interval) (row : ℕ) (tx : Tx) → (i.event ≡ tx.event → (nat_le (tx.start + i.from) row && nat_lt row (tx.start + i.to)) ≡ false) → lies_in i row (transaction_seen tx) ≡ false
not_there i row tx outside = ⊎_elim
    (λ same. ap (λ b. i.event == tx.event && b) (outside same.1) ∙ and_no (i.event == tx.event))
    (λ other. ap (λ b. b && (nat_le (tx.start + i.from) row && nat_lt row (tx.start + i.to))) other.0)
    (eqb_tells i.event tx.event)

pub over_not : (i : Interval) (row : ℕ) (tx : Tx) → IsOver i row tx → lies_in i row (transaction_seen tx) ≡ false
over_not i row tx over = not_there i row tx (λ same.
    ap (λ b. nat_le (tx.start + i.from) row && b) (lt_no row (tx.start + i.to) (over same)) ∙ and_no (nat_le (tx.start + i.from) row))

pub later_not : (i : Interval) (row : ℕ) (tx : Tx) → (i.event ≡ tx.event → row < tx.start + i.from) → lies_in i row (transaction_seen tx) ≡ false
later_not i row tx later = not_there i row tx (λ same. ap (λ b. b && nat_lt row (tx.start + i.to)) (le_no (tx.start + i.from) row (later same)))

event_same : (i : Interval) (tx : Tx) → i.event ≡ tx.event → (i.event == tx.event) ≡ true
event_same i tx same = grind (arith, nat_tests)

pub lies_there : (i : Interval) (row : ℕ) (tx : Tx) → i.event ≡ tx.event → tx.start + i.from ≤ row → row < tx.start + i.to → lies_in i row (transaction_seen tx) ≡ true
lies_there i row tx same begun left =
    ap (λ b. b && (nat_le (tx.start + i.from) row && nat_lt row (tx.start + i.to))) (event_same i tx same)
    ∙ ap (λ b. b && nat_lt row (tx.start + i.to)) (le_yes (tx.start + i.from) row begun) ∙ lt_yes row (tx.start + i.to) left

-- ---- the first of a list

pub find_none : {X Y : Type 0} (test : Y → Bool) (f : X → Y) (xs : List X) → ((k : ℕ) (d : X) → k < length xs → test (f (get_or xs k d)) ≡ false) → find test (map f xs) ≡ None
find_none test f [] outside = refl
find_none {X} {Y} test f (x ∷ xs) outside =
    ap (λ b. cond b (Some (f x)) (find test (map f xs))) (outside 0 x (omega arith)) ∙ find_none test f xs (λ k d within. outside (suc k) d (omega arith))

pub find_first : {X Y : Type 0} (test : Y → Bool) (f : X → Y) (xs : List X) (first : ℕ) (d : X) → first < length xs → ((k : ℕ) (d : X) → k < first → test (f (get_or xs k d)) ≡ false) → test (f (get_or xs first d)) ≡ true → find test (map f xs) ≡ Some (f (get_or xs first d))
find_first {X} {Y} test f [] first d within outside inside_it = absurd (let none : length {A = X} [] ≡ 0 = refl in omega (arith, within, none))
find_first test f (x ∷ xs) zero d within outside inside_it = ap (λ b. cond b (Some (f x)) (find test (map f xs))) inside_it
find_first test f (x ∷ xs) (suc first) d within outside inside_it =
    ap (λ b. cond b (Some (f x)) (find test (map f xs))) (outside 0 x (omega arith))
    ∙ find_first test f xs first d (omega arith) (λ k e before. outside (suc k) e (omega arith)) inside_it

-- ---- the transaction that a row lies in

pub passed_later : (i : Interval) (txs : List Tx) (next row : ℕ) → ArePassed i txs next row → ArePassed i txs next (row + 1)
passed_later i txs next row passed = record { within = passed.within; over = λ k d low high same. omega (arith, passed.over k d low high same) }

module _ (i : Interval) (txs : List Tx) (first row : ℕ) (is : IsFirstLeft i txs first row) where
  earlier_not : (k : ℕ) (d : Tx) → k < first → lies_in i row (transaction_seen (get_or txs k d)) ≡ false
  earlier_not k d before = over_not i row (get_or txs k d) (is.passed.over k d (omega arith) before)

  pub left_at : (d : Tx) → first < length txs → (i.event ≡ (get_or txs first d).event) × (row < (get_or txs first d).start + i.to)
  left_at d within = is.left (get_or txs first d) (slice_get-get_or txs first d within)

  pub holding_first : (d : Tx) → first < length txs → (get_or txs first d).start + i.from ≤ row → holding i row txs ≡ Some (transaction_seen (get_or txs first d))
  holding_first d within begun =
      let left = left_at d within in
      find_first (lies_in i row) transaction_seen txs first d within earlier_not (lies_there i row (get_or txs first d) left.0 begun left.1)

  later_one : RiseByEvent txs → ((d : Tx) → first < length txs → row < (get_or txs first d).start + i.from) → (k : ℕ) (d : Tx) → first < k → k < length txs → i.event ≡ (get_or txs k d).event → row < (get_or txs k d).start + i.from
  later_one rise late k d after within same =
      let inside : first < length txs = omega arith in
      let begins = late d inside in
      let rises : (get_or txs first d).start ≤ (get_or txs k d).start = rise first k d after within (sym (left_at d inside).0 ∙ same) in
      omega (arith, begins, rises)

  pub holding_none : RiseByEvent txs → ((d : Tx) → first < length txs → row < (get_or txs first d).start + i.from) → holding i row txs ≡ None
  holding_none rise late = find_none (lies_in i row) transaction_seen txs (λ k d within.
      ⊎_elim (λ before. earlier_not k d before)
      (λ after. later_not i row (get_or txs k d) (λ same.
      elim (cases_eq k first) [
        | inl here ↦ subst (λ p. row < (get_or txs p d).start + i.from) (sym here) (late d (omega (arith, here, within)))
        | inr other ↦ later_one rise late k d (omega (arith, after, other)) within same
      ])) (cases_lt k first))

pub begun_so : (begin row : ℕ) → nat_le begin row ≡ true → begin ≤ row
begun_so begin row is = grind (arith, nat_tests)

pub unbegun_so : (begin row : ℕ) → nat_le begin row ≡ false → row < begin
unbegun_so begin row is = grind (arith, nat_tests)

-- a row that lies in an interval does so in a transaction of its event
pub event_of_lying : (i : Interval) (row : ℕ) (t : Transaction) → lies_in i row t ≡ true → i.event ≡ t.event
event_of_lying i row t lies = ⊎_elim (λ same. same.1)
    (λ other. absurd (let never : false ≡ true = sym (ap (λ b. b && (nat_le (t.start + i.from) row && nat_lt row (t.start + i.to))) other.0) ∙ lies in cc))
    (eqb_tells i.event t.event)

-- ---- before the first row no transaction is over

none_passed : (i : Interval) (txs : List Tx) → ArePassed i txs 0 0
none_passed i txs = record { within = omega arith; over = λ k d low high same. absurd (omega (arith, high)) }

same_at : (n k x : ℕ) → get_or (replicate n x) k x ≡ x
same_at zero k x = refl
same_at (suc n) zero x = refl
same_at (suc n) (suc k) x = same_at n k x

pub passed_at_first : (i : Interval) (txs : List Tx) (nexts : List ℕ) (count : ℕ) → nexts ≡ replicate count 0 → (k : ℕ) → ArePassed i txs (get_or nexts k 0) 0
passed_at_first i txs nexts count none k =
    subst (λ (next : ℕ). ArePassed i txs next 0) (sym (ap (λ (ns : List ℕ). get_or ns k 0) none ∙ same_at count k 0)) (none_passed i txs)
