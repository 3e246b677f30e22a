-- Inputs that carry a legal list.
use Rattle.std.proofs.Common.{◌≡◌, ◌⊎◌, ℕ, ◌+◌, ◌<◌, ◌≤◌, ◌==◌, ◌&&◌, ◌||◌, Bool, true, false, cond, List, [], ◌∷◌, take, slice_get, find, Contains, Option, Some, None, refl, sym, ap, subst, ◌∙◌, inl, inr, nat_le, nat_lt, eq-eqb, eqb-true, le-leb, leb-true, lt-ltb, ltb-true, arith}
use Rattle.std.specs.List.{list_any}
use Rattle.std.specs.Option.{option_map_or}
use Rattle.std.specs.Str.{bytes_eq}
use Rattle.std.proofs.lemmas.Bool.{and_from, and_parts, false≢true}
use Rattle.std.proofs.lemmas.Option.{none-some, same_Some, slice_get-map}
use Rattle.hw_names.specs.Name.{Text, full_name}
use Rattle.hw_prims.specs.Row.{Trace}
use Rattle.hw_prims.specs.Timed.{CarriesStarts, Covers, HasInputs, TimedEvent, TimedPort, Transaction}
use Rattle.fil_ast.specs.Behaviours.{Itself, component_behaviour, timed_event, timed_port}
use Rattle.fil_ast.specs.Signature.{SigPort, Signature, component_signature, sig_port}
use Rattle.fil_ast.specs.Tree.{Component, DataPort, Design}
use Rattle.fil_share.proofs.ListLemmas.{Contains-here, Contains-there}
use Rattle.fil_share.proofs.Lookup.{same_name}
use Rattle.fil_driven.specs.TxDrive.{event_with, input_named}
use Rattle.fil_driven.proofs.EventLemmas.{distinct_inputs}
use Rattle.fil_driven.proofs.ListLemmas.{find_one, first_or_later, from_map, same_element}
use Rattle.fil_driven.proofs.PortLemmas.{event_is, mapped_from, no_event_with}
use Rattle.fil_laws.proofs.EventLemmas.{is_name}
use Rattle.fil_laws.proofs.PathLemmas.{one_transaction}
use Rattle.fil_laws.specs.Lists.{LegalListsCanBeGiven}
use Rattle.fil_laws.specs.Paths.{IsLegalList}

-- ---- searches

-- an element that passes
pub record Passes {X : Type 0} (test : X → Bool) (xs : List X) (x : X) : Type 0 where
  pub among : Contains xs x
  pub passes : test x ≡ true

first_passes : {X : Type 0} (test : X → Bool) (xs : List X) (x : X) → find test xs ≡ Some x → Passes test xs x
first_passes test [] x is = absurd (none-some x is)
first_passes test (y ∷ xs) x is = by (test y) refl is (first_passes test xs x)
  where
    by : (b : Bool) → test y ≡ b → cond b (Some y) (find test xs) ≡ Some x → (find test xs ≡ Some x → Passes test xs x) → Passes test (y ∷ xs) x
    by true here is rest = let same = same_Some y x is in record { among = (0, omega arith, same); passes = ap test (sym same) ∙ here }
    by false there is rest = let m = rest is in record { among = Contains-there y xs x m.among; passes = m.passes }

-- one is found, where one passes
one_found : {X : Type 0} (test : X → Bool) (xs : List X) (x : X) → Passes test xs x → (y : X) × (find test xs ≡ Some y)
one_found test [] x is = absurd (omega (arith, is.among.1))
one_found {X} test (y ∷ xs) x is = by (test y) refl (first_or_later y xs x is.among) (λ later. one_found test xs x (record { among = later; passes = is.passes }))
  where
    by : (b : Bool) → test y ≡ b → (y ≡ x) ⊎ Contains xs x → (Contains xs x → (z : X) × (find test xs ≡ Some z)) → (z : X) × (cond b (Some y) (find test xs) ≡ Some z)
    by true here one rest = (y, refl)
    by false there (inl same) rest = absurd (false≢true (sym there ∙ ap test same ∙ is.passes))
    by false there (inr later) rest = rest later

pub any_passes : {X : Type 0} (test : X → Bool) (xs : List X) (x : X) → Passes test xs x → list_any test xs ≡ true
any_passes test [] x is = absurd (omega (arith, is.among.1))
any_passes {X} test (y ∷ xs) x is = by (test y) refl (first_or_later y xs x is.among) (λ later. any_passes test xs x (record { among = later; passes = is.passes }))
  where
    by : (b : Bool) → test y ≡ b → (y ≡ x) ⊎ Contains xs x → (Contains xs x → list_any test xs ≡ true) → (b || list_any test xs) ≡ true
    by true here one rest = refl
    by false there (inl same) rest = absurd (false≢true (sym there ∙ ap test same ∙ is.passes))
    by false there (inr later) rest = rest later

pub some_passes : {X : Type 0} (test : X → Bool) (xs : List X) → list_any test xs ≡ true → (x : X) × Passes test xs x
some_passes test [] is = absurd (false≢true is)
some_passes {X} test (x ∷ xs) is = by (test x) refl is (some_passes test xs)
  where
    by : (b : Bool) → test x ≡ b → (b || list_any test xs) ≡ true → (list_any test xs ≡ true → (y : X) × Passes test xs y) → (y : X) × Passes test (x ∷ xs) y
    by true here is rest = (x, record { among = Contains-here x xs; passes = here })
    by false there is rest = let m = rest is in (m.0, record { among = Contains-there x xs m.0 m.1.among; passes = m.1.passes })

-- ---- the inputs

-- an interface port where its event starts or does not
abbrev bit : Bool → ℕ
bit b = cond b 1 0

is_one : (b : Bool) → bit b ≡ 1 → b ≡ true
is_one true one = refl
is_one false one = absurd (omega (arith, one))

is_bit : (b : Bool) → bit b ≤ 1
is_bit true = omega arith
is_bit false = omega arith

-- the row lies in the port's interval, in this transaction
abbrev covers : SigPort → ℕ → Transaction → Bool
covers p row tx = p.from.event == tx.event && (nat_le (tx.start + p.from.plus) row && nat_lt row (tx.start + p.to.plus))

covers_so : (p : SigPort) (row : ℕ) (tx : Transaction) → covers p row tx ≡ true → Covers (timed_port p) tx row
covers_so p row tx is =
    let both = and_parts (p.from.event == tx.event) (nat_le (tx.start + p.from.plus) row && nat_lt row (tx.start + p.to.plus)) is in
    let rows = and_parts (nat_le (tx.start + p.from.plus) row) (nat_lt row (tx.start + p.to.plus)) both.1 in
    let to = ltb-true row (tx.start + p.to.plus) rows.1 in
    (eqb-true p.from.event tx.event both.0, leb-true (tx.start + p.from.plus) row rows.0, omega (arith, to))

covers_is : (p : SigPort) (row : ℕ) (tx : Transaction) → Covers (timed_port p) tx row → covers p row tx ≡ true
covers_is p row tx (event, from, to) =
    let last : row < tx.start + (p.to.plus + 0) = to in
    and_from (p.from.event == tx.event) (nat_le (tx.start + p.from.plus) row && nat_lt row (tx.start + p.to.plus))
    (eq-eqb p.from.event tx.event event)
    (and_from (nat_le (tx.start + p.from.plus) row) (nat_lt row (tx.start + p.to.plus)) (le-leb (tx.start + p.from.plus) row from) (lt-ltb row (tx.start + p.to.plus) (omega (arith, last))))

abbrev starts_in : ℕ → ℕ → Transaction → Bool
starts_in row event tx = tx.event == event && tx.start == row

module _ (comps : Design) (n : ℕ) (txs : List Transaction) (list : IsLegalList comps n txs) where
  abbrev c : Component
  c = list.c

  abbrev sig : Signature
  sig = component_signature c

  -- an interface port is 1 in the rows of its event's starts
  abbrev go_in : ℕ → ℕ → ℕ
  go_in row event = bit (list_any (starts_in row event) txs)

  -- a data input has the value of a transaction in the rows of its interval, and 0 elsewhere
  abbrev value_in : ℕ → SigPort → ℕ
  value_in row p = option_map_or (λ (tx : Transaction). tx.values p.name) (find (covers p row) txs) 0

  abbrev inputs : Trace
  inputs row port = option_map_or (go_in row) (event_with 0 sig.events port) (option_map_or (value_in row) (input_named sig port) 0)

  input_is : (p : DataPort) → Contains c.ins p → input_named sig p.name ≡ Some (sig_port c.events p)
  input_is p has =
      find_one (λ (q : SigPort). bytes_eq q.name p.name) (sig_port c.events) c.ins p has (same_name p.name p.name refl)
      (λ q there is. same_element (λ (x : DataPort). x.name) c.ins q p (distinct_inputs comps n c list.rules list.at) there has (is_name q.name p.name is))

  value_is : (p : DataPort) → Contains c.ins p → (row : ℕ) (tx : Transaction) → Contains txs tx → Covers (timed_port (sig_port c.events p)) tx row →
      Contains (component_behaviour (take n comps) c).sig.ins (timed_port (sig_port c.events p)) → inputs row p.name ≡ tx.values p.name
  value_is p has row tx has_tx covered port =
      let q = sig_port c.events p in
      let found = one_found (covers q row) txs tx (record { among = has_tx; passes = covers_is q row tx covered }) in
      let first = first_passes (covers q row) txs found.0 found.1 in
      let one : found.0 ≡ tx =
      one_transaction comps n txs list [] (component_behaviour (take n comps) c) txs (Itself n c list.at refl) (timed_port q) (inl port) found.0 tx first.among has_tx row (covers_so q row found.0 first.passes) covered in
      ap (λ o. option_map_or (go_in row) o (option_map_or (value_in row) (input_named sig p.name) 0)) (no_event_with comps n c list.rules list.at p has)
      ∙ ap (λ o. option_map_or (value_in row) o 0) (input_is p has)
      ∙ ap (λ (o : Option Transaction). option_map_or (λ (x : Transaction). x.values p.name) o 0) found.1
      ∙ ap (λ (x : Transaction). x.values p.name) one

  has_inputs : (row : ℕ) (tx : Transaction) → Contains txs tx → HasInputs (component_behaviour (take n comps) c).sig.ins (full_name []) (inputs row) tx row
  has_inputs row tx has p has_p covered =
      let o = from_map timed_port sig.ins p has_p in
      let q = from_map (sig_port c.events) c.ins o.0 o.1 in
      let port : timed_port (sig_port c.events q.0) ≡ p = ap timed_port q.2 ∙ o.2 in
      let G : TimedPort → Type 0 = λ p. Covers p tx row → Contains (component_behaviour (take n comps) c).sig.ins p → inputs row p.name ≡ tx.values p.name in
      subst G port (λ covered has_port. value_is q.0 q.1 row tx has covered has_port) covered has_p

  -- ---- starts

  abbrev StartsIn : ℕ → ℕ → Type 0
  StartsIn row event = (tx : Transaction) × Contains txs tx × (tx.event ≡ event) × (tx.start ≡ row)

  has_started : (row event : ℕ) → list_any (starts_in row event) txs ≡ true → StartsIn row event
  has_started row event is =
      let t = some_passes (starts_in row event) txs is in
      let both = and_parts (t.0.event == event) (t.0.start == row) t.1.passes in
      (t.0, t.1.among, eqb-true t.0.event event both.0, eqb-true t.0.start row both.1)

  is_started : (row event : ℕ) → StartsIn row event → list_any (starts_in row event) txs ≡ true
  is_started row event (tx, has, on, at) =
      any_passes (starts_in row event) txs tx (record { among = has; passes = and_from (tx.event == event) (tx.start == row) (eq-eqb tx.event event on) (eq-eqb tx.start row at) })

  has_starts : (row : ℕ) → CarriesStarts (component_behaviour (take n comps) c).sig (full_name []) (inputs row) txs row
  has_starts row k e go at is =
      mapped_from timed_event (slice_get sig.events k) e (sym (slice_get-map timed_event sig.events k) ∙ at)
      (λ s at_s same.
      (let value : inputs row go ≡ bit (list_any (starts_in row k) txs) =
      ap (λ o. option_map_or (go_in row) o (option_map_or (value_in row) (input_named sig go) 0)) (event_is comps n c list.rules list.at k s go at_s (ap (λ (x : TimedEvent). x.go) same ∙ is)) in (
        λ one. has_started row k (is_one (list_any (starts_in row k) txs) (sym value ∙ one)),
        λ starts. value ∙ ap bit (is_started row k starts),
      )))

  -- ---- no other values

  abbrev IsKnown : ℕ → Text → ℕ → Type 0
  IsKnown row port value = (value ≤ 1) ⊎ ((tx : Transaction) × Contains txs tx × (value ≡ tx.values port))

  fits : (row : ℕ) (port : Text) → IsKnown row port (inputs row port)
  fits row port = by (event_with 0 sig.events port)
    where
      of_port : (p : SigPort) → p.name ≡ port → (o : Option Transaction) → find (covers p row) txs ≡ o → IsKnown row port (option_map_or (λ (tx : Transaction). tx.values p.name) o 0)
      of_port p named None is = inl (omega arith)
      of_port p named (Some tx) is = inr (tx, (first_passes (covers p row) txs tx is).among, ap tx.values named)

      of_input : (o : Option SigPort) → input_named sig port ≡ o → IsKnown row port (option_map_or (value_in row) o 0)
      of_input None is = inl (omega arith)
      of_input (Some p) is =
          let found = first_passes (λ (q : SigPort). bytes_eq q.name port) sig.ins p is in of_port p (is_name p.name port found.passes) (find (covers p row) txs) refl

      by : (o : Option ℕ) → IsKnown row port (option_map_or (go_in row) o (option_map_or (value_in row) (input_named sig port) 0))
      by None = of_input (input_named sig port) refl
      by (Some event) = inl (is_bit (list_any (starts_in row event) txs))

pub legal_lists_can_be_given : LegalListsCanBeGiven
legal_lists_can_be_given comps n txs list = record {
  inputs = inputs comps n txs list;
  give = λ asked row within. record { values = has_inputs comps n txs list row; starts = has_starts comps n txs list row };
  fit = fits comps n txs list;
}
