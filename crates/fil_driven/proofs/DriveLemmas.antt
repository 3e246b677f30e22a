-- Inputs that transactions drive carry them: each value in its interval, and each start.
use Rattle.std.proofs.Common.{◌≡◌, ℕ, ◌+◌, ◌<◌, ◌≤◌, ◌==◌, ◌&&◌, Bool, true, false, cond, List, [], ◌∷◌, map, take, get_or, slice_get, Contains, All, Some, refl, sym, ap, subst, ◌∙◌, inl, inr, nat_le, nat_lt, eq-eqb, eqb-true, le-leb, leb-true, lt-ltb, ltb-true, arith}
use Rattle.std.specs.Prelude.{◌%◌, ◌^◌}
use Rattle.std.specs.List.{list_any}
use Rattle.std.specs.Option.{option_map_or}
use Rattle.std.specs.Str.{bytes_eq}
use Rattle.std.proofs.lemmas.Bool.{and_from, and_parts, false≢true}
use Rattle.std.proofs.lemmas.List.Elements.{All-contains, All-head, All-map, All-tail, All-weaker, Contains-get_or}
use Rattle.std.proofs.lemmas.Option.{slice_get-map}
use Rattle.hw_bits.specs.Values.{values_of}
use Rattle.hw_names.specs.Name.{Text, full_name}
use Rattle.hw_prims.specs.Timed as timed
use Rattle.hw_prims.specs.Timed.{Covers, TimedEvent, TimedPort, Transaction}
use Rattle.fil_ast.specs.Behaviours.{HasOwnValues, component_behaviour, delay_of, event_named, timed_event, timed_port, transaction_on}
use Rattle.fil_ast.specs.Flow.{value_named, with_values}
use Rattle.fil_ast.specs.Rules.{FilRules}
use Rattle.fil_ast.specs.Signature.{SigPort, Signature, component_signature, event_number, sig_port}
use Rattle.fil_ast.specs.Timeline.{IsShort}
use Rattle.fil_ast.specs.Transactions.{inputs_given, is_of_event}
use Rattle.fil_ast.specs.Tree.{Event, DataPort, Component, Design}
use Rattle.fil_ast.specs.declared.tx.Tx.{Tx}
use Rattle.fil_ast.specs.declared.tx.TxList.{TxList}
use Rattle.fil_promise.specs.Refines.{GiveInputs}
use Rattle.fil_share.specs.Carried.{IsOfEvent}
use Rattle.fil_share.proofs.CarriedLemmas.{transactions_are_legal, transactions_have_own_values}
use Rattle.fil_share.proofs.ListLemmas.{Contains-at, two_of}
use Rattle.fil_share.proofs.Lookup.{other_name, same_name}
use Rattle.fil_share.proofs.OwnLemmas.{no_event}
use Rattle.stim_read.specs.TxEvents.{ports_after}
use Rattle.stim_read.specs.TxRun as stim
use Rattle.stim_read.specs.TxRun.{transaction_seen, tx_run_seen}
use Rattle.fil_driven.specs.Laws.{AreTransactionsOf, DrivenRunsCarry, IsTransactionOf}
use Rattle.fil_driven.specs.TxDrive.{covering, covers, driven_by, given_value, go_in, input_in, input_named, starts_in, value_at}
use Rattle.fil_driven.proofs.EventLemmas.{delay_is, distinct_inputs, event_at, is_name, named_at_number, own_event, short_ports}
use Rattle.fil_driven.proofs.ListLemmas.{any_has, contains_map, find_one, from_any, from_map, pairs_unmapped, same_element}
use Rattle.fil_driven.proofs.PortLemmas.{event_is, mapped_from, no_event_with}

-- ---- values by name

no_values : (ports : List SigPort) (name : Text) → value_at ports [] name ≡ 0
no_values [] name = refl
no_values (p ∷ ports) name = refl

zero_or : (b : Bool) (rest : ℕ) → rest ≡ 0 → cond b 0 rest ≡ 0
zero_or true rest none = refl
zero_or false rest none = none

nothing_given : (event name : Text) (ports : List DataPort) → value_named (with_values ports (inputs_given event ports [])) name ≡ 0
nothing_given event name [] = refl
nothing_given event name (p ∷ ports) = by (is_of_event event p) (nothing_given event name ports)
  where
    by : (b : Bool) → value_named (with_values ports (inputs_given event ports [])) name ≡ 0
        → value_named (with_values (p ∷ ports) (cond b (0 ∷ inputs_given event ports []) (0 ∷ inputs_given event ports []))) name ≡ 0
    by true rest = zero_or (bytes_eq p.name name) _ rest
    by false rest = zero_or (bytes_eq p.name name) _ rest

-- each port of the name is of the event
abbrev IsOwn : Text → Text → DataPort → Type 0
IsOwn event name p = p.name ≡ name → is_of_event event p ≡ true

module _ (events : List Event) (k : ℕ) (event : Text) (same : (name : Text) → (event_number events name == k) ≡ bytes_eq name event) where
  abbrev own_ports : List DataPort → List SigPort
  own_ports ports = ports_after k (map (sig_port events) ports)

  -- the value of an input of the event is the one that is given for it
  given_is : (name : Text) (ports : List DataPort) (values : List ℕ) → All (IsOwn event name) ports → value_at (own_ports ports) values name ≡ value_named (with_values ports (inputs_given event ports values)) name
  given_is name [] values own = refl
  given_is name (p ∷ ports) [] own = no_values (own_ports (p ∷ ports)) name ∙ sym (nothing_given event name (p ∷ ports))
  given_is name (p ∷ ports) (v ∷ values) own =
      ap (λ b. value_at (cond b (sig_port events p ∷ own_ports ports) (own_ports ports)) (v ∷ values) name) (same p.from.event)
      ∙ by (is_of_event event p) refl (λ vs. given_is name ports vs (All-tail (IsOwn event name) p ports own))
    where
      by : (b : Bool) → is_of_event event p ≡ b → ((vs : List ℕ) → value_at (own_ports ports) vs name ≡ value_named (with_values ports (inputs_given event ports vs)) name)
          → value_at (cond b (sig_port events p ∷ own_ports ports) (own_ports ports)) (v ∷ values) name
          ≡ value_named (with_values (p ∷ ports) (cond b (v ∷ inputs_given event ports values) (0 ∷ inputs_given event ports (v ∷ values)))) name
      by true is rest = ap (λ x. cond (bytes_eq p.name name) v x) (rest values)
      by false is rest =
          let apart : p.name ≡ name → ⊥ = λ here. false≢true (sym is ∙ All-head (IsOwn event name) p ports own here) in
          rest (v ∷ values) ∙ sym (ap (λ b. cond b 0 (value_named (with_values ports (inputs_given event ports (v ∷ values))) name)) (other_name p.name name apart))

-- ---- rows of intervals

-- the row lies in the interval of the port
pub record IsCovered (p : SigPort) (row : ℕ) (t : stim.Transaction) : Type 0 where
  pub event : p.from.event ≡ t.event
  pub from : t.start + p.from.plus ≤ row
  pub to : row < t.start + p.to.plus

pub covered_so : (p : SigPort) (row : ℕ) (t : stim.Transaction) → covers p row t ≡ true → IsCovered p row t
covered_so p row t is =
    let both = and_parts (p.from.event == t.event) (nat_le (t.start + p.from.plus) row && nat_lt row (t.start + p.to.plus)) is in
    let rows = and_parts (nat_le (t.start + p.from.plus) row) (nat_lt row (t.start + p.to.plus)) both.1 in
    record {
      event = eqb-true p.from.event t.event both.0;
      from = leb-true (t.start + p.from.plus) row rows.0;
      to = ltb-true row (t.start + p.to.plus) rows.1;
    }

pub covered_is : (p : SigPort) (row : ℕ) (t : stim.Transaction) → IsCovered p row t → covers p row t ≡ true
covered_is p row t is =
    and_from (p.from.event == t.event) (nat_le (t.start + p.from.plus) row && nat_lt row (t.start + p.to.plus))
    (eq-eqb p.from.event t.event is.event)
    (and_from (nat_le (t.start + p.from.plus) row) (nat_lt row (t.start + p.to.plus)) (le-leb (t.start + p.from.plus) row is.from) (lt-ltb row (t.start + p.to.plus) is.to))

-- of transactions that are apart no two cover a row of a short port
covered_twice : (c : Component) (p : DataPort) (a b : Tx) (row : ℕ) → IsShort c p → IsOfEvent c a → IsCovered (sig_port c.events p) row (transaction_seen a) → IsCovered (sig_port c.events p) row (transaction_seen b)
    → timed.NeverOverlap (transaction_on c a) (transaction_on c b) → ⊥
covered_twice c p a b row short within on_a on_b apart =
    let e = get_or c.events a.event no_event in
    let at = event_at c a within in
    let long = short e (Contains-at c.events a.event e at) (named_at_number c.events p.from.event e (ap (slice_get c.events) on_a.event ∙ at)) in
    let held_a = delay_is c a.event e at in
    let held_b : delay_of c b.event ≡ e.delay = ap (delay_of c) (sym on_b.event ∙ on_a.event) ∙ held_a in
    let from_a : a.start + p.from.plus ≤ row = on_a.from in
    let from_b : b.start + p.from.plus ≤ row = on_b.from in
    let to_a : row < a.start + p.to.plus = on_a.to in
    let to_b : row < b.start + p.to.plus = on_b.to in
    elim (apart (sym on_a.event ∙ on_b.event)) [
      | inl first ↦ (let before : a.start + delay_of c a.event ≤ b.start = first in omega arith)
      | inr second ↦ (let before : b.start + delay_of c b.event ≤ a.start = second in omega arith)
    ]

-- an interface port in a row in which its event starts or does not
abbrev bit : Bool → ℕ
bit b = cond b 1 0

is_one : (b : Bool) → bit b ≡ 1 → b ≡ true
is_one true one = refl
is_one false one = absurd (omega (arith, one))

-- ---- a component's transactions

module _ (comps : Design) (n : ℕ) (c : Component) (rules : FilRules comps) (there : slice_get comps n ≡ Some c) (list : TxList) (are : AreTransactionsOf c list) where
  abbrev earlier : Design
  earlier = take n comps

  abbrev txs : List Tx
  txs = list.txs.items

  abbrev sig : Signature
  sig = component_signature c

  pub on_events : All (IsOfEvent c) txs
  on_events = All-weaker (IsTransactionOf c) (IsOfEvent c) (λ tx is. is.event) txs are.each

  pub on_legal : timed.AreLegalTransactions (component_behaviour earlier c).sig (map (transaction_on c) txs)
  on_legal = transactions_are_legal earlier c txs on_events are.legal

  pub on_own : All (HasOwnValues (component_behaviour earlier c)) (map (transaction_on c) txs)
  on_own = All-map (HasOwnValues (component_behaviour earlier c)) (transaction_on c) txs (λ k d within. transactions_have_own_values comps n c (get_or txs k d) rules there (on_events k d within))

  -- two of them that cover a row of an input are one
  one_covers : (p : DataPort) → Contains c.ins p → (a b : Tx) (row : ℕ) → Contains txs a → Contains txs b → IsCovered (sig_port c.events p) row (transaction_seen a) → IsCovered (sig_port c.events p) row (transaction_seen b) → a ≡ b
  one_covers p has a b row has_a has_b on_a on_b =
      let R : Tx → Tx → Type 0 = λ x y. timed.NeverOverlap (transaction_on c x) (transaction_on c y) in
      let short = All-contains (IsShort c) c.ins p (short_ports comps n c rules there).ins has in
      elim (two_of R txs a b (pairs_unmapped timed.NeverOverlap (transaction_on c) txs on_legal.apart) has_a has_b) [
        | inl same ↦ same
        | inr (inl apart) ↦ absurd (covered_twice c p a b row short (All-contains (IsOfEvent c) txs a on_events has_a) on_a on_b apart)
        | inr (inr apart) ↦ absurd (covered_twice c p b a row short (All-contains (IsOfEvent c) txs b on_events has_b) on_b on_a apart)
      ]

  covering_is : (p : DataPort) → Contains c.ins p → (t : Tx) (row : ℕ) → Contains txs t → IsCovered (sig_port c.events p) row (transaction_seen t) → covering (sig_port c.events p) row (map transaction_seen txs) ≡ Some (transaction_seen t)
  covering_is p has t row has_t covered =
      let q = sig_port c.events p in
      find_one (covers q row) transaction_seen txs t has_t (covered_is q row (transaction_seen t) covered)
      (λ s has_s is. one_covers p has s t row has_s has_t (covered_so q row (transaction_seen s) is) covered)

  input_is : (p : DataPort) → Contains c.ins p → input_named sig p.name ≡ Some (sig_port c.events p)
  input_is p has =
      find_one (λ (q : SigPort). bytes_eq q.name p.name) (sig_port c.events) c.ins p has (same_name p.name p.name refl)
      (λ q there_q is. same_element (λ (x : DataPort). x.name) c.ins q p (distinct_inputs comps n c rules there) there_q has (is_name q.name p.name is))

  -- in each row of its interval an input has the value of the transaction
  value_is : (p : DataPort) → Contains c.ins p → (t : Tx) (row : ℕ) → Contains txs t → IsCovered (sig_port c.events p) row (transaction_seen t) → driven_by sig (tx_run_seen list) row p.name ≡ (transaction_on c t).values p.name
  value_is p has t row has_t covered =
      let run = tx_run_seen list in
      let q = sig_port c.events p in
      let same = own_event comps n c rules there t (All-contains (IsOfEvent c) txs t on_events has_t) in
      let own : is_of_event (event_named c t.event) p ≡ true = sym (same p.from.event) ∙ eq-eqb (event_number c.events p.from.event) t.event covered.event in
      let own_named : All (IsOwn (event_named c t.event) p.name) c.ins = λ k d within named.
      (let x = get_or c.ins k d in
      let one = same_element (λ (x : DataPort). x.name) c.ins x p (distinct_inputs comps n c rules there) (Contains-get_or c.ins k d within) has named in
      ap (is_of_event (event_named c t.event)) one ∙ own) in
      ap (λ o. option_map_or (go_in run row) o (option_map_or (input_in sig run row) (input_named sig p.name) 0)) (no_event_with comps n c rules there p has)
      ∙ ap (λ o. option_map_or (input_in sig run row) o 0) (input_is p has)
      ∙ ap (λ o. option_map_or (given_value sig p.name) o (run.idle % 2 ^ q.width)) (covering_is p has t row has_t covered)
      ∙ given_is c.events t.event (event_named c t.event) same p.name c.ins (values_of t.values.items) own_named

  covered_on : (p : DataPort) (t : Tx) (row : ℕ) → Covers (timed_port (sig_port c.events p)) (transaction_on c t) row → IsCovered (sig_port c.events p) row (transaction_seen t)
  covered_on p t row (event, from, to) =
      let last : row < t.start + (p.to.plus + 0) = to in
      record { event = event; from = from; to = omega (arith, last) }

  has_inputs : (row : ℕ) (tx : Transaction) → Contains (map (transaction_on c) txs) tx → timed.HasInputs (component_behaviour earlier c).sig.ins (full_name []) (driven_by sig (tx_run_seen list) row) tx row
  has_inputs row tx has p has_p covered =
      let t = from_map (transaction_on c) txs tx has in
      let o = from_map timed_port sig.ins p has_p in
      let q = from_map (sig_port c.events) c.ins o.0 o.1 in
      let port : timed_port (sig_port c.events q.0) ≡ p = ap timed_port q.2 ∙ o.2 in
      let G : TimedPort → Transaction → Type 0 = λ p tx. Covers p tx row → driven_by sig (tx_run_seen list) row p.name ≡ tx.values p.name in
      subst (λ (tx : Transaction). G p tx) t.2
      (subst (λ (p : TimedPort). G p (transaction_on c t.0)) port
      (λ covered. value_is q.0 q.1 t.0 row t.1 (covered_on q.0 t.0 row covered)))
      covered

  -- ---- starts

  starts_so : (k row : ℕ) (t : stim.Transaction) → starts_in k row t ≡ true → (t.event ≡ k) × (t.start ≡ row)
  starts_so k row t is =
      let both = and_parts (t.event == k) (t.start == row) is in (eqb-true t.event k both.0, eqb-true t.start row both.1)

  abbrev StartsIn : ℕ → ℕ → Type 0
  StartsIn k row = (tx : Transaction) × Contains (map (transaction_on c) txs) tx × (tx.event ≡ k) × (tx.start ≡ row)

  has_started : (k row : ℕ) → list_any (starts_in k row) (map transaction_seen txs) ≡ true → StartsIn k row
  has_started k row is =
      let t = from_any (starts_in k row) transaction_seen txs is in
      let starts = starts_so k row (transaction_seen t.0) t.2 in
      (transaction_on c t.0, contains_map (transaction_on c) txs t.0 t.1, starts.0, starts.1)

  is_started : (k row : ℕ) → StartsIn k row → list_any (starts_in k row) (map transaction_seen txs) ≡ true
  is_started k row (tx, has, event, start) =
      let t = from_map (transaction_on c) txs tx has in
      any_has (starts_in k row) transaction_seen txs t.0 t.1
      (and_from (t.0.event == k) (t.0.start == row)
      (eq-eqb t.0.event k (ap (λ (x : Transaction). x.event) t.2 ∙ event))
      (eq-eqb t.0.start row (ap (λ (x : Transaction). x.start) t.2 ∙ start)))

  has_starts : (row : ℕ) → timed.CarriesStarts (component_behaviour earlier c).sig (full_name []) (driven_by sig (tx_run_seen list) row) (map (transaction_on c) txs) row
  has_starts row k e go at is =
      let run = tx_run_seen list in
      mapped_from timed_event (slice_get sig.events k) e (sym (slice_get-map timed_event sig.events k) ∙ at)
      (λ s at_s same.
      (let value : driven_by sig run row go ≡ bit (list_any (starts_in k row) (map transaction_seen txs)) =
      ap (λ o. option_map_or (go_in run row) o (option_map_or (input_in sig run row) (input_named sig go) 0)) (event_is comps n c rules there k s go at_s (ap (λ (x : TimedEvent). x.go) same ∙ is)) in (
        λ one. has_started k row (is_one (list_any (starts_in k row) (map transaction_seen txs)) (sym value ∙ one)),
        λ starts. value ∙ ap bit (is_started k row starts),
      )))

  pub gives_inputs : (asked : ℕ) → GiveInputs (component_behaviour earlier c) asked (driven_by sig (tx_run_seen list)) (map (transaction_on c) txs)
  gives_inputs asked row within = record { values = has_inputs row; starts = has_starts row }

pub driven_runs_carry : DrivenRunsCarry
driven_runs_carry comps n refines list rules are asked loads height trace run =
    let c = refines.c in
    refines.carries (map (transaction_on c) list.txs.items) (on_legal comps refines.number c rules refines.at list are) (on_own comps refines.number c rules refines.at list are) asked
    (driven_by (component_signature c) (tx_run_seen list)) loads height trace run (gives_inputs comps refines.number c rules refines.at list are asked)
