-- What the proofs that primitives are timed share: the transactions of a legal list, the rows before an output, and a transaction's inputs.
use Rattle.std.proofs.Common.{◌≡◌, ◌⊎◌, ℕ, zero, suc, ◌+◌, ◌<◌, ◌≤◌, List, [], ◌∷◌, Some, refl, sym, ap, ap₂, ◌∙◌, subst, inl, inr, arith, get_or}
use Rattle.std.specs.Prelude.{map, slice_get, AllPairs, Contains, ◌↔◌}
use Rattle.std.proofs.lemmas.Bool.{cases_order}
use Rattle.std.proofs.lemmas.List.{get_or_default}
use Rattle.hw_prims.specs.Cell.{IsCell, state_before}
use Rattle.hw_prims.specs.Filament.{data_inputs, delay_of, go_of, needed, timed_signature}
use Rattle.hw_prims.specs.Meaning.{opening_state}
use Rattle.hw_prims.specs.Row.{Row, Text, Trace, values_at}
use Rattle.hw_prims.specs.State.{State}
use Rattle.hw_prims.specs.Table.{Pin, pin_names}
use Rattle.hw_prims.specs.Timed.{NeverOverlap, CarriesInputs, Chosen, Delay, Fixed, HasDelay, HasInputs, AreLegalTransactions, TimedEvent, TimedSignature, Transaction}
use Rattle.hw_prims.specs.declared.prim.Primitive.{Primitive}

-- row r of a cell of the primitive, after rows that carry a legal list, and one of its transactions
pub record TimedRow (prim : Primitive) : Type 0 where
  pub at : Text → Text
  pub height : ℕ
  pub trace : Trace
  pub cell : IsCell prim at height trace
  pub txs : List Transaction
  pub legal : AreLegalTransactions (timed_signature prim) txs
  pub r : ℕ
  pub within : r < height
  pub carried : (s : ℕ) → s < r → CarriesInputs (timed_signature prim) at (trace s) txs s
  pub tx : Transaction
  pub has : Contains txs tx

-- the state of the cell before row n
abbrev pub state_at : (prim : Primitive) → TimedRow prim → ℕ → State
state_at prim c n = state_before n c.trace c.at prim (opening_state prim [])

-- what the transaction gives to the primitive's data inputs
abbrev pub args_of : Primitive → Transaction → List ℕ
args_of prim tx = map tx.values (pin_names (data_inputs prim))

-- what holds of the only member of a list holds of each
pub of_only : {A : Type 0} (P : A → Type 0) (y x : A) → Contains (y ∷ []) x → P y → P x
of_only P y x (zero, within, same) h = subst P same h
of_only P y x (suc k, within, same) h = absurd (omega (arith, within))

-- two members of a list are one, or stand in it one before the other
pub in_order : {A : Type 0} (R : A → A → Type 0) (xs : List A) (a b : A) → AllPairs R xs → Contains xs a → Contains xs b → (a ≡ b) ⊎ (R a b ⊎ R b a)
in_order R xs a b pairs (i, below_i, is_a) (j, below_j, is_b) =
    let at_b : get_or xs j a ≡ b = get_or_default xs j a b below_j ∙ is_b in
    elim (cases_order i j) [
      | inl same ↦ inl (sym is_a ∙ ap (λ (k : ℕ). get_or xs k a) same ∙ at_b)
      | inr (inl before) ↦ inr (inl (subst (λ z. R z b) is_a (subst (λ z. R (get_or xs i a) z) at_b (pairs i j a before below_j))))
      | inr (inr after) ↦ inr (inr (subst (λ z. R z a) at_b (subst (λ z. R (get_or xs j a) z) is_a (pairs j i a after below_i))))
    ]

-- two transactions of one event are one, or apart
pub apart_or_one : (sig : TimedSignature) (txs : List Transaction) → AreLegalTransactions sig txs → (a b : Transaction) → Contains txs a → Contains txs b → a.event ≡ b.event →
    (a ≡ b) ⊎ ((a.start + a.hold ≤ b.start) ⊎ (b.start + b.hold ≤ a.start))
apart_or_one sig txs legal a b has_a has_b same =
    elim (in_order NeverOverlap txs a b legal.apart has_a has_b) [
      | inl one ↦ inl one
      | inr (inl apart) ↦ inr (apart same)
      | inr (inr apart) ↦ elim (apart (sym same)) [ inl later ↦ inr (inr later) | inr earlier ↦ inr (inl earlier) ]
    ]

only_event : (event e : TimedEvent) (n : ℕ) → slice_get (event ∷ []) n ≡ Some e → (n ≡ 0) × (event ≡ e)
only_event event e zero is = (refl, cc)
only_event event e (suc n) is = absurd (cc)

fixed_hold : (rows hold : ℕ) (delay : Delay) → delay ≡ Fixed rows → HasDelay delay hold → hold ≡ rows
fixed_hold rows hold (Fixed n) is held = let same : n ≡ rows = cc in held ∙ same
fixed_hold rows hold Chosen is held = absurd (cc)

-- a transaction holds a primitive of fixed delay for so many rows
pub held_for : (prim : Primitive) (txs : List Transaction) (rows : ℕ) → AreLegalTransactions (timed_signature prim) txs → delay_of prim ≡ Fixed rows → (tx : Transaction) → Contains txs tx →
    (tx.event ≡ 0) × (tx.hold ≡ rows)
held_for prim txs rows legal fixed tx has =
    let held = legal.held tx has in
    let event : TimedEvent = record { delay = delay_of prim; go = go_of prim } in
    let only = only_event event held.0 tx.event held.1 in
    (only.0, fixed_hold rows tx.hold held.0.delay (sym (ap (λ (e : TimedEvent). e.delay) only.1) ∙ fixed) held.2)

-- the interface port is 1 exactly in the rows of the starts
pub starts_in : (prim : Primitive) (c : TimedRow prim) (go : Text) → go_of prim ≡ Some go → (s : ℕ) → s < c.r →
    (c.trace s (c.at go) ≡ 1) ↔ ((tx : Transaction) × Contains c.txs tx × (tx.event ≡ 0) × (tx.start ≡ s))
starts_in prim c go is s before = (c.carried s before).starts 0 (record { delay = delay_of prim; go = go_of prim }) go refl is

-- pins that are needed in the row of the start have the transaction's values there
pub values_given : (pins : List Pin) (at : Text → Text) (row : Row) (tx : Transaction) (r : ℕ) → 0 ≡ tx.event → tx.start ≡ r → HasInputs (map needed pins) at row tx r →
    values_at row at (pin_names pins) ≡ map tx.values (pin_names pins)
values_given [] at row tx r event now has = refl
values_given (p ∷ pins) at row tx r event now has =
    ap₂ ◌∷◌ (has (needed p) (0, omega arith, refl) (event, omega arith, omega arith))
    (values_given pins at row tx r event now (λ q in_pins covers. has q (suc in_pins.0, omega (arith, in_pins.1), in_pins.2) covers))

-- so have the data inputs of the primitive, once the row of the start is carried
pub args_given : (prim : Primitive) (c : TimedRow prim) (tx : Transaction) → Contains c.txs tx → 0 ≡ tx.event → tx.start < c.r →
    values_at (c.trace tx.start) c.at (pin_names (data_inputs prim)) ≡ args_of prim tx
args_given prim c tx has event before =
    values_given (data_inputs prim) c.at (c.trace tx.start) tx tx.start event refl ((c.carried tx.start before).values tx has)
