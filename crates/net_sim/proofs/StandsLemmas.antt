-- A simulation that stands at a row of a run: how it comes there, goes on and ends.
use Rattle.std.proofs.Common.{◌≡◌, ℕ, zero, suc, ◌+◌, ◌<◌, ◌≤◌, List, Bool, true, false, Option, Some, None, refl, sym, ap, ap₂, ◌∙◌, arith, inl, inr, ◌⊎◌, subst}
use Rattle.std.specs.Prelude.{◌==◌, if◌then◌else◌}
use Rattle.std.proofs.lemmas.Bool.{cases_lt}
use Rattle.std.proofs.lemmas.Bool.Decides.{Decides-eqb}
use Rattle.hw_names.specs.Name.{Text, dotted}
use Rattle.hw_prims.specs.Meaning.{next_state}
use Rattle.hw_prims.specs.Row.{Row, Trace, values_at}
use Rattle.hw_prims.specs.State.{State}
use Rattle.hw_prims.specs.Table.{inputs_of, pin_names}
use Rattle.hw_prims.specs.declared.prim.Primitive.{Primitive}
use Rattle.net_core.specs.Circuit.{IsRow, IsComputed, HasConflict, states_before}
use Rattle.net_core.specs.NetRun.{net_circuit, HasPin, IsNetCell, NetRun}
use Rattle.net_core.specs.Netlist.{Netlist, netlist_of}
use Rattle.net_sim.specs.Layout.{name_of}
use Rattle.net_sim.specs.Sim.{SimValue, IsRowOfSim, IsEvaluated, AreStepped, states_of, input_row, port_row}
use Rattle.net_sim.specs.Standing.{StandsOn, with_row, AreInputsAt, StandsAtStart, StandsAtNext, EndsAfterAll, EndsInItsConflict}

at_row : (trace : Trace) (t : ℕ) (row : Row) → with_row trace t row t ≡ row
at_row trace t row = ap (λ b. if b then row else trace t) ((Decides-eqb t t).1 refl)

before_row : (trace : Trace) (t : ℕ) (row : Row) (u : ℕ) → u < t → with_row trace t row u ≡ trace u
before_row trace t row u lt = go (u == t) refl
  where
    go : (b : Bool) → (u == t) ≡ b → (if b then row else trace u) ≡ trace u
    go true e = let same = (Decides-eqb u t).0 e in absurd (omega (arith, lt, same))
    go false e = refl

-- states before row t depend on the rows before it
states_kept : (trace : Trace) (t : ℕ) (row : Row) (loads : Text → List ℕ) (cell : Text) (prim : Primitive) (u : ℕ) → u ≤ t → states_before u (with_row trace t row) loads cell prim ≡ states_before u trace loads cell prim
states_kept trace t row loads cell prim zero le = refl
states_kept trace t row loads cell prim (suc u) le =
    ap₂ (next_state prim) (states_kept trace t row loads cell prim u (omega (arith, le)))
    (ap (λ (r : Row). values_at r (dotted cell) (pin_names (inputs_of prim))) (before_row trace t row u (omega (arith, le))))

-- a row stays one where the cells' states and the inputs agree
row_along : (n : Netlist) (t : ℕ) (inputs inputs' : Row) (states states' : Text → Primitive → State) (row row' : Row) → row ≡ row' → ((port : Text) → HasPin n.ins port → inputs port ≡ inputs' port) → ((cell : Text) (prim : Primitive) → IsNetCell n cell prim → states cell prim ≡ states' cell prim) → IsRow (net_circuit n) t inputs states row → IsRow (net_circuit n) t inputs' states' row'
row_along n t inputs inputs' states states' row row' e same_inputs same is =
    subst (λ r. IsRow (net_circuit n) t inputs' states' r) e (record {
      given = λ port has. is.given port has ∙ same_inputs port has;
      driven = is.driven;
      computed = λ cell prim has. subst (λ s. IsComputed row cell prim s) (same cell prim has) (is.computed cell prim has);
    })

module _ (n : Netlist) (sim : SimValue) (t : ℕ) (inputs : Trace) (loads : Text → List ℕ) (trace : Trace) (stands : StandsOn n sim t inputs loads trace) (row : Row) (is : IsRow (net_circuit n) t (inputs t) (states_of n sim.states) row) where
  abbrev longer : Trace
  longer = with_row trace t row

  this_row : IsRow (net_circuit n) t (inputs t) (states_before t longer loads) (longer t)
  this_row =
      row_along n t (inputs t) (inputs t) (states_of n sim.states) (states_before t longer loads) row (longer t) (sym (at_row trace t row)) (λ port has. refl)
      (λ cell prim has. stands.states cell prim has ∙ sym (states_kept trace t row loads cell prim t (omega arith))) is

  earlier_row : (u : ℕ) → u < t → IsRow (net_circuit n) u (inputs u) (states_before u longer loads) (longer u)
  earlier_row u lt =
      row_along n u (inputs u) (inputs u) (states_before u trace loads) (states_before u longer loads) (trace u) (longer u) (sym (before_row trace t row u lt)) (λ port has. refl)
      (λ cell prim has. sym (states_kept trace t row loads cell prim u (omega (arith, lt)))) (stands.rows u lt)

  rows_more : (u : ℕ) → u < t + 1 → IsRow (net_circuit n) u (inputs u) (states_before u longer loads) (longer u)
  rows_more u lt = elim (cases_lt u t) [
    | inl before ↦ earlier_row u before
    | inr last ↦ let e : t ≡ u = omega (arith, lt, last) in subst (λ v. IsRow (net_circuit n) v (inputs v) (states_before v longer loads) (longer v)) e this_row
  ]

  earlier_clean : (u : ℕ) → u < t → (port : Text) → HasConflict (net_circuit n) u (longer u) port → ⊥
  earlier_clean u lt port clash = stands.clean u lt port (subst (λ r. HasConflict (net_circuit n) u r port) (before_row trace t row u lt) clash)

  clean_more : ((port : Text) → HasConflict (net_circuit n) t row port → ⊥) → (u : ℕ) → u < t + 1 → (port : Text) → HasConflict (net_circuit n) u (longer u) port → ⊥
  clean_more none u lt port clash = elim (cases_lt u t) [
    | inl before ↦ earlier_clean u before port clash
    | inr last ↦ let e : u ≡ t = omega (arith, lt, last) in none port (subst (λ r. HasConflict (net_circuit n) t r port) (at_row trace t row) (subst (λ v. HasConflict (net_circuit n) v (longer v) port) e clash))
  ]

  grow : (next : SimValue) → netlist_of next.net ≡ n → ((port : Text) → HasConflict (net_circuit n) t row port → ⊥) → ((cell : Text) (prim : Primitive) → IsNetCell n cell prim → states_of n next.states cell prim ≡ next_state prim (states_of n sim.states cell prim) (values_at row (dotted cell) (pin_names (inputs_of prim)))) → StandsOn n next (suc t) inputs loads longer
  grow next net none moved = record {
    net = net;
    rows = λ u lt. rows_more u (omega (arith, lt));
    clean = λ u lt. clean_more none u (omega (arith, lt));
    states = λ cell prim has. moved cell prim has
        ∙ ap₂ (next_state prim) (stands.states cell prim has ∙ sym (states_kept trace t row loads cell prim t (omega arith))) (ap (λ (r : Row). values_at r (dotted cell) (pin_names (inputs_of prim))) (sym (at_row trace t row)));
  }

  stop : (asked : ℕ) → t < asked → (port : Text) → HasConflict (net_circuit n) t row port → NetRun n asked inputs loads (t + 1) longer
  stop asked lt port clash = record {
    rows = rows_more;
    goes_on = λ u before. earlier_clean u (omega (arith, before));
    ends = by (cases_lt (t + 1) asked) (t, refl, port, subst (λ r. HasConflict (net_circuit n) t r port) (sym (at_row trace t row)) clash);
  }
    where
      by : ((t + 1 < asked) ⊎ (asked ≤ t + 1)) → ((u : ℕ) × (u + 1 ≡ t + 1) × (p : Text) × HasConflict (net_circuit n) u (longer u) p) → (t + 1 ≡ asked) ⊎ ((t + 1 < asked) × ((u : ℕ) × (u + 1 ≡ t + 1) × (p : Text) × HasConflict (net_circuit n) u (longer u) p))
      by (inl less) clash' = inr (less, clash')
      by (inr more) clash' = inl (omega (arith, more, lt))

-- before the first row a simulation stands at row 0
pub stands_at_start : StandsAtStart
stands_at_start net loads sim inputs trace is = record {
  net = ap netlist_of is.net_is;
  rows = λ u lt. absurd (omega (arith, lt));
  clean = λ u lt. absurd (omega (arith, lt));
  states = is.states;
}

-- the row that was evaluated is the next one of the run
row_is : (n : Netlist) (sim new : SimValue) (values : List ℕ) (conflict : Option ℕ) → netlist_of sim.net ≡ n → IsRowOfSim sim values new conflict → IsEvaluated n values sim.states new.values conflict
row_is n sim new values conflict net made = subst (λ m. IsEvaluated m values sim.states new.values conflict) net made.evaluated

given_row : (n : Netlist) (sim new : SimValue) (t : ℕ) (inputs : Row) (values : List ℕ) (conflict : Option ℕ) → AreInputsAt n inputs values → IsEvaluated n values sim.states new.values conflict → IsRow (net_circuit n) t inputs (states_of n sim.states) (port_row n new.values)
given_row n sim new t inputs values conflict given evaluated =
    row_along n t (input_row n values) inputs (states_of n sim.states) (states_of n sim.states) (port_row n new.values) (port_row n new.values) refl (λ port has. sym (given port has)) (λ cell prim has. refl) (evaluated.row t)

-- a row without a Conflict, and then an edge, go on to the next row
pub stands_at_next : StandsAtNext
stands_at_next n sim new next t inputs values loads trace stands given made edge =
    let evaluated = row_is n sim new values None stands.net made in
    let row = given_row n sim new t (inputs t) values None given evaluated in
    let same_net : netlist_of new.net ≡ n = ap netlist_of made.net ∙ stands.net in
    let stepped = subst (λ m. AreStepped m new.states new.values next.states) same_net edge.states in
    subst (λ m. StandsOn n next m inputs loads (with_row trace t (port_row n new.values))) (let e : suc t ≡ t + 1 = omega arith in e)
    (grow n sim t inputs loads trace stands (port_row n new.values) row next (ap netlist_of edge.net ∙ same_net) (evaluated.conflicts t)
    (λ cell prim has. stepped cell prim has ∙ ap (λ s. next_state prim (states_of n s cell prim) (values_at (port_row n new.values) (dotted cell) (pin_names (inputs_of prim)))) made.states))

-- after all rows that were asked the run is over
pub ends_after_all : EndsAfterAll
ends_after_all n sim asked inputs loads trace stands =
    record { rows = stands.rows; goes_on = λ u lt. stands.clean u (omega (arith, lt)); ends = inl refl }

-- a Conflict in row t ends the run with that row
pub ends_in_its_conflict : EndsInItsConflict
ends_in_its_conflict n sim new t asked inputs values port loads trace lt stands given made =
    let evaluated = row_is n sim new values (Some port) stands.net made in
    let row = given_row n sim new t (inputs t) values (Some port) given evaluated in
    let reported = (evaluated.conflicts t).1 in
    (stop n sim t inputs loads trace stands (port_row n new.values) row asked lt (name_of n port) reported.has, reported)
