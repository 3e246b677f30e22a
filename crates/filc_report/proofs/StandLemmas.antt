-- A run grows by the row that a simulator evaluated.
use Rattle.std.proofs.Common.{◌≡◌, ◌≢◌, ℕ, zero, suc, ◌-◌, ◌<◌, ◌≤◌, ◌⊎◌, take, drop, slice_range, List, [], ◌∷◌, Bool, true, false, cond, eqb, length, get_or, map, Option, None, Some, refl, sym, ap, ap₂, subst, ◌∙◌, arith, inl, inr, ⊎_elim}
use Rattle.std.specs.Prelude.{bytes_eq}
use Rattle.std.proofs.lemmas.Bool.{ne_eqb, cases_lt}
use Rattle.std.proofs.lemmas.Bool.Decides.{eqb_tells}
use Rattle.std.proofs.lemmas.Slice.Eq.{bytes_eq-Decides}
use Rattle.std.proofs.lemmas.Grind.{same_number_lists}
use Rattle.std.proofs.lemmas.List.{length-map, get_or-map, drop-map, take-map}
use Rattle.filc_report.specs.Rows.{marked_line}
use Rattle.filc_report.specs.Views.{line_at, marked_row, ports_seen}
use Rattle.filc_report.specs.declared.view.View.{View}
use Rattle.hw_names.specs.Name.{Text, AreDistinct, dotted}
use Rattle.hw_prims.specs.Meaning.{opening_state, next_state}
use Rattle.hw_prims.specs.Row.{Row, Trace, values_at}
use Rattle.hw_prims.specs.State.{State}
use Rattle.hw_prims.specs.Table.{inputs_of, pin_names}
use Rattle.hw_prims.specs.declared.prim.Primitive.{Primitive}
use Rattle.net_core.specs.Circuit.{IsRow, IsComputed, HasConflict, IsReported, EndsInConflict, state_before, states_before}
use Rattle.net_core.specs.NetRun.{net_circuit, IsNetCell, HasPin}
use Rattle.net_core.specs.Netlist.{Netlist, netlist_of}
use Rattle.net_sim.specs.Sim.{SimValue, IsRowOfSim, IsEdgeOfSim, IsEvaluated, AreStepped, AreConflicts, states_of, input_row, port_row}
use Rattle.net_core.specs.Rules.{PortLine, ports_of}
use Rattle.net_sim.specs.Standing.{StandsOn}
use Rattle.net_sim.specs.Slots.{row_of}
use Rattle.net_sim.specs.Layout.{name_of, port_names}
use Rattle.filc_report.specs.Streams.{RunsCleanly, RunsIntoConflict}

-- ---- values along names

pub apart : (a b : Text) → a ≢ b → bytes_eq a b ≡ false
apart a b differ = by (bytes_eq a b) refl
  where
    by : (t : Bool) → bytes_eq a b ≡ t → bytes_eq a b ≡ false
    by true is = absurd (differ ((bytes_eq-Decides a b).0 is))
    by false is = is

pub row_of_at : (names : List Text) (values : List ℕ) (k : ℕ) → AreDistinct names → k < length names → k < length values → row_of names values (get_or names k []) ≡ get_or values k 0
row_of_at [] values k distinct named valued = absurd (let none : length {A = Text} [] ≡ 0 = refl in omega (arith, named, none))
row_of_at (name ∷ names) [] k distinct named valued = absurd (let none : length {A = ℕ} [] ≡ 0 = refl in omega (arith, valued, none))
row_of_at (name ∷ names) (v ∷ values) zero distinct named valued = ap (λ t. cond t v (row_of names values name)) ((bytes_eq-Decides name name).1 refl)
row_of_at (name ∷ names) (v ∷ values) (suc k) distinct named valued =
    ap (λ t. cond t v (row_of names values (get_or names k []))) (apart name (get_or names k []) (distinct 0 (suc k) [] (omega arith) named))
    ∙ row_of_at names values k (λ i j d before within. distinct (suc i) (suc j) d (omega arith) (omega arith)) (omega arith) (omega arith)

-- ---- a trace with one row more

pub with_row : Trace → ℕ → Row → Trace
with_row trace t row s = cond (eqb s t) row (trace s)

pub at_row : (trace : Trace) (t : ℕ) (row : Row) → with_row trace t row t ≡ row
unfolding with_row
at_row trace t row = ⊎_elim (λ same. ap (λ b. cond b row (trace t)) same.0) (λ differ. absurd (differ.1 refl)) (eqb_tells t t)

pub before_row : (trace : Trace) (t : ℕ) (row : Row) (s : ℕ) → s < t → with_row trace t row s ≡ trace s
unfolding with_row
before_row trace t row s before = ap (λ b. cond b row (trace s)) (ne_eqb s t (λ e. omega (arith, e, before)))

-- the state before a row depends on the rows before it
pub state_same : (t : ℕ) (trace trace' : Trace) (cell : Text) (prim : Primitive) (opening : State) → ((s : ℕ) → s < t → trace s ≡ trace' s) → state_before t trace cell prim opening ≡ state_before t trace' cell prim opening
state_same zero trace trace' cell prim opening same = refl
state_same (suc t) trace trace' cell prim opening same =
    ap₂ (λ state (row : Row). next_state prim state (values_at row (dotted cell) (pin_names (inputs_of prim)))) (state_same t trace trace' cell prim opening (λ s before. same s (omega arith))) (same t (omega arith))

states_same : (t : ℕ) (trace trace' : Trace) (loads : Text → List ℕ) (cell : Text) (prim : Primitive) → ((s : ℕ) → s < t → trace s ≡ trace' s) → states_before t trace loads cell prim ≡ states_before t trace' loads cell prim
states_same t trace trace' loads cell prim same = state_same t trace trace' cell prim (opening_state prim (loads cell)) same

-- ---- the simulator and the run

-- a row from the same inputs and states
row_so : (n : Netlist) (u : ℕ) (inputs inputs' : Row) (states states' : Text → Primitive → State) (row row' : Row) → ((port : Text) → HasPin n.ins port → inputs port ≡ inputs' port) → ((cell : Text) (prim : Primitive) → IsNetCell n cell prim → states cell prim ≡ states' cell prim) → row ≡ row' → IsRow (net_circuit n) u inputs states row → IsRow (net_circuit n) u inputs' states' row'
row_so n u inputs inputs' states states' row row' given kept is h =
    let moved = subst (λ r. IsRow (net_circuit n) u inputs states r) is h in
    record {
      given = λ port has. moved.given port has ∙ given port has;
      driven = moved.driven;
      computed = λ cell prim of. subst (IsComputed row' cell prim) (kept cell prim of) (moved.computed cell prim of);
    }

module _ (n : Netlist) (sim sim' : SimValue) (t : ℕ) (inputs : Trace) (loads : Text → List ℕ) (trace : Trace) (ins : List ℕ) (conflict : Option ℕ) (stands : StandsOn n sim t inputs loads trace) (given : (port : Text) → HasPin n.ins port → input_row n ins port ≡ inputs t port) (makes : IsRowOfSim sim ins sim' conflict) where
  pub longer : Trace
  longer = with_row trace t (port_row n sim'.values)

  evaluated : IsEvaluated n ins sim.states sim'.values conflict
  evaluated = subst (λ m. IsEvaluated m ins sim.states sim'.values conflict) stands.net makes.evaluated

  pub before : (u : ℕ) → u < t → longer u ≡ trace u
  unfolding longer
  before u earlier = before_row trace t (port_row n sim'.values) u earlier

  pub this_row : longer t ≡ port_row n sim'.values
  unfolding longer
  this_row = at_row trace t (port_row n sim'.values)

  states_at : (u : ℕ) → u ≤ t → (cell : Text) (prim : Primitive) → states_before u trace loads cell prim ≡ states_before u longer loads cell prim
  states_at u early cell prim = states_same u trace longer loads cell prim (λ s earlier. sym (before s (omega arith)))

  rows_so : (u : ℕ) → u < suc t → IsRow (net_circuit n) u (inputs u) (states_before u longer loads) (longer u)
  rows_so u within =
      ⊎_elim
      (λ earlier. row_so n u (inputs u) (inputs u) (states_before u trace loads) (states_before u longer loads) (trace u) (longer u) (λ port has. refl) (λ cell prim of. states_at u (omega (arith, earlier)) cell prim) (sym (before u earlier)) (stands.rows u earlier))
      (λ late.
      let here : t ≡ u = omega (arith, late, within) in
      subst (λ v. IsRow (net_circuit n) v (inputs v) (states_before v longer loads) (longer v)) here
      (row_so n t (input_row n ins) (inputs t) (states_of n sim.states) (states_before t longer loads) (port_row n sim'.values) (longer t) given
      (λ cell prim of. stands.states cell prim of ∙ states_at t (omega arith) cell prim) (sym this_row) (evaluated.row t)))
      (cases_lt u t)

  clean_before : (u : ℕ) → u < t → (port : Text) → HasConflict (net_circuit n) u (longer u) port → ⊥
  clean_before u earlier port has = stands.clean u earlier port (subst (λ r. HasConflict (net_circuit n) u r port) (before u earlier) has)

  -- a row without a Conflict
  clean_so : conflict ≡ None → (u : ℕ) → u < suc t → (port : Text) → HasConflict (net_circuit n) u (longer u) port → ⊥
  clean_so none u within port has =
      ⊎_elim (λ earlier. clean_before u earlier port has)
      (λ late.
      let here : u ≡ t = omega (arith, late, within) in
      let at : HasConflict (net_circuit n) t (longer t) port = subst (λ v. HasConflict (net_circuit n) v (longer v) port) here has in
      let no : AreConflicts n t (port_row n sim'.values) None = subst (λ c. AreConflicts n t (port_row n sim'.values) c) none (evaluated.conflicts t) in
      no port (subst (λ r. HasConflict (net_circuit n) t r port) this_row at))
      (cases_lt u t)

  pub runs_on : conflict ≡ None → RunsCleanly n (suc t) inputs loads longer
  runs_on none = record {
    run = record { rows = rows_so; goes_on = λ u more port has. clean_so none u (omega (arith, more)) port has; ends = inl refl };
    clean = λ u port within has. clean_so none u within port has;
  }

  pub steps_on : conflict ≡ None → (sim'' : SimValue) → IsEdgeOfSim sim' sim'' → StandsOn n sim'' (suc t) inputs loads longer
  steps_on none sim'' edge =
      let same_net : netlist_of sim'.net ≡ n = ap netlist_of makes.net ∙ stands.net in
      record {
        net = ap netlist_of edge.net ∙ same_net;
        rows = rows_so;
        clean = λ u within port has. clean_so none u within port has;
        states = λ cell prim of.
            let stepped = subst (λ m. AreStepped m sim'.states sim'.values sim''.states) same_net edge.states in
            let held : states_of n sim'.states cell prim ≡ states_before t longer loads cell prim =
            ap (λ ss. states_of n ss cell prim) makes.states ∙ stands.states cell prim of ∙ states_at t (omega arith) cell prim in
            stepped cell prim of
            ∙ ap₂ (λ state (row : Row). next_state prim state (values_at row (dotted cell) (pin_names (inputs_of prim)))) held (sym this_row);
      }

  pub reported_at : (port : ℕ) → conflict ≡ Some port → (port < length (port_names n)) × IsReported (net_circuit n) t (longer t) (name_of n port)
  reported_at port is =
      let at : AreConflicts n t (port_row n sim'.values) (Some port) = subst (λ c. AreConflicts n t (port_row n sim'.values) c) is (evaluated.conflicts t) in
      (at.0, subst (λ r. IsReported (net_circuit n) t r (name_of n port)) (sym this_row) at.1)

  ends_at : (asked port : ℕ) → t < asked → conflict ≡ Some port → (suc t ≡ asked) ⊎ ((suc t < asked) × EndsInConflict (net_circuit n) (suc t) longer)
  ends_at asked port within is =
      ⊎_elim (λ more. inr (more, (t, omega arith, name_of n port, (reported_at port is).1.has))) (λ all. inl (omega (arith, all, within))) (cases_lt (suc t) asked)

  pub runs_into : (asked port : ℕ) → t < asked → conflict ≡ Some port → RunsIntoConflict n asked inputs loads t (name_of n port) longer
  runs_into asked port within is = record {
    run = record { rows = rows_so; goes_on = λ u more name has. clean_before u (omega (arith, more)) name has; ends = ends_at asked port within is };
    within = within;
    reported = (reported_at port is).1;
  }

-- ---- the line of a row

-- a row along names has the values at them
pub map_row_of : (names : List Text) (values : List ℕ) → AreDistinct names → length values ≡ length names → map (row_of names values) names ≡ values
map_row_of names values distinct same =
    same_number_lists (map (row_of names values) names) values (length-map names (row_of names values) ∙ sym same)
    (λ k within.
    let named : k < length names = omega (arith, within, length-map names (row_of names values)) in
    get_or-map (row_of names values) names k [] 0 named ∙ row_of_at names values k distinct named (omega (arith, named, same)))

-- a row's marked text goes by the values of its ports
pub line_of_row : (names : List Text) (values : List ℕ) (first last cycle : ℕ) (marks : List Bool) → AreDistinct names → length values ≡ length names → marked_line cycle (slice_range names first last) (slice_range values first last) marks ≡ marked_line cycle (slice_range names first last) (map (row_of names values) (slice_range names first last)) marks
line_of_row names values first last cycle marks distinct same =
    let row = row_of names values in
    ap (λ vs. marked_line cycle (slice_range names first last) vs marks)
    (ap (λ vs. slice_range vs first last) (sym (map_row_of names values distinct same))
    ∙ ap (take (last - first)) (drop-map row first names) ∙ take-map row (last - first) (drop first names))

pub line_of_table : (n : Netlist) (names : List Text) (values : List ℕ) (view : View) (cycle : ℕ) → names ≡ port_names n → AreDistinct names → length values ≡ length (ports_of n) → line_at cycle names values view ≡ marked_row names view cycle (port_row n values)
line_of_table n names values view cycle are distinct all =
    line_of_row names values view.ports.start view.ports.end cycle view.shown.items distinct (omega (arith, all, ap length are, length-map (ports_of n) (λ (p : PortLine). p.name)))
    ∙ ap (λ ns. marked_line cycle (ports_seen names view) (map (row_of ns values) (ports_seen names view)) view.shown.items) are
