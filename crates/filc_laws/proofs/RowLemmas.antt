-- A netlist that keeps N1 to N6 has one run: its rows agree at every port, and so do the states of its cells.
use Rattle.std.proofs.Common.{◌≡◌, ℕ, zero, suc, ◌<◌, List, ◌++◌, true, false, Option, Some, None, refl, sym, ap, ap₂, ◌∙◌, arith, inl, inr, subst}
use Rattle.std.specs.Prelude.{slice_get, map, Contains, is_some}
use Rattle.std.specs.List.{flat_map}
use Rattle.hw_graph.proofs.MemberLemmas.{In, in_at, at_of, in_of, contains_of, in_append, in_map, from_map, from_flat_map}
use Rattle.hw_names.specs.Name.{Text, dotted}
use Rattle.hw_prims.proofs.PrimLemmas.{output_agrees}
use Rattle.hw_prims.specs.Meaning.{next_state}
use Rattle.hw_prims.specs.Row.{Row, Trace}
use Rattle.hw_prims.specs.State.{State}
use Rattle.hw_prims.specs.Table.{Pin, prim_of, inputs_of, outputs_of, pin_names}
use Rattle.hw_prims.specs.declared.prim.Primitive.{Primitive}
use Rattle.net_core.specs.Circuit.{settled, states_before, IsRow, IsComputed}
use Rattle.net_core.specs.Graph.{ReadsPort, ByAssignment, ByCell, HasNoLoop, set_ports}
use Rattle.net_core.specs.NetRun.{net_circuit, net_drive, HasPin, IsNetCell, IsWritable}
use Rattle.net_core.specs.Netlist.{Netlist, CellLine, SetLine}
use Rattle.net_core.specs.Rules.{PortLine, ports_of, own_port, cell_input, cell_output, IsValid}
use Rattle.net_sim.proofs.AgreeLemmas.{AgreeAt, drivers_agree}
use Rattle.net_sim.proofs.LayoutLemmas.{ports_of-parts, ports_of_prim}
use Rattle.net_sim.proofs.OneRunLemmas.{input_number, values_alike}
use Rattle.net_sim.proofs.ValidLemmas.{cell_has_prim}
use Rattle.net_sim.specs.Layout.{port_names, ports_of_cell}
use Rattle.net_sim.specs.OneRun.{AreRows}
use Rattle.net_sim.specs.Order.{IsNamed}
use Rattle.filc_laws.proofs.WalkLemmas.{along_reads}
use Rattle.filc_laws.specs.OneRun.{RowsAreOne}

-- ---- what a port is: an input, one that assignments drive, or an output of a cell

data Role (n : Netlist) (name : Text) : Type 0 where
  Given : HasPin n.ins name → Role n name
  Written : IsWritable n name → Role n name
  Computed : (cell : Text) (prim : Primitive) (output : Text) → IsNetCell n cell prim → Contains (pin_names (outputs_of prim)) output → dotted cell output ≡ name → Role n name

some_of : {X : Type 0} (o : Option X) → is_some o ≡ true → (x : X) × (o ≡ Some x)
some_of None e = cc
some_of (Some x) e = (x, refl)

pin_in : (pins : List Pin) (p : Pin) → In pins p → Contains (map (λ (q : Pin). q.name) pins) p.name
pin_in pins p has = contains_of (map (λ (q : Pin). q.name) pins) p.name (in_map (λ (q : Pin). q.name) pins p has)

role_along : (n : Netlist) (a b : Text) → a ≡ b → Role n a → Role n b
role_along n a b e role = subst (λ (x : Text). Role n x) e role

cell_role : (n : Netlist) → IsValid n → (c : CellLine) → In n.cells c → (p : PortLine) → In (ports_of_cell c) p → Role n p.name
cell_role n valid c has p within =
    let k = at_of n.cells c has in
    let made = some_of (prim_of c.prim c.params) (cell_has_prim n valid k.0 c k.1) in
    let is : IsNetCell n c.name made.0 = (k.0, c, k.1, refl, made.1) in
    elim (in_append (map (cell_input c.name) (inputs_of made.0)) (map (cell_output c.name) (outputs_of made.0)) p (subst (λ l. In l p) (ports_of_prim c made.0 made.1) within)) [
      | inl input ↦
          let r = from_map (cell_input c.name) (inputs_of made.0) p input in
          role_along n (dotted c.name r.0.name) p.name (ap (λ (q : PortLine). q.name) r.2) (Written (inr (inr (c.name, made.0, is, r.0.name, pin_in (inputs_of made.0) r.0 r.1, refl))))
      | inr output ↦
          let r = from_map (cell_output c.name) (outputs_of made.0) p output in
          role_along n (dotted c.name r.0.name) p.name (ap (λ (q : PortLine). q.name) r.2) (Computed c.name made.0 r.0.name is (pin_in (outputs_of made.0) r.0 r.1) refl)
    ]

role_of : (n : Netlist) → IsValid n → (p : PortLine) → In (ports_of n) p → Role n p.name
role_of n valid p has = elim (in_append (map (own_port true false) n.ins ++ map (own_port false true) n.outs ++ map (own_port true true) n.wires) (flat_map ports_of_cell n.cells) p (subst (λ l. In l p) (ports_of-parts n) has)) [
  | inr there ↦ let r = from_flat_map ports_of_cell n.cells p there in cell_role n valid r.0 r.1 p r.2
  | inl own ↦ elim (in_append (map (own_port true false) n.ins ++ map (own_port false true) n.outs) (map (own_port true true) n.wires) p own) [
    | inr wire ↦
        let r = from_map (own_port true true) n.wires p wire in
        role_along n r.0.name p.name (ap (λ (q : PortLine). q.name) r.2) (Written (inr (inl (pin_in n.wires r.0 r.1))))
    | inl others ↦ elim (in_append (map (own_port true false) n.ins) (map (own_port false true) n.outs) p others) [
      | inl input ↦
          let r = from_map (own_port true false) n.ins p input in
          role_along n r.0.name p.name (ap (λ (q : PortLine). q.name) r.2) (Given (pin_in n.ins r.0 r.1))
      | inr out ↦
          let r = from_map (own_port false true) n.outs p out in
          role_along n r.0.name p.name (ap (λ (q : PortLine). q.name) r.2) (Written (inl (pin_in n.outs r.0 r.1)))
    ]
  ]
]

named_there : (n : Netlist) (m : ℕ) (name : Text) → IsNamed n m name → In (port_names n) name
named_there n m name (p, at, e) = subst (In (port_names n)) e (in_map (λ (line : PortLine). line.name) (ports_of n) p (in_at (ports_of n) m p at))

-- an input of a cell is a port
pub input_there : (n : Netlist) (cell : Text) (prim : Primitive) → IsNetCell n cell prim → (input : Text) → Contains (pin_names (inputs_of prim)) input → In (port_names n) (dotted cell input)
input_there n cell prim is input of = let number = input_number n cell prim is input of in named_there n number.0 (dotted cell input) number.1

module _ (n : Netlist) (valid : IsValid n) (no_loop : HasNoLoop n) where
  -- ---- one row

  module _ (t : ℕ) (inputs : Row) (states states' : Text → Primitive → State) (row row' : Row) (r : IsRow (net_circuit n) t inputs states row) (r' : IsRow (net_circuit n) t inputs states' row') (same_states : (cell : Text) (prim : Primitive) → IsNetCell n cell prim → states cell prim ≡ states' cell prim) where
    module _ (name : Text) (read : (other : Text) → ReadsPort n name other → row other ≡ row' other) where
      reads_alike : (k : ℕ) (a : SetLine) → slice_get n.sets k ≡ Some a → a.dst ≡ name → AgreeAt row row' (set_ports a)
      reads_alike k a is dst other has = read other (ByAssignment k a is dst (contains_of (set_ports a) other has))

      written : IsWritable n name → row name ≡ row' name
      written is = r.driven name (net_drive n name) (is, refl) ∙ ap settled (drivers_agree row row' name n.sets reads_alike) ∙ sym (r'.driven name (net_drive n name) (is, refl))

      computed : (cell : Text) (prim : Primitive) (output : Text) → IsNetCell n cell prim → Contains (pin_names (outputs_of prim)) output → dotted cell output ≡ name → row name ≡ row' name
      computed cell prim output is has e =
          let first = subst (λ s. IsComputed row cell prim s) (same_states cell prim is) (r.computed cell prim is) in
          let alike = output_agrees prim (states' cell prim) row row' (dotted cell) first (r'.computed cell prim is) output has (λ input of through. read (dotted cell input) (ByCell cell prim input output is of has through e refl)) in
          subst (λ (x : Text). row x ≡ row' x) e alike

      by_role : Role n name → row name ≡ row' name
      by_role (Given has) = r.given name has ∙ sym (r'.given name has)
      by_role (Written is) = written is
      by_role (Computed cell prim output is has e) = computed cell prim output is has e

    rows_agree : (name : Text) → In (port_names n) name → row name ≡ row' name
    rows_agree name there = along_reads n valid no_loop (λ x. row x ≡ row' x) (λ p has read.
        let line = from_map (λ (q : PortLine). q.name) (ports_of n) p has in
        by_role p read (role_along n line.0.name p line.2 (role_of n valid line.0 line.1))) name there

  -- ---- runs

  -- the traces agree at every port in this row
  abbrev pub AgreeIn : Trace → Trace → ℕ → Type 0
  AgreeIn trace other t = (name : Text) → In (port_names n) name → trace t name ≡ other t name

  -- where rows agree, so do the states after them
  pub states_alike : (loads : Text → List ℕ) (trace other : Trace) (t : ℕ) → ((s : ℕ) → s < t → AgreeIn trace other s) → (cell : Text) (prim : Primitive) → IsNetCell n cell prim → states_before t trace loads cell prim ≡ states_before t other loads cell prim
  states_alike loads trace other zero agree cell prim is = refl
  states_alike loads trace other (suc t) agree cell prim is =
      ap₂ (next_state prim) (states_alike loads trace other t (λ s less. agree s (omega (arith, less))) cell prim is)
      (values_alike (trace t) (other t) cell (pin_names (inputs_of prim)) (λ k pin at.
      let of : Contains (pin_names (inputs_of prim)) pin = contains_of (pin_names (inputs_of prim)) pin (in_at (pin_names (inputs_of prim)) k pin at) in
      agree t (omega arith) (dotted cell pin) (input_there n cell prim is pin of)))

  module _ (inputs : Trace) (loads : Text → List ℕ) (height tall : ℕ) (trace other : Trace) (rows : AreRows n inputs loads height trace) (rows' : AreRows n inputs loads tall other) where
    agree_before : (bound t : ℕ) → t < bound → t < height → t < tall → AgreeIn trace other t
    agree_before zero t within in_first in_second = absurd (omega (arith, within))
    agree_before (suc bound) t within in_first in_second =
        rows_agree t (inputs t) (states_before t trace loads) (states_before t other loads) (trace t) (other t) (rows t in_first) (rows' t in_second)
        (states_alike loads trace other t (λ s less. agree_before bound s (omega (arith, less, within)) (omega (arith, less, in_first)) (omega (arith, less, in_second))))

    pub agree_in : (t : ℕ) → t < height → t < tall → AgreeIn trace other t
    agree_in t in_first in_second = agree_before (suc t) t (omega arith) in_first in_second

pub rows_are_one : RowsAreOne
rows_are_one = λ n valid no_loop inputs loads height tall trace other rows rows' t in_first in_second port has. agree_in n valid no_loop inputs loads height tall trace other rows rows' t in_first in_second port (in_of (port_names n) port has)
