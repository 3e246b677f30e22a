-- Rows of the same inputs and states agree, port after port in an order; and so do the rows of a run.
use Rattle.std.proofs.Common.{◌≡◌, ℕ, zero, suc, ◌+◌, ◌<◌, List, [], ◌∷◌, ◌++◌, true, false, Option, Some, None, refl, sym, ap, ap₂, ◌∙◌, arith, get_or, length, inl, inr, subst}
use Rattle.std.specs.Prelude.{slice_get, map, Contains, is_some}
use Rattle.std.specs.List.{flat_map}
use Rattle.std.proofs.lemmas.List.{length-map}
use Rattle.std.proofs.lemmas.Option.{slice_get_within, same_Some}
use Rattle.hw_names.specs.Name.{Text, dotted}
use Rattle.hw_prims.proofs.PrimLemmas.{output_agrees}
use Rattle.hw_prims.specs.Meaning.{next_state}
use Rattle.hw_prims.specs.Row.{Row, Trace, values_at}
use Rattle.hw_prims.specs.State.{State}
use Rattle.hw_prims.specs.Table.{Pin, prim_of, inputs_of, outputs_of, pin_names}
use Rattle.hw_prims.specs.declared.prim.Primitive.{Primitive}
use Rattle.net_core.specs.Circuit.{settled, states_before, IsRow, IsComputed}
use Rattle.net_core.specs.Graph.{ReadsPort, ByAssignment, ByCell, set_ports}
use Rattle.net_core.specs.NetRun.{net_circuit, net_drive, HasPin, IsNetCell, IsWritable}
use Rattle.net_core.specs.Netlist.{Netlist, CellLine, SetLine}
use Rattle.net_core.specs.Rules.{PortLine, ports_of, own_port, cell_input, cell_output, IsValid}
use Rattle.net_sim.proofs.AgreeLemmas.{AgreeAt, drivers_agree, set_reads}
use Rattle.net_sim.proofs.CoverLemmas.{cover}
use Rattle.net_sim.proofs.GiverLemmas.{at_some}
use Rattle.net_sim.proofs.LayoutLemmas.{ports_of-parts, ports_of_prim, input_at}
use Rattle.hw_graph.proofs.MemberLemmas.{In, in_at, at_of, in_of, contains_of, in_append, in_map, from_map, from_flat_map}
use Rattle.net_sim.proofs.PlaceLemmas.{named_at, pin_at}
use Rattle.net_sim.proofs.ValidLemmas.{cell_has_prim}
use Rattle.net_sim.specs.Layout.{port_names, ports_of_cell, first_port}
use Rattle.net_sim.specs.OneRun.{AreRows, SameInputs, OneRun}
use Rattle.net_sim.specs.Order.{IsNamed, IsOrderOf}

-- what a port is: an input, one that assignments drive, or an output of a cell
data Role (n : Netlist) (name : Text) : Type 0 where
  Given : HasPin n.ins name → Role n name
  Written : IsWritable n name → Role n name
  Computed : (cell : Text) (prim : Primitive) (output : Text) → IsNetCell n cell prim → Contains (pin_names (outputs_of prim)) output → dotted cell output ≡ name → Role n name

some_of : {X : Type 0} (o : Option X) → is_some o ≡ true → (x : X) × (o ≡ Some x)
some_of None e = cc
some_of (Some x) e = (x, refl)

pin_in : (pins : List Pin) (p : Pin) → In pins p → Contains (map (λ (q : Pin). q.name) pins) p.name
pin_in pins p has = contains_of (map (λ (q : Pin). q.name) pins) p.name (in_map (λ (q : Pin). q.name) pins p has)

role_along : (n : Netlist) (a b : Text) → a ≡ b → Role n a → Role n b
role_along n a b e role = subst (λ (x : Text). Role n x) e role

cell_role : (n : Netlist) → IsValid n → (c : CellLine) → In n.cells c → (p : PortLine) → In (ports_of_cell c) p → Role n p.name
cell_role n valid c has p within =
    let k = at_of n.cells c has in
    let made = some_of (prim_of c.prim c.params) (cell_has_prim n valid k.0 c k.1) in
    let is : IsNetCell n c.name made.0 = (k.0, c, k.1, refl, made.1) in
    elim (in_append (map (cell_input c.name) (inputs_of made.0)) (map (cell_output c.name) (outputs_of made.0)) p (subst (λ l. In l p) (ports_of_prim c made.0 made.1) within)) [
      | inl input ↦
          let r = from_map (cell_input c.name) (inputs_of made.0) p input in
          role_along n (dotted c.name r.0.name) p.name (ap (λ (q : PortLine). q.name) r.2) (Written (inr (inr (c.name, made.0, is, r.0.name, pin_in (inputs_of made.0) r.0 r.1, refl))))
      | inr output ↦
          let r = from_map (cell_output c.name) (outputs_of made.0) p output in
          role_along n (dotted c.name r.0.name) p.name (ap (λ (q : PortLine). q.name) r.2) (Computed c.name made.0 r.0.name is (pin_in (outputs_of made.0) r.0 r.1) refl)
    ]

role_of : (n : Netlist) → IsValid n → (p : PortLine) → In (ports_of n) p → Role n p.name
role_of n valid p has = elim (in_append (map (own_port true false) n.ins ++ map (own_port false true) n.outs ++ map (own_port true true) n.wires) (flat_map ports_of_cell n.cells) p (subst (λ l. In l p) (ports_of-parts n) has)) [
  | inr there ↦ let r = from_flat_map ports_of_cell n.cells p there in cell_role n valid r.0 r.1 p r.2
  | inl own ↦ elim (in_append (map (own_port true false) n.ins ++ map (own_port false true) n.outs) (map (own_port true true) n.wires) p own) [
    | inr wire ↦
        let r = from_map (own_port true true) n.wires p wire in
        role_along n r.0.name p.name (ap (λ (q : PortLine). q.name) r.2) (Written (inr (inl (pin_in n.wires r.0 r.1))))
    | inl others ↦ elim (in_append (map (own_port true false) n.ins) (map (own_port false true) n.outs) p others) [
      | inl input ↦
          let r = from_map (own_port true false) n.ins p input in
          role_along n r.0.name p.name (ap (λ (q : PortLine). q.name) r.2) (Given (pin_in n.ins r.0 r.1))
      | inr out ↦
          let r = from_map (own_port false true) n.outs p out in
          role_along n r.0.name p.name (ap (λ (q : PortLine). q.name) r.2) (Written (inl (pin_in n.outs r.0 r.1)))
    ]
  ]
]

-- a port's number, by its name
pub number_of : (n : Netlist) (name : Text) → Contains (port_names n) name → (m : ℕ) × IsNamed n m name
number_of n name has =
    let k = at_of (port_names n) name (in_of (port_names n) name has) in
    let lt : k.0 < length (ports_of n) = omega (arith, slice_get_within (port_names n) k.0 name k.1, length-map (ports_of n) (λ (p : PortLine). p.name)) in
    let p = at_some (ports_of n) k.0 lt in
    (k.0, (p.0, p.1, same_Some p.0.name name (sym (named_at n k.0 p.0 p.1) ∙ k.1)))

-- an input of a cell has a number
pub input_number : (n : Netlist) (cell : Text) (prim : Primitive) → IsNetCell n cell prim → (input : Text) → Contains (pin_names (inputs_of prim)) input → (m : ℕ) × IsNamed n m (dotted cell input)
input_number n cell prim (k, c, at, named, made) input has =
    let pin = pin_at (inputs_of prim) input has in
    let none : Pin = record { name = []; width = 0 } in
    let port = input_at n k c prim at made pin.index none pin.within in
    (first_port n k + pin.index, (cell_input c.name (get_or (inputs_of prim) pin.index none), port, ap₂ dotted named pin.named))

-- rows that agree at the pins of a cell agree in its values
pub values_alike : (row row' : Row) (cell : Text) (pins : List Text) → ((k : ℕ) (pin : Text) → slice_get pins k ≡ Some pin → row (dotted cell pin) ≡ row' (dotted cell pin)) → values_at row (dotted cell) pins ≡ values_at row' (dotted cell) pins
values_alike row row' cell [] same = refl
values_alike row row' cell (pin ∷ pins) same = ap₂ ◌∷◌ (same 0 pin refl) (values_alike row row' cell pins (λ k q at. same (suc k) q at))

module _ (n : Netlist) (valid : IsValid n) (ports : List ℕ) (ordered : IsOrderOf n ports) where
  -- the place of a port in the order
  place_of : (m : ℕ) (name : Text) → IsNamed n m name → (i : ℕ) × (slice_get ports i ≡ Some m)
  place_of m name (p, at, e) = cover ports (length (ports_of n)) ordered.all ordered.in_range ordered.once m (slice_get_within (ports_of n) m p at)

  module _ (t : ℕ) (inputs other : Row) (states states' : Text → Primitive → State) (row row' : Row) (r : IsRow (net_circuit n) t inputs states row) (r' : IsRow (net_circuit n) t other states' row') (same_inputs : (port : Text) → HasPin n.ins port → inputs port ≡ other port) (same_states : (cell : Text) (prim : Primitive) → IsNetCell n cell prim → states cell prim ≡ states' cell prim) where
    abbrev Agree : ℕ → Type 0
    Agree bound = (i m : ℕ) (name : Text) → i < bound → slice_get ports i ≡ Some m → IsNamed n m name → row name ≡ row' name

    module _ (bound : ℕ) (agree : Agree bound) (i m : ℕ) (name : Text) (within : i < suc bound) (at : slice_get ports i ≡ Some m) (named : IsNamed n m name) where
      read : (q : ℕ) (read_name : Text) → IsNamed n q read_name → ReadsPort n name read_name → row read_name ≡ row' read_name
      read q read_name is reads =
          let j = place_of q read_name is in
          let before = ordered.after i j.0 m q name read_name at j.1 named is reads in
          agree j.0 q read_name (omega (arith, before, within)) j.1 is

      reads_alike : (k : ℕ) (a : SetLine) → slice_get n.sets k ≡ Some a → a.dst ≡ name → AgreeAt row row' (set_ports a)
      reads_alike k a is dst other has =
          let number = number_of n other (set_reads n valid k a is other has) in
          read number.0 other number.1 (ByAssignment k a is dst (contains_of (set_ports a) other has))

      written : IsWritable n name → row name ≡ row' name
      written is = r.driven name (net_drive n name) (is, refl) ∙ ap settled (drivers_agree row row' name n.sets reads_alike) ∙ sym (r'.driven name (net_drive n name) (is, refl))

      computed : (cell : Text) (prim : Primitive) (output : Text) → IsNetCell n cell prim → Contains (pin_names (outputs_of prim)) output → dotted cell output ≡ name → row name ≡ row' name
      computed cell prim output is has e =
          let first = subst (λ s. IsComputed row cell prim s) (same_states cell prim is) (r.computed cell prim is) in
          let alike = output_agrees prim (states' cell prim) row row' (dotted cell) first (r'.computed cell prim is) output has (λ input of through.
          let number = input_number n cell prim is input of in
          read number.0 (dotted cell input) number.1 (ByCell cell prim input output is of has through e refl)) in
          subst (λ (x : Text). row x ≡ row' x) e alike

      by_role : Role n name → row name ≡ row' name
      by_role (Given has) = r.given name has ∙ same_inputs name has ∙ sym (r'.given name has)
      by_role (Written is) = written is
      by_role (Computed cell prim output is has e) = computed cell prim output is has e

    agree_below : (bound : ℕ) → Agree bound
    agree_below zero i m name within at named = absurd (omega (arith, within))
    agree_below (suc bound) i m name within at named =
        by_role bound (agree_below bound) i m name within at named (role_along n named.0.name name named.2 (role_of n valid named.0 (in_at (ports_of n) m named.0 named.1)))

    rows_agree : (m : ℕ) (name : Text) → IsNamed n m name → row name ≡ row' name
    rows_agree m name named = let i = place_of m name named in agree_below (suc i.0) i.0 m name (omega arith) i.1 named

  module _ (inputs other : Trace) (loads : Text → List ℕ) (same : SameInputs n inputs other) (height tall : ℕ) (trace second : Trace) (rows : AreRows n inputs loads height trace) (rows' : AreRows n other loads tall second) where
    abbrev AgreeBefore : ℕ → Type 0
    AgreeBefore bound = (t : ℕ) → t < bound → t < height → t < tall → (m : ℕ) (name : Text) → IsNamed n m name → trace t name ≡ second t name

    states_alike : (bound : ℕ) → AgreeBefore bound → (t : ℕ) → t < suc bound → t < height → t < tall → (cell : Text) (prim : Primitive) → IsNetCell n cell prim → states_before t trace loads cell prim ≡ states_before t second loads cell prim
    states_alike bound agree zero within in_first in_second cell prim is = refl
    states_alike bound agree (suc t) within in_first in_second cell prim is =
        ap₂ (next_state prim) (states_alike bound agree t (omega (arith, within)) (omega (arith, in_first)) (omega (arith, in_second)) cell prim is)
        (values_alike (trace t) (second t) cell (pin_names (inputs_of prim)) (λ k pin at.
        let of : Contains (pin_names (inputs_of prim)) pin = contains_of (pin_names (inputs_of prim)) pin (in_at (pin_names (inputs_of prim)) k pin at) in
        let number = input_number n cell prim is pin of in
        agree t (omega (arith, within)) (omega (arith, in_first)) (omega (arith, in_second)) number.0 (dotted cell pin) number.1))

    agree_before : (bound : ℕ) → AgreeBefore bound
    agree_before zero t within in_first in_second m name named = absurd (omega (arith, within))
    agree_before (suc bound) t within in_first in_second m name named =
        rows_agree t (inputs t) (other t) (states_before t trace loads) (states_before t second loads) (trace t) (second t) (rows t in_first) (rows' t in_second) (same t)
        (states_alike bound (agree_before bound) t within in_first in_second) m name named

pub one_run : OneRun
one_run = λ n valid ports ordered inputs other loads same height tall trace second rows rows' t in_first in_second name has.
    let number = number_of n name has in
    agree_before n valid ports ordered inputs other loads same height tall trace second rows rows' (suc t) t (omega arith) in_first in_second number.0 name number.1
