-- Entries that stand for pairs of ports, added one by one.
use Rattle.std.proofs.Common.{◌≡◌, ℕ, ◌+◌, ◌<◌, ◌≤◌, List, [], ◌∷◌, ◌++◌, true, false, Some, length, get_or, take, refl, sym, ap, ap₂, ◌∙◌, arith, subst, append_assoc}
use Rattle.std.specs.Prelude.{slice_get, option_map}
use Rattle.std.specs.List.{flat_map}
use Rattle.std.proofs.lemmas.Grind.{flat_map-append}
use Rattle.std.proofs.lemmas.List.{append-nil, take_more, map_push, get_or-map, take_all, get_or_default, length-map}
use Rattle.std.proofs.lemmas.List.Elements.{All-push, All-nil}
use Rattle.std.proofs.lemmas.Option.{slice_get_within, get_or_from_slice_get, slice_get-get_or, slice_get-map}
use Rattle.hw_names.specs.Name.{Text, dotted}
use Rattle.hw_prims.specs.Meaning.{is_through}
use Rattle.hw_prims.specs.Table.{Pin, prim_of, inputs_of, outputs_of, pin_names, name_at}
use Rattle.hw_prims.specs.declared.prim.Primitive.{Primitive}
use Rattle.net_core.specs.Netlist.{Netlist, SetLine, CellLine}
use Rattle.net_core.specs.Rules.{PortLine, ports_of}
use Rattle.net_sim.proofs.LayoutLemmas.{input_at, output_at, first_port-more, first_port-le, length-ports_of_cell}
use Rattle.net_sim.specs.Layout.{port_names, IsCellPorts, AreCellPorts}
use Rattle.net_sim.specs.declared.cells.CellPorts.{CellPorts}
use Rattle.net_sim.specs.inside.Wires.{Reading, reading, set_readings, input_readings, prim_readings, cell_readings, some_readings, named_entry, AreEntriesOf, AddReadings, HasCellAt}
use Rattle.hw_graph.specs.declared.groups.Entry.{Entry}

pub add_none : (names : List Text) (entries : List Entry) → AddReadings names [] entries entries
add_none names entries readings are = rw (append-nil readings) are

pub add_more : (names : List Text) (a b : List Reading) (x y z : List Entry) → AddReadings names a x y → AddReadings names b y z → AddReadings names (a ++ b) x z
add_more names a b x y z first second readings are = rw (← append_assoc readings a b) (second (readings ++ a) (first readings are))

pub add_one : (names : List Text) (entries : List Entry) (e : Entry) (r : Reading) → e.key < length names → e.value < length names → named_entry names e ≡ r → AddReadings names (r ∷ []) entries (entries ++ e ∷ [])
add_one names entries e r key value is readings are = record {
  in_range = All-push (λ (x : Entry). (x.key < length names) × (x.value < length names)) entries e are.in_range (key, value);
  names_are = map_push (named_entry names) entries e ∙ ap₂ (λ xs x. xs ++ x ∷ []) are.names_are is;
}

-- one more element of a list, each of which adds its pairs
pub add_next : {X : Type 0} (names : List Text) (f : X → List Reading) (xs : List X) (i : ℕ) (x : X) (old mid new : List Entry) → i < length xs → get_or xs i x ≡ x → AddReadings names (flat_map f (take i xs)) old mid → AddReadings names (f x) mid new → AddReadings names (flat_map f (take (i + 1) xs)) old new
add_next names f xs i x old mid new within at first second =
    rw (take_more xs i x within, at, flat_map-append f (take i xs) (x ∷ []), append-nil (f x)) (add_more names (flat_map f (take i xs)) (f x) old mid new first second)

pub add_all : {X : Type 0} (names : List Text) (f : X → List Reading) (xs : List X) (i : ℕ) (old new : List Entry) → length xs ≤ i → AddReadings names (flat_map f (take i xs)) old new → AddReadings names (flat_map f xs) old new
add_all names f xs i old new done add = subst (λ l. AddReadings names (flat_map f l) old new) (take_all i xs done) add

-- ---- a cell

-- an input that the output depends on
pub through_one : (names : List Text) (cell : Text) (prim : Primitive) (first input output : ℕ) (entries : List Entry) (e : Entry) → HasCellAt names cell prim first → input < length (inputs_of prim) → output < length (outputs_of prim) → e.key ≡ first + length (inputs_of prim) + output → e.value ≡ first + input → is_through prim (name_at (inputs_of prim) input) (name_at (outputs_of prim) output) ≡ true →
    AddReadings names (input_readings cell prim (name_at (outputs_of prim) output) (name_at (inputs_of prim) input)) entries (entries ++ e ∷ [])
through_one names cell prim first input output entries e has in_inputs in_outputs key value through =
    let at_in = has.inputs input in_inputs in
    let at_out = has.outputs output in_outputs in
    let within_in = slice_get_within names (first + input) _ at_in in
    let within_out = slice_get_within names (first + length (inputs_of prim) + output) _ at_out in
    let is_in : get_or names e.value [] ≡ dotted cell (name_at (inputs_of prim) input) = ap (λ k. get_or names k []) value ∙ get_or_from_slice_get names (first + input) _ [] at_in in
    let is_out : get_or names e.key [] ≡ dotted cell (name_at (outputs_of prim) output) = ap (λ k. get_or names k []) key ∙ get_or_from_slice_get names (first + length (inputs_of prim) + output) _ [] at_out in
    rw through (add_one names entries e (reading (dotted cell (name_at (outputs_of prim) output)) (dotted cell (name_at (inputs_of prim) input))) (omega (arith, key, within_out)) (omega (arith, value, within_in)) (ap₂ reading is_out is_in))

pub through_none : (names : List Text) (cell : Text) (prim : Primitive) (output input : Text) (entries : List Entry) → is_through prim input output ≡ false → AddReadings names (input_readings cell prim output input) entries entries
through_none names cell prim output input entries apart = rw apart (add_none names entries)

-- the name of an input or an output among the names
pub pin_at : (pins : List Pin) (i : ℕ) → i < length pins → get_or (pin_names pins) i (name_at pins i) ≡ name_at pins i
pin_at pins i lt = get_or_default (pin_names pins) i (name_at pins i) [] (simp length-map lt)

-- the ports of a cell stand where they are listed
pub has_cell_at : (n : Netlist) (k : ℕ) (c : CellLine) (ports : CellPorts) → slice_get n.cells k ≡ Some c → IsCellPorts n k c ports → HasCellAt (port_names n) c.name ports.prim ports.first
has_cell_at n k c ports at is = record {
  inputs = λ j lt.
      slice_get-map (λ (p : PortLine). p.name) (ports_of n) (ports.first + j)
      ∙ ap (λ f. option_map (λ (p : PortLine). p.name) (slice_get (ports_of n) (f + j))) is.first
      ∙ ap (option_map (λ (p : PortLine). p.name)) (input_at n k c ports.prim at is.prim j unsized_pin lt)
      ∙ ap (λ t. Some (dotted c.name t)) (sym (get_or-map (λ (p : Pin). p.name) (inputs_of ports.prim) j unsized_pin [] lt));
  outputs = λ j lt.
      slice_get-map (λ (p : PortLine). p.name) (ports_of n) (ports.first + length (inputs_of ports.prim) + j)
      ∙ ap (λ f. option_map (λ (p : PortLine). p.name) (slice_get (ports_of n) (f + length (inputs_of ports.prim) + j))) is.first
      ∙ ap (option_map (λ (p : PortLine). p.name)) (output_at n k c ports.prim at is.prim j unsized_pin lt)
      ∙ ap (λ t. Some (dotted c.name t)) (sym (get_or-map (λ (p : Pin). p.name) (outputs_of ports.prim) j unsized_pin [] lt));
}
  where
    unsized_pin : Pin
    unsized_pin = record { name = []; width = 0 }

pub cell_readings-prim : (c : CellLine) (prim : Primitive) → prim_of c.prim c.params ≡ Some prim → cell_readings c ≡ prim_readings c.name prim
cell_readings-prim c prim is = ap (some_readings c.name) is

pub no_cell : CellLine
no_cell = record { name = []; prim = []; params = []; shown = false }

-- one more cell's outputs
pub cells_more : (n : Netlist) (cells : List CellPorts) (i : ℕ) (d : CellPorts) (old mid new : List Entry) → i < length cells → AreCellPorts n cells →
    AddReadings (port_names n) (flat_map cell_readings (take i n.cells)) old mid →
    ((names : List Text) (name : Text) → HasCellAt names name (get_or cells i d).prim (get_or cells i d).first → AddReadings names (prim_readings name (get_or cells i d).prim) mid new) →
    AddReadings (port_names n) (flat_map cell_readings (take (i + 1) n.cells)) old new
cells_more n cells i d old mid new within are before add =
    let here = slice_get-get_or cells i d within in
    let in_net : i < length n.cells = omega (arith, within, are.all) in
    let line = slice_get-get_or n.cells i no_cell in_net in
    let c = get_or n.cells i no_cell in
    let is = are.each i c (get_or cells i d) line here in
    let now = add (port_names n) c.name (has_cell_at n i c (get_or cells i d) line is) in
    add_next (port_names n) cell_readings n.cells i c old mid new in_net (get_or_default n.cells i c no_cell in_net) before
    (subst (λ l. AddReadings (port_names n) l mid new) (sym (cell_readings-prim c (get_or cells i d).prim is.prim)) now)

pub cells_all : (n : Netlist) (cells : List CellPorts) (i : ℕ) (old new : List Entry) → length cells ≤ i → AreCellPorts n cells → AddReadings (port_names n) (flat_map cell_readings (take i n.cells)) old new → AddReadings (port_names n) (flat_map cell_readings n.cells) old new
cells_all n cells i old new done are add = add_all (port_names n) cell_readings n.cells i old new (omega (arith, done, are.all)) add

-- one more assignment
pub sets_more : (n : Netlist) (i : ℕ) (a : SetLine) (old mid new : List Entry) → slice_get n.sets i ≡ Some a → AddReadings (port_names n) (flat_map set_readings (take i n.sets)) old mid → AddReadings (port_names n) (set_readings a) mid new → AddReadings (port_names n) (flat_map set_readings (take (i + 1) n.sets)) old new
sets_more n i a old mid new at before add = add_next (port_names n) set_readings n.sets i a old mid new (slice_get_within n.sets i a at) (get_or_from_slice_get n.sets i a a at) before add

-- a cell's ports are among the netlist's
pub cell_ends : (n : Netlist) (cells : List CellPorts) → AreCellPorts n cells → (k : ℕ) (d : CellPorts) → k < length cells → (get_or cells k d).first + length (inputs_of (get_or cells k d).prim) + length (outputs_of (get_or cells k d).prim) ≤ length (ports_of n)
cell_ends n cells are k d lt =
    let in_net : k < length n.cells = omega (arith, lt, are.all) in
    let c = get_or n.cells k no_cell in
    let line = slice_get-get_or n.cells k no_cell in_net in
    let is = are.each k c (get_or cells k d) line (slice_get-get_or cells k d lt) in
    omega (arith, is.first, first_port-more n k c line, length-ports_of_cell c (get_or cells k d).prim is.prim, first_port-le n (k + 1))

pub start_entries : (names : List Text) → AreEntriesOf names [] []
start_entries names = record { in_range = All-nil (λ (e : Entry). (e.key < length names) × (e.value < length names)); names_are = refl }
