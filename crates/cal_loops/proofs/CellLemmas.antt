-- The cells of a component that are made of components, from the ports of them that its graph has.
use Rattle.std.proofs.Common.{◌≡◌, ◌↔◌, inl, inr, ℕ, ◌+◌, ◌<◌, ◌≤◌, List, [], ◌∷◌, ◌++◌, Option, Some, None, option_and_then, length, get_or, slice_get, All, Contains, refl, sym, ap, subst, ◌∙◌, arith}
use Rattle.std.specs.Prelude.{IfSome}
use Rattle.std.proofs.lemmas.Bool.{cases_lt}
use Rattle.std.proofs.lemmas.List.Elements.{Contains-append_left, Contains-get_or, Contains-push, Contains-push_cases}
use Rattle.std.proofs.lemmas.Option.{none-some, same_Some, slice_get_within}
use Rattle.hw_cells.specs.Cells.{IsFit, IsOrReaches, IsPinWithin, ReadsThrough}
use Rattle.hw_cells.specs.declared.cell.Cell.{Cell}
use Rattle.hw_cells.specs.declared.cell.Pin.{Pin}
use Rattle.hw_graph.specs.Graph.{AreInRange}
use Rattle.hw_names.specs.Name.{AreDistinct, Text}
use Rattle.hw_prims.specs.Table as prims
use Rattle.hw_prims.specs.Table.{pin_names}
use Rattle.cal_ast.proofs.ItemLemmas.{new_cell, new_ports}
use Rattle.cal_ast.proofs.ListLemmas.{Contains-at, Contains-none, place_of}
use Rattle.cal_ast.proofs.LookupLemmas.{cell_named-Some, part_in-Some, part_in-design}
use Rattle.cal_ast.specs.Naming.{Unreserved, cell_names}
use Rattle.cal_ast.specs.Ports.{cell_named, inputs_in, outputs_in, part_in, part_of}
use Rattle.cal_ast.specs.Rules.{KeepsRules}
use Rattle.cal_ast.specs.Tree.{CellDef, Component, Design, own, port_of}
use Rattle.cal_ast.specs.Wires.{Reaches}
use Rattle.cal_place.specs.FirstPlaces.{IsFirst}
use Rattle.cal_place.specs.Prototypes.{IsMadeOf, made_component}
use Rattle.cal_place.specs.Nesting.{HasPart}
use Rattle.cal_loops.specs.inside.CellPins.{HasPins, IsOutputPin, IsInputPin, IsPinAt, IsPortOfCell}
use Rattle.cal_loops.specs.inside.Cells.{AreCells}
use Rattle.cal_wires.specs.WireGraphs.{ReadsByPart}
use Rattle.cal_wires.specs.Nodes.{APort, Node, key_of, ports_in}
use Rattle.cal_wires.specs.WireGraphs.{HasNumber}
use Rattle.hw_cells.specs.PartGraph.{Leads}
use Rattle.cal_loops.specs.inside.Wiring.{IsInside, ShowsParts}
use Rattle.cal_loops.specs.declared.cells.inside.Inside.{Inside}
use Rattle.cal_place.specs.declared.prototype.Prototype.{Prototype}
use Rattle.cal_place.specs.declared.prototype.Prototype.TheVariants as variant
use Rattle.cal_wires.specs.declared.graph.WireGraph.{WireGraph}
use Rattle.cal_wires.proofs.DependLemmas.{input_place, output_place}
use Rattle.cal_place.proofs.FoundLemmas.{first_at, found_first, from_map, to_map}
use Rattle.cal_wires.proofs.GainLemmas.{get_either}
use Rattle.cal_place.proofs.GraphLemmas.{exists_at}
use Rattle.cal_wires.proofs.FullNameLemmas.{same_node, same_pin}
use Rattle.cal_place.proofs.NestLemmas.{part_from_cell}
use Rattle.cal_wires.proofs.PortLemmas.{distinct_first}
use Rattle.cal_loops.proofs.ToldCellLemmas.{told_rightly}

-- ---- a port's place among the ports of its component

module _ (ins outs : List prims.Pin) (name : Text) (j : ℕ) (at : slice_get (pin_names (ins ++ outs)) j ≡ Some name) where
  named : (pin : prims.Pin) × (slice_get (ins ++ outs) j ≡ Some pin) × (pin.name ≡ name)
  named = from_map (λ (q : prims.Pin). q.name) (ins ++ outs) j name at

  names_it : (pins : List prims.Pin) (k : ℕ) → slice_get pins k ≡ Some named.0 → Contains (pin_names pins) name
  names_it pins k there = Contains-at (pin_names pins) k name (to_map (λ (q : prims.Pin). q.name) pins k named.0 there ∙ ap Some named.2)

  place_input : j < length ins → Contains (pin_names ins) name
  place_input less =
      elim (get_either ins outs j named.0 named.1) [
        | inl here ↦ names_it ins j here
        | inr (k, e, there) ↦ absurd (omega (arith, less, e))
      ]

  place_output : length ins ≤ j → Contains (pin_names outs) name
  place_output more =
      elim (get_either ins outs j named.0 named.1) [
        | inl here ↦ (let less = slice_get_within ins j named.0 here in absurd (omega (arith, less, more)))
        | inr (k, e, there) ↦ names_it outs k there
      ]

-- ---- the cells

-- the cell of this number, which is made of the component
pub record IsCellAt (design : Design) (c : Component) (g : WireGraph) (number : ℕ) (part : Component) (cell : Cell) : Type 0 where
  pub def : CellDef
  pub at : slice_get c.cells number ≡ Some def
  pub made : part_of design def ≡ Some part
  pub inside : Inside
  pub shows : IsInside design part inside
  pub ports : List ℕ
  pub are_ports : (node : ℕ) → Contains ports node ↔ IsPortOfCell design c g number node
  pub pins : HasPins g part inside ports cell

-- the cells before this number
pub record AreCellsBelow (design : Design) (c : Component) (g : WireGraph) (end : ℕ) (cells : List Cell) : Type 0 where
  pub each : (cell : Cell) → Contains cells cell → (number : ℕ) × (part : Component) × IsCellAt design c g number part cell
  pub all : (number : ℕ) (def : CellDef) (part : Component) → number < end → slice_get c.cells number ≡ Some def → part_of design def ≡ Some part →
      (cell : Cell) × Contains cells cell × IsCellAt design c g number part cell

module _ (design : Design) (c : Component) (g : WireGraph) where
  pub cells_none : AreCellsBelow design c g 0 []
  cells_none = record {
    each = λ cell has. absurd (Contains-none cell has);
    all = λ number def part less at made. absurd (omega (arith, less));
  }

  pub cells_same : (end : ℕ) (cells : List Cell) → ((def : CellDef) (part : Component) → slice_get c.cells end ≡ Some def → part_of design def ≡ Some part → ⊥) → AreCellsBelow design c g end cells → AreCellsBelow design c g (end + 1) cells
  cells_same end cells none are = record {
    each = are.each;
    all = λ number def part less at made. elim (cases_lt number end) [
      | inl before ↦ are.all number def part before at made
      | inr past ↦
          let here : number ≡ end = omega (arith, less, past) in
          absurd (none def part (ap (slice_get c.cells) (sym here) ∙ at) made)
    ];
  }

  pub cells_more : (end : ℕ) (cells : List Cell) (part : Component) (cell : Cell) → IsCellAt design c g end part cell → AreCellsBelow design c g end cells → AreCellsBelow design c g (end + 1) (cells ++ cell ∷ [])
  cells_more end cells part cell is are = record {
    each = λ other has. elim (Contains-push_cases cells cell other has) [
      | inl before ↦ are.each other before
      | inr e ↦ (end, part, subst (IsCellAt design c g end part) e is)
    ];
    all = λ number def other less at made. elim (cases_lt number end) [
      | inl before ↦
          let r = are.all number def other before at made in
          (r.0, Contains-append_left cells (cell ∷ []) r.0 r.1, r.2)
      | inr past ↦
          let here : end ≡ number = omega (arith, less, past) in
          let one : is.def ≡ def = same_Some is.def def (sym is.at ∙ ap (slice_get c.cells) here ∙ at) in
          let same : part ≡ other = same_Some part other (sym is.made ∙ ap (part_of design) one ∙ made) in
          let I : ℕ → Component → Type 0 = λ k p. IsCellAt design c g k p cell in
          (cell, Contains-push cells cell, subst (I number) same (subst (λ k. I k part) here is))
    ];
  }

-- ---- what a cell is made of

module _ (design : Design) (n : ℕ) (c : Component) (here : slice_get design n ≡ Some c) (number : ℕ) (less : number < length c.cells) (made : Option Prototype) (of : (def : CellDef) → slice_get c.cells number ≡ Some def → IsMadeOf design def made) where
  -- it is of no component
  pub none_made : option_and_then made_component made ≡ None → (def : CellDef) (part : Component) → slice_get c.cells number ≡ Some def → part_of design def ≡ Some part → ⊥
  none_made none def part at is = none-some part (sym ((of def at).part ∙ ap (option_and_then (slice_get design)) none) ∙ is)

  module _ (m : ℕ) (some : option_and_then made_component made ≡ Some m) where
    pub made_def : (def : CellDef) × (slice_get c.cells number ≡ Some def)
    made_def = exists_at c.cells number less

    pub made_within : m < length design
    made_within = subst (λ (o : Option ℕ). IfSome o (λ i. i < length design)) some (of made_def.0 made_def.1).within

    pub made_part : (part : Component) × (slice_get design m ≡ Some part)
    made_part = exists_at design m made_within

    pub made_of : part_of design made_def.0 ≡ Some made_part.0
    made_of = (of made_def.0 made_def.1).part ∙ ap (option_and_then (slice_get design)) some ∙ made_part.1

    component_is : (o : Option Prototype) → option_and_then made_component o ≡ Some m → o ≡ Some (variant.Component m)
    component_is None e = absurd (none-some m e)
    component_is (Some (variant.Primitive prim)) e = absurd (none-some m e)
    component_is (Some (variant.Component k)) e = ap (λ i. Some (variant.Component i)) (same_Some k m e)

    pub made_held : HasPart design n m
    made_held =
        part_from_cell design n m c here made_def.0 (Contains-at c.cells number made_def.0 made_def.1) (subst (IsMadeOf design made_def.0) (component_is made some) (of made_def.0 made_def.1))

    pub made_cell : (g : WireGraph) (insides : List (Option Inside)) → ShowsParts design n insides → (inside : Inside) → slice_get insides m ≡ Some (Some inside)
        → (ports : List ℕ) → ((node : ℕ) → Contains ports node ↔ IsPortOfCell design c g number node) → (cell : Cell) → HasPins g made_part.0 inside ports cell → IsCellAt design c g number made_part.0 cell
    made_cell g insides shows inside at ports are cell pins = record {
      def = made_def.0;
      at = made_def.1;
      made = made_of;
      inside = inside;
      shows = shows.each m made_part.0 inside made_part.1 at;
      ports = ports;
      are_ports = are;
      pins = pins;
    }

    -- it is known
    pub made_known : (insides : List (Option Inside)) → ShowsParts design n insides → slice_get insides m ≡ Some None → ⊥
    made_known insides shows none =
        let known = shows.known m made_held in
        none-some known.0 (same_Some None (Some known.0) (sym none ∙ known.1))

-- ---- all of them

module _ (design : Design) (c : Component) (g : WireGraph) where
  -- the pins of a cell lie in its holder's graph, and their nodes in its own
  cell_fits : (number : ℕ) (part : Component) (cell : Cell) → IsCellAt design c g number part cell → IsFit (length g.ports.keys) cell
  cell_fits number part cell is = record {
    in_range = subst AreInRange (sym is.pins.reads) is.inside.graph.in_range;
    told = told_rightly is.inside.graph.reads cell.reads.now is.inside.told.cells.items is.shows.told is.pins.reads cell.told is.pins.told;
    outputs = within cell.outputs.items (λ pin has. let r = ((is.pins.outputs pin).0 has).1 in (r.0, r.2));
    inputs = within cell.inputs.items (λ pin has. let r = ((is.pins.inputs pin).0 has).1 in (r.0, r.2));
  }
    where
      lies : (pin : Pin) → (k : ℕ) × IsPinAt g part is.inside k pin → IsPinWithin (length g.ports.keys) (length cell.reads.now) pin
      lies pin r = (
        slice_get_within g.ports.keys pin.port (key_of (APort (port_of r.1.cell r.1.name))) r.1.at.at,
        subst (λ (l : List (List ℕ)). pin.node < length l) (sym is.pins.reads) (is.inside.graph.within r.0 pin.node r.1.node),
      )

      within : (pins : List Pin) → ((pin : Pin) → Contains pins pin → (k : ℕ) × IsPinAt g part is.inside k pin) → All (IsPinWithin (length g.ports.keys) (length cell.reads.now)) pins
      within pins each = λ k d lt. lies (get_or pins k d) (each (get_or pins k d) (Contains-get_or pins k d lt))

  -- through a cell a port reads what its component says
  module _ (number : ℕ) (part : Component) (cell : Cell) (is : IsCellAt design c g number part cell) where
    -- the name of the cell, by which the component finds it
    made_by_name : (name : Text) → IsFirst (cell_names c.cells) name number → part_in design c name ≡ Some part
    made_by_name name first =
        let found : cell_named c.cells name ≡ Some is.def = found_first (λ (d : CellDef). d.name) c.cells name number first ∙ is.at in
        ap (option_and_then (part_of design)) found ∙ is.made

    -- a pin and the cell that its port is of
    module _ (pin : Pin) (k : ℕ) (at : IsPinAt g part is.inside k pin) (of : IsPortOfCell design c g number pin.port) where
      cell_is : at.cell ≡ of.name
      cell_is = (same_pin at.cell of.name at.name of.pin (same_Some (key_of (APort (port_of at.cell at.name))) (key_of (APort (port_of of.name of.pin))) (sym at.at.at ∙ of.at.at))).0

      pin_node : (node : Node) (i : ℕ) → pin.port ≡ i → HasNumber g node i → node ≡ APort (port_of of.name at.name)
      pin_node node i same has =
          let keys = same_Some (key_of node) (key_of (APort (port_of at.cell at.name))) (sym has.at ∙ ap (slice_get g.ports.keys) (sym same) ∙ at.at.at) in
          same_node node (APort (port_of at.cell at.name)) has.has_key tt keys ∙ ap (λ (t : Text). APort (port_of t at.name)) cell_is

    through_reads : (i j : ℕ) (node read : Node) → HasNumber g node i → HasNumber g read j → ReadsThrough cell i j → ReadsByPart design c node read
    through_reads i j node read at_i at_j through =
        record {
          part = part;
          port = port_of of_output.name output.2.name;
          input = port_of of_output.name input.2.name;
          is_port = pin_node through.output output.0 output.2 of_output node i through.is_output at_i;
          is_input = pin_node through.input input.0 input.2 of_input read j through.is_input at_j ∙ ap (λ (t : Text). APort (port_of t input.2.name)) same_cell;
          output_name = output.2.name;
          input_name = input.2.name;
          crosses = record {
            cell = of_output.name;
            made = made_by_name of_output.name of_output.first;
            has_output = place_output (inputs_in part) (outputs_in part) output.2.name output.0 output.2.first.here output.1;
            has_input = place_input (inputs_in part) (outputs_in part) input.2.name input.0 input.2.first.here input.1;
            is_output = refl;
            is_input = refl;
          };
          reaches = (is.shows.reached output.0 input.0 output.2.name input.2.name output.2.first.here input.2.first.here output.1 input.1).0 leads;
        }
      where
        outputs : Contains is.ports through.output.port × IsOutputPin g part is.inside through.output
        outputs = (is.pins.outputs through.output).0 through.has_output

        inputs : Contains is.ports through.input.port × IsInputPin g part is.inside through.input
        inputs = (is.pins.inputs through.input).0 through.has_input

        output : IsOutputPin g part is.inside through.output
        output = outputs.1

        input : IsInputPin g part is.inside through.input
        input = inputs.1

        of_output : IsPortOfCell design c g number through.output.port
        of_output = (is.are_ports through.output.port).0 outputs.0

        of_input : IsPortOfCell design c g number through.input.port
        of_input = (is.are_ports through.input.port).0 inputs.0

        same_cell : of_input.name ≡ of_output.name
        same_cell = same_Some of_input.name of_output.name (sym of_input.first.here ∙ of_output.first.here)

        leads : Leads is.inside.graph output.0 input.0
        leads = record {
          node = through.output.node;
          other = through.input.node;
          is_node = output.2.node;
          is_other = input.2.node;
          leads = subst (λ (l : List (List ℕ)). IsOrReaches l through.output.node through.input.node) is.pins.reads through.reaches;
        }

    -- and what it says is read through the cell
    reads_through : (i j : ℕ) (node read : Node) → HasNumber g node i → HasNumber g read j → (r : ReadsByPart design c node read) → r.part ≡ part → IsFirst (cell_names c.cells) r.crosses.cell number → AreDistinct (ports_in part)
        → ReadsThrough cell i j
    reads_through i j node read at_i at_j r same first distinct = record {
      output = own_output;
      input = own_input;
      has_output = (is.pins.outputs own_output).1 ((is.are_ports i).1 (port r.output_name i output_at), (o.0, o.1, pin r.output_name i o.0 leads.node output_at o.2 leads.is_node));
      has_input = (is.pins.inputs own_input).1 ((is.are_ports j).1 (port r.input_name j input_at), (k.0, k.1, pin r.input_name j k.0 leads.other input_at k.2 leads.is_other));
      is_output = refl;
      is_input = refl;
      reaches = subst (λ (l : List (List ℕ)). IsOrReaches l leads.node leads.other) (sym is.pins.reads) leads.leads;
    }
      where
        o : (m : ℕ) × (length (inputs_in part) ≤ m) × (slice_get (ports_in part) m ≡ Some r.output_name)
        o = output_place (inputs_in part) (outputs_in part) r.output_name (subst (λ (d : Component). Contains (pin_names (outputs_in d)) r.output_name) same r.crosses.has_output)

        k : (m : ℕ) × (m < length (inputs_in part)) × (slice_get (ports_in part) m ≡ Some r.input_name)
        k = input_place (inputs_in part) (outputs_in part) r.input_name (subst (λ (d : Component). Contains (pin_names (inputs_in d)) r.input_name) same r.crosses.has_input)

        leads : Leads is.inside.graph o.0 k.0
        leads = (is.shows.reached o.0 k.0 r.output_name r.input_name o.2 k.2 o.1 k.1).1 (subst (λ (d : Component). Reaches design d (own r.output_name) (own r.input_name)) same r.reaches)

        own_output : Pin
        own_output = record { port = i; node = leads.node }

        own_input : Pin
        own_input = record { port = j; node = leads.other }

        output_at : HasNumber g (APort (port_of r.crosses.cell r.output_name)) i
        output_at = subst (λ (x : Node). HasNumber g x i) (r.is_port ∙ ap APort r.crosses.is_output) at_i

        input_at : HasNumber g (APort (port_of r.crosses.cell r.input_name)) j
        input_at = subst (λ (x : Node). HasNumber g x j) (r.is_input ∙ ap APort r.crosses.is_input) at_j

        port : (name : Text) (x : ℕ) → HasNumber g (APort (port_of r.crosses.cell name)) x → IsPortOfCell design c g number x
        port name x has = record { name = r.crosses.cell; pin = name; first = first; part = r.part; made = r.crosses.made; at = has }

        pin : (name : Text) (x m inner : ℕ) → HasNumber g (APort (port_of r.crosses.cell name)) x → slice_get (ports_in part) m ≡ Some name → slice_get is.inside.graph.nodes.items m ≡ Some (Some inner)
            → IsPinAt g part is.inside m (record { port = x; node = inner })
        pin name x m inner has at_m there = record { cell = r.crosses.cell; name = name; at = has; first = distinct_first (ports_in part) m name distinct at_m; node = there }

  module _ (keeps : KeepsRules design) (n : ℕ) (here : slice_get design n ≡ Some c) (cells : List Cell) (end : ℕ) (whole : length c.cells ≤ end) (are : AreCellsBelow design c g end cells) where
    reads_one : (i j : ℕ) (node read : Node) → HasNumber g node i → HasNumber g read j → ReadsByPart design c node read → (cell : Cell) × Contains cells cell × ReadsThrough cell i j
    reads_one i j node read at_i at_j r =
        (one.0, one.1, reads_through place.0 r.part one.0 one.2 i j node read at_i at_j r refl first distinct)
      where
        found : (d : CellDef) × (cell_named c.cells r.crosses.cell ≡ Some d) × (part_of design d ≡ Some r.part)
        found = part_in-Some design c r.crosses.cell r.part r.crosses.made

        named_so : Contains c.cells found.0 × (found.0.name ≡ r.crosses.cell)
        named_so = cell_named-Some c.cells r.crosses.cell found.0 found.1

        place : (k : ℕ) × (slice_get c.cells k ≡ Some found.0)
        place = place_of c.cells found.0 named_so.0

        first : IsFirst (cell_names c.cells) r.crosses.cell place.0
        first = subst (λ (t : Text). IsFirst (cell_names c.cells) t place.0) named_so.1 ((first_at (λ (d : CellDef). d.name) c.cells place.0 found.0 place.1).1 (new_cell Unreserved design keeps n c here place.0 found.0 place.1).0)

        one : (cell : Cell) × Contains cells cell × IsCellAt design c g place.0 r.part cell
        one =
            let less = slice_get_within c.cells place.0 found.0 place.1 in
            are.all place.0 found.0 r.part (omega (arith, less, whole)) place.1 found.2

        distinct : AreDistinct (ports_in r.part)
        distinct =
            let m = place_of design r.part (part_in-design design c r.crosses.cell r.part r.crosses.made) in
            new_ports Unreserved design keeps m.0 r.part m.1

    pub are_cells : AreCells design c g cells
    are_cells = record {
      fit = λ k d lt. let r = are.each (get_or cells k d) (Contains-get_or cells k d lt) in cell_fits r.0 r.1 (get_or cells k d) r.2;
      each = λ i j node read at_i at_j. (
        λ has. let r = are.each has.0 has.1 in through_reads r.0 r.1 has.0 r.2 i j node read at_i at_j has.2,
        reads_one i j node read at_i at_j,
      );
    }
