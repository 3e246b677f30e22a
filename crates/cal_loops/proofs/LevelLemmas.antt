-- Levels of a graph that keep those of cells show that the component has no loop, and are levels of its own ports.
use Rattle.std.proofs.Common.{◌≡◌, ◌⊎◌, inl, inr, ℕ, ◌<◌, ◌≤◌, true, false, List, [], ◌∷◌, ◌++◌, Some, length, slice_get, Contains, refl, sym, ap, subst, subst₂, ◌∙◌, arith}
use Rattle.std.specs.Prelude.{slice_index}
use Rattle.std.proofs.lemmas.Option.{none-some, same_Some, slice_get_within}
use Rattle.hw_levels.specs.Levels.{AreLevels, IsBelow}
use Rattle.hw_levels.specs.declared.cells.CellPort.{CellPort}
use Rattle.hw_names.proofs.NameLemmas.{same_number}
use Rattle.hw_names.specs.Name.{AreDistinct, Text}
use Rattle.hw_prims.specs.Table.{Pin, pin_names}
use Rattle.cal_ast.proofs.ItemLemmas.{new_cell, new_ports}
use Rattle.cal_ast.proofs.ListLemmas.{place_of}
use Rattle.cal_ast.proofs.LookupLemmas.{cell_named-Some, part_in-Some, part_in-design}
use Rattle.cal_ast.specs.Naming.{Unreserved, cell_names, component_names}
use Rattle.cal_ast.specs.Ports.{cell_named, inputs_in, outputs_in, part_in, part_of}
use Rattle.cal_ast.specs.Rules.{KeepsRules}
use Rattle.cal_ast.specs.Tree.{CellDef, Component, Design, PortName, own, port_of}
use Rattle.cal_ast.specs.Wires.{Straight, HasNoLoop, Over, Reaches}
use Rattle.cal_place.specs.FirstPlaces.{IsFirst}
use Rattle.cal_place.specs.Nesting.{HasPart}
use Rattle.cal_loops.specs.inside.Levels.{IsCellPort, IsLower, KeepsOwn, ShowsLevels, ShowsPartLevels}
use Rattle.cal_wires.specs.WireGraphs.{ReadsByPart}
use Rattle.cal_wires.specs.Nodes.{AHole, APort, Node, key_of, ports_in}
use Rattle.cal_wires.specs.Readings.{HasOwnReadings}
use Rattle.cal_wires.specs.WireGraphs.{HasNumber, HasReading, NodeReads}
use Rattle.cal_loops.specs.declared.levels.Levels.{Levels}
use Rattle.cal_wires.specs.declared.graph.WireGraph.{WireGraph}
use Rattle.cal_wires.proofs.DependLemmas.{input_place, output_place}
use Rattle.cal_place.proofs.FoundLemmas.{first_at}
use Rattle.cal_place.proofs.GraphLemmas.{exists_at}
use Rattle.cal_wires.proofs.FullNameLemmas.{same_pin}
use Rattle.cal_loops.proofs.NodeLemmas.{NodesAlong, along_reaches, through_nodes}
use Rattle.cal_place.proofs.PartsLemmas.{first_of_name}
use Rattle.cal_wires.proofs.PortLemmas.{distinct_first}
use Rattle.cal_wires.proofs.SaidLemmas.{is_said}

-- ---- a port's place among the ports of its component

-- no port is an input and an output
no_both : (ins outs : List Pin) (name : Text) → AreDistinct (pin_names (ins ++ outs)) → Contains (pin_names ins) name → Contains (pin_names outs) name → ⊥
no_both ins outs name distinct input output =
    let i = input_place ins outs name input in
    let o = output_place ins outs name output in
    let same = same_number (pin_names (ins ++ outs)) i.0 o.0 name distinct i.2 o.2 in
    omega (arith, i.1, o.1, same)

port_is : (a b : PortName) → APort a ≡ APort b → a ≡ b
port_is a b e = cc

own_no_cell : (name cell pin : Text) → own name ≡ port_of cell pin → ⊥
own_no_cell name cell pin e = none-some cell (ap (λ (p : PortName). p.cell) e)

-- ---- paths of nodes

-- where a port reaches another, nodes lead from the one to the other
pub reach_along : (design : Design) (c : Component) (p q : PortName) → Reaches design c p q → (nodes : List Node) × NodesAlong design c (APort p) nodes (APort q)
reach_along design c p q (Straight d port other reads) =
    elim (through_nodes design d port other reads) [
      | inl at_once ↦ ([], at_once)
      | inr (k, first, second) ↦ (AHole k ∷ [], (first, second))
    ]
reach_along design c p q (Over d port between other reads rest) =
    let more = reach_along design d between other rest in
    elim (through_nodes design d port between reads) [
      | inl at_once ↦ (APort between ∷ more.0, (at_once, more.1))
      | inr (k, first, second) ↦ (AHole k ∷ APort between ∷ more.0, (first, (second, more.1)))
    ]

module _ (design : Design) (c : Component) where
  -- the first step of a path, and the last
  first_step : (x : Node) (nodes : List Node) (y : Node) → NodesAlong design c x nodes y → (z : Node) × NodeReads design c x z
  first_step x [] y along = (y, along)
  first_step x (z ∷ nodes) y along = (z, along.0)

  last_step : (x : Node) (nodes : List Node) (y : Node) → NodesAlong design c x nodes y → (z : Node) × NodeReads design c z y
  last_step x [] y along = (x, along)
  last_step x (z ∷ nodes) y along = last_step z nodes y along.1

  -- a step more
  along_more : (x : Node) (nodes : List Node) (y z : Node) → NodesAlong design c x nodes y → NodeReads design c y z → NodesAlong design c x (nodes ++ y ∷ []) z
  along_more x [] y z along reads = (along, reads)
  along_more x (w ∷ nodes) y z along reads = (along.0, along_more w nodes y z along.1 reads)

-- ---- ports that have numbers

module _ (design : Design) (keeps : KeepsRules design) (c : Component) (g : WireGraph) (is : HasOwnReadings design c g) where
  -- the part's ports have names of their own
  part_distinct : (part : Component) (cell : Text) → part_in design c cell ≡ Some part → AreDistinct (ports_in part)
  part_distinct part cell made =
      let m = place_of design part (part_in-design design c cell part made) in
      new_ports Unreserved design keeps m.0 part m.1

  -- a port between two readings is not one of a cell at both
  not_both : (x y z : Node) → ReadsByPart design c x y → ReadsByPart design c y z → ⊥
  not_both x y z r s =
      let port : r.input ≡ s.port = port_is r.input s.port (sym r.is_input ∙ s.is_port) in
      let names = same_pin r.crosses.cell s.crosses.cell r.input_name s.output_name (ap (λ (p : PortName). key_of (APort p)) (sym r.crosses.is_input ∙ port ∙ s.crosses.is_output)) in
      let part : r.part ≡ s.part = same_Some r.part s.part (sym r.crosses.made ∙ ap (part_in design c) names.0 ∙ s.crosses.made) in
      let output : Contains (pin_names (outputs_in r.part)) r.input_name =
      subst₂ (λ (d : Component) (t : Text). Contains (pin_names (outputs_in d)) t) (sym part) (sym names.1) s.crosses.has_output in
      no_both (inputs_in r.part) (outputs_in r.part) r.input_name (part_distinct r.part r.crosses.cell r.crosses.made) r.crosses.has_input output

  -- what is read has an entry, or it is read through a cell of a component
  pub entry_or_part : (x y : Node) → NodeReads design c x y → HasReading g x y ⊎ ReadsByPart design c x y
  entry_or_part x y reads =
      elim (is_said design c x y reads) [
        | inl said ↦ inl ((is.reads x y).1 said)
        | inr by_part ↦ inr by_part
      ]

  -- the node has a number
  abbrev pub Named : Node → Type 0
  Named node = (k : ℕ) × HasNumber g node k

  -- so a node between two readings has one
  pub between : (x y z : Node) → NodeReads design c x y → NodeReads design c y z → Named y
  between x y z first second =
      elim (entry_or_part x y first) [
        | inl r ↦ (r.entry.value, r.value)
        | inr by_part ↦ elim (entry_or_part y z second) [
          | inl s ↦ (s.entry.key, s.key)
          | inr again ↦ absurd (not_both x y z by_part again)
        ]
      ]

  -- an own port that reads or is read has one
  pub own_reads : (name : Text) (y : Node) → NodeReads design c (APort (own name)) y → Named (APort (own name))
  own_reads name y reads =
      elim (entry_or_part (APort (own name)) y reads) [
        | inl r ↦ (r.entry.key, r.key)
        | inr r ↦ absurd (own_no_cell name r.crosses.cell r.output_name (port_is (own name) r.port r.is_port ∙ r.crosses.is_output))
      ]

  pub own_read : (name : Text) (x : Node) → NodeReads design c x (APort (own name)) → Named (APort (own name))
  own_read name x reads =
      elim (entry_or_part x (APort (own name)) reads) [
        | inl r ↦ (r.entry.value, r.value)
        | inr r ↦ absurd (own_no_cell name r.crosses.cell r.input_name (port_is (own name) r.input r.is_input ∙ r.crosses.is_input))
      ]

  -- ---- levels fall

  module _ (distinct : AreDistinct g.ports.keys) (n : ℕ) (at : slice_get design n ≡ Some c) (parts : List Levels) (shows : ShowsPartLevels design n parts) (cells : List CellPort) (all : (port : CellPort) → IsCellPort design c g parts port → Contains cells port)
      (levels : List ℕ) (are : AreLevels g.entries.items cells levels) where
    -- the second has a lower level, where both have numbers
    abbrev Falls : Node → Node → Type 0
    Falls x y = (k j : ℕ) → HasNumber g x k → HasNumber g y j → IsBelow levels j k

    by_wire : (x y : Node) → HasReading g x y → Falls x y
    by_wire x y r k j at_x at_y =
        let key : r.entry.key ≡ k = same_number g.ports.keys r.entry.key k (key_of x) distinct r.key.at at_x.at in
        let value : r.entry.value ≡ j = same_number g.ports.keys r.entry.value j (key_of y) distinct r.value.at at_y.at in
        subst₂ (λ (a b : ℕ). IsBelow levels a b) value key (are.wires r.entry r.there)

    by_cell : (x y : Node) → ReadsByPart design c x y → Falls x y
    by_cell x y r k j at_x at_y = are.cells output input (all output is_output) (all input is_input) (record { cell = refl; is_output = refl; is_input = refl; lower = lower.lower })
      where
        ins : List Pin
        ins = inputs_in r.part

        outs : List Pin
        outs = outputs_in r.part

        cell : Text
        cell = r.crosses.cell

        found : (d : CellDef) × (cell_named c.cells cell ≡ Some d) × (part_of design d ≡ Some r.part)
        found = part_in-Some design c cell r.part r.crosses.made

        named : Contains c.cells found.0 × (found.0.name ≡ cell)
        named = cell_named-Some c.cells cell found.0 found.1

        place : (i : ℕ) × (slice_get c.cells i ≡ Some found.0)
        place = place_of c.cells found.0 named.0

        first : IsFirst (cell_names c.cells) cell place.0
        first = subst (λ (t : Text). IsFirst (cell_names c.cells) t place.0) named.1 ((first_at (λ (d : CellDef). d.name) c.cells place.0 found.0 place.1).1 (new_cell Unreserved design keeps n c at place.0 found.0 place.1).0)

        m : (i : ℕ) × (slice_get design i ≡ Some r.part)
        m = place_of design r.part (part_in-design design c cell r.part r.crosses.made)

        part_first : IsFirst (component_names design) r.part.name m.0
        part_first = first_of_name design keeps m.0 r.part m.1

        has : HasPart design n m.0
        has = record { c = c; at = at; cell = found.0; has = named.0; part = r.part; made = found.2; there = m.1; first = part_first }

        known : (l : Levels) × (slice_get parts m.0 ≡ Some l)
        known = exists_at parts m.0 (omega (arith, shows.all, slice_get_within design m.0 r.part m.1))

        o : (i : ℕ) × (length ins ≤ i) × (slice_get (ports_in r.part) i ≡ Some r.output_name)
        o = output_place ins outs r.output_name r.crosses.has_output

        i : (i : ℕ) × (i < length ins) × (slice_get (ports_in r.part) i ≡ Some r.input_name)
        i = input_place ins outs r.input_name r.crosses.has_input

        lower : IsLower known.0 i.0 o.0
        lower = shows.each m.0 r.part known.0 has m.1 known.1 o.0 i.0 r.output_name r.input_name o.2 i.2 r.reaches

        output : CellPort
        output = record { cell = place.0; level = lower.high; node = k; is_input = false }

        input : CellPort
        input = record { cell = place.0; level = lower.low; node = j; is_input = true }

        apart : AreDistinct (ports_in r.part)
        apart = part_distinct r.part cell r.crosses.made

        is_output : IsCellPort design c g parts output
        is_output = record {
          cell = cell;
          first = first;
          part = r.part;
          made = r.crosses.made;
          m = m.0;
          there = m.1;
          named = part_first;
          pin = r.output_name;
          j = o.0;
          is = distinct_first (ports_in r.part) o.0 r.output_name apart o.2;
          side = (λ e. absurd (cc), λ less. absurd (omega (arith, less, o.1)));
          known = known.0;
          are = known.1;
          has_level = lower.has_high;
          number = subst (λ (node : Node). HasNumber g node k) (r.is_port ∙ ap APort r.crosses.is_output) at_x;
        }

        is_input : IsCellPort design c g parts input
        is_input = record {
          cell = cell;
          first = first;
          part = r.part;
          made = r.crosses.made;
          m = m.0;
          there = m.1;
          named = part_first;
          pin = r.input_name;
          j = i.0;
          is = distinct_first (ports_in r.part) i.0 r.input_name apart i.2;
          side = (λ e. i.1, λ less. refl);
          known = known.0;
          are = known.1;
          has_level = lower.has_low;
          number = subst (λ (node : Node). HasNumber g node j) (r.is_input ∙ ap APort r.crosses.is_input) at_y;
        }

    reads_fall : (x y : Node) → NodeReads design c x y → Falls x y
    reads_fall x y reads =
        elim (entry_or_part x y reads) [
          | inl r ↦ by_wire x y r
          | inr r ↦ by_cell x y r
        ]

    along_falls : (x : Node) (nodes : List Node) (y : Node) → NodesAlong design c x nodes y → Falls x y
    along_falls x [] y along = reads_fall x y along
    along_falls x (z ∷ nodes) y along = λ k j at_x at_y.
        let next = first_step design c z nodes y along.1 in
        let mid = between x z next.0 along.0 next.1 in
        let one : slice_index levels mid.0 < slice_index levels k = reads_fall x z along.0 k mid.0 at_x mid.1 in
        let rest : slice_index levels j < slice_index levels mid.0 = along_falls z nodes y along.1 mid.0 j mid.1 at_y in
        omega (arith, one, rest)

    no_round : (x : Node) (nodes : List Node) → NodesAlong design c x nodes x → ⊥
    no_round x [] along =
        let named = between x x x along along in
        let less : slice_index levels named.0 < slice_index levels named.0 = reads_fall x x along named.0 named.0 named.1 named.1 in
        omega (arith, less)
    no_round x (z ∷ nodes) along =
        let next = first_step design c z nodes x along.1 in
        let named = between x z next.0 along.0 next.1 in
        let round = along_more design c z nodes x z along.1 along.0 in
        let less : slice_index levels named.0 < slice_index levels named.0 = along_falls z (nodes ++ x ∷ []) z round named.0 named.0 named.1 named.1 in
        omega (arith, less)

    -- so the component has no loop
    pub levels_no_loop : HasNoLoop design c
    levels_no_loop first others loop =
        let path = reach_along design c first first (along_reaches design c first others first loop.along) in
        no_round (APort first) path.0 path.1

    -- and the levels of its own ports are levels of it
    pub levels_shown : (kept : Levels) → KeepsOwn c g.ports.keys levels kept → ShowsLevels design c kept
    levels_shown kept keep i j port other at_i at_j reaches =
        let path = reach_along design c (own port) (own other) reaches in
        let out = first_step design c (APort (own port)) path.0 (APort (own other)) path.1 in
        let into = last_step design c (APort (own port)) path.0 (APort (own other)) path.1 in
        let high = own_reads port out.0 out.1 in
        let low = own_read other into.0 into.1 in
        record {
          low = slice_index levels low.0;
          high = slice_index levels high.0;
          has_low = keep j low.0 other at_j low.1.at;
          has_high = keep i high.0 port at_i high.1.at;
          lower = along_falls (APort (own port)) path.0 (APort (own other)) path.1 high.0 low.0 high.1 low.1;
        }
