-- What a port or hole reads is said by the component's own text or by a cell that is made of a component; the graph has what the text says, and nothing else.
use Rattle.std.proofs.Common.{◌≡◌, ◌⊎◌, inl, inr, ℕ, List, [], ◌++◌, Some, None, refl, sym, ap, subst, subst₂, ◌∙◌, zero-add}
use Rattle.std.specs.Prelude.{All, Contains, codes, slice_get}
use Rattle.std.proofs.lemmas.List.Elements.{All-nil}
use Rattle.hw_graph.specs.declared.groups.Entry.{Entry}
use Rattle.hw_names.specs.Name.{Text}
use Rattle.hw_prims.specs.Table.{inputs_of, outputs_of, pin_names}
use Rattle.hw_prims.specs.declared.prim.Primitive.{Primitive}
use Rattle.cal_ast.proofs.ListLemmas.{Contains-at, Contains-none, place_of}
use Rattle.cal_ast.proofs.LookupLemmas.{cell_named-Some, primitive_in-Some}
use Rattle.cal_ast.specs.Items.{control_statements}
use Rattle.cal_ast.specs.Ports.{primitive_in}
use Rattle.cal_ast.specs.Tree.{PortName, own, port_of, CellDef, Assignment, GroupDef, Component, Design}
use Rattle.cal_ast.specs.Wires.{IsAssignmentOf, all_groups, set_ports, done_ports}
use Rattle.cal_wires.specs.WireGraphs.{ReadsByPart}
use Rattle.cal_wires.specs.Nodes.{Node, APort, AHole, IsKey}
use Rattle.cal_wires.specs.Readings.{AddsGroups, HasOwnReadings, ReadsEach, ReadsGroup, ReadsGroups, ReadsInPrimitive, ReadsOwn, ReadsPrimitive, ReadsPrimitives, ReadsSet, ReadsSets, groups_invoked}
use Rattle.cal_wires.specs.WireGraphs.{Adds, Grows, IsPair, NodeReads, NoPair, BySet, InGroup, OfDone, OfGo, OfPrimitive, OfPart}
use Rattle.cal_wires.specs.declared.graph.WireGraph.{WireGraph}
use Rattle.cal_wires.proofs.GainLemmas.{adds_after, adds_both, groups_both}
use Rattle.cal_wires.proofs.InvokedLemmas.{groups_are}

-- ---- a reading is said

module _ (design : Design) (c : Component) where
  -- a port is among those that are read
  said_port : (node : Node) (ports : List PortName) (port : PortName) → Contains ports port → ReadsEach node ports node (APort port)
  said_port node ports port has = let i = place_of ports port has in (i.0, port, i.1, (refl, refl))

  said_set : (sets : List Assignment) (k : ℕ) (a : Assignment) (n o : Node) → Contains sets a → ReadsSet (Some k) a n o → ReadsSets (Some k) sets n o
  said_set sets k a n o has r = let i = place_of sets a has in (i.0, a, i.1, r)

  -- the readings of group k, by its number
  in_group : (k : ℕ) (g : GroupDef) (n o : Node) → slice_get (all_groups design c) k ≡ Some g → ReadsGroup design c k g n o → ReadsGroups design c 0 (all_groups design c) n o
  in_group k g n o at r = (k, g, at, subst (λ (m : ℕ). ReadsGroup design c m g n o) (sym (zero-add k)) r)

  in_primitive : (name : Text) (cell : CellDef) (n o : Node) → Contains c.cells cell → cell.name ≡ name → ReadsPrimitive c name n o → ReadsPrimitives c n o
  in_primitive name cell n o has named r = let i = place_of c.cells cell has in (i.0, cell, i.1, subst (λ (t : Text). ReadsPrimitive c t n o) (sym named) r)

  pub is_said : (n o : Node) → NodeReads design c n o → ReadsOwn design c n o ⊎ ReadsByPart design c n o
  is_said n o (BySet a other (inl continuous) reads) =
      let i = place_of c.sets a continuous in
      inl (inl (inl (i.0, a, i.1, inl (said_port (APort a.dst) (set_ports a) other reads))))
  is_said n o (BySet a other (inr (g, is, has)) reads) =
      let k = place_of (all_groups design c) g is in
      let said = inl (said_port (APort a.dst) (set_ports a) other reads) in
      inl (inl (inr (in_group k.0 g (APort a.dst) (APort other) k.1 (inl (inr (said_set g.sets k.0 a (APort a.dst) (APort other) has said))))))
  is_said n o (InGroup k g a at has) = inl (inl (inr (in_group k g (APort a.dst) (AHole k) at (inl (inr (said_set g.sets k a (APort a.dst) (AHole k) has (inr (refl, refl))))))))
  is_said n o (OfDone k g d other at has reads) =
      let i = place_of g.dones d has in
      inl (inl (inr (in_group k g (AHole k) (APort other) at (inr (i.0, d, i.1, said_port (AHole k) (done_ports d) other reads)))))
  is_said n o (OfGo k g at is) = inl (inl (inr (in_group k g (AHole k) (APort (own (codes "go"))) at (inl (inl (is, (refl, refl)))))))
  is_said n o (OfPrimitive port other r) =
      let found = primitive_in-Some c r.cell r.prim r.made in
      let named = cell_named-Some c.cells r.cell found.0 found.1 in
      let output = place_of (pin_names (outputs_of r.prim)) r.output r.depends.is_output in
      let input = place_of (pin_names (inputs_of r.prim)) r.input r.depends.is_input in
      let reads : ReadsInPrimitive r.cell r.prim (APort port) (APort other) =
      (output.0, r.output, output.1, (input.0, r.input, input.1, (r.depends.through, (ap APort (sym r.is_output), ap APort (sym r.is_input))))) in
      inl (inr (in_primitive r.cell found.0 (APort port) (APort other) named.0 named.1 (r.prim, r.made, reads)))
  is_said n o (OfPart part port other output input crosses reaches) = inr (record {
    part = part;
    port = port;
    input = other;
    is_port = refl;
    is_input = refl;
    output_name = output;
    input_name = input;
    crosses = crosses;
    reaches = reaches;
  })

  -- ---- what is said is a reading

  -- along an equation of both nodes
  as_nodes : (node other n o : Node) → IsPair node other n o → NodeReads design c node other → NodeReads design c n o
  as_nodes node other n o same reads = subst₂ (λ (x y : Node). NodeReads design c x y) same.0 same.1 reads

  of_each : (a : Assignment) (n o : Node) → IsAssignmentOf design c a → ReadsEach (APort a.dst) (set_ports a) n o → NodeReads design c n o
  of_each a n o is (i, port, at, same) = as_nodes (APort a.dst) (APort port) n o same (BySet a port is (Contains-at (set_ports a) i port at))

  of_sets : (n o : Node) → ReadsSets None c.sets n o → NodeReads design c n o
  of_sets n o (j, a, at, inl reads) = of_each a n o (inl (Contains-at c.sets j a at)) reads
  of_sets n o (j, a, at, inr none) = absurd none

  of_group : (k : ℕ) (g : GroupDef) (n o : Node) → slice_get (all_groups design c) k ≡ Some g → ReadsGroup design c k g n o → NodeReads design c n o
  of_group k g n o at (inl (inl (is, same))) = as_nodes (AHole k) (APort (own (codes "go"))) n o same (OfGo k g at is)
  of_group k g n o at (inl (inr (i, a, at_a, inl reads))) = of_each a n o (inr (g, Contains-at (all_groups design c) k g at, Contains-at g.sets i a at_a)) reads
  of_group k g n o at (inl (inr (i, a, at_a, inr same))) = as_nodes (APort a.dst) (AHole k) n o same (InGroup k g a at (Contains-at g.sets i a at_a))
  of_group k g n o at (inr (i, d, at_d, (j, port, at_port, same))) =
      as_nodes (AHole k) (APort port) n o same (OfDone k g d port at (Contains-at g.dones i d at_d) (Contains-at (done_ports d) j port at_port))

  of_groups : (n o : Node) → ReadsGroups design c 0 (all_groups design c) n o → NodeReads design c n o
  of_groups n o (k, g, at, r) = of_group k g n o at (subst (λ (m : ℕ). ReadsGroup design c m g n o) (zero-add k) r)

  of_primitive : (cell : Text) (prim : Primitive) (n o : Node) → primitive_in c cell ≡ Some prim → ReadsInPrimitive cell prim n o → NodeReads design c n o
  of_primitive cell prim n o made (j, output, at_output, (i, input, at_input, (through, same))) =
      as_nodes (APort (port_of cell output)) (APort (port_of cell input)) n o same
      (OfPrimitive (port_of cell output) (port_of cell input) (record {
        cell = cell;
        prim = prim;
        made = made;
        output = output;
        input = input;
        depends = record { is_output = Contains-at (pin_names (outputs_of prim)) j output at_output; is_input = Contains-at (pin_names (inputs_of prim)) i input at_input; through = through };
        is_output = refl;
        is_input = refl;
      }))

  of_primitives : (n o : Node) → ReadsPrimitives c n o → NodeReads design c n o
  of_primitives n o (j, cell, at, (prim, made, reads)) = of_primitive cell.name prim n o made reads

  pub own_reading : (n o : Node) → ReadsOwn design c n o → NodeReads design c n o
  own_reading n o (inl (inl sets)) = of_sets n o sets
  own_reading n o (inl (inr groups)) = of_groups n o groups
  own_reading n o (inr primitives) = of_primitives n o primitives

  pub part_reading : (n o : Node) → ReadsByPart design c n o → NodeReads design c n o
  part_reading n o r =
      as_nodes (APort r.port) (APort r.input) n o (sym r.is_port, sym r.is_input) (OfPart r.part r.port r.input r.output_name r.input_name r.crosses r.reaches)

  -- ---- the graph of the text

  -- the graph has all that was added
  pub own_graph : (start inputs sets groups control g : WireGraph) → start.ports.keys ≡ [] → start.entries.items ≡ [] → start.holes ≡ 0 → Grows NoPair start inputs → Grows (ReadsSets None c.sets) inputs sets → AddsGroups design c c.groups sets groups
      → AddsGroups design c (groups_invoked design c (control_statements c.control)) groups control → Grows (ReadsPrimitives c) control g → HasOwnReadings design c g
  own_graph start inputs sets groups control g no_keys empty none first second third fourth fifth = record {
    nodes = all.nodes (subst (All IsKey) (sym no_keys) (All-nil IsKey));
    reads = λ n o. (
      λ h. elim ((all.has n o).0 h) [
        | inl old ↦ absurd (Contains-none old.entry (subst (λ (es : List Entry). Contains es old.entry) empty old.there))
        | inr said ↦ said
      ],
      λ said. (all.has n o).1 (inr said),
    );
  }
    where
      both : AddsGroups design c (c.groups ++ groups_invoked design c (control_statements c.control)) sets control
      both = groups_both design c c.groups (groups_invoked design c (control_statements c.control)) sets groups control third fourth

      fresh : sets.holes ≡ 0
      fresh = second.holes ∙ first.holes ∙ none

      all_of : Adds (ReadsGroups design c 0 (all_groups design c)) sets control
      all_of = subst₂ (λ (k : ℕ) (gs : List GroupDef). Adds (ReadsGroups design c k gs) sets control) fresh (groups_are design c) both.adds

      all : Adds (ReadsOwn design c) start g
      all =
          adds_both (λ n o. ReadsSets None c.sets n o ⊎ ReadsGroups design c 0 (all_groups design c) n o) (ReadsPrimitives c) start control g
          (adds_both (ReadsSets None c.sets) (ReadsGroups design c 0 (all_groups design c)) start sets control (adds_after (ReadsSets None c.sets) start inputs sets first.adds second.adds) all_of)
          fifth.adds
