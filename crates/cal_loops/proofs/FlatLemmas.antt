-- The one graph of a component's ports and of its cells' graphs leads as the component's ports and holes read one another.
use Rattle.std.proofs.Common.{◌≡◌, inl, inr, ℕ, ◌<◌, List, Contains, length, subst₂, arith}
use Rattle.std.proofs.lemmas.List.Elements.{All-contains}
use Rattle.hw_cells.specs.Cells as numbers
use Rattle.hw_cells.specs.Cells.{IsFit, IsFlat, IsPinWithin, Reads}
use Rattle.hw_cells.specs.declared.cell.Cell.{Cell}
use Rattle.hw_names.proofs.NameLemmas.{same_number}
use Rattle.hw_names.specs.Name.{AreDistinct}
use Rattle.cal_ast.specs.Rules.{KeepsRules}
use Rattle.cal_ast.specs.Tree.{Component, Design, own}
use Rattle.cal_loops.specs.inside.Cells.{AreCells, Directly, IsNodeAt, LeadsAsRead, NodeReaches, ReadsAt, Through}
use Rattle.cal_wires.specs.Nodes.{APort, Node, key_of}
use Rattle.cal_wires.specs.Readings.{HasOwnReadings}
use Rattle.cal_wires.specs.WireGraphs.{HasNumber, NodeReads}
use Rattle.cal_wires.specs.declared.graph.WireGraph.{WireGraph}
use Rattle.cal_wires.proofs.GainLemmas.{IsWithin, node_at, number_within}
use Rattle.cal_loops.proofs.LevelLemmas.{between, entry_or_part, own_read, own_reads}
use Rattle.cal_wires.proofs.SaidLemmas.{own_reading, part_reading}

-- what reaches another reads one
first_read : (design : Design) (c : Component) (x y : Node) → NodeReaches design c x y → (z : Node) × NodeReads design c x z
first_read design c x y (Directly node other read) = (other, read)
first_read design c x y (Through node next other read rest) = (next, read)

module _ (design : Design) (keeps : KeepsRules design) (c : Component) (g : WireGraph) (distinct : AreDistinct g.ports.keys) (own_is : HasOwnReadings design c g) (cells : List Cell) (are : AreCells design c g cells) where
  -- ---- one reading

  node_reads : (i j : ℕ) (x y : Node) → HasNumber g x i → HasNumber g y j → Reads g.entries.items cells i j → NodeReads design c x y
  node_reads i j x y at_x at_y (inl there) =
      own_reading design c x y ((own_is.reads x y).0 (record { entry = record { key = i; value = j }; there = there; key = at_x; value = at_y }))
  node_reads i j x y at_x at_y (inr through) = part_reading design c x y ((are.each i j x y at_x at_y).0 through)

  number_reads : (i j : ℕ) (x y : Node) → HasNumber g x i → HasNumber g y j → NodeReads design c x y → Reads g.entries.items cells i j
  number_reads i j x y at_x at_y read =
      elim (entry_or_part design keeps c g own_is x y read) [
        | inl r ↦
            (let key : r.entry.key ≡ i = same_number g.ports.keys r.entry.key i (key_of x) distinct r.key.at at_x.at in
            let value : r.entry.value ≡ j = same_number g.ports.keys r.entry.value j (key_of y) distinct r.value.at at_y.at in
            inl (subst₂ (λ (a b : ℕ). Contains g.entries.items (record { key = a; value = b })) key value r.there))
        | inr r ↦ inr ((are.each i j x y at_x at_y).1 r)
      ]

  reads_within : (i j : ℕ) → Reads g.entries.items cells i j → (i < length g.ports.keys) × (j < length g.ports.keys)
  reads_within i j (inl there) = All-contains (IsWithin g.ports.keys) g.entries.items (record { key = i; value = j }) g.in_range there
  reads_within i j (inr (cell, has, through)) =
      let ports = length g.ports.keys in
      let fit = All-contains (IsFit ports) cells cell are.fit has in
      let output = All-contains (IsPinWithin ports (length cell.reads.now)) cell.outputs.items through.output fit.outputs through.has_output in
      let input = All-contains (IsPinWithin ports (length cell.reads.now)) cell.inputs.items through.input fit.inputs through.has_input in
      (omega (arith, output.0, through.is_output), omega (arith, input.0, through.is_input))

  -- ---- readings one after another

  node_reaches : (i j : ℕ) → numbers.Reaches g.entries.items cells i j → (x y : Node) → HasNumber g x i → HasNumber g y j → NodeReaches design c x y
  node_reaches i j (numbers.Directly port other read) x y at_x at_y = Directly x y (node_reads port other x y at_x at_y read)
  node_reaches i j (numbers.Through port next other read rest) x y at_x at_y =
      let mid = node_at g own_is.nodes next (reads_within port next read).1 in
      Through x mid.0 y (node_reads port next x mid.0 at_x mid.1 read) (node_reaches next other rest mid.0 y mid.1 at_y)

  number_reaches : (x y : Node) → NodeReaches design c x y → (i j : ℕ) → HasNumber g x i → HasNumber g y j → numbers.Reaches g.entries.items cells i j
  number_reaches x y (Directly node other read) i j at_x at_y = numbers.Directly i j (number_reads i j node other at_x at_y read)
  number_reaches x y (Through node next other read rest) i j at_x at_y =
      let on = first_read design c next other rest in
      let mid = between design keeps c g own_is node next on.0 read on.1 in
      numbers.Through i mid.0 j (number_reads i mid.0 node next at_x mid.1 read) (number_reaches next other rest mid.0 j mid.1 at_y)

  -- ---- places among the keys

  numbered : (node : Node) (i : ℕ) → IsNodeAt g.ports.keys node i → HasNumber g node i
  numbered node i is = record { has_key = is.has_key; at = is.at }

  stands : (node : Node) (i : ℕ) → HasNumber g node i → IsNodeAt g.ports.keys node i
  stands node i is = record { has_key = is.has_key; at = is.at }

  reads_at : (i j : ℕ) → Reads g.entries.items cells i j → ReadsAt design c g.ports.keys i j
  reads_at i j read =
      let within = reads_within i j read in
      let x = node_at g own_is.nodes i within.0 in
      let y = node_at g own_is.nodes j within.1 in
      record { node = x.0; read = y.0; is_node = stands x.0 i x.1; is_read = stands y.0 j y.1; reads = node_reads i j x.0 y.0 x.1 y.1 read }

  pub leads_as_read : (reads : List (List ℕ)) → IsFlat g.entries.items (length g.ports.keys) cells reads → LeadsAsRead design c g.ports.keys reads
  leads_as_read reads flat = record {
    nodes = own_is.nodes;
    in_range = flat.in_range;
    all = flat.all;
    reaches = λ x y i j at_x at_y.
        let is_x = numbered x i at_x in
        let is_y = numbered y j at_y in
        let same = flat.reaches i j (number_within g x i is_x) (number_within g y j is_y) in
        (λ reaches. node_reaches i j (same.0 reaches) x y is_x is_y, λ reaches. same.1 (number_reaches x y reaches i j is_x is_y));
    between = λ x y z first second. let named = between design keeps c g own_is x y z first second in (named.0, stands y named.0 named.1);
    own_port = λ port other e. elim e [
      | inl read ↦ (let named = own_reads design keeps c g own_is port other read in (named.0, stands (APort (own port)) named.0 named.1))
      | inr read ↦ (let named = own_read design keeps c g own_is port other read in (named.0, stands (APort (own port)) named.0 named.1))
    ];
    loops = λ nodes cycle first.
        let loop = flat.loops nodes cycle first in
        record { some = loop.some; along = λ i lt. reads_at _ _ (loop.along i lt); back = reads_at _ _ loop.back; once = loop.once };
  }
