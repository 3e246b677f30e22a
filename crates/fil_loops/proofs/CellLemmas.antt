-- The instances of components as cells, from the ports of them that a graph has, and the ports that are given numbers.
use Rattle.std.proofs.Common.{◌≡◌, ◌↔◌, inl, inr, ℕ, ◌+◌, ◌<◌, ◌≤◌, List, [], ◌∷◌, ◌++◌, Option, None, Some, option_map, length, get_or, take, slice_get, All, Contains, refl, sym, ap, subst, ◌∙◌, arith}
use Rattle.std.specs.Borrow.{Bor}
use Rattle.std.specs.Prelude.{IfSome}
use Rattle.std.proofs.lemmas.Bool.{cases_lt}
use Rattle.std.proofs.lemmas.List.{take_all}
use Rattle.std.proofs.lemmas.List.Elements.{All-contains, All-push, All-weaker, Contains-append_left, Contains-get_or, Contains-push, Contains-push_cases}
use Rattle.std.proofs.lemmas.Option.{none-some, same_Some, slice_get-get_or, slice_get_within}
use Rattle.hw_cells.proofs.GraphLemmas.{HasGraphOf}
use Rattle.hw_cells.specs.Cells.{IsFit, IsOrReaches, IsPinWithin, IsTold, ReadsThrough}
use Rattle.hw_cells.specs.declared.cell.Cell.{Cell}
use Rattle.hw_cells.specs.declared.cell.Pin.{Pin}
use Rattle.hw_cells.specs.declared.told.Told.{Told}
use Rattle.hw_graph.specs.Graph.{AreInRange}
use Rattle.hw_names.proofs.NameLemmas.{Contains-slice_get}
use Rattle.hw_names.specs.Name.{HasNoDot, KeepsTexts, Text, dotted}
use Rattle.fil_share.proofs.ListLemmas.{take_next}
use Rattle.fil_loops.specs.inside.CellPins.{HasPins, IsNamedPin, IsPortOfInstance}
use Rattle.fil_loops.specs.inside.Cells.{AreCells, IsInsideAt, IsPortInside, NumbersDotted, ReadsInside}
use Rattle.fil_loops.specs.inside.PortGraph.{Adds, NoPair}
use Rattle.fil_loops.specs.inside.Ports.{PortList}
use Rattle.fil_loops.specs.declared.graph.PortGraph.{PortGraph}
use Rattle.fil_loops.specs.declared.inside.Inside.{Inside}

-- ---- what is known of an instance

pub same_inside : (parts : List (Option ℕ)) (insides : List Inside) (instance : ℕ) (a b : Inside) → IsInsideAt parts insides instance a → IsInsideAt parts insides instance b → a ≡ b
same_inside parts insides instance a b one other =
    let part : one.0 ≡ other.0 = same_Some one.0 other.0 (same_Some (Some one.0) (Some other.0) (sym one.1 ∙ other.1)) in
    same_Some a b (sym one.2 ∙ ap (slice_get insides) part ∙ other.2)

-- what is known of the component is known of the instance
pub known_inside : (parts : List (Option ℕ)) (insides : List Inside) (instance part : ℕ) → slice_get parts instance ≡ Some (Some part) → (found : Option Inside) → found ≡ slice_get insides part
    → (inside : Inside) → (found ≡ Some inside) ↔ IsInsideAt parts insides instance inside
known_inside parts insides instance part at found is inside = (
  λ there. (part, at, sym is ∙ there),
  λ known. is ∙ ap (slice_get insides) (same_Some part known.0 (same_Some (Some part) (Some known.0) (sym at ∙ known.1))) ∙ known.2,
)

-- nothing is known of the component
pub not_known : (parts : List (Option ℕ)) (insides : List Inside) (instance part : ℕ) → slice_get parts instance ≡ Some (Some part) → slice_get insides part ≡ None → (inside : Inside) → IsInsideAt parts insides instance inside → ⊥
not_known parts insides instance part at past inside known = none-some inside (sym past ∙ (known_inside parts insides instance part at (slice_get insides part) refl inside).1 known)

-- ---- the cells

-- nothing was told of the cell's pins
pub none_told : (cell : Cell) → cell.told ≡ None → IfSome cell.told (λ (told : Bor Told). IsTold cell.reads.now told.now)
none_told cell untold = subst (λ (found : Option (Bor Told)). IfSome found (λ (told : Bor Told). IsTold cell.reads.now told.now)) (sym untold) tt

-- the graph of the component of this number, if it is known
abbrev pub graph_in : List Inside → ℕ → Option (List (List ℕ))
graph_in insides part = option_map (λ (inside : Inside). inside.graph.reads) (slice_get insides part)

pub has_graph : (insides : List Inside) (part : ℕ) (inside : Inside) (cell : Cell) → slice_get insides part ≡ Some inside → cell.part ≡ part → cell.reads.now ≡ inside.graph.reads → HasGraphOf (graph_in insides) cell
has_graph insides part inside cell at same reads = ap (graph_in insides) same ∙ ap (option_map (λ (i : Inside). i.graph.reads)) at ∙ ap Some (sym reads)

-- the cell of this instance, of whose component this is known
pub record IsCellAt (parts : List (Option ℕ)) (insides : List Inside) (ports : PortList) (instance : ℕ) (inside : Inside) (cell : Cell) : Type 0 where
  pub known : IsInsideAt parts insides instance inside
  pub nodes : List ℕ
  pub are_nodes : (node : ℕ) → Contains nodes node ↔ IsPortOfInstance ports instance node
  pub pins : HasPins ports instance inside nodes cell

-- the cells before this number
pub record AreCellsBelow (parts : List (Option ℕ)) (insides : List Inside) (ports : PortList) (end : ℕ) (cells : List Cell) : Type 0 where
  pub each : (cell : Cell) → Contains cells cell → (instance : ℕ) × (inside : Inside) × IsCellAt parts insides ports instance inside cell
  pub all : (instance : ℕ) (inside : Inside) → instance < end → IsInsideAt parts insides instance inside → (cell : Cell) × Contains cells cell × IsCellAt parts insides ports instance inside cell

module _ (parts : List (Option ℕ)) (insides : List Inside) (ports : PortList) where
  pub cells_same : (end : ℕ) (cells : List Cell) → ((inside : Inside) → IsInsideAt parts insides end inside → ⊥) → AreCellsBelow parts insides ports end cells → AreCellsBelow parts insides ports (end + 1) cells
  cells_same end cells none are = record {
    each = are.each;
    all = λ instance inside less known. elim (cases_lt instance end) [
      | inl before ↦ are.all instance inside before known
      | inr past ↦
          let here : instance ≡ end = omega (arith, less, past) in
          absurd (none inside (subst (λ (k : ℕ). IsInsideAt parts insides k inside) here known))
    ];
  }

  pub cells_more : (end : ℕ) (cells : List Cell) (inside : Inside) (cell : Cell) → IsCellAt parts insides ports end inside cell → AreCellsBelow parts insides ports end cells → AreCellsBelow parts insides ports (end + 1) (cells ++ cell ∷ [])
  cells_more end cells inside cell is are = record {
    each = λ other has. elim (Contains-push_cases cells cell other has) [
      | inl before ↦ are.each other before
      | inr e ↦ (end, inside, subst (IsCellAt parts insides ports end inside) e is)
    ];
    all = λ instance other less known. elim (cases_lt instance end) [
      | inl before ↦
          let r = are.all instance other before known in
          (r.0, Contains-append_left cells (cell ∷ []) r.0 r.1, r.2)
      | inr past ↦
          let here : end ≡ instance = omega (arith, less, past) in
          let same : inside ≡ other = same_inside parts insides end inside other is.known (subst (λ (k : ℕ). IsInsideAt parts insides k other) (sym here) known) in
          (cell, Contains-push cells cell, subst (λ (k : ℕ). IsCellAt parts insides ports k other cell) here (subst (λ (i : Inside). IsCellAt parts insides ports end i cell) same is))
    ];
  }

  -- the pins of a cell lie in its holder's graph, and their nodes in its own
  cell_fits : (instance : ℕ) (inside : Inside) (cell : Cell) → IsCellAt parts insides ports instance inside cell → IsFit (length ports.names) cell
  cell_fits instance inside cell is = record {
    in_range = subst AreInRange (sym is.pins.reads) inside.graph.in_range;
    told = none_told cell is.pins.untold;
    outputs = within cell.outputs.items (λ pin has. let r = (is.pins.outputs pin).0 has in lies pin r.0 r.2 r.4.0 r.3 r.4.2);
    inputs = within cell.inputs.items (λ pin has. let r = (is.pins.inputs pin).0 has in lies pin r.0 r.2 r.4.0 r.3 r.4.2);
  }
    where
      lies : (pin : Pin) (node : ℕ) (name : Text) (number : ℕ) → slice_get ports.names node ≡ Some (dotted is.pins.inst name) → IsNamedPin inside name node number pin → IsPinWithin (length ports.names) (length cell.reads.now) pin
      lies pin node name number at named = (
        omega (arith, named.is_port, slice_get_within ports.names node (dotted is.pins.inst name) at),
        subst (λ (l : List (List ℕ)). pin.node < length l) (sym is.pins.reads) (inside.graph.within number pin.node named.node),
      )

      within : (pins : List Pin) → ((pin : Pin) → Contains pins pin → IsPinWithin (length ports.names) (length cell.reads.now) pin) → All (IsPinWithin (length ports.names) (length cell.reads.now)) pins
      within pins each k d lt = each (get_or pins k d) (Contains-get_or pins k d lt)

  module _ (instance : ℕ) (inside : Inside) (cell : Cell) (is : IsCellAt parts insides ports instance inside cell) (n m : ℕ) (port other : Text) (at_n : slice_get ports.names n ≡ Some port) (at_m : slice_get ports.names m ≡ Some other) where
    -- through a cell a port reads what is known of its component
    through_reads : ReadsThrough cell n m → ReadsInside parts insides ports.instances port other
    through_reads through =
        let o = (is.pins.outputs through.output).0 through.has_output in
        let i = (is.pins.inputs through.input).0 through.has_input in
        record {
          instance = instance;
          inst = is.pins.inst;
          instance_at = is.pins.instance_at;
          inside = inside;
          known = is.known;
          output = o.4.0;
          input = i.4.0;
          is_output = o.4.1;
          is_input = i.4.1;
          from = through.output.node;
          to = through.input.node;
          from_output = side through.output n port at_n through.is_output o.0 o.2 o.3 o.4.0 o.4.2;
          to_input = side through.input m other at_m through.is_input i.0 i.2 i.3 i.4.0 i.4.2;
          leads = subst (λ (l : List (List ℕ)). IsOrReaches l through.output.node through.input.node) is.pins.reads through.reaches;
        }
      where
        side : (pin : Pin) (k : ℕ) (text : Text) → slice_get ports.names k ≡ Some text → pin.port ≡ k → (node : ℕ) (name : Text) → slice_get ports.names node ≡ Some (dotted is.pins.inst name) → (number : ℕ) → IsNamedPin inside name node number pin
            → IsPortInside is.pins.inst inside number pin.node text
        side pin k text at_k is_k node name at number named = record {
          name = name;
          name_at = named.named;
          is_port = same_Some (dotted is.pins.inst name) text (sym at ∙ ap (slice_get ports.names) (sym named.is_port ∙ is_k) ∙ at_k);
          is_node = named.node;
        }

    -- and what is known of it is read through the cell
    module _ (inst : Text) (instance_at : slice_get ports.instances instance ≡ Some inst) (output input : ℕ) (is_output : inside.graph.inputs ≤ output) (is_input : input < inside.graph.inputs) (from to : ℕ)
        (from_output : IsPortInside inst inside output from port) (to_input : IsPortInside inst inside input to other) (leads : IsOrReaches inside.graph.reads from to) where
      same_inst : inst ≡ is.pins.inst
      same_inst = same_Some inst is.pins.inst (sym instance_at ∙ is.pins.instance_at)

      abbrev own_output : Pin
      own_output = record { port = n; node = from }

      abbrev own_input : Pin
      own_input = record { port = m; node = to }

      node_of : (k : ℕ) (text : Text) → slice_get ports.names k ≡ Some text → (number node : ℕ) → IsPortInside inst inside number node text → Contains is.nodes k
      node_of k text at number node inner = (is.are_nodes k).1 (record {
        full = text;
        at = at;
        named = record { inst = inst; port = inner.name; instance_at = instance_at; is = sym inner.is_port };
      })

      name_of : (k : ℕ) (text : Text) → slice_get ports.names k ≡ Some text → (number node : ℕ) → (inner : IsPortInside inst inside number node text) → slice_get ports.names k ≡ Some (dotted is.pins.inst inner.name)
      name_of k text at number node inner = at ∙ ap Some (sym inner.is_port ∙ ap (λ (t : Text). dotted t inner.name) same_inst)

      reads_through : ReadsThrough cell n m
      reads_through = record {
        output = own_output;
        input = own_input;
        has_output = (is.pins.outputs own_output).1 (
          n,
          node_of n port at_n output from from_output,
          from_output.name,
          name_of n port at_n output from from_output,
          (output, is_output, record { named = from_output.name_at; node = from_output.is_node; is_port = refl }),
        );
        has_input = (is.pins.inputs own_input).1 (
          m,
          node_of m other at_m input to to_input,
          to_input.name,
          name_of m other at_m input to to_input,
          (input, is_input, record { named = to_input.name_at; node = to_input.is_node; is_port = refl }),
        );
        is_output = refl;
        is_input = refl;
        reaches = subst (λ (l : List (List ℕ)). IsOrReaches l from to) (sym is.pins.reads) leads;
      }

  pub are_cells : (end : ℕ) (cells : List Cell) → length ports.instances ≤ end → AreCellsBelow parts insides ports end cells → AreCells parts insides ports cells
  are_cells end cells whole are = record {
    fit = λ k d lt. let r = are.each (get_or cells k d) (Contains-get_or cells k d lt) in cell_fits r.0 r.1 (get_or cells k d) r.2;
    each = λ n m port other at_n at_m. (
      λ has. let r = are.each has.0 has.1 in through_reads r.0 r.1 has.0 r.2 n m port other at_n at_m has.2,
      λ r.
          let one = are.all r.instance r.inside (omega (arith, whole, slice_get_within ports.instances r.instance r.inst r.instance_at)) r.known in
          (one.0, one.1, reads_through r.instance r.inside one.0 one.2 n m port other at_n at_m r.inst r.instance_at r.output r.input r.is_output r.is_input r.from r.to r.from_output r.to_input r.leads),
    );
  }

-- ---- ports that are given numbers

pub contains_kept : (old new : List Text) → KeepsTexts old new → (text : Text) → Contains old text → Contains new text
contains_kept old new keeps text has = Contains-slice_get new has.0 text (keeps has.0 text (slice_get-get_or old has.0 text has.1 ∙ ap Some has.2))

module _ (inst : Text) where
  -- the instance's port of this name has a number
  abbrev pub IsNumbered : List Text → Text → Type 0
  IsNumbered names name = Contains names (dotted inst name)

  -- one name more
  pub numbered_next : (old new : List Text) → KeepsTexts old new → (all : List Text) (k : ℕ) (name : Text) → slice_get all k ≡ Some name → (port : ℕ) → slice_get new port ≡ Some (dotted inst name) → All (IsNumbered old) (take k all) → All (IsNumbered new) (take (k + 1) all)
  numbered_next old new keeps all k name at port there so_far =
      subst (All (IsNumbered new)) (sym (take_next all k name at))
      (All-push (IsNumbered new) (take k all) name (All-weaker (IsNumbered old) (IsNumbered new) (λ text has. contains_kept old new keeps (dotted inst text) has) (take k all) so_far) (Contains-slice_get new port (dotted inst name) there))

  pub all_numbered : (names all : List Text) (k : ℕ) → length all ≤ k → All (IsNumbered names) (take k all) → All (IsNumbered names) all
  all_numbered names all k past so_far = subst (All (IsNumbered names)) (take_all k all past) so_far

module _ (parts : List (Option ℕ)) (insides : List Inside) where
  -- those of the instances before this number
  abbrev pub NumbersBelow : ℕ → PortList → Type 0
  NumbersBelow end ports =
      (instance : ℕ) (inst name : Text) (inside : Inside) → instance < end → slice_get ports.instances instance ≡ Some inst → ¬ HasNoDot inst → IsInsideAt parts insides instance inside → Contains inside.names name → Contains ports.names (dotted inst name)

  pub numbers_same : (end : ℕ) (ports : PortList) → ((inst : Text) (inside : Inside) → slice_get ports.instances end ≡ Some inst → ¬ HasNoDot inst → IsInsideAt parts insides end inside → ⊥) → NumbersBelow end ports → NumbersBelow (end + 1) ports
  numbers_same end ports none numbers instance inst name inside less at dots known has =
      elim (cases_lt instance end) [
        | inl before ↦ numbers instance inst name inside before at dots known has
        | inr past ↦
            let here : instance ≡ end = omega (arith, less, past) in
            absurd (none inst inside (ap (slice_get ports.instances) (sym here) ∙ at) dots (subst (λ (k : ℕ). IsInsideAt parts insides k inside) here known))
      ]

  pub numbers_more : (end : ℕ) (old new : PortGraph) → Adds NoPair old new → (inst : Text) (inside : Inside) → slice_get old.ports.instances end ≡ Some inst → IsInsideAt parts insides end inside → All (IsNumbered inst new.ports.names) inside.names
      → NumbersBelow end old.ports → NumbersBelow (end + 1) new.ports
  numbers_more end old new adds own inside at_own known_own all numbers instance inst name other less at dots known has =
      let there : slice_get old.ports.instances instance ≡ Some inst = ap (λ (l : List Text). slice_get l instance) (sym adds.instances) ∙ at in
      elim (cases_lt instance end) [
        | inl before ↦ contains_kept old.ports.names new.ports.names adds.texts (dotted inst name) (numbers instance inst name other before there dots known has)
        | inr past ↦
            let here : instance ≡ end = omega (arith, less, past) in
            let same_inst : own ≡ inst = same_Some own inst (sym at_own ∙ ap (slice_get old.ports.instances) (sym here) ∙ there) in
            let same : inside ≡ other = same_inside parts insides end inside other known_own (subst (λ (k : ℕ). IsInsideAt parts insides k other) here known) in
            let one : Contains new.ports.names (dotted own name) = All-contains (IsNumbered own new.ports.names) inside.names name all (subst (λ (i : Inside). Contains i.names name) (sym same) has) in
            subst (λ (t : Text). Contains new.ports.names (dotted t name)) same_inst one
      ]

  pub numbers_all : (end : ℕ) (ports : PortList) → length ports.instances ≤ end → NumbersBelow end ports → NumbersDotted parts insides ports
  numbers_all end ports whole numbers instance inst name inside at dots known has = numbers instance inst name inside (omega (arith, whole, slice_get_within ports.instances instance inst at)) at dots known has
