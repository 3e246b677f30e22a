-- The ports of a design below a component are finitely many: no component is among the cells of its own cells.
use Rattle.std.proofs.Common.{◌≡◌, ◌≢◌, ◌⊎◌, inl, inr, List, [], ◌∷◌, ◌++◌, map, Option, Some, None, refl, sym, ap, ◌∙◌, subst, append_assoc}
use Rattle.std.specs.Prelude.{Contains}
use Rattle.std.proofs.lemmas.List.Elements.{Contains-append_left, Contains-append_right}
use Rattle.std.proofs.lemmas.Option.{same_Some}
use Rattle.hw_names.specs.Name.{Text, Path, dot, dotted, full_name, port_at}
use Rattle.hw_prims.specs.Table.{pin_names}
use Rattle.cal_ast.proofs.InstanceLemmas.{component_at-step}
use Rattle.cal_ast.proofs.ItemLemmas.{known_cell}
use Rattle.cal_ast.proofs.ListLemmas.{place_of, Contains-none, Contains-here, Contains-there, Contains-cases_first, Contains-map}
use Rattle.cal_ast.proofs.LookupLemmas.{cell_named-Some, part_of-Some, primitive_in-Some, part_in-Some, cell_input_cases, cell_output_cases, component_named-Some}
use Rattle.cal_ast.proofs.SideLemmas.{known_pin}
use Rattle.cal_ast.specs.Instances.{component_at, port_name}
use Rattle.cal_ast.specs.Naming.{GroupNaming, IsKnownPort, IsKnownCell, Involves, Itself, Over, component_names}
use Rattle.cal_ast.specs.Ports.{inputs_in, outputs_in, cell_named, part_of, cell_inputs, cell_outputs}
use Rattle.cal_ast.specs.Rules.{KeepsRulesUnder}
use Rattle.cal_ast.specs.Tree.{PortName, CellDef, Component, Design}
use Rattle.cal_runs.proofs.InductionLemmas.{by_reach}

-- a component is what a cell of this one is made of, or below it
data Below (design : Design) : Component → Component → Type 0 where
  AtOnce : (c d : Component) (cell : CellDef) → Contains design c → Contains c.cells cell → part_of design cell ≡ Some d → Below design c d
  Deeper : (c part d : Component) (cell : CellDef) → Contains design c → Contains c.cells cell → part_of design cell ≡ Some part → Below design part d → Below design c d

below_on : (design : Design) (c d e : Component) → Below design c d → Below design d e → Below design c e
below_on design c d e (AtOnce c' d' cell has of_c made) more = Deeper c' d' e cell has of_c made more
below_on design c d e (Deeper c' part d' cell has of_c made rest) more = Deeper c' part e cell has of_c made (below_on design part d' e rest more)

below_reaches : (design : Design) (c d : Component) → Below design c d → Involves design d.name c
below_reaches design c d (AtOnce c' d' cell has of_c made) = Over c' d' cell of_c made (Itself d' refl)
below_reaches design c d (Deeper c' part d' cell has of_c made rest) = Over c' part cell of_c made (below_reaches design part d' rest)

-- a port at a path below a cell
port_name-under : (cell : Text) (path : Path) (p : PortName) → port_name (cell ∷ path) p ≡ dotted cell (port_name path p)
port_name-under cell path p = by p.cell
  where
    by : (inner : Option Text) → port_at (cell ∷ path) inner p.pin ≡ dotted cell (port_at path inner p.pin)
    by None = refl
    by (Some name) = append_assoc cell (dot ∷ full_name path name) (dot ∷ p.pin)

-- a list that has the full name of each port below a component
record Lists (design : Design) (c : Component) : Type 0 where
  names : List Text
  all : (path : Path) (d : Component) (p : PortName) → component_at design c path ≡ Some d → IsKnownPort design d p → Contains names (port_name path p)

-- a port of a cell, or of an instance below it
data Wanted (design : Design) (c : Component) (cell : CellDef) (name : Text) : Type 0 where
  OfCell : (pin : Text) → Contains (pin_names (cell_outputs design c cell.name)) pin ⊎ Contains (pin_names (cell_inputs design c cell.name)) pin → dotted cell.name pin ≡ name → Wanted design c cell name
  Inside : (part d : Component) (path : Path) (p : PortName) → part_of design cell ≡ Some part → component_at design part path ≡ Some d → IsKnownPort design d p → dotted cell.name (port_name path p) ≡ name
      → Wanted design c cell name

-- lists of what each element wants, joined
gather : {X : Type 0} (W : X → Text → Type 0) (xs : List X) → ((x : X) → Contains xs x → (names : List Text) × ((name : Text) → W x name → Contains names name))
    → (names : List Text) × ((x : X) → Contains xs x → (name : Text) → W x name → Contains names name)
gather W [] each = ([], λ x has name wants. absurd (Contains-none x has))
gather W (x ∷ xs) each =
    let first = each x (Contains-here x xs) in
    let rest = gather W xs (λ y has. each y (Contains-there x xs y has)) in (
      first.0 ++ rest.0,
      λ y has name wants. elim (Contains-cases_first x xs y has) [
        | inl same ↦ Contains-append_left first.0 rest.0 name (first.1 name (subst (λ z. W z name) (sym same) wants))
        | inr there ↦ Contains-append_right first.0 rest.0 name (rest.1 y there name wants)
      ],
    )

module _ (naming : GroupNaming) (design : Design) (keeps : KeepsRulesUnder naming design) where
  -- a part is a component that doesn't reach the one that it is in
  no_way_back : (c part : Component) (cell : CellDef) → Contains design c → Contains c.cells cell → part_of design cell ≡ Some part → Involves design c.name part → ⊥
  no_way_back c part cell has of_c made reaches =
      let n = place_of design c has in
      let k = place_of c.cells cell of_c in
      by (known_cell naming design keeps n.0 c n.1 k.0 cell k.1)
    where
      by : IsKnownCell design c cell → ⊥
      by (inl is) = let no' = (part_of-Some design cell part made).0 in cc
      by (inr (other, same, none)) =
          let e : other ≡ part = same_Some other part (sym same ∙ made) in
          none (subst (λ (d : Component). Involves design c.name d) (sym e) reaches)

  below_apart : (c d : Component) → Below design c d → c.name ≢ d.name
  below_apart c d (AtOnce c' d' cell has of_c made) = λ same. no_way_back c' d' cell has of_c made (Itself d' (sym same))
  below_apart c d (Deeper c' part d' cell has of_c made rest) = λ same. no_way_back c' part cell has of_c made (subst (λ (name : Text). Involves design name part) (sym same) (below_reaches design part d' rest))

  below_named : (c d : Component) → Below design c d → Contains (component_names design) d.name
  below_named c d (AtOnce c' d' cell has of_c made) =
      Contains-map (λ (x : Component). x.name) design d' (component_named-Some design cell.made d' (part_of-Some design cell d' made).1).0
  below_named c d (Deeper c' part d' cell has of_c made rest) = below_named part d' rest

  module _ (c : Component) (in_design : Contains design c) where
    abbrev cell_pins : CellDef → List Text
    cell_pins cell = map (dotted cell.name) (pin_names (cell_outputs design c cell.name) ++ pin_names (cell_inputs design c cell.name))

    pins_have : (cell : CellDef) (pin name : Text) → Contains (pin_names (cell_outputs design c cell.name)) pin ⊎ Contains (pin_names (cell_inputs design c cell.name)) pin → dotted cell.name pin ≡ name → Contains (cell_pins cell) name
    pins_have cell pin name has is =
        let outs : List Text = pin_names (cell_outputs design c cell.name) in
        let ins : List Text = pin_names (cell_inputs design c cell.name) in
        let there : Contains (outs ++ ins) pin = elim has [ inl out ↦ Contains-append_left outs ins pin out | inr input ↦ Contains-append_right outs ins pin input ] in
        subst (λ (x : Text). Contains (cell_pins cell) x) is (Contains-map (dotted cell.name) (outs ++ ins) pin there)

    module _ (cell : CellDef) where
      without_part : part_of design cell ≡ None → (name : Text) → Wanted design c cell name → Contains (cell_pins cell) name
      without_part made name (OfCell pin has is) = pins_have cell pin name has is
      without_part made name (Inside part d path p other at known is) = absurd (cc)

      with_part : (part : Component) → part_of design cell ≡ Some part → (list : Lists design part) → (name : Text) → Wanted design c cell name → Contains (cell_pins cell ++ map (dotted cell.name) list.names) name
      with_part part made list name (OfCell pin has is) = Contains-append_left (cell_pins cell) (map (dotted cell.name) list.names) name (pins_have cell pin name has is)
      with_part part made list name (Inside inner d path p other at known is) =
          let same : inner ≡ part = same_Some inner part (sym other ∙ made) in
          let at_part : component_at design part path ≡ Some d = subst (λ (x : Component). component_at design x path ≡ Some d) same at in
          let there = Contains-map (dotted cell.name) list.names (port_name path p) (list.all path d p at_part known) in
          Contains-append_right (cell_pins cell) (map (dotted cell.name) list.names) name (subst (λ (x : Text). Contains (map (dotted cell.name) list.names) x) is there)

      cell_list : ((part : Component) → part_of design cell ≡ Some part → Lists design part) → (names : List Text) × ((name : Text) → Wanted design c cell name → Contains names name)
      cell_list lists = by (part_of design cell) refl
        where
          by : (o : Option Component) → part_of design cell ≡ o → (names : List Text) × ((name : Text) → Wanted design c cell name → Contains names name)
          by None made = (cell_pins cell, without_part made)
          by (Some part) made = (cell_pins cell ++ map (dotted cell.name) (lists part made).names, with_part part made (lists part made))

    module _ (lists : (d : Component) → Below design c d → Lists design d) where
      inside : (names : List Text) × ((cell : CellDef) → Contains c.cells cell → (name : Text) → Wanted design c cell name → Contains names name)
      inside = gather (Wanted design c) c.cells (λ cell of_c. cell_list cell (λ part made. lists part (AtOnce c part cell in_design of_c made)))

      abbrev own_names : List Text
      own_names = pin_names (inputs_in c) ++ pin_names (outputs_in c)

      abbrev names_below : List Text
      names_below = own_names ++ inside.0

      deep : (name : Text) → Contains inside.0 name → Contains names_below name
      deep name has = Contains-append_right own_names inside.0 name has

      -- a port of the cell of this name
      of_cell : (name pin : Text) (cell : CellDef) → cell_named c.cells name ≡ Some cell → Contains (pin_names (cell_outputs design c name)) pin ⊎ Contains (pin_names (cell_inputs design c name)) pin → Contains names_below (dotted name pin)
      of_cell name pin cell found has =
          let r = cell_named-Some c.cells name cell found in
          let H : Text → Type 0 = λ x. Contains (pin_names (cell_outputs design c x)) pin ⊎ Contains (pin_names (cell_inputs design c x)) pin in
          deep (dotted name pin) (inside.1 cell r.0 (dotted name pin) (OfCell pin (subst H (sym r.1) has) (ap (λ (x : Text). dotted x pin) r.1)))

      here : (cell : Option Text) (pin : Text) → IsKnownPort design c (record { cell = cell; pin = pin }) → Contains names_below (port_at [] cell pin)
      here None pin known =
          let ins : List Text = pin_names (inputs_in c) in
          let outs : List Text = pin_names (outputs_in c) in
          Contains-append_left own_names inside.0 pin (elim (known_pin design c None pin known) [ inl read ↦ Contains-append_left ins outs pin read | inr written ↦ Contains-append_right ins outs pin written ])
      here (Some name) pin known = elim (known_pin design c (Some name) pin known) [
        | inl read ↦ elim (cell_output_cases design c name pin read) [
          | inl (prim, is, there) ↦ let found = primitive_in-Some c name prim is in of_cell name pin found.0 found.1 (inl read)
          | inr (part, is, there) ↦ let found = part_in-Some design c name part is in of_cell name pin found.0 found.1 (inl read)
        ]
        | inr written ↦ elim (cell_input_cases design c name pin written) [
          | inl (prim, is, there) ↦ let found = primitive_in-Some c name prim is in of_cell name pin found.0 found.1 (inr written)
          | inr (part, is, there) ↦ let found = part_in-Some design c name part is in of_cell name pin found.0 found.1 (inr written)
        ]
      ]

      all_below : (path : Path) (d : Component) (p : PortName) → component_at design c path ≡ Some d → IsKnownPort design d p → Contains names_below (port_name path p)
      all_below [] d p at known = here p.cell p.pin (subst (λ (x : Component). IsKnownPort design x p) (sym (same_Some c d at)) known)
      all_below (name ∷ path) d p at known =
          let part = component_at-step design c name path d at in
          let found = part_in-Some design c name part.0 part.1 in
          let r = cell_named-Some c.cells name found.0 found.1 in
          let is : dotted found.0.name (port_name path p) ≡ port_name (name ∷ path) p = ap (λ (x : Text). dotted x (port_name path p)) r.1 ∙ sym (port_name-under name path p) in
          deep (port_name (name ∷ path) p) (inside.1 found.0 r.0 (port_name (name ∷ path) p) (Inside part.0 d path p found.2 part.2 known is))

      list_of : Lists design c
      list_of = record { names = names_below; all = all_below }

  below_in_design : (c d : Component) → Below design c d → Contains design d
  below_in_design c d (AtOnce c' d' cell has of_c made) = (component_named-Some design cell.made d' (part_of-Some design cell d' made).1).0
  below_in_design c d (Deeper c' part d' cell has of_c made rest) = below_in_design part d' rest

  -- the ports below a component of the design are listed
  pub lists_ports : (c : Component) → Contains design c → (names : List Text) × ((path : Path) (d : Component) (p : PortName) → component_at design c path ≡ Some d → IsKnownPort design d p → Contains names (port_name path p))
  lists_ports c in_design =
      let all = by_reach (λ (x : Component). x.name) (Below design) (below_on design) below_apart (λ x. Contains design x → Lists design x)
      (λ x lists has. list_of x has (λ d below. lists d below (below_in_design x d below))) (component_names design) c (λ d below. below_named c d below) in_design in
      (all.names, all.all)
