-- What a component of a design that keeps C1 to C11 keeps at its signature, at a cell of it and at a continuous assignment.
use Rattle.std.proofs.Common.{◌≢◌, ◌<◌, ◌++◌, length, take, get_or, subst, arith}
use Rattle.std.specs.Prelude.{AllPairs, Contains}
use Rattle.std.proofs.lemmas.List.{length-take, get_or-take}
use Rattle.std.proofs.lemmas.List.Elements.{Contains-get_or}
use Rattle.std.proofs.lemmas.Option.{slice_get-get_or}
use Rattle.hw_names.specs.Name.{Text, AreDistinct}
use Rattle.hw_prims.specs.Table.{pin_names}
use Rattle.cal_ast.proofs.ItemLemmas as item
use Rattle.cal_ast.proofs.ListLemmas.{Contains-map, place_of}
use Rattle.cal_ast.specs.Naming.{Unreserved, IsKnownCell, NamesKnown, cell_names}
use Rattle.cal_ast.specs.Ports.{inputs_in, outputs_in}
use Rattle.cal_ast.specs.Rules.{KeepsRules}
use Rattle.cal_ast.specs.Sides.{DrivesDestination, ReadsSources}
use Rattle.cal_ast.specs.Tree.{CellDef, Assignment, Component, Design}
use Rattle.cal_ast.specs.Typing.{HasWidths, HasParameters, WidthsAgree}

module _ (design : Design) (keeps : KeepsRules design) (c : Component) (in_design : Contains design c) where
  pub new_ports : AreDistinct (pin_names (inputs_in c ++ outputs_in c))
  new_ports = let n = place_of design c in_design in item.new_ports Unreserved design keeps n.0 c n.1

  pub has_widths : HasWidths design c
  has_widths = let n = place_of design c in_design in item.has_widths Unreserved design keeps n.0 c n.1

  -- cells have distinct names
  pub distinct_cells : AllPairs (λ (a b : CellDef). a.name ≢ b.name) c.cells
  distinct_cells i j d less within same =
      let n = place_of design c in_design in
      let cell = get_or c.cells j d in
      let before = take j c.cells in
      let new = item.new_cell Unreserved design keeps n.0 c n.1 j cell (slice_get-get_or c.cells j d within) in
      let short : i < length before = omega (arith, length-take j c.cells) in
      let earlier = subst (λ (a : CellDef). Contains before a) (get_or-take j c.cells i d less) (Contains-get_or before i d short) in
      new.0 (subst (λ (name : Text). Contains (cell_names before) name) same (Contains-map (λ (a : CellDef). a.name) before (get_or c.cells i d) earlier))

  module _ (cell : CellDef) (has : Contains c.cells cell) where
    pub known_cell : IsKnownCell design c cell
    known_cell =
        let n = place_of design c in_design in
        let k = place_of c.cells cell has in
        item.known_cell Unreserved design keeps n.0 c n.1 k.0 cell k.1

    pub has_parameters : HasParameters cell
    has_parameters =
        let n = place_of design c in_design in
        let k = place_of c.cells cell has in
        item.has_parameters Unreserved design keeps n.0 c n.1 k.0 cell k.1

  module _ (a : Assignment) (has : Contains c.sets a) where
    pub names_known : NamesKnown design c a
    names_known = let n = place_of design c in_design in item.names_known Unreserved design keeps n.0 c n.1 a (item.assignment_item c a has)

    pub widths_agree : WidthsAgree design c a
    widths_agree = let n = place_of design c in_design in item.widths_agree Unreserved design keeps n.0 c n.1 a (item.assignment_item c a has)

    pub drives_destination : DrivesDestination design c a
    drives_destination = let n = place_of design c in_design in item.drives_destination Unreserved design keeps n.0 c n.1 a (item.assignment_item c a has)

    pub reads_sources : ReadsSources design c a
    reads_sources = let n = place_of design c in_design in item.reads_sources Unreserved design keeps n.0 c n.1 a (item.assignment_item c a has)
