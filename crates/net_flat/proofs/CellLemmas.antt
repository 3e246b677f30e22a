-- The cells of a listing are the primitives' cells of the design.
use Rattle.std.proofs.Common.{◌≡◌, Bool, List, Some, sym, ap, ◌∙◌, subst}
use Rattle.std.specs.Prelude.{Contains, filter, option_and_then, true}
use Rattle.hw_graph.proofs.MemberLemmas.{In, in_at, at_of, in_of, contains_of, in_map, from_map, in_flat_map, from_flat_map, in_filter, from_filter}
use Rattle.hw_names.specs.Name.{Text, Path, full_name}
use Rattle.hw_prims.specs.Table.{is_primitive, prim_of}
use Rattle.hw_prims.specs.declared.prim.Primitive.{Primitive}
use Rattle.net_core.specs.NetRun.{IsNetCell}
use Rattle.net_core.specs.Netlist.{CellLine, Netlist}
use Rattle.cal_ast.proofs.InstanceLemmas.{component_at-design}
use Rattle.cal_ast.proofs.LookupLemmas.{cell_named-Some, cell_named-itself, primitive_in-Some, primitive_of-Some}
use Rattle.cal_ast.specs.Instances.{component_at, IsPrimitiveCell}
use Rattle.cal_ast.specs.Naming.{Unreserved}
use Rattle.cal_ast.specs.Ports.{primitive_of}
use Rattle.cal_ast.specs.Rules.{KeepsRules}
use Rattle.cal_ast.specs.Tree.{CellDef, Component, Design}
use Rattle.net_flat.proofs.ListingLemmas.{instances, listed}
use Rattle.cal_ast.specs.Keeping.{flat_cell}
use Rattle.net_flat.specs.Flattened.{HasCells}
use Rattle.net_flat.specs.Listing.{IsListing, cells_at}

module _ (design : Design) (top : Component) (n : Netlist) (listing : IsListing design top n) where
  abbrev has_primitive : CellDef → Bool
  has_primitive c = is_primitive c.made

  all_cells : (path : Path) (c : Component) (cell : CellDef) → component_at design top path ≡ Some c → Contains c.cells cell → is_primitive cell.made ≡ true → Contains n.cells (flat_cell path cell)
  all_cells path c cell at has is =
      let kept = in_filter has_primitive c.cells cell (in_of c.cells cell has) is in
      let here = in_map (flat_cell path) (filter has_primitive c.cells) cell kept in
      let there = in_flat_map cells_at (instances design top n listing) (path, c) (flat_cell path cell) (in_of (instances design top n listing) (path, c) (listing.found path c at)) here in
      contains_of n.cells (flat_cell path cell) (subst (λ (cells : List CellLine). In cells (flat_cell path cell)) (sym listing.cells) there)

  only_cells : (line : CellLine) → Contains n.cells line → (path : Path) × (c : Component) × (cell : CellDef) × (component_at design top path ≡ Some c) × Contains c.cells cell × (is_primitive cell.made ≡ true) × (line ≡ flat_cell path cell)
  only_cells line has =
      let there = subst (λ (cells : List CellLine). In cells line) listing.cells (in_of n.cells line has) in
      let i = from_flat_map cells_at (instances design top n listing) line there in
      let k = at_of (instances design top n listing) i.0 i.1 in
      let cell = from_map (flat_cell i.0.0) (filter has_primitive i.0.1.cells) line i.2 in
      let kept = from_filter has_primitive i.0.1.cells cell.0 cell.1 in
      (i.0.0, i.0.1, cell.0, listed design top n listing k.0 i.0 k.1, contains_of i.0.1.cells cell.0 kept.0, kept.1, sym cell.2)

  pub has_cells : HasCells design top n
  has_cells = record { all = all_cells; only = only_cells }

  -- a cell of the netlist is one of the design
  pub primitive_cell : KeepsRules design → Contains design top → (name : Text) (prim : Primitive) → IsNetCell n name prim → IsPrimitiveCell design top name prim
  primitive_cell keeps in_design name prim (k, line, at, named, made) =
      let (path, c, cell, there, has, is, same) = only_cells line (contains_of n.cells line (in_at n.cells k line at)) in
      let found = cell_named-itself Unreserved design keeps c (component_at-design design top path c in_design there) cell has in
      record {
        path = path;
        c = c;
        at = there;
        cell = cell.name;
        made = ap (option_and_then primitive_of) found ∙ subst (λ (l : CellLine). prim_of l.prim l.params ≡ Some prim) same made;
        named = sym (ap (λ (l : CellLine). l.name) same) ∙ named;
      }

  -- and a primitive's cell of the design is one of the netlist
  pub net_cell : (name : Text) (prim : Primitive) → IsPrimitiveCell design top name prim → IsNetCell n name prim
  net_cell name prim is =
      let found = primitive_in-Some is.c is.cell prim is.made in
      let cell = cell_named-Some is.c.cells is.cell found.0 found.1 in
      let line = all_cells is.path is.c found.0 is.at cell.0 (primitive_of-Some found.0 prim found.2) in
      let k = at_of n.cells (flat_cell is.path found.0) (in_of n.cells (flat_cell is.path found.0) line) in
      (k.0, flat_cell is.path found.0, k.1, ap (full_name is.path) cell.1 ∙ is.named, found.2)
