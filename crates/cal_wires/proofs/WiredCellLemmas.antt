-- The cells of a component, as code has them and as its tree has them.
use Rattle.std.proofs.Common.{◌≡◌, ℕ, ◌<◌, Some, length, get_or, slice_get, sym, ap, ◌∙◌}
use Rattle.std.proofs.lemmas.List.{length-map}
use Rattle.std.proofs.lemmas.Option.{same_Some, slice_get-get_or}
use Rattle.cal_ast.specs.Tree.{CellDef, Component, cell_tree, component_tree}
use Rattle.cal_ast.specs.declared.tree.CalCell.{CalCell}
use Rattle.cal_ast.specs.declared.tree.CalComp.{CalComp}
use Rattle.cal_place.specs.Around.{Around, comp_at, names_at}
use Rattle.cal_place.proofs.FoundLemmas.{to_map}

module _ (place : Around) (comp : CalComp) (is : component_tree (names_at place) comp ≡ comp_at place) where
  -- as many as the tree has
  pub cells_counted : length (comp_at place).cells ≡ length comp.cells.items
  cells_counted = sym (ap (λ (x : Component). length x.cells) is) ∙ length-map comp.cells.items (cell_tree (names_at place))

  -- the cell of a number is that of the tree
  pub cell_is : (number : ℕ) (cell : CalCell) (def : CellDef) → number < length comp.cells.items → cell ≡ get_or comp.cells.items number cell → slice_get (comp_at place).cells number ≡ Some def → cell_tree (names_at place) cell ≡ def
  cell_is number cell def lt at there =
      let f = cell_tree (names_at place) in
      let here = to_map f comp.cells.items number cell (slice_get-get_or comp.cells.items number cell lt ∙ ap Some (sym at)) in
      same_Some (f cell) def (sym here ∙ (ap (λ (x : Component). slice_get x.cells number) is ∙ there))
