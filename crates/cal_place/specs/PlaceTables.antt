-- That the tables of a place show what its names mean. This project's.
use Rattle.std.specs.Prelude.{◌≡◌, ℕ, Bool, List, slice_get, Some}
use Rattle.cal_ast.specs.Naming.{cell_names, group_names}
use Rattle.cal_ast.specs.Numbers.{HasNumbers}
use Rattle.cal_ast.specs.Tree.{component_tree, design_of}
use Rattle.cal_ast.specs.declared.tree.CalComp.{CalComp}
use Rattle.cal_ast.specs.declared.tree.CalDesign.{CalDesign}
use Rattle.cal_place.specs.FirstPlaces.{ShowsFirsts}
use Rattle.cal_place.specs.Holders.{AreHolders}
use Rattle.cal_place.specs.Tables.{ShowsTables}
use Rattle.cal_place.specs.declared.first_places.FirstPlaces.{FirstPlaces}
use Rattle.cal_place.specs.declared.tables.Tables.{Tables}

pub record StandsIn (design : CalDesign) (shown : Tables) (number : ℕ) (comp : CalComp) (cell_places group_places : FirstPlaces)
    (marks : List Bool) : Type 0 where
  pub numbers : HasNumbers design
  pub at : slice_get design.comps.items number ≡ Some comp
  pub tables : ShowsTables (design_of design) shown
  pub cells : ShowsFirsts cell_places (cell_names (component_tree design.names comp).cells)
  pub groups : ShowsFirsts group_places (group_names (component_tree design.names comp).groups)
  pub holders : AreHolders (design_of design) number marks
