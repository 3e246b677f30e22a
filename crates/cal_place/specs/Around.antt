-- A place of a design as the rules see it: the design, the component, and the names that lines have numbers of. This project's.
use Rattle.std.specs.Prelude.{ℕ, List, take}
use Rattle.hw_names.specs.Name.{Text}
use Rattle.cal_ast.specs.Items.{Item}
use Rattle.cal_ast.specs.Naming.{Unreserved}
use Rattle.cal_ast.specs.Rules.{Rule, Keeps}
use Rattle.cal_ast.specs.Tree.{Component, Design, component_tree, design_of}
use Rattle.cal_ast.specs.declared.tree.CalComp.{CalComp}
use Rattle.cal_ast.specs.declared.tree.CalDesign.{CalDesign}

-- what stands around the items of a component: its design, its number there, and the component
pub record Around : Type 0 where
  pub design : CalDesign
  pub number : ℕ
  pub comp : CalComp

abbrev pub names_at : Around → List Text
names_at place = place.design.names

unfoldable pub design_at : Around → Design
design_at place = design_of place.design

unfoldable pub comp_at : Around → Component
comp_at place = component_tree place.design.names place.comp

-- the components before this one
abbrev pub earlier_at : Around → Design
earlier_at place = take place.number (design_at place)

-- the component keeps the rule at the item
abbrev pub KeepsAt : Around → Item → Rule → Type 0
KeepsAt place item rule = Keeps Unreserved (design_at place) (earlier_at place) (comp_at place) item rule
