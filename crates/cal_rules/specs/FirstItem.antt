-- The first item of a component that breaks a rule, and what is told of it. This project's.
use Rattle.std.specs.Prelude.{ℕ, ◌<◌}
use Rattle.cal_ast.specs.Items.{Item, IsItem}
use Rattle.cal_ast.specs.Naming.{Unreserved}
use Rattle.cal_ast.specs.Rules.{KeepsItem}
use Rattle.cal_place.specs.Around.{Around, KeepsAt, comp_at, design_at, earlier_at}
use Rattle.cal_rules.specs.LeastRule.{IsLeast}
use Rattle.cal_rules.specs.declared.rule.CompEnd.{CompEnd}
use Rattle.cal_rules.specs.declared.rule.CompEnd.TheVariants as component
use Rattle.cal_rules.specs.declared.rule.Rule as code

-- the least broken rule at item k of the component; all items before k keep the rules
pub record IsFirstItem (place : Around) (k : ℕ) (rule : code.Rule) : Type 0 where
  pub items : (j : ℕ) → j < k → KeepsItem Unreserved (design_at place) (earlier_at place) (comp_at place) j
  pub item : Item
  pub here : IsItem (comp_at place) k item
  pub least : IsLeast (KeepsAt place item) rule

-- the refusal tells the first item and the least rule; want of memory tells nothing
abbrev pub TellsItem : Around → CompEnd → Type 0
TellsItem place (component.Broken item rule) = IsFirstItem place item rule
TellsItem place component.Memory = Unit {0}
