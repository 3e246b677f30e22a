-- The first broken rule of a component, and how the end of an item becomes that of its component. This project's.
use Rattle.std.specs.Prelude.{◌≡◌, ℕ, ◌<◌}
use Rattle.fil_ast.specs.Evidence as shown
use Rattle.fil_ast.specs.Items.{Item, IsItem}
use Rattle.fil_ast.specs.Refusal.{ShowsBroken}
use Rattle.fil_ast.specs.Rules.{Keeps, KeepsItem, all_rules}
use Rattle.fil_ast.specs.Tree.{Component, Design}
use Rattle.fil_rules.specs.Least.{evidence_of}
use Rattle.fil_rules.specs.LeastRule.{IsLeastBroken, number_of}
use Rattle.fil_rules.specs.declared.rules.CompEnd.{CompEnd}
use Rattle.fil_rules.specs.declared.rules.CompEnd.TheVariants as component
use Rattle.fil_rules.specs.declared.rules.ItemEnd.{ItemEnd}
use Rattle.fil_rules.specs.declared.rules.ItemEnd.TheVariants as items

-- all items before k of a component keep the rules
abbrev pub KeepsBefore : Design → Component → ℕ → Type 0
KeepsBefore earlier c k = (j : ℕ) → j < k → KeepsItem all_rules earlier c j

-- the least broken rule at item k of a component, after those before it; all items before k keep the rules
pub record IsFirstItem (earlier : Design) (c : Component) (k number : ℕ) (evidence : shown.Evidence) : Type 0 where
  pub items : KeepsBefore earlier c k
  pub item : Item
  pub here : IsItem c k item
  pub least : IsLeastBroken (Keeps earlier c item) (ShowsBroken earlier c item) number evidence

-- the refusal tells the first item, the least rule and what it shows; want of memory tells nothing
abbrev pub TellsItem : Design → Component → CompEnd → Type 0
TellsItem earlier c (component.Broken item broken) = IsFirstItem earlier c item (number_of broken.rule) (evidence_of broken.evidence)
TellsItem earlier c component.Memory = Unit {0}

-- the end of this item, as its component's end
abbrev pub ItemIs : ℕ → ItemEnd → CompEnd → Type 0
ItemIs item (items.Broken broken) end = end ≡ component.Broken item broken
ItemIs item items.Memory end = end ≡ component.Memory
