-- A walk over the items of a component, which ends at the first that breaks a rule. This project's.
use Rattle.std.specs.Prelude.{◌≡◌, ℕ, ◌+◌, List, ◌∷◌, ◌++◌, length, All, Result, Ok, Err}
use Rattle.cal_ast.specs.Items.{Item}
use Rattle.cal_ast.specs.Rules.{all_rules}
use Rattle.cal_place.specs.Around.{Around, KeepsAt}
use Rattle.cal_rules.specs.LeastRule.{IsLeast}
use Rattle.cal_rules.specs.declared.rule.CompEnd.{CompEnd}
use Rattle.cal_rules.specs.declared.rule.CompEnd.TheVariants.{Broken, Memory}
use Rattle.cal_rules.specs.declared.rule.Rule as code
use Rattle.cal_rules.specs.declared.walk.Walk.{Walk}

-- each of the items keeps the rules
abbrev pub KeepItems : Around → List Item → Type 0
KeepItems place items = All (λ item. All (KeepsAt place item) all_rules) items

-- of items that are counted from a number on, this is the first that breaks a rule, and the rule the least
pub record IsFirstIn (place : Around) (items : List Item) (from number : ℕ) (rule : code.Rule) : Type 0 where
  pub before : List Item
  pub item : Item
  pub after : List Item
  pub parts : items ≡ before ++ item ∷ after
  pub kept : KeepItems place before
  pub counted : number ≡ from + length before
  pub least : IsLeast (KeepsAt place item) rule

-- the walk goes past these items
abbrev pub Passes : Around → List Item → Walk → Walk → Type 0
Passes place items old new = KeepItems place items × (new.item ≡ old.item + length items)

-- the walk goes past these items, or ends at the first of them that breaks a rule; want of memory tells nothing
abbrev pub WalksOver : {T : Type 0} → Around → List Item → Walk → Walk → Result T CompEnd → Type 0
WalksOver place items old new (Ok t) = Passes place items old new
WalksOver place items old new (Err (Broken number rule)) = IsFirstIn place items old.item number rule
WalksOver place items old new (Err Memory) = Unit {0}
