-- Assignments in memory that are those of groups, under the groups' rules. This project's.
use Rattle.std.specs.Prelude.{◌≡◌, ℕ, List, ◌++◌, map, slice_get, Some, All, Contains, Vec}
use Rattle.std.specs.declared.alloc.Global.{Global}
use Rattle.hw_names.specs.Name.{Text, text_of}
use Rattle.net_core.specs.Guard.{guard_tree}
use Rattle.net_core.specs.declared.net.Guard.{Guard}
use Rattle.cal_ast.specs.Holes.{guarded_set, rule_trees, when_of}
use Rattle.cal_ast.specs.Numbers.{GuardHasNumbers, SetHasNumbers}
use Rattle.cal_ast.specs.Tree.{port_tree, assignment_tree, component_tree, Design}
use Rattle.cal_ast.specs.declared.lowered.ActRule.{ActRule}
use Rattle.cal_ast.specs.declared.tree.Assign.{Assign}
use Rattle.cal_ast.specs.declared.tree.CalComp.{CalComp}
use Rattle.cal_ast.specs.declared.tree.CalPort.{CalPort}
use Rattle.cal_ast.specs.declared.tree.Group.{Group}

-- the assignment is this one under the guard
pub record IsRuledSet (when : Guard CalPort) (set ruled : Assign) : Type 0 where
  pub numbers : (names : List Text) → GuardHasNumbers names when → SetHasNumbers names set → SetHasNumbers names ruled
  pub tree : (names : List Text) → assignment_tree names ruled ≡ guarded_set (Some (guard_tree (port_tree names) when)) (assignment_tree names set)

-- after the assignments there are these, each under the guard
pub record AddsRuled (when : Guard CalPort) (sets before after : List Assign) : Type 0 where
  pub numbers : (names : List Text) → GuardHasNumbers names when → All (SetHasNumbers names) sets → All (SetHasNumbers names) before →
      All (SetHasNumbers names) after
  pub trees : (names : List Text) → map (assignment_tree names) after
      ≡ map (assignment_tree names) before ++ map (guarded_set (Some (guard_tree (port_tree names) when))) (map (assignment_tree names) sets)

-- by the number of its name the table has the place of the rule of each group of the component
pub record IsRuleAt (rules : List ActRule) (table : List ℕ) (group : Group) (rule : ActRule) : Type 0 where
  pub place : ℕ
  pub noted : slice_get table group.name.0 ≡ Some place
  pub at : slice_get rules place ≡ Some rule

abbrev pub HasRulesOf : List Text → Design → List ActRule → List ℕ → CalComp → Type 0
HasRulesOf names design rules table comp =
    (group : Group) → Contains comp.groups.items group →
    (rule : ActRule) × IsRuleAt rules table group rule × GuardHasNumbers names rule.when
    × (when_of design (rule_trees names rules) (component_tree names comp) (text_of names group.name) ≡ Some (guard_tree (port_tree names) rule.when))

-- each rule's place stands in the list of its component, and each list has places of rules of its component
pub record HasPlaces (rules : List ActRule) (lists : List (Vec ℕ Global)) : Type 0 where
  pub all : (place : ℕ) (rule : ActRule) → slice_get rules place ≡ Some rule →
      (list : Vec ℕ Global) × (slice_get lists rule.comp ≡ Some list) × Contains list.items place
  pub only : (comp place : ℕ) (list : Vec ℕ Global) → slice_get lists comp ≡ Some list → Contains list.items place →
      (rule : ActRule) × (slice_get rules place ≡ Some rule) × (rule.comp ≡ comp)

-- for each rule at these places the table has, by the number of its group's name, such a place of a rule of that group
abbrev pub IsNoted : List ActRule → List ℕ → List ℕ → Type 0
IsNoted rules places table =
    (place : ℕ) (rule : ActRule) → Contains places place → slice_get rules place ≡ Some rule →
    (last : ℕ) × (other : ActRule) × Contains places last × (slice_get rules last ≡ Some other) × (other.group ≡ rule.group)
    × (slice_get table rule.group.0 ≡ Some last)
