-- Designs without control, whose groups act where rules say so: what the lowering of control ends with. This project's.
use Rattle.std.specs.Prelude.{◌≡◌, ℕ, Bool, true, false, ◌&&◌, List, [], ◌∷◌, ◌++◌, length, map, flat_map, filter, slice_get, bytes_eq}
use Rattle.std.specs.Prelude.{if◌then◌else◌, Option, Some, None, All, Contains}
use Rattle.hw_names.specs.Name.{Text, Path, text_of}
use Rattle.hw_prims.specs.Row.{Row, Trace}
use Rattle.net_core.specs.Graph.{guard_ports}
use Rattle.net_core.specs.Guard.{GuardTree, AllOf, guards_of, guard_tree, holds}
use Rattle.cal_ast.specs.CalRun.{Activity, look, StoppedRunWith}
use Rattle.cal_ast.specs.Naming.{IsKnownPort}
use Rattle.cal_ast.specs.Ports.{is_bare}
use Rattle.cal_ast.specs.Rules.{KeepsRules, HasNoLoops}
use Rattle.cal_ast.specs.Sides.{IsSource}
use Rattle.cal_ast.specs.Tree.{PortName, port_tree, Assignment, GroupDef, Component, Design}
use Rattle.cal_ast.specs.Typing.{GuardAgrees}
use Rattle.cal_ast.specs.declared.lowered.ActRule.{ActRule}

-- a rule: the group of this name, in the component of this number, acts where the guard is true
pub record ActivityRule : Type 0 where
  pub comp : ℕ
  pub group : Text
  pub when : GuardTree PortName

abbrev pub rule_tree : List Text → ActRule → ActivityRule
rule_tree names r = record { comp = r.comp; group = text_of names r.group; when = guard_tree (port_tree names) r.when }

abbrev pub rule_trees : List Text → List ActRule → List ActivityRule
rule_trees names rules = map (rule_tree names) rules

-- the rule is of this group of the component
abbrev pub is_rule_of : Option Component → Component → Text → ActivityRule → Bool
is_rule_of None c group rule = false
is_rule_of (Some d) c group rule = bytes_eq d.name c.name && bytes_eq rule.group group

abbrev pub rules_of : Design → List ActivityRule → Component → Text → List ActivityRule
rules_of design rules c group = filter (λ (rule : ActivityRule). is_rule_of (slice_get design rule.comp) c group rule) rules

-- the guard of the group's rule
abbrev pub rule_guard : List ActivityRule → Option (GuardTree PortName)
rule_guard [] = None
rule_guard (rule ∷ rules) = Some rule.when

abbrev pub when_of : Design → List ActivityRule → Component → Text → Option (GuardTree PortName)
when_of design rules c group = rule_guard (rules_of design rules c group)

-- ---- the design with its rules in its guards

abbrev pub with_guard : Option (GuardTree PortName) → Option (GuardTree PortName) → Option (GuardTree PortName)
with_guard None guard = guard
with_guard (Some when) None = Some when
with_guard (Some when) (Some guard) = Some (AllOf (guards_of (when ∷ guard ∷ [])))

abbrev pub guarded_set : Option (GuardTree PortName) → Assignment → Assignment
guarded_set when a = record a { guard = with_guard when a.guard }

abbrev pub guarded_group : Design → List ActivityRule → Component → GroupDef → GroupDef
guarded_group design rules c g = record g { sets = map (guarded_set (when_of design rules c g.name)) g.sets }

-- the component, where the rule of each group counts as a guard of its assignments
abbrev pub guarded : Design → List ActivityRule → Component → Component
guarded design rules c = record c { groups = map (guarded_group design rules c) c.groups }

abbrev pub guarded_design : Design → List ActivityRule → Design
guarded_design design rules = map (guarded design rules) design

-- ---- rules of rules

-- C2, C4 and C6 hold of the guard, as of one of the component
pub record IsGuardOf (design : Design) (c : Component) (guard : GuardTree PortName) : Type 0 where
  pub known : All (IsKnownPort design c) (guard_ports guard)
  pub widths : GuardAgrees design c guard
  pub sources : All (IsSource design c) (guard_ports guard)

-- the rule is of a group of a component of the design
pub record IsRuleIn (design : Design) (rule : ActivityRule) : Type 0 where
  pub c : Component
  pub at : slice_get design rule.comp ≡ Some c
  pub g : GroupDef
  pub has : Contains c.groups g
  pub named : rule.group ≡ g.name
  pub guard : IsGuardOf design c rule.when

-- every component is bare and each group has one rule; C1 to C11 hold, and C12 where each rule counts as a guard of its group's assignments
pub record IsHoleDesign (design : Design) (rules : List ActivityRule) : Type 0 where
  pub bare : (c : Component) → Contains design c → is_bare c ≡ true
  pub keeps : KeepsRules design
  pub one_each : (c : Component) (g : GroupDef) → Contains design c → Contains c.groups g → length (rules_of design rules c g.name) ≡ 1
  pub no_other : All (IsRuleIn design) rules
  pub no_loop : HasNoLoops (guarded_design design rules)

-- ---- the run

-- the group's rule is true in the row at the path
abbrev pub rule_holds : Path → Row → Option (GuardTree PortName) → Bool
rule_holds path row None = false
rule_holds path row (Some when) = holds (look path row) when

abbrev pub sets_by_rule : Design → List ActivityRule → Path → Component → Row → GroupDef → List Assignment
sets_by_rule design rules path c row g = if rule_holds path row (when_of design rules c g.name) then g.sets else []

-- the continuous assignments act, and those of the groups whose rules are true in the same row
abbrev pub by_rules : Design → List ActivityRule → Activity
by_rules design rules =
    record {
      sets = λ path c t row. c.sets ++ flat_map (sets_by_rule design rules path c row) c.groups;
      done = λ path c t. false;
    }

-- the run of a design whose groups act where their rules are true, with its stop
abbrev pub HoleRun : Design → List ActivityRule → Component → ℕ → Trace → (Text → List ℕ) → ℕ → Trace → Option Text → Type 0
HoleRun design rules top = StoppedRunWith design top (by_rules design rules)
