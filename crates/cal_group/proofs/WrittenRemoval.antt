-- Where a design and its rules can be written, so can the wires that its groups become.
use Rattle.std.proofs.Common.{Bool, List, [], ◌∷◌, map, flat_map, slice_get, Option, Some, None}
use Rattle.std.specs.List.{AllByRecursion}
use Rattle.net_core.specs.Guard.{GuardTree}
use Rattle.cal_ast.proofs.WrittenLists.{all_append, all_flat_map, all_kept, all_map, map_some}
use Rattle.cal_ast.specs.Holes.{ActivityRule, guarded_set, is_rule_of, rule_guard, rules_of, when_of, with_guard}
use Rattle.cal_ast.specs.Tree.{Assignment, Component, Design, GroupDef, PortName}
use Rattle.cal_ast.specs.Written.{AssignmentIsWritten, ComponentIsWritten, DesignIsWritten, GroupIsWritten, GuardIsWritten, RulesAreWritten, WhenIsWritten}
use Rattle.cal_group.specs.inside.Removed.{removed, removed_design, ruled_sets}

abbrev Guard : Type 0
Guard = GuardTree PortName

first_written : (rules : List ActivityRule) → RulesAreWritten rules → WhenIsWritten (rule_guard rules)
first_written [] are = tt
first_written (rule ∷ rules) are = are.0

-- ---- the component without groups

guard_added : (when guard : Option Guard) → WhenIsWritten when → WhenIsWritten guard → WhenIsWritten (with_guard when guard)
guard_added None guard is_when is = is
guard_added (Some when) None is_when is = is_when
guard_added (Some when) (Some guard) is_when is = (tt, (is_when, (is, tt)))

set_guarded : (when : Option Guard) → WhenIsWritten when → (a : Assignment) → AssignmentIsWritten a → AssignmentIsWritten (guarded_set when a)
set_guarded when is_when a is = (is.0, (guard_added when a.guard is_when is.1.0, is.1.1))

module _ (design : Design) (rules : List ActivityRule) (are : RulesAreWritten rules) where
  ruled_written : (c : Component) (g : GroupDef) → GroupIsWritten g → AllByRecursion AssignmentIsWritten (ruled_sets design rules c g)
  ruled_written c g is =
      let when = when_of design rules c g.name in
      let test : ActivityRule → Bool = λ rule. is_rule_of (slice_get design rule.comp) c g.name rule in
      let is_when : WhenIsWritten when = first_written (rules_of design rules c g.name) (all_kept (λ (rule : ActivityRule). GuardIsWritten rule.when) test rules are) in
      all_map AssignmentIsWritten AssignmentIsWritten (guarded_set when) (set_guarded when is_when) g.sets is.1.0

  removed_written : (c : Component) → ComponentIsWritten c → ComponentIsWritten (removed design rules c)
  removed_written c is = record {
    name = is.name;
    ins = is.ins;
    outs = is.outs;
    cells = is.cells;
    groups = tt;
    sets = all_append AssignmentIsWritten c.sets (flat_map (ruled_sets design rules c) c.groups) is.sets
        (all_flat_map GroupIsWritten AssignmentIsWritten (ruled_sets design rules c) (ruled_written c) c.groups is.groups);
    control = is.control;
  }

pub design_removed : (design : Design) (rules : List ActivityRule) → RulesAreWritten rules → DesignIsWritten design → DesignIsWritten (removed_design design rules)
design_removed design rules are is =
    (map_some (removed design rules) design is.0, all_map ComponentIsWritten ComponentIsWritten (removed design rules) (removed_written design rules are) design is.1)
