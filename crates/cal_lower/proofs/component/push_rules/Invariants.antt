use Rattle.std.proofs.Common.{◌++◌, List, map, take}
use Rattle.hw_names.specs.Name.{Text}
use Rattle.cal_ast.specs.Holes.{ActivityRule}
use Rattle.cal_ast.specs.Tree.{component_tree, group_tree}
use Rattle.cal_lower.specs.inside.Labels.{AreTexts, KeepsLabels}
use Rattle.cal_lower.specs.inside.Lowered.{rule_of}
use Rattle.cal_lower.specs.inside.Making.{ShowRules}
use Rattle.cal_lower.specs.inside.Statements.{CanLowerComponent}
use Rattle.cal_lower.proofs.component.push_rules.Given as goal

-- the rules of the groups so far
abbrev pub invariant-loop-group : goal.invariant-loop-group
invariant-loop-group l = record {
  kept : KeepsLabels l.initial.labels l.labels;
  texts : AreTexts l.labels.names l.labels.texts;
  pushed : (source : List Text) (list : List ActivityRule) → CanLowerComponent source l.initial.labels.names l.comp → ShowRules l.initial.labels.names list l.initial.rules.items
      → ShowRules l.labels.names (list ++ map (rule_of l.number (component_tree source l.comp)) (map (group_tree source) (take l.group-index l.comp.groups.items))) l.rules.items;
}
