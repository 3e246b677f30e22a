use Rattle.std.proofs.Common.{All, map, take}
use Rattle.hw_names.specs.Name.{KeepsTexts}
use Rattle.cal_ast.specs.Numbers.{ComponentHasNumbers}
use Rattle.cal_ast.specs.Tree.{component_tree, design_of}
use Rattle.cal_lower.specs.inside.Labels.{AreTexts}
use Rattle.cal_lower.specs.inside.Lowered.{HasFewParts, lowered, rules_from}
use Rattle.cal_lower.specs.inside.Making.{ShowRules}
use Rattle.cal_lower.specs.inside.Shown.{ShowAll}
use Rattle.cal_lower.proofs.lower.lower_control.Given as goal

-- the components so far, and the rules of their groups
abbrev pub invariant-loop-number : goal.invariant-loop-number
invariant-loop-number l = record {
  kept : KeepsTexts l.plain.design.names l.labels.names;
  texts : AreTexts l.labels.names l.labels.texts;
  comps : ShowAll ComponentHasNumbers component_tree l.labels.names (map lowered (take l.number (design_of l.plain.design))) l.comps.items;
  rules : ShowRules l.labels.names (rules_from 0 (take l.number (design_of l.plain.design))) l.acts.items;
  few : All HasFewParts (take l.number (design_of l.plain.design));
}
