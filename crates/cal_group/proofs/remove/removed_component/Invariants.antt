use Rattle.std.proofs.Common.{List, take}
use Rattle.hw_names.specs.Name.{Text}
use Rattle.cal_ast.specs.Numbers.{ComponentHasNumbers}
use Rattle.cal_ast.specs.Tree.{Design}
use Rattle.cal_group.proofs.RemovalLemmas.{AreRuled}
use Rattle.cal_group.specs.inside.Ruling.{HasRulesOf}
use Rattle.cal_ast.specs.Holes.{rule_trees}
use Rattle.cal_group.proofs.remove.removed_component.Given as goal

abbrev pub invariant-loop-group : goal.invariant-loop-group
invariant-loop-group l =
    (names : List Text) (design : Design) → ComponentHasNumbers names l.comp → HasRulesOf names design l.acts l.table l.comp →
    AreRuled names design (rule_trees names l.acts) l.comp (take l.group-index l.group-items) l.sets.items
