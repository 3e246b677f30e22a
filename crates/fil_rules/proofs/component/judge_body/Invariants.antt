use Rattle.std.proofs.Common.{◌≡◌, ◌+◌, [], take}
use Rattle.fil_ast.specs.Items.{scope_after}
use Rattle.fil_ast.specs.Tree.{Design, component_tree}
use Rattle.fil_rules.specs.FirstItem.{KeepsBefore}
use Rattle.fil_rules.specs.inside.StandsAt.{StandsAt}
use Rattle.fil_rules.proofs.ItemLemmas.{Stands}
use Rattle.fil_rules.proofs.component.judge_body.Given as goal

-- the statements so far keep the rules, and the tables show what names mean after them
abbrev pub invariant-loop-stmt : goal.invariant-loop-stmt
invariant-loop-stmt l = record {
  counted : l.item ≡ l.stmt-index;
  stands : (comps : Design) → StandsAt l.around.names.now l.around.earlier.now l.around.comp.now l.initial.tables (scope_after comps (component_tree l.around.names.now l.around.comp.now) []) [] → Stands l.around.names.now l.around.earlier.now comps l.around.comp.now l.tables (take l.stmt-index (component_tree l.around.names.now l.around.comp.now).body);
  kept : (comps : Design) → StandsAt l.around.names.now l.around.earlier.now l.around.comp.now l.initial.tables (scope_after comps (component_tree l.around.names.now l.around.comp.now) []) [] → KeepsBefore comps (component_tree l.around.names.now l.around.comp.now) 1 → KeepsBefore comps (component_tree l.around.names.now l.around.comp.now) (l.stmt-index + 1);
}
