use Rattle.std.proofs.Common.{◌++◌, List, map, sym, subst, ◌∙◌}
use Rattle.std.proofs.lemmas.List.{append-nil}
use Rattle.hw_names.proofs.NameLemmas.{text_of-KeepsTexts}
use Rattle.hw_names.specs.Name.{text_of}
use Rattle.cal_ast.specs.Holes.{ActivityRule}
use Rattle.cal_ast.specs.Numbers.{GroupHasNumbers}
use Rattle.cal_ast.specs.Tree.{component_tree, group_tree}
use Rattle.cal_ast.specs.declared.tree.Group.{Group}
use Rattle.cal_lower.specs.inside.Lowered.{rule_of}
use Rattle.cal_lower.specs.inside.Making.{ShowRules}
use Rattle.cal_lower.proofs.ComponentLemmas.{bare_kept, component_numbers, index_of, rules_more, taken}
use Rattle.cal_lower.proofs.GrownLemmas.{labels_refl, labels_texts, labels_trans}
use Rattle.cal_lower.proofs.NextLemmas.{All-at}
use Rattle.cal_lower.proofs.StableLemmas.{KeepsTexts-trans, id_number}
use Rattle.cal_lower.proofs.component.push_rules.Goals as goal

pub is_bare-bare-requires : goal.is_bare-bare-requires
is_bare-bare-requires c =
    let (source, can) = c.requires.comp in
    component_numbers source c.args.labels.now.names can.kept c.args.comp.now can.numbers

pub loop-group-init : goal.loop-group-init
loop-group-init c = record {
  kept = labels_refl c.args.labels.now;
  texts = c.requires.texts;
  pushed = λ source list can shows.
      let P : List ActivityRule → Type 0 = λ l. ShowRules c.args.labels.now.names l c.args.rules.now.items in
      subst P (sym (append-nil list)) shows;
}

pub rule_when-requires : goal.rule_when-requires
rule_when-requires c =
    let (source, can) = c.requires.comp in
    let inv = c.loop-group.invariant in
    let groups = c.args.comp.now.groups.items in
    let i = c.loop-group.group-index in
    let g = c.group-item.result in
    let at = index_of c.deref-group-items.result.now groups i g c.deref-group-items.ensures.value c.loop-group-test.true c.group-item.is in
    let known = All-at (GroupHasNumbers source) groups i g at can.numbers.groups in
    record {
      texts = inv.texts;
      group = id_number source c.loop-group.labels.names (KeepsTexts-trans source c.args.labels.now.names c.loop-group.labels.names can.kept inv.kept.names) g.name known.name;
    }

pub loop-group-preserved : goal.loop-group-preserved
loop-group-preserved c =
    let first = c.args.labels.now in
    let before = c.loop-group.labels in
    let after = c.rule_when.new.labels in
    let inv = c.loop-group.invariant in
    let comp = c.args.comp.now in
    let groups = comp.groups.items in
    let i = c.loop-group.group-index in
    let g = c.group-item.result in
    let at = index_of c.deref-group-items.result.now groups i g c.deref-group-items.ensures.value c.loop-group-test.true c.group-item.is in
    record {
      kept = labels_trans first before after inv.kept c.rule_when.ensures.kept;
      texts = labels_texts before after c.rule_when.ensures.kept inv.texts;
      pushed = λ source list can shows.
          let known = All-at (GroupHasNumbers source) groups i g at can.numbers.groups in
          let to_before = KeepsTexts-trans source first.names before.names can.kept inv.kept.names in
          let to_after = KeepsTexts-trans source before.names after.names to_before c.rule_when.ensures.kept.names in
          let bare = c.is_bare-bare.ensures ∙ bare_kept source first.names can.kept comp can.numbers in
          let text = text_of-KeepsTexts source before.names g.name to_before known.name in
          rules_more source c.args.number (component_tree source comp) list before.names after.names groups i g c.loop-group.rules.items c.push.new.self.items c.in_ok-when.when c.is_bare-bare.result (text_of before.names g.name)
          to_after c.rule_when.ensures.kept.names at known.name bare text c.in_ok-when.ensures.guard c.in_ok-push.ensures.items (inv.pushed source list can shows);
    }

pub returns-clause-pushed : goal.returns-clause-pushed
returns-clause-pushed c = λ source list can shows.
    let comp = c.args.comp.now in
    let P : List Group → Type 0 = λ gs. ShowRules c.loop-group.labels.names (list ++ map (rule_of c.args.number (component_tree source comp)) (map (group_tree source) gs)) c.loop-group.rules.items in
    subst P (taken c.deref-group-items.result.now comp.groups.items c.loop-group.group-index c.deref-group-items.ensures.value c.loop-group-test.false) (c.loop-group.invariant.pushed source list can shows)
