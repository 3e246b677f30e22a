use Rattle.std.proofs.Common.{◌≡◌, ◌≤◌, List, length, take, Some, sym, ap, subst, ◌∙◌, arith}
use Rattle.std.specs.Prelude.{slice_get}
use Rattle.std.proofs.lemmas.List.{length-map}
use Rattle.cal_ast.specs.Holes.{ActivityRule, rule_tree}
use Rattle.cal_ast.specs.Tree.{component_tree, design_of}
use Rattle.cal_ast.specs.declared.tree.CalComp.{CalComp}
use Rattle.cal_ast.specs.Numbers.{RuleHasNumbers}
use Rattle.cal_lower.specs.inside.Lowered.{rules_from}
use Rattle.cal_lower.specs.inside.Making.{ShowRules}
use Rattle.cal_lower.proofs.DesignLemmas.{all_lowered, can_component, comps_next, few_next, rules_next}
use Rattle.cal_lower.proofs.GrownLemmas.{labels_texts, show_all_kept}
use Rattle.cal_lower.proofs.NextLemmas.{at_index}
use Rattle.cal_lower.proofs.ReplacesLemmas.{lowering_replaces}
use Rattle.cal_lower.proofs.StableLemmas.{KeepsTexts-refl, KeepsTexts-trans}
use Rattle.cal_lower.proofs.lower.lower_control.Goals as goal

pub lower_component-requires-clause-comp : goal.lower_component-requires-clause-comp
lower_component-requires-clause-comp c =
    let d = c.args.plain.now.design in
    let n = c.loop-number.number in
    let comp = c.comp-item.result in
    let items = c.deref-comp-items.result.now in
    let at : slice_get d.comps.items n ≡ Some comp = ap (λ (cs : List CalComp). slice_get cs n) (sym c.deref-comp-items.ensures.value) ∙ at_index items n comp c.loop-number-test.true c.comp-item.is in
    (d.names, can_component d n comp at c.loop-number.labels.names c.requires.numbers c.requires.plain c.loop-number.invariant.kept)

pub push_rules-requires-clause-texts : goal.push_rules-requires-clause-texts
push_rules-requires-clause-texts c = labels_texts c.loop-number.labels c.lower_component.new.labels c.lower_component.ensures.kept c.loop-number.invariant.texts

pub push_rules-requires-clause-comp : goal.push_rules-requires-clause-comp
push_rules-requires-clause-comp c =
    let d = c.args.plain.now.design in
    let n = c.loop-number.number in
    let comp = c.comp-item.result in
    let items = c.deref-comp-items.result.now in
    let mid = c.loop-number.labels.names in
    let new = c.lower_component.new.labels.names in
    let at : slice_get d.comps.items n ≡ Some comp = ap (λ (cs : List CalComp). slice_get cs n) (sym c.deref-comp-items.ensures.value) ∙ at_index items n comp c.loop-number-test.true c.comp-item.is in
    (d.names, can_component d n comp at new c.requires.numbers c.requires.plain (KeepsTexts-trans d.names mid new c.loop-number.invariant.kept c.lower_component.ensures.kept.names))

pub loop-number-preserved : goal.loop-number-preserved
loop-number-preserved c =
    let d = c.args.plain.now.design in
    let n = c.loop-number.number in
    let comp = c.comp-item.result in
    let items = c.deref-comp-items.result.now in
    let n0 = c.loop-number.labels in
    let n1 = c.lower_component.new.labels in
    let n2 = c.push_rules.new.labels in
    let inv = c.loop-number.invariant in
    let k1 = c.lower_component.ensures.kept in
    let k2 = c.push_rules.ensures.kept in
    let kept = KeepsTexts-trans d.names n0.names n1.names inv.kept k1.names in
    let at : slice_get d.comps.items n ≡ Some comp = ap (λ (cs : List CalComp). slice_get cs n) (sym c.deref-comp-items.ensures.value) ∙ at_index items n comp c.loop-number-test.true c.comp-item.is in
    let so_far = rules_from 0 (take n (design_of d)) in
    let R : List ActivityRule → Type 0 = λ rules. ShowRules n2.names rules c.push_rules.new.rules.items in
    record {
      kept = KeepsTexts-trans d.names n1.names n2.names kept k2.names;
      texts = labels_texts n1 n2 k2 (labels_texts n0 n1 k1 inv.texts);
      comps =
          comps_next d n comp at n0.names n1.names n2.names c.loop-number.comps.items c.push.new.self.items c.in_ok-lower_component.field-0 k1.names k2.names c.in_ok-push.ensures.items inv.comps
          (c.in_ok-lower_component.ensures.lowered d.names (can_component d n comp at n0.names c.requires.numbers c.requires.plain inv.kept));
      rules =
          subst R (sym (rules_next d n comp at))
          (c.in_ok-push_rules.ensures.pushed d.names so_far (can_component d n comp at n1.names c.requires.numbers c.requires.plain kept)
          (show_all_kept RuleHasNumbers rule_tree n0.names n1.names so_far c.loop-number.acts.items k1.names inv.rules));
      few = few_next d n comp at inv.few (c.in_ok-lower_component.ensures.few d.names);
    }

pub returns-clause-numbers : goal.returns-clause-numbers
returns-clause-numbers c = let names = c.loop-number.labels.names in c.loop-number.invariant.comps.numbers names (KeepsTexts-refl names)

pub returns-clause-rules : goal.returns-clause-rules
returns-clause-rules c = let names = c.loop-number.labels.names in c.loop-number.invariant.rules.numbers names (KeepsTexts-refl names)

pub returns-clause-replaces : goal.returns-clause-replaces
returns-clause-replaces c =
    let d = c.args.plain.now.design in
    let n = c.loop-number.number in
    let count = ap (length {A = CalComp}) c.deref-comp-items.ensures.value in
    let past : length (design_of d) ≤ n = omega (arith, c.loop-number-test.false, count, length-map d.comps.items (component_tree d.names)) in
    let inv = c.loop-number.invariant in
    lowering_replaces (design_of d) _ _ c.requires.names c.requires.plain
    (all_lowered d (record { names = c.loop-number.labels.names; comps = c.loop-number.comps }) c.loop-number.acts.items n past inv.comps inv.rules inv.few)

pub returns-clause-lowering : goal.returns-clause-lowering
returns-clause-lowering c =
    let d = c.args.plain.now.design in
    let n = c.loop-number.number in
    let count = ap (length {A = CalComp}) c.deref-comp-items.ensures.value in
    let past : length (design_of d) ≤ n = omega (arith, c.loop-number-test.false, count, length-map d.comps.items (component_tree d.names)) in
    let inv = c.loop-number.invariant in
    all_lowered d (record { names = c.loop-number.labels.names; comps = c.loop-number.comps }) c.loop-number.acts.items n past inv.comps inv.rules inv.few
