use Rattle.std.proofs.Common.{◌≡◌, ◌+◌, ◌≤◌, List, [], length, drop, map, take, All, Some, refl, sym, ap, subst, ◌∙◌, arith}
use Rattle.std.specs.Prelude.{slice_get}
use Rattle.std.proofs.lemmas.List.{length-map}
use Rattle.std.proofs.lemmas.List.Elements.{All-nil}
use Rattle.cal_ast.specs.Numbers.{ComponentHasNumbers}
use Rattle.cal_ast.specs.Tree.{Component, component_tree, design_of}
use Rattle.cal_ast.specs.declared.tree.CalComp.{CalComp}
use Rattle.cal_lower.specs.inside.Lowered.{lowered}
use Rattle.cal_lower.proofs.NextLemmas.{at_index}
use Rattle.cal_lower.proofs.StableLemmas.{KeepsTexts-refl, KeepsTexts-trans}
use Rattle.cal_state.specs.inside.Encoded.{encoded}
use Rattle.cal_state.specs.inside.Making.{ShowComponents}
use Rattle.cal_state.proofs.MakesLemmas.{makes_states}
use Rattle.cal_state.proofs.RulesLaterLemmas.{all_encoded, encoded_next, lowered_next, lowered_shown, rules_kept, rules_numbers}
use Rattle.cal_state.proofs.lower.lower_states.Goals as goal

pub loop-source-init : goal.loop-source-init
loop-source-init c =
    let made = c.in_ok-design.field-0 in
    let names = made.design.names in
    let source = design_of c.args.plain.now.design in
    let L : List CalComp → Type 0 = ShowComponents names (map lowered source) in
    let M : List CalComp → Type 0 = ShowComponents names [] in
    record {
      kept = KeepsTexts-refl names;
      left = subst L (sym c.from-left.ensures.0) (lowered_shown names source made.design.comps.items c.in_ok-design.ensures.lowering.design c.in_ok-design.ensures.numbers);
      made = subst M (sym c.new-comps.ensures.items) (record { trees = λ later more. refl; numbers = λ later more. All-nil (ComponentHasNumbers later) });
    }

pub loop-source-preserved : goal.loop-source-preserved
loop-source-preserved c =
    let d = c.args.plain.now.design in
    let n = c.loop-source.source-index in
    let comp = c.source-item.result in
    let items = c.deref-source-items.result.now in
    let first = c.in_ok-design.field-0.design.names in
    let old = c.loop-source.names in
    let new = c.push_next.new.names in
    let inv = c.loop-source.invariant in
    let at : slice_get d.comps.items n ≡ Some comp =
    ap (λ (cs : List CalComp). slice_get cs n) (sym c.deref-source-items.ensures.value) ∙ at_index items n comp c.loop-source-test.true c.source-item.is in
    let tree = component_tree d.names comp in
    let rest = map lowered (drop (n + 1) (design_of d)) in
    let L : List Component → Type 0 = λ ts. ShowComponents old ts c.loop-source.left.items in
    let M : List Component → Type 0 = λ ts. ShowComponents new ts c.push_next.new.comps.items in
    let left = subst L (lowered_next d n comp at) inv.left in
    record {
      kept = KeepsTexts-trans first old new inv.kept c.push_next.ensures.kept;
      left = c.push_next.ensures.left rest (lowered tree) left;
      made = subst M (sym (encoded_next d n comp at)) (c.in_ok-push_next.ensures.pushed d.names rest (map encoded (take n (design_of d))) left inv.made);
    }

pub returns-clause-numbers : goal.returns-clause-numbers
returns-clause-numbers c = let names = c.loop-source.names in c.loop-source.invariant.made.numbers names (KeepsTexts-refl names)

pub returns-clause-rules : goal.returns-clause-rules
returns-clause-rules c =
    let made = c.in_ok-design.field-0 in
    rules_numbers made.design.names c.loop-source.names c.loop-source.invariant.kept made.acts.items c.in_ok-design.ensures.rules

pub returns-clause-states : goal.returns-clause-states
returns-clause-states c =
    let d = c.args.plain.now.design in
    let made = c.in_ok-design.field-0 in
    let names = c.loop-source.names in
    let inv = c.loop-source.invariant in
    let n = c.loop-source.source-index in
    let is = c.in_ok-design.ensures.lowering in
    let count = ap (length {A = CalComp}) c.deref-source-items.ensures.value in
    let past : length (design_of d) ≤ n = omega (arith, c.loop-source-test.false, count, length-map d.comps.items (component_tree d.names)) in
    makes_states (design_of d) _ _
    (record {
      few = is.few;
      design = all_encoded (design_of d) names c.loop-source.comps.items n past inv.made;
      acting = rules_kept made.design.names names inv.kept made.acts.items c.in_ok-design.ensures.rules ∙ is.acting;
    }) c.requires.names c.requires.plain
