use Rattle.std.proofs.Common.{◌≡◌, ◌<◌, All, length, flat_map, take, slice_get, Some, refl, sym, ap, subst, ◌∙◌}
use Rattle.std.proofs.lemmas.Option.{same_Some}
use Rattle.fil_ast.specs.Limits.{KeepsLimits}
use Rattle.fil_ast.specs.Numbers.{ComponentHasNumbers}
use Rattle.fil_ast.specs.Rules.{FilRules}
use Rattle.fil_ast.specs.Scope.{Scope, invocations_at}
use Rattle.fil_ast.specs.Tree.{Component, component_tree, design_of}
use Rattle.fil_ast.specs.Wires.{whole_scope}
use Rattle.fil_ast.specs.declared.tree.FilComp.{FilComp}
use Rattle.fil_ast.specs.declared.tree.FilDesign.{FilDesign}
use Rattle.fil_share.specs.Uses.{held_by}
use Rattle.fil_share.proofs.Lookup.{at_mapped}
use Rattle.fil_lower.specs.inside.Place.{ShowsCalls}
use Rattle.fil_lower.proofs.GoodLemmas.{IsGood, good_before, good_instances}
use Rattle.fil_lower.proofs.body.Body.make.Goals as goal

pub of_component-requires-clause-kept : goal.of_component-requires-clause-kept
of_component-requires-clause-kept c =
    let d = c.design-design.result.now in
    let n = c.args.number in
    let within : n < length d.comps.items = subst (λ (e : FilDesign). n < length e.comps.items) (sym c.design-design.ensures.same) c.requires.number in
    (take n (design_of d), c.design-design.ensures.rules.keeps n (component_tree d.names c.index-comp.result.now) (at_mapped (component_tree d.names) d.comps.items d.comps.items n c.index-comp.result.now refl within c.index-comp.ensures))

pub component_uses-requires-clause-small : goal.component_uses-requires-clause-small
component_uses-requires-clause-small c =
    let d = c.design-design.result.now in
    let n = c.args.number in
    let within : n < length d.comps.items = subst (λ (e : FilDesign). n < length e.comps.items) (sym c.design-design.ensures.same) c.requires.number in
    let K : FilComp → Type 0 = KeepsLimits in
    subst K (sym c.index-comp.ensures) (c.design-design.ensures.small n c.index-comp.result.now within)

pub component_uses-requires-clause-shown : goal.component_uses-requires-clause-shown
component_uses-requires-clause-shown c =
    let d = c.design-design.result.now in
    let n = c.args.number in
    let x = c.index-comp.result.now in
    let within : n < length d.comps.items = subst (λ (e : FilDesign). n < length e.comps.items) (sym c.design-design.ensures.same) c.requires.number in
    let at : slice_get (design_of c.args.ok.now) n ≡ Some (component_tree d.names x) =
    ap (λ (e : FilDesign). slice_get (design_of e) n) (sym c.design-design.ensures.same) ∙ at_mapped (component_tree d.names) d.comps.items d.comps.items n x refl within c.index-comp.ensures in
    (whole_scope (take n (design_of c.args.ok.now)) (component_tree d.names x), c.in_ok-instances.ensures (component_tree d.names x) at)

pub returns-clause-shown : goal.returns-clause-shown
returns-clause-shown c tree there =
    let d = c.design-design.result.now in
    let n = c.args.number in
    let x = c.index-comp.result.now in
    let same = c.design-design.ensures.same in
    let within : n < length d.comps.items = subst (λ (e : FilDesign). n < length e.comps.items) (sym same) c.requires.number in
    let at : slice_get (design_of d) n ≡ Some (component_tree d.names x) = at_mapped (component_tree d.names) d.comps.items d.comps.items n x refl within c.index-comp.ensures in
    let there_d : slice_get (design_of d) n ≡ Some tree = ap (λ (e : FilDesign). slice_get (design_of e) n) same ∙ there in
    let is : component_tree d.names x ≡ tree = same_Some (component_tree d.names x) tree (sym at ∙ there_d) in
    let shown = c.in_ok-instances.ensures tree there in
    let scope : Scope = whole_scope (take n (design_of c.args.ok.now)) tree in
    let N : FilComp → Type 0 = ComponentHasNumbers d.names in
    let K : FilComp → Type 0 = KeepsLimits in
    let C : Component → Type 0 = λ k. ShowsCalls d.names (flat_map invocations_at k.body) c.in_ok-calls.calls in
    let R : FilDesign → Type 0 = λ e. FilRules (design_of e) in
    let G : FilDesign → Type 0 = λ e. All IsGood (take n (design_of e)) in
    record {
      design = design_of c.args.ok.now;
      number = n;
      rules = subst R same c.design-design.ensures.rules;
      at = there;
      whole = refl;
      comp = sym is;
      ports = good_instances scope (subst G same (good_before d n c.design-design.ensures.small c.design-design.ensures.rules));
      numbers = subst N (sym c.index-comp.ensures) (c.design-design.ensures.numbers n x within);
      small = subst K (sym c.index-comp.ensures) (c.design-design.ensures.small n x within);
      instances = shown;
      calls = subst C is c.in_ok-calls.ensures;
      uses = c.in_ok-uses.ensures.meaning scope shown ∙ ap (λ (k : Component). flat_map (held_by scope) (flat_map invocations_at k.body)) is;
      good = c.in_ok-uses.ensures.good;
    }
