use Rattle.std.proofs.Common.{◌≡◌, ◌≤◌, ℕ, List, [], ◌∷◌, ◌++◌, length, take, sym, ap, subst, arith}
use Rattle.std.proofs.lemmas.List.{length-map, length-take}
use Rattle.std.proofs.lemmas.Option.{get_or_from_slice_get, slice_get_within}
use Rattle.fil_ast.specs.Limits.{KeepsLimits}
use Rattle.fil_ast.specs.Tree.{Design, component_tree, design_of}
use Rattle.fil_ast.specs.declared.tree.FilComp.{FilComp}
use Rattle.fil_ast.specs.declared.tree.FilDesign.{FilDesign}
use Rattle.fil_share.proofs.ListLemmas.{take_next}
use Rattle.fil_place.specs.Tables.{ShowsEarlier}
use Rattle.fil_check.specs.inside.Weights.{AreWeights}
use Rattle.fil_place.proofs.ComponentLemmas.{new_names}
use Rattle.fil_check.proofs.WeightLemmas.{at_taken, read_taken, weights_more}
use Rattle.fil_check.proofs.weight.weights_of.Goals as goal

pub loop-comp-init : goal.loop-comp-init
loop-comp-init c = record {
  shown = record { names = c.beside.ensures; callees = c.new.ensures.items };
  weights = c.new-weights.ensures.items;
}

pub weigh-requires-clause-small : goal.weigh-requires-clause-small
weigh-requires-clause-small c =
    let comps = c.design-design.result.now.comps.items in
    let n = c.loop-comp.comp-index in
    let comp = c.comp-item.result in
    let at = read_taken comps c.deref.result.now c.args.count n comp c.deref.ensures.value c.loop-comp-test.true c.comp-item.is in
    let K : FilComp → Type 0 = KeepsLimits in
    subst K (get_or_from_slice_get comps n comp comp at) (c.design-design.ensures.small n comp (slice_get_within comps n comp at))

pub add_component-requires-clause-small : goal.add_component-requires-clause-small
add_component-requires-clause-small c =
    let comps = c.design-design.result.now.comps.items in
    let n = c.loop-comp.comp-index in
    let comp = c.comp-item.result in
    let at = read_taken comps c.deref.result.now c.args.count n comp c.deref.ensures.value c.loop-comp-test.true c.comp-item.is in
    let K : FilComp → Type 0 = KeepsLimits in
    subst K (get_or_from_slice_get comps n comp comp at) (c.design-design.ensures.small n comp (slice_get_within comps n comp at))

pub add_component-requires-clause-kept : goal.add_component-requires-clause-kept
add_component-requires-clause-kept c =
    let d = c.design-design.result.now in
    let n = c.loop-comp.comp-index in
    let comp = c.comp-item.result in
    let at = at_taken (component_tree d.names) d.comps.items c.deref.result.now c.args.count n comp c.deref.ensures.value c.loop-comp-test.true c.comp-item.is in
    (take n (design_of d), c.loop-comp.invariant.shown, c.design-design.ensures.rules.keeps n (component_tree d.names comp) at)

pub loop-comp-preserved : goal.loop-comp-preserved
loop-comp-preserved c =
    let d = c.design-design.result.now in
    let n = c.loop-comp.comp-index in
    let comp = c.comp-item.result in
    let tree = component_tree d.names comp in
    let before = take n (design_of d) in
    let at = at_taken (component_tree d.names) d.comps.items c.deref.result.now c.args.count n comp c.deref.ensures.value c.loop-comp-test.true c.comp-item.is in
    let kept = c.design-design.ensures.rules.keeps n tree at in
    let shown = c.loop-comp.invariant.shown in
    let next = sym (take_next (design_of d) n tree at) in
    let B : List ℕ → Type 0 = AreWeights before in
    let M : List ℕ → Type 0 = AreWeights (before ++ tree ∷ []) in
    let S : Design → Type 0 = ShowsEarlier c.add_component.new.earlier in
    let W : Design → Type 0 = λ comps. AreWeights comps c.push.new.self.items in
    let is = c.in_ok-weight.ensures before shown kept (subst B (sym c.deref-in-loop-comp.ensures.value) c.loop-comp.invariant.weights) in
    let more = weights_more before tree c.loop-comp.weights.items c.in_ok-weight.weight (new_names before tree kept).new c.loop-comp.invariant.weights is in
    record {
      shown = subst S next (c.in_ok-add_component.ensures before shown);
      weights = subst W next (subst M (sym c.in_ok-push.ensures.items) more);
    }

pub returns : goal.returns
returns c =
    let d = c.design-design.result.now in
    let items = c.deref.result.now in
    let n = c.loop-comp.comp-index in
    let count = c.args.count in
    let same : d ≡ c.args.ok.now = c.design-design.ensures.same in
    let at_most : n ≤ length (take count items) = c.loop-comp.auto.comp-index-end in
    let all : n ≡ count = omega (
      arith,
      at_most,
      c.loop-comp-test.false,
      c.requires,
      length-take count items,
      ap length c.deref.ensures.value,
      ap (λ (d : FilDesign). length (design_of d)) same,
      length-map d.comps.items (component_tree d.names),
    ) in
    let N : ℕ → Type 0 = λ k. AreWeights (take k (design_of d)) c.loop-comp.weights.items in
    let D : FilDesign → Type 0 = λ d. AreWeights (take count (design_of d)) c.loop-comp.weights.items in
    subst D same (subst N all c.loop-comp.invariant.weights)
