use Rattle.std.proofs.Common.{◌≡◌, ◌≤◌, ℕ, List, [], ◌∷◌, ◌++◌, length, take, sym, ap, subst, arith}
use Rattle.std.proofs.lemmas.List.{length-map, length-take}
use Rattle.fil_ast.specs.Numbers.{ComponentHasNumbers}
use Rattle.fil_ast.specs.Tree.{Design, component_tree, design_of}
use Rattle.fil_ast.specs.declared.tree.FilDesign.{FilDesign}
use Rattle.fil_flow.specs.inside.Body.{IsEarlier}
use Rattle.fil_flow.specs.Shown.{ShowPlans}
use Rattle.fil_flow.specs.declared.plan.Plan.{Plan}
use Rattle.fil_flow.proofs.FlowLemmas.{new_name}
use Rattle.fil_flow.proofs.PlaceLemmas.{at_taken, each_at, read_taken, take_next}
use Rattle.fil_flow.proofs.ShownLemmas.{show_more, show_none}
use Rattle.fil_flow.proofs.plans.plans_of.Goals as goal

pub loop-comp-init : goal.loop-comp-init
loop-comp-init c =
    let S : List Plan → Type 0 = ShowPlans [] in
    record { earlier = c.new-earlier.ensures; shown = subst S (sym c.new-plans.ensures.items) show_none }

pub plan_of-requires-clause-kept : goal.plan_of-requires-clause-kept
plan_of-requires-clause-kept c =
    let d = c.design-design.result.now in
    let n = c.loop-comp.comp-index in
    let comp = c.comp-item.result in
    let at = at_taken (component_tree d.names) d.comps.items c.deref.result.now c.args.count n comp c.deref.ensures.value c.loop-comp-test.true c.comp-item.is in
    (take n (design_of d), c.loop-comp.invariant.earlier, c.design-design.ensures.rules.keeps n (component_tree d.names comp) at)

pub add-requires : goal.add-requires
add-requires c =
    let d = c.design-design.result.now in
    let n = c.loop-comp.comp-index in
    let comp = c.comp-item.result in
    let at = read_taken d.comps.items c.deref.result.now c.args.count n comp c.deref.ensures.value c.loop-comp-test.true c.comp-item.is in
    each_at (ComponentHasNumbers d.names) d.comps.items n comp at c.design-design.ensures.numbers

pub loop-comp-preserved : goal.loop-comp-preserved
loop-comp-preserved c =
    let d = c.design-design.result.now in
    let n = c.loop-comp.comp-index in
    let comp = c.comp-item.result in
    let tree = component_tree d.names comp in
    let before = take n (design_of d) in
    let at = at_taken (component_tree d.names) d.comps.items c.deref.result.now c.args.count n comp c.deref.ensures.value c.loop-comp-test.true c.comp-item.is in
    let kept = c.design-design.ensures.rules.keeps n tree at in
    let earlier = c.loop-comp.invariant.earlier in
    let more = show_more before tree c.loop-comp.plans.items c.in_ok-plan.plan (new_name before tree kept) c.loop-comp.invariant.shown (c.in_ok-plan.ensures before earlier kept) in
    let next = sym (take_next (design_of d) n tree at) in
    let P : List Plan → Type 0 = ShowPlans (before ++ tree ∷ []) in
    let E : Design → Type 0 = λ comps. IsEarlier comps c.add.new.self in
    let S : Design → Type 0 = λ comps. ShowPlans comps c.push.new.self.items in
    record {
      earlier = subst E next (c.in_ok-add.ensures before earlier kept);
      shown = subst S next (subst P (sym c.in_ok-push.ensures.items) more);
    }

pub returns : goal.returns
returns c =
    let d = c.design-design.result.now in
    let items = c.deref.result.now in
    let n = c.loop-comp.comp-index in
    let count = c.args.count in
    let same : d ≡ c.args.ok.now = c.design-design.ensures.same in
    let at_most : n ≤ length (take count items) = c.loop-comp.auto.comp-index-end in
    let all : n ≡ count = omega (
      arith,
      at_most,
      c.loop-comp-test.false,
      c.requires,
      length-take count items,
      ap length c.deref.ensures.value,
      ap (λ (d : FilDesign). length (design_of d)) same,
      length-map d.comps.items (component_tree d.names),
    ) in
    let N : ℕ → Type 0 = λ k. ShowPlans (take k (design_of d)) c.loop-comp.plans.items in
    let D : FilDesign → Type 0 = λ d. ShowPlans (take count (design_of d)) c.loop-comp.plans.items in
    subst D same (subst N all c.loop-comp.invariant.shown)
