use Rattle.std.proofs.Common.{◌≡◌, ℕ, length, Some, codes, slice_get, sym, ap, ◌∙◌, inl, inr, arith, below_more}
use Rattle.std.proofs.lemmas.List.{length-map}
use Rattle.std.proofs.lemmas.Option.{same_Some}
use Rattle.std.proofs.lemmas.Slice.Eq.{bytes_eq-Decides}
use Rattle.hw_names.proofs.NameLemmas.{text_of-slice_get}
use Rattle.cal_ast.specs.Tree.{Component, component_tree, design_of}
use Rattle.filc_calyx.proofs.TopLemmas.{comp_at, no_main}
use Rattle.filc_calyx.proofs.top.top_of.Goals as goal

pub returns-then-eq-clause-top : goal.returns-then-eq-clause-top
returns-then-eq-clause-top c =
    let d = c.args.design.now in
    let comp = c.comp-item.result in
    let named = text_of-slice_get d.names comp.name c.text.result.now c.text.ensures in
    let is_main = (bytes_eq-Decides c.text.result.now c.as_slice.result.now).0 (sym c.eq.ensures ∙ c.if-eq.true) in
    inl (
      component_tree d.names comp,
      comp_at d c.deref-comp-items.result.now c.loop-number.number comp c.deref-comp-items.ensures.value c.loop-number-test.true c.comp-item.is,
      named ∙ is_main ∙ c.as_slice.ensures,
      c.loop-number.invariant,
    )

pub returns-clause-top : goal.returns-clause-top
returns-clause-top c =
    let d = c.args.design.now in
    let count = length-map d.comps.items (component_tree d.names) in
    let all = ap length c.deref-comp-items.ensures.value in
    inr (
      no_main (design_of d) (λ m e within at. c.loop-number.invariant m e (omega (arith, within, count, all)) at),
      omega (arith, count, all),
    )

pub loop-number-preserved : goal.loop-number-preserved
loop-number-preserved c =
    let d = c.args.design.now in
    let n = c.loop-number.number in
    let comp = c.comp-item.result in
    let NotMain : ℕ → Type 0 = λ m. (e : Component) → slice_get (design_of d) m ≡ Some e → e.name ≡ codes "main" → ⊥ in
    let at_n = comp_at d c.deref-comp-items.result.now n comp c.deref-comp-items.ensures.value c.loop-number-test.true c.comp-item.is in
    let named = text_of-slice_get d.names comp.name c.text.result.now c.text.ensures in
    let here : NotMain n = λ e at is_main.
    let same : e ≡ component_tree d.names comp = same_Some e (component_tree d.names comp) (sym at ∙ at_n) in
    let text = sym named ∙ sym (ap (λ (x : Component). x.name) same) ∙ is_main ∙ sym c.as_slice.ensures in
    let yes = c.eq.ensures ∙ (bytes_eq-Decides c.text.result.now c.as_slice.result.now).1 text in
    cc (c.if-eq.false, yes) in
    let all = below_more NotMain n (λ k within e at. c.loop-number.invariant k e within at) here in
    λ m e within at. all m within e at
