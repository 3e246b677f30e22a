use Rattle.std.proofs.Common.{◌≡◌, ◌<◌, ◌-◌, true, false, length, get_or, sym, ap, subst, ◌∙◌, arith}
use Rattle.std.proofs.lemmas.Slice.Eq.{bytes_eq-Decides}
use Rattle.hw_names.proofs.NameLemmas.{text_of-slice_get}
use Rattle.hw_names.specs.Name.{text_of}
use Rattle.fil_ast.specs.Top.{IsTop}
use Rattle.fil_ast.specs.Tree.{design_of}
use Rattle.fil_ast.specs.declared.tree.FilComp.{FilComp}
use Rattle.filc_load.proofs.TopLemmas.{top_main, no_main_more, top_last}
use Rattle.filc_load.proofs.top.top_of.Goals as goal

pub returns-then-eq : goal.returns-then-eq
returns-then-eq c =
    let d = c.args.design.now in let n = c.loop-number.number in let item = c.comp-item.result in
    let within : n < length d.comps.items = omega (arith, c.loop-number-test.true, ap length c.deref-comp-items.ensures.value) in
    let is : get_or d.comps.items n item ≡ item = sym (c.comp-item.is ∙ ap (λ comps. get_or comps n item) c.deref-comp-items.ensures.value) in
    top_main d n item within c.loop-number.invariant
    (ap (λ (x : FilComp). text_of d.names x.name) is ∙ text_of-slice_get d.names item.name c.text.result.now c.text.ensures ∙ (bytes_eq-Decides c.text.result.now c.as_bytes.result.now).0 (sym c.eq.ensures ∙ c.if-eq.true) ∙ c.as_bytes.ensures.value)

pub loop-number-preserved : goal.loop-number-preserved
loop-number-preserved c =
    let d = c.args.design.now in let n = c.loop-number.number in let item = c.comp-item.result in
    let within : n < length d.comps.items = omega (arith, c.loop-number-test.true, ap length c.deref-comp-items.ensures.value) in
    let is : get_or d.comps.items n item ≡ item = sym (c.comp-item.is ∙ ap (λ comps. get_or comps n item) c.deref-comp-items.ensures.value) in
    let name : text_of d.names (get_or d.comps.items n item).name ≡ c.text.result.now = ap (λ (x : FilComp). text_of d.names x.name) is ∙ text_of-slice_get d.names item.name c.text.result.now c.text.ensures in
    no_main_more d n item within c.loop-number.invariant
    (λ named.
    let same : true ≡ false = sym ((bytes_eq-Decides c.text.result.now c.as_bytes.result.now).1 (sym name ∙ named ∙ sym c.as_bytes.ensures.value)) ∙ sym c.eq.ensures ∙ c.if-eq.false in cc same)

pub returns : goal.returns
returns c =
    let d = c.args.design.now in
    let all = ap length c.deref-comp-items.ensures.value in
    let count : c.len.result ≡ length d.comps.items = c.len.ensures ∙ sym c.deref-comp-items.ensures.len ∙ all in
    subst (λ k. IsTop (design_of d) (k - 1)) (sym count) (top_last d c.loop-number.number c.requires.some c.loop-number.invariant (omega (arith, c.loop-number-test.false, all)))
