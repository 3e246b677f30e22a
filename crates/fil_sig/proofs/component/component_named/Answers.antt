use Rattle.std.proofs.Common.{◌≡◌, ◌<◌, List, length, map, get_or, Option, Some, bytes_eq, refl, sym, ap, ◌∙◌, arith}
use Rattle.hw_names.specs.Name.{text_of}
use Rattle.hw_names.proofs.NameLemmas.{text_of-slice_get}
use Rattle.fil_ast.specs.Scope.{component_named}
use Rattle.fil_ast.specs.Tree.{Component, component_tree}
use Rattle.fil_ast.specs.declared.tree.FilComp.{FilComp}
use Rattle.fil_sig.proofs.ListLemmas.{found_at, missed_at}
use Rattle.fil_sig.proofs.component.component_named.Goals as goal

pub returns-then-eq-clause-found : goal.returns-then-eq-clause-found
returns-then-eq-clause-found c =
    let names = c.args.design.now.names in
    let comps = c.args.design.now.comps.items in
    let name = c.args.name.now in
    let i = c.loop-comp.comp-index in
    let item = c.comp-item.result in
    let is : item ≡ get_or comps i item = c.comp-item.is ∙ ap (λ (xs : List FilComp). get_or xs i item) c.deref-comp-items.ensures.value in
    let within : i < length comps = omega (arith, ap length c.deref-comp-items.ensures.value) in
    let test = λ (k : FilComp). bytes_eq (text_of names k.name) name in
    let yes = ap test (sym is) ∙ ap (λ t. bytes_eq t name) (text_of-slice_get names item.name c.text.result.now c.text.ensures) ∙ sym c.eq.ensures ∙ c.if-eq.true in
    ap (λ (k : FilComp). Some (component_tree names k)) is
    ∙ sym (found_at (λ (ks : List FilComp). component_named (map (component_tree names) ks) name) test (λ (k : FilComp). Some (component_tree names k)) (λ (o : Option Component). o) (λ k ks. refl) comps i item within yes)
    ∙ c.loop-comp.invariant

pub loop-comp-preserved : goal.loop-comp-preserved
loop-comp-preserved c =
    let names = c.args.design.now.names in
    let comps = c.args.design.now.comps.items in
    let name = c.args.name.now in
    let i = c.loop-comp.comp-index in
    let item = c.comp-item.result in
    let is : item ≡ get_or comps i item = c.comp-item.is ∙ ap (λ (xs : List FilComp). get_or xs i item) c.deref-comp-items.ensures.value in
    let within : i < length comps = omega (arith, ap length c.deref-comp-items.ensures.value) in
    let test = λ (k : FilComp). bytes_eq (text_of names k.name) name in
    let no = ap test (sym is) ∙ ap (λ t. bytes_eq t name) (text_of-slice_get names item.name c.text.result.now c.text.ensures) ∙ sym c.eq.ensures ∙ c.if-eq.false in
    sym (missed_at (λ (ks : List FilComp). component_named (map (component_tree names) ks) name) test (λ (k : FilComp). Some (component_tree names k)) (λ (o : Option Component). o) (λ k ks. refl) comps i item within no)
    ∙ c.loop-comp.invariant
