use Rattle.std.proofs.Common.{◌≡◌, ◌+◌, ◌<◌, List, [], ◌∷◌, ◌++◌, length, map, take, drop, get_or, Contains, sym, ap, subst, ◌∙◌}
use Rattle.std.proofs.lemmas.Simd.{map-map}
use Rattle.hw_names.specs.Name.{Text, AreDistinct}
use Rattle.fil_ast.specs.Tree.{Component, component_tree}
use Rattle.fil_ast.specs.declared.tree.FilComp.{FilComp}
use Rattle.fil_sig.proofs.ListLemmas.{comes_twice, map_at, map_more}
use Rattle.fil_share.proofs.callees.component_names.Goals as goal

pub loop-comp-preserved : goal.loop-comp-preserved
loop-comp-preserved c =
    let names = c.args.names.now in
    let comps = c.args.comps.now in
    let i = c.loop-comp.comp-index in
    let x = c.comp-item.result in
    let within : i < length comps = c.loop-comp-test.true in
    let old = c.loop-comp.known in
    let F = λ (k : FilComp). (component_tree names k).name in
    let D : List Text → Type 0 = AreDistinct in
    let name_of = λ (k : Component). k.name in
    let so_far : old ≡ map F (take i comps) = c.loop-comp.invariant ∙ map-map name_of (component_tree names) (take i comps) in
    let distinct : AreDistinct (map F comps) = subst D (map-map name_of (component_tree names) comps) c.requires.distinct in
    let same : F x ≡ F (get_or comps i x) = ap F c.comp-item.is in
    let absent : Contains old (F x) → ⊥ = λ there.
    (let K : List Text → Type 0 = λ ts. Contains ts (F x) in
    let L : Text → Type 0 = λ t. Contains (map F (take i comps)) t in
    comes_twice (map F (take i comps)) (map F (drop (i + 1) comps)) (F (get_or comps i x)) (subst L same (subst K so_far there)) (subst D (map_at F comps i x within) distinct)) in
    c.in_ok-add_component_name.ensures absent ∙ ap (λ ts. ts ++ F x ∷ []) so_far ∙ ap (λ t. map F (take i comps) ++ t ∷ []) same
    ∙ sym (map_more F comps i x within) ∙ sym (map-map name_of (component_tree names) (take (i + 1) comps))
