use Rattle.std.proofs.Common.{◌≡◌, ◌<◌, List, length, map, take, slice_get, Some, refl, sym, ap, subst, ◌∙◌}
use Rattle.std.specs.Prelude.{IfOk}
use Rattle.std.proofs.lemmas.Option.{same_Some}
use Rattle.fil_ast.specs.Naming.{component_names}
use Rattle.fil_ast.specs.Tree.{Component, Design, component_tree, design_of}
use Rattle.fil_ast.specs.Wires.{whole_scope}
use Rattle.fil_ast.specs.declared.tree.FilComp.{FilComp}
use Rattle.fil_ast.specs.declared.tree.FilDesign.{FilDesign}
use Rattle.fil_share.specs.Instances.{MakesInstances, ShowsScope}
use Rattle.fil_share.specs.declared.instances.Instances.{Instances}
use Rattle.fil_share.proofs.Lookup.{at_mapped}
use Rattle.fil_share.proofs.MakesLemmas.{makes_instances, map_take}
use Rattle.fil_share.proofs.instances.Instances.make.Goals as goal

pub of_body-requires-clause-known : goal.of_body-requires-clause-known
of_body-requires-clause-known c =
    let d = c.design-design.result.now in
    let n = c.args.comp in
    c.requires.known ∙ ap (λ (e : FilDesign). component_names (take n (design_of e))) (sym c.design-design.ensures.same)
    ∙ ap component_names (sym (map_take (component_tree d.names) n d.comps.items))
    ∙ ap (λ (cs : List FilComp). component_names (map (component_tree d.names) (take n cs))) (sym c.deref.ensures.value)

pub of_body-requires-clause-makes : goal.of_body-requires-clause-makes
of_body-requires-clause-makes c =
    let d = c.design-design.result.now in
    let n = c.args.comp in
    let x = c.index.result.now in
    let within : n < length d.comps.items = subst (λ (e : FilDesign). n < length e.comps.items) (sym c.design-design.ensures.same) c.requires.comp in
    let at : slice_get (design_of d) n ≡ Some (component_tree d.names x) = at_mapped (component_tree d.names) d.comps.items d.comps.items n x refl within c.index.ensures in
    let before : take n (design_of d) ≡ map (component_tree d.names) (take n c.deref.result.now) =
    sym (map_take (component_tree d.names) n d.comps.items) ∙ ap (λ (cs : List FilComp). map (component_tree d.names) (take n cs)) (sym c.deref.ensures.value) in
    let M : Design → Type 0 = λ ds. MakesInstances ds (component_tree d.names x).body in
    subst M before (makes_instances (design_of d) c.design-design.ensures.rules n (component_tree d.names x) at)

pub returns : goal.returns
returns c tree there =
    let d = c.design-design.result.now in
    let n = c.args.comp in
    let x = c.index.result.now in
    let within : n < length d.comps.items = subst (λ (e : FilDesign). n < length e.comps.items) (sym c.design-design.ensures.same) c.requires.comp in
    let at : slice_get (design_of d) n ≡ Some (component_tree d.names x) = at_mapped (component_tree d.names) d.comps.items d.comps.items n x refl within c.index.ensures in
    let before : map (component_tree d.names) (take n c.deref.result.now) ≡ take n (design_of c.args.ok.now) =
    ap (λ (cs : List FilComp). map (component_tree d.names) (take n cs)) c.deref.ensures.value ∙ map_take (component_tree d.names) n d.comps.items
    ∙ ap (λ (e : FilDesign). take n (design_of e)) c.design-design.ensures.same in
    let same : component_tree d.names x ≡ tree = same_Some (component_tree d.names x) tree (sym at ∙ ap (λ (e : FilDesign). slice_get (design_of e) n) c.design-design.ensures.same ∙ there) in
    let Q : Design → Component → Type 0 = λ ds k. IfOk c.of_body.result (λ (i : Instances). ShowsScope i (whole_scope ds k)) in
    subst (λ (ds : Design). Q ds tree) before (subst (λ (k : Component). Q (map (component_tree d.names) (take n c.deref.result.now)) k) same c.of_body.ensures)
