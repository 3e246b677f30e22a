use Rattle.std.proofs.Common.{◌≡◌, ◌<◌, ◌≤◌, List, All, Vec, Global, length, map, flat_map, take, slice_get, Some, refl, sym, ap, subst, ◌∙◌, arith}
use Rattle.std.specs.Prelude.{IfOk}
use Rattle.std.proofs.lemmas.List.{length-map}
use Rattle.std.proofs.lemmas.Option.{same_Some, slice_get_read}
use Rattle.hw_names.specs.Name.{Text, AreDistinct}
use Rattle.fil_ast.specs.Holds.{holds_of}
use Rattle.fil_ast.specs.Limits.{KeepsLimits}
use Rattle.fil_ast.specs.Naming.{component_names}
use Rattle.fil_ast.specs.Scope.{invocations_at}
use Rattle.fil_ast.specs.Tree.{Component, component_tree, design_of}
use Rattle.fil_ast.specs.Wires.{whole_scope}
use Rattle.fil_ast.specs.declared.tree.FilComp.{FilComp}
use Rattle.fil_ast.specs.declared.tree.FilDesign.{FilDesign}
use Rattle.fil_share.specs.Uses.{HoldHasNumbers, held_by, shown_hold, shown_use, starts_of}
use Rattle.fil_share.specs.declared.hold.Hold.{Hold}
use Rattle.fil_share.proofs.Lookup.{at_mapped}
use Rattle.fil_share.proofs.MakesLemmas.{map_take, names_differ}
use Rattle.fil_share.proofs.transactions.holds.Goals as goal

pub component_names-requires-clause-distinct : goal.component_names-requires-clause-distinct
component_names-requires-clause-distinct c =
    let d = c.design-design.result.now in
    let n = c.args.comp in
    let within : n < length d.comps.items = subst (λ (e : FilDesign). n < length e.comps.items) (sym c.design-design.ensures.same) c.requires.comp in
    let inside : n ≤ length (design_of d) = omega (arith, length-map d.comps.items (component_tree d.names)) in
    let D : List Text → Type 0 = AreDistinct in
    let names : component_names (take n (design_of d)) ≡ component_names (map (component_tree d.names) (take n c.deref.result.now)) =
    ap component_names (sym (map_take (component_tree d.names) n d.comps.items) ∙ ap (λ (cs : List FilComp). map (component_tree d.names) (take n cs)) (sym c.deref.ensures.value)) in
    subst D names (names_differ (design_of d) c.design-design.ensures.rules n inside)

pub make-requires-clause-known : goal.make-requires-clause-known
make-requires-clause-known c =
    let d = c.design-design.result.now in
    let n = c.args.comp in
    c.in_ok-known.ensures
    ∙ ap component_names (ap (λ (cs : List FilComp). map (component_tree d.names) (take n cs)) c.deref.ensures.value ∙ map_take (component_tree d.names) n d.comps.items)
    ∙ ap (λ (e : FilDesign). component_names (take n (design_of e))) c.design-design.ensures.same

pub component_uses-requires-clause-small : goal.component_uses-requires-clause-small
component_uses-requires-clause-small c =
    let d = c.design-design.result.now in
    let n = c.args.comp in
    let within : n < length d.comps.items = subst (λ (e : FilDesign). n < length e.comps.items) (sym c.design-design.ensures.same) c.requires.comp in
    let K : FilComp → Type 0 = KeepsLimits in
    subst K (sym c.index.ensures) (c.design-design.ensures.small n c.index.result.now within)

pub component_uses-requires-clause-shown : goal.component_uses-requires-clause-shown
component_uses-requires-clause-shown c =
    let d = c.design-design.result.now in
    let n = c.args.comp in
    let x = c.index.result.now in
    let within : n < length d.comps.items = subst (λ (e : FilDesign). n < length e.comps.items) (sym c.design-design.ensures.same) c.requires.comp in
    let at : slice_get (design_of c.args.ok.now) n ≡ Some (component_tree d.names x) =
    ap (λ (e : FilDesign). slice_get (design_of e) n) (sym c.design-design.ensures.same) ∙ at_mapped (component_tree d.names) d.comps.items d.comps.items n x refl within c.index.ensures in
    (whole_scope (take n (design_of c.args.ok.now)) (component_tree d.names x), c.in_ok-instances.ensures (component_tree d.names x) at)

pub all_holds-requires-clause-events : goal.all_holds-requires-clause-events
all_holds-requires-clause-events c =
    let d = c.design-design.result.now in
    let n = c.args.comp in
    let x = c.index-2.result.now in
    let within : n < length d.comps.items = subst (λ (e : FilDesign). n < length e.comps.items) (sym c.design-design.ensures.same) c.requires.comp in
    c.requires.events x (ap (λ (e : FilDesign). slice_get e.comps.items n) (sym c.design-design.ensures.same) ∙ slice_get_read d.comps.items (length d.comps.items) n x refl within c.index-2.ensures)

pub returns-clause-numbered : goal.returns-clause-numbered
returns-clause-numbered c =
    let N : FilDesign → Type 0 = λ e. IfOk c.all_holds.result (λ (hs : Vec Hold Global). All (HoldHasNumbers e.names) hs.items) in
    subst N c.design-design.ensures.same c.all_holds.ensures.numbered

pub returns-clause-shown : goal.returns-clause-shown
returns-clause-shown c tree there =
    let d = c.design-design.result.now in
    let n = c.args.comp in
    let x = c.index.result.now in
    let y = c.index-2.result.now in
    let same = c.design-design.ensures.same in
    let scope = whole_scope (take n (design_of c.args.ok.now)) tree in
    let within : n < length d.comps.items = subst (λ (e : FilDesign). n < length e.comps.items) (sym same) c.requires.comp in
    let at_x : slice_get (design_of c.args.ok.now) n ≡ Some (component_tree d.names x) =
    ap (λ (e : FilDesign). slice_get (design_of e) n) (sym same) ∙ at_mapped (component_tree d.names) d.comps.items d.comps.items n x refl within c.index.ensures in
    let at_y : slice_get (design_of c.args.ok.now) n ≡ Some (component_tree d.names y) =
    ap (λ (e : FilDesign). slice_get (design_of e) n) (sym same) ∙ at_mapped (component_tree d.names) d.comps.items d.comps.items n y refl within c.index-2.ensures in
    let is_x : component_tree d.names x ≡ tree = same_Some (component_tree d.names x) tree (sym at_x ∙ there) in
    let is_y : component_tree d.names y ≡ tree = same_Some (component_tree d.names y) tree (sym at_y ∙ there) in
    let uses : map (shown_use d.names) c.deref-2.result.now ≡ flat_map (held_by scope) scope.invocations =
    ap (map (shown_use d.names)) c.deref-2.ensures.value ∙ c.in_ok-uses.ensures.meaning scope (c.in_ok-instances.ensures tree there)
    ∙ ap (λ (k : Component). flat_map (held_by scope) (flat_map invocations_at k.body)) is_x in
    let Q : FilDesign → Component → Type 0 = λ e k. IfOk c.all_holds.result (λ (hs : Vec Hold Global). map (shown_hold e.names) hs.items ≡ holds_of scope (starts_of k c.args.txs.now)) in
    subst (λ (e : FilDesign). Q e tree) same (subst (λ (k : Component). Q d k) is_y (c.all_holds.ensures.shown scope uses))
