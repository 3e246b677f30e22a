use Rattle.std.proofs.Common.{List, Contains, ap, sym, subst, ◌∙◌}
use Rattle.hw_names.specs.Name.{Text, AreDistinct}
use Rattle.hw_names.proofs.NameLemmas.{text_of-slice_get}
use Rattle.fil_ast.specs.Signature.{Signature}
use Rattle.fil_ast.specs.Tree.{component_tree}
use Rattle.fil_place.specs.Callees.{HasGoodTimes}
use Rattle.fil_place.specs.Outputs.{output_names}
use Rattle.fil_place.proofs.ComponentLemmas.{new_names, widths, shape, outputs_differ, few_events, good_times, names_more, callees_more}
use Rattle.fil_place.proofs.GeneralLemmas.{name_added}
use Rattle.fil_place.proofs.earlier.add_component.Goals as goal

pub component_signature-requires-clause-few : goal.component_signature-requires-clause-few
component_signature-requires-clause-few c =
    let tree = component_tree c.args.names.now c.args.comp.now in
    few_events c.args.names.now c.args.comp.now (shape c.requires.kept.0 tree c.requires.kept.2)

pub component_signature-requires-clause-wide : goal.component_signature-requires-clause-wide
component_signature-requires-clause-wide c =
    widths c.requires.kept.0 (component_tree c.args.names.now c.args.comp.now) c.requires.kept.2

pub make-requires-clause-outputs : goal.make-requires-clause-outputs
make-requires-clause-outputs c =
    let D : List Text → Type 0 = AreDistinct in
    subst D (ap output_names (sym c.in_ok-sig.ensures)) (outputs_differ c.requires.kept.0 (component_tree c.args.names.now c.args.comp.now) c.requires.kept.2)

pub make-requires-clause-times : goal.make-requires-clause-times
make-requires-clause-times c =
    let G : Signature → Type 0 = HasGoodTimes in
    let tree = component_tree c.args.names.now c.args.comp.now in
    subst G (sym c.in_ok-sig.ensures) (good_times c.args.names.now c.args.comp.now c.requires.small (shape c.requires.kept.0 tree c.requires.kept.2))

pub returns : goal.returns
returns c comps shows =
    let tree = component_tree c.args.names.now c.args.comp.now in
    let old = c.args.earlier.now in
    let known = c.requires.kept.0 in
    let name = c.text.result.now in
    let named = text_of-slice_get c.args.names.now c.args.comp.now.name name c.text.ensures in
    let K : Text → Type 0 = λ t. Contains old.names t in
    let absent : Contains old.names name → ⊥ = λ there.
    (let M : List Text → Type 0 = λ ts. Contains ts tree.name in
    (new_names known tree c.requires.kept.2).new (subst M c.requires.kept.1.names (subst K (sym named) there))) in
    let added = name_added old.names c.add_name.new.names name c.in_ok-_new._new c.add_name.result c.in_ok-_new.was absent c.add_name.ensures.new c.add_name.ensures.there in
    record {
      names = names_more comps tree old.names c.add_name.new.names name shows.names named added;
      callees = callees_more comps tree old.callees.items c.push.new.self.items c.in_ok-callee.callee shows.callees (c.in_ok-callee.ensures ∙ c.in_ok-sig.ensures) c.in_ok-push.ensures.items;
    }
