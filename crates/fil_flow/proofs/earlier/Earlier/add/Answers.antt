use Rattle.std.proofs.Common.{◌≡◌, List, [], ◌∷◌, ◌++◌, map, Ok, Contains, ap, sym, subst, ◌∙◌, refl, arith}
use Rattle.hw_names.specs.Name.{AreDistinct, Text}
use Rattle.hw_names.proofs.NameLemmas.{text_of-slice_get}
use Rattle.fil_ast.specs.Items.{TheSignature}
use Rattle.fil_ast.specs.Naming.{component_names}
use Rattle.fil_ast.specs.Rules.{F1}
use Rattle.fil_ast.specs.Tree.{component_tree, port_tree}
use Rattle.fil_ast.specs.declared.tree.FilPort.{FilPort}
use Rattle.fil_flow.specs.inside.Body.{data_names}
use Rattle.fil_flow.proofs.PortLemmas.{added, earlier_more, outputs_differ}
use Rattle.fil_flow.proofs.earlier.Earlier.add.Goals as goal

pub returns : goal.returns
returns c before known keeps =
    let old = c.args.self.now in
    let comp = component_tree c.args.names.now c.args.comp.now in
    let new_names = keeps 0 TheSignature refl 0 F1 (omega arith) in
    let text = c.text.result.now in
    let named : comp.name ≡ text = text_of-slice_get c.args.names.now c.args.comp.now.name text c.text.ensures in
    let absent : Contains old.names text → ⊥ = λ there.
    new_names.new (subst (λ (t : Text). Contains (component_names before) t) (sym named) (subst (λ (ts : List Text). Contains ts text) known.names there)) in
    let names = added old.names c.add_name.new.names text c.in_ok-_new._new absent (λ yes. c.in_ok-_new.ensures.new (ap Ok yes)) (λ no. c.in_ok-_new.ensures.there (ap Ok no)) in
    let O : List FilPort → Type 0 = λ ports. AreDistinct (data_names (map (port_tree c.args.names.now) ports)) → c.in_ok-outs.outs ≡ data_names (map (port_tree c.args.names.now) ports) in
    let outs = subst O c.deref.ensures.value c.in_ok-outs.ensures in
    earlier_more before comp new_names old _ known (names ∙ ap (λ (t : Text). old.names ++ t ∷ []) (sym named))
    (c.in_ok-push.ensures.items ∙ ap (λ (outs : List Text). old.outs.items ++ outs ∷ []) (outs (outputs_differ before comp new_names)))
