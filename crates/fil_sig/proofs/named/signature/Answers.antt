use Rattle.std.proofs.Common.{◌≡◌, Some, subst, sym}
use Rattle.std.specs.Prelude.{IfOk, IfErr, OnOk}
use Rattle.std.proofs.lemmas.List.Elements.{All-contains}
use Rattle.std.proofs.lemmas.Option.{IfSome_then}
use Rattle.hw_names.specs.Name.{Text}
use Rattle.hw_names.proofs.NameLemmas.{text_of-slice_get}
use Rattle.fil_ast.specs.Scope.{signature_in}
use Rattle.fil_ast.specs.Tree.{design_of}
use Rattle.fil_ast.specs.Limits.{KeepsLimits}
use Rattle.fil_sig.specs.Refusals.{IsUsable, TellsCause}
use Rattle.fil_sig.specs.Seen.{seen}
use Rattle.fil_sig.proofs.named.signature.Goals as goal

pub used_signature-requires-clause-small : goal.used_signature-requires-clause-small
used_signature-requires-clause-small c =
    IfSome_then c.component_named-comp.result c.component_named-comp.ensures.among (λ x among. All-contains KeepsLimits c.args.design.now.comps.items x.now c.requires.small among)

pub returns-clause-made : goal.returns-clause-made
returns-clause-made c =
    let comps = design_of c.args.design.now in
    let named = text_of-slice_get c.args.design.now.names c.args.name c.text-text.result.now c.text-text.ensures in
    let T : Text → Type 0 = λ t. IfOk c.used_signature.result (λ sig. signature_in comps t c.args.params.now ≡ Some (seen sig)) in
    subst T (sym named) (c.used_signature.ensures.made comps (sym c.component_named-comp.ensures.found))

pub returns-clause-usable : goal.returns-clause-usable
returns-clause-usable c =
    let comps = design_of c.args.design.now in
    let named = text_of-slice_get c.args.design.now.names c.args.name c.text-text.result.now c.text-text.ensures in
    let T : Text → Type 0 = λ t. OnOk c.used_signature.result (IsUsable comps t c.args.params.now) in
    subst T (sym named) (c.used_signature.ensures.usable comps (sym c.component_named-comp.ensures.found))

pub returns-clause-refused : goal.returns-clause-refused
returns-clause-refused c =
    let comps = design_of c.args.design.now in
    let named = text_of-slice_get c.args.design.now.names c.args.name c.text-text.result.now c.text-text.ensures in
    let T : Text → Type 0 = λ t. IfErr c.used_signature.result (TellsCause comps t c.args.params.now) in
    subst T (sym named) (c.used_signature.ensures.refused comps (sym c.component_named-comp.ensures.found))
