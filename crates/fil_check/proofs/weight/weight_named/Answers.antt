use Rattle.std.proofs.Common.{Contains, is_some, sym, ap, subst, reverse, ◌∙◌}
use Rattle.std.specs.Option.{unwrap_or}
use Rattle.std.proofs.lemmas.Bool.Decides.{not_from_Decides}
use Rattle.hw_names.proofs.NameLemmas.{text_of-slice_get}
use Rattle.fil_ast.specs.Weight.{weight_of}
use Rattle.fil_check.specs.inside.Weights.{capped}
use Rattle.fil_place.proofs.LookupLemmas.{got}
use Rattle.fil_check.proofs.WeightLemmas.{nothing_named, weight_found}
use Rattle.fil_check.proofs.weight.weight_named.Goals as goal

pub returns-in-Some : goal.returns-in-Some
returns-in-Some c comps shown are =
    let text = c.text.result.now in
    let k = c.in-Some.number.0 in
    let weights = c.args.weights.now in
    let named = text_of-slice_get c.args.names.now c.args.made text c.text.ensures in
    c.unwrap_or.ensures ∙ ap (λ o. unwrap_or o 0) (c.copied.ensures ∙ got weights k c.get.result c.get.ensures.lookup
    ∙ weight_found c.args.earlier.now.names comps weights shown.names are k text c.in-Some.ensures.text)
    ∙ ap (λ t. capped (weight_of (reverse comps) t)) (sym named)

pub returns-in-None : goal.returns-in-None
returns-in-None c comps shown are =
    let text = c.text.result.now in
    let named = text_of-slice_get c.args.names.now c.args.made text c.text.ensures in
    let absent = λ (there : Contains c.args.earlier.now.names text). not_from_Decides (is_some c.find.result) c.find.ensures.present (ap is_some c.in-None.is) there in
    let nothing = nothing_named comps text (λ there. absent (subst (λ ts. Contains ts text) (sym shown.names) there)) in
    sym (ap (λ t. capped (weight_of (reverse comps) t)) named ∙ ap capped nothing)
