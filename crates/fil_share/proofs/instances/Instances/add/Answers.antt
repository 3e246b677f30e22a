use Rattle.std.proofs.Common.{List, [], ◌∷◌, ◌++◌, map, All, Contains, sym, ap, ap₂, subst, ◌∙◌}
use Rattle.std.proofs.lemmas.List.{map-append}
use Rattle.std.proofs.lemmas.List.Elements.{All-push}
use Rattle.hw_names.specs.Name.{Text}
use Rattle.fil_ast.specs.Scope.{Instance}
use Rattle.fil_sig.specs.declared.time_sig.TimeSig.{TimeSig}
use Rattle.fil_share.specs.Instances.{IsSmall, known_signature, signature_of}
use Rattle.fil_share.proofs.Lookup.{name_added}
use Rattle.fil_share.proofs.instances.Instances.add.Goals as goal

pub returns : goal.returns
returns c comps instances i shown named signed small new =
    let old = c.args.self.now in
    let name = c.args.name.now in
    let items = c.in_ok-push.ensures.items in
    let absent : Contains old.names name → ⊥ = λ there.
    (let A : List Text → Type 0 = λ ts. Contains ts i.name in
    new (subst A shown.names (subst (λ (t : Text). Contains old.names t) (sym named) there))) in
    let added = name_added old.names c.add_name.new.names name c.in_ok-_new._new c.add_name.result c.in_ok-_new.was absent c.add_name.ensures.new c.add_name.ensures.there in
    let S : List TimeSig → Type 0 = λ sigs. All IsSmall sigs in
    record {
      names = added ∙ ap₂ (λ ts t. ts ++ t ∷ []) shown.names (sym named) ∙ sym (map-append (λ (i : Instance). i.name) instances (i ∷ []));
      sigs =
          ap (map known_signature) items ∙ map-append known_signature old.sigs.items (c.args.sig ∷ [])
          ∙ ap₂ (λ os o. os ++ o ∷ []) shown.sigs (sym signed) ∙ sym (map-append (signature_of comps) instances (i ∷ []));
      small = subst S (sym items) (All-push IsSmall old.sigs.items c.args.sig shown.small small);
    }
