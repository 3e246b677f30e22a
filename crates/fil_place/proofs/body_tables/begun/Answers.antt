use Rattle.fil_ast.specs.Tree.{component_tree}
use Rattle.fil_place.proofs.BodyLemmas.{were_new}
use Rattle.fil_place.proofs.body_tables.begun.Goals as goal

pub returns : goal.returns
returns c comps shows new =
    let tree = component_tree c.args.around.now.names.now c.args.around.now.comp.now in
    let is = were_new c.in_ok-_are_new._are_new c.take_signature_names.result c.in_ok-_are_new.was (λ clash. c.take_signature_names.ensures.there clash (new.events, new.ports)) in
    c.new.ensures.shows c.args.around.now.earlier.now comps tree shows (c.take_signature_names.ensures.events is) (c.take_signature_names.ensures.ports is)
