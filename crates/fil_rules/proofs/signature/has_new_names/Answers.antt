use Rattle.std.proofs.Common.{List, Contains, is_some, ap, sym, subst, ◌∙◌}
use Rattle.std.proofs.lemmas.Bool.Decides.{not_from_Decides}
use Rattle.hw_names.specs.Name.{Text, text_of}
use Rattle.hw_names.proofs.NameLemmas.{text_of-slice_get}
use Rattle.fil_ast.specs.Primitives.{is_any_primitive}
use Rattle.fil_rules.proofs.signature.has_new_names.Goals as goal

pub returns-clause-kept : goal.returns-clause-kept
returns-clause-kept c is earlier same =
    let names = c.args.around.now.names.now in
    let comp = c.args.around.now.comp.now in
    let named = text_of-slice_get names comp.name c.text-name.result.now c.text-name.ensures in
    let absent = not_from_Decides (is_some c.find.result) c.find.ensures.present (sym c.is_some.ensures ∙ c.if-is_some.false) in
    let C : Text → Type 0 = Contains c.args.around.now.earlier.now.names in
    let N : List Text → Type 0 = λ known. Contains known (text_of names comp.name) in
    record {
      no_primitive = ap is_any_primitive named ∙ sym c.is_any_primitive.ensures ∙ c.if-is_any_primitive.false;
      new = λ there. absent (subst C named (subst N (sym same) there));
      events = (c.take_signature_names.ensures.new is).0;
      ports = (c.take_signature_names.ensures.new is).1;
    }

pub returns-clause-broken : goal.returns-clause-broken
returns-clause-broken c is earlier same new = c.take_signature_names.ensures.there is (new.events, new.ports)
