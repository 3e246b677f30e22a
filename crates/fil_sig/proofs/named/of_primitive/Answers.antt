use Rattle.std.proofs.Common.{◌≡◌, inr, Option, None, Err, option_map, refl, sym, ap, ◌∙◌}
use Rattle.std.specs.Option.{option_and_then}
use Rattle.hw_names.specs.Name.{Text}
use Rattle.hw_prims.specs.Table.{prim_of}
use Rattle.fil_ast.specs.Primitives.{signature_by, timing_of}
use Rattle.fil_sig.proofs.PinLemmas.{makes_none}
use Rattle.fil_sig.proofs.named.of_primitive.Goals as goal

pub returns-in-Err-clause-refused : goal.returns-in-Err-clause-refused
returns-in-Err-clause-refused c =
    let name = c.args.name.now in
    let params = c.args.params.now in
    let none = makes_none c.as_bytes.result.now params c.in-Err.field-0 (λ e. c.make.ensures.unknown.0 (c.in-Err.is ∙ ap Err e)) (λ e. (c.make.ensures.bad.0 (c.in-Err.is ∙ ap Err e)).1) in
    let named : prim_of c.args.table.now params ≡ None = ap (λ t. prim_of t params) (sym c.as_bytes.ensures.value) ∙ none in
    inr (refl, ap (λ (o : Option Text). option_map (signature_by (timing_of name)) (option_and_then (λ table. prim_of table params) o)) c.requires ∙ ap (option_map (signature_by (timing_of name))) named)
