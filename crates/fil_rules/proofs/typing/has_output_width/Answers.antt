use Rattle.std.proofs.Common.{ap, ◌∙◌, sym}
use Rattle.hw_names.specs.Name.{text_of}
use Rattle.hw_names.proofs.NameLemmas.{text_of-slice_get}
use Rattle.fil_ast.specs.Scope.{output_of}
use Rattle.fil_ast.specs.Tree.{value_tree}
use Rattle.fil_ast.specs.Typing.{value_width}
use Rattle.fil_place.proofs.StatementLemmas.{output_width, no_output_width}
use Rattle.fil_rules.proofs.typing.has_output_width.Goals as goal

pub returns-in-Some : goal.returns-in-Some
returns-in-Some c scope place =
    let names = c.args.place.now.names.now in
    let named = text_of-slice_get names c.args.dst c.text.result.now c.text.ensures in
    output_width (output_of scope (text_of names c.args.dst)) _ (value_width scope (value_tree names c.args.value)) c.has_width.result
    (c.in-Some.ensures.meaning names c.args.place.now.earlier.now scope place ∙ ap (output_of scope) (sym named)) (c.has_width.ensures scope place)

pub returns-in-None : goal.returns-in-None
returns-in-None c scope place =
    let names = c.args.place.now.names.now in
    let named = text_of-slice_get names c.args.dst c.text.result.now c.text.ensures in
    no_output_width (output_of scope (text_of names c.args.dst)) (value_width scope (value_tree names c.args.value))
    (c.in-None.ensures.meaning names c.args.place.now.earlier.now scope place ∙ ap (output_of scope) (sym named))
