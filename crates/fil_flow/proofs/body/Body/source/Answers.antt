use Rattle.std.proofs.Common.{Some, sym, ap, ap₂, subst, ◌∙◌}
use Rattle.std.specs.Option.{IsSome}
use Rattle.hw_bits.proofs.WidthLemmas.{low_bits-of_lt}
use Rattle.hw_names.specs.Name.{Text, text_of}
use Rattle.hw_names.proofs.NameLemmas.{text_of-slice_get}
use Rattle.fil_ast.specs.Naming.{IsKnownValue}
use Rattle.fil_ast.specs.Scope.{input_of, result_of}
use Rattle.fil_ast.specs.Tree.{InputValue, OutputValue, Literal, value_tree}
use Rattle.fil_ast.specs.Typing.{LiteralFits}
use Rattle.fil_ast.specs.declared.tree.Value.{Value}
use Rattle.fil_flow.proofs.body.Body.source.Goals as goal

pub input_place-requires : goal.input_place-requires
input_place-requires c =
    let (scope, held, known, is) = c.requires.known in
    let names = c.args.names.now in
    let text = c.text.result.now in
    let K : Value → Type 0 = λ value. IsKnownValue scope (value_tree names value) in
    let named = text_of-slice_get names c.in-Port.port text c.text.ensures in
    (c.args.earlier.now, scope, held, known, subst (λ (t : Text). IsSome (input_of scope t)) named (subst K c.in-Port.is is))

pub output_place-requires : goal.output_place-requires
output_place-requires c =
    let (scope, held, known, is) = c.requires.known in
    let names = c.args.names.now in
    let invocation = c.text-invocation.result.now in
    let port = c.text-in-Out.result.now in
    let K : Value → Type 0 = λ value. IsKnownValue scope (value_tree names value) in
    let named = text_of-slice_get names c.in-Out.invocation invocation c.text-invocation.ensures in
    let named_port = text_of-slice_get names c.in-Out.port port c.text-in-Out.ensures in (
      scope,
      held,
      known,
      subst (λ (t : Text). IsSome (result_of scope invocation t)) named_port
          (subst (λ (t : Text). IsSome (result_of scope t (text_of names c.in-Out.port))) named (subst K c.in-Out.is is)),
    )

pub returns-in-Port : goal.returns-in-Port
returns-in-Port c scope held known =
    let names = c.args.names.now in
    let text = c.text.result.now in
    known.input_places c.input_place.result text c.input_place.ensures
    ∙ ap (λ (t : Text). Some (InputValue t)) (sym (text_of-slice_get names c.in-Port.port text c.text.ensures))
    ∙ ap (λ (value : Value). Some (value_tree names value)) (sym c.in-Port.is)

pub returns-in-Out : goal.returns-in-Out
returns-in-Out c scope held known =
    let names = c.args.names.now in
    let invocation = c.text-invocation.result.now in
    let port = c.text-in-Out.result.now in
    c.output_place.ensures scope held known
    ∙ ap₂ (λ (t u : Text). Some (OutputValue t u))
    (sym (text_of-slice_get names c.in-Out.invocation invocation c.text-invocation.ensures)) (sym (text_of-slice_get names c.in-Out.port port c.text-in-Out.ensures))
    ∙ ap (λ (value : Value). Some (value_tree names value)) (sym c.in-Out.is)

pub returns-in-Lit : goal.returns-in-Lit
returns-in-Lit c scope held known =
    let names = c.args.names.now in
    let L : Value → Type 0 = λ value. LiteralFits (value_tree names value) in
    let fits = (subst L c.in-Lit.is c.requires.fits).1 in
    ap (value_tree names) c.in-Lit.is
    ∙ ap₂ Literal (sym c.wrap.ensures.width) (sym (c.wrap.ensures.value ∙ low_bits-of_lt c.in-Lit.width c.in-Lit.value fits))
