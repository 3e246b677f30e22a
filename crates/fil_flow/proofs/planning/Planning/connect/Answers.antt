use Rattle.std.proofs.Common.{Contains, sym, subst, ap, Some, refl, ◌∙◌, arith}
use Rattle.std.proofs.lemmas.Bool.{false≢true}
use Rattle.hw_names.specs.Name.{Text, text_of}
use Rattle.hw_names.proofs.NameLemmas.{text_of-slice_get}
use Rattle.fil_ast.specs.Tree.{value_tree}
use Rattle.fil_flow.proofs.PlanningLemmas.{output_unknown, output_within, planning_connect}
use Rattle.fil_flow.proofs.planning.Planning.connect.Goals as goal

pub index_mut-requires : goal.index_mut-requires
index_mut-requires c =
    let (scope, done, known, kept) = c.requires.known in
    let old = c.args.self.now in
    let within = output_within c.args.earlier.now scope done old c.in-Some.number.0 c.text.result.now known c.in-Some.ensures.text in
    omega (arith, within, old.outs.ok.0)

pub unreachable-requires : goal.unreachable-requires
unreachable-requires c =
    let (scope, done, known, kept) = c.requires.known in
    let old = c.args.self.now in
    let text = c.text.result.now in
    let named = text_of-slice_get c.args.names.now c.args.output text c.text.ensures in
    output_unknown c.args.earlier.now scope done old (text_of c.args.names.now c.args.output) known
    (λ there. false≢true (c.in-None.ensures.present.1 (subst (λ (t : Text). Contains old.out_names t) named there))) kept.known.0

pub returns : goal.returns
returns c scope done known kept =
    let names = c.args.names.now in
    let old = c.args.self.now in
    let text = c.text.result.now in
    let named = text_of-slice_get names c.args.output text c.text.ensures in
    planning_connect c.args.earlier.now scope done old known (text_of names c.args.output) (value_tree names c.args.value) c.in-Some.number.0 c.source.result _ kept c.in-Some.ensures.distinct
    (c.in-Some.ensures.text ∙ ap Some (sym named)) (c.source.ensures scope known.held known.body) refl
