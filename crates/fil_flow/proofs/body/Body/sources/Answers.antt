use Rattle.std.proofs.Common.{List, [], map, take, sym, subst, subst₂}
use Rattle.std.specs.List.{AllZip}
use Rattle.std.proofs.lemmas.List.{take_all}
use Rattle.fil_ast.specs.Naming.{IsKnownValue}
use Rattle.fil_ast.specs.Tree.{ValueTree, value_tree}
use Rattle.fil_ast.specs.Typing.{LiteralFits}
use Rattle.fil_ast.specs.declared.tree.Value.{Value}
use Rattle.fil_sig.proofs.ListLemmas.{All-unmap, map_more}
use Rattle.fil_flow.specs.inside.Body.{IsSourceOf}
use Rattle.fil_flow.specs.declared.plan.Source.{Source}
use Rattle.fil_flow.proofs.PairLemmas.{zip_push}
use Rattle.fil_flow.proofs.body.Body.sources.Goals as goal

pub loop-value-init : goal.loop-value-init
loop-value-init c scope held known =
    let Z : List Source → Type 0 = AllZip (IsSourceOf held) [] in
    subst Z (sym c.new-sources.ensures.items) tt

pub source-requires-clause-known : goal.source-requires-clause-known
source-requires-clause-known c =
    let (scope, held, known, all) = c.requires.known in
    (scope, held, known, All-unmap (IsKnownValue scope) (value_tree c.args.names.now) c.args.values.now all c.loop-value.value-index _ c.loop-value-test.true)

pub source-requires-clause-fits : goal.source-requires-clause-fits
source-requires-clause-fits c =
    All-unmap LiteralFits (value_tree c.args.names.now) c.args.values.now c.requires.fit c.loop-value.value-index _ c.loop-value-test.true

pub loop-value-preserved : goal.loop-value-preserved
loop-value-preserved c scope held known =
    let tree = value_tree c.args.names.now in
    let values = c.args.values.now in
    let n = c.loop-value.value-index in
    let Z : List ValueTree → List Source → Type 0 = AllZip (IsSourceOf held) in
    subst₂ Z (sym (map_more tree values n _ c.loop-value-test.true)) (sym c.in_ok-push.ensures.items)
    (zip_push (IsSourceOf held) (map tree (take n values)) c.loop-value.sources.items _ c.source.result (c.loop-value.invariant scope held known) (c.source.ensures scope held known))

pub returns : goal.returns
returns c scope held known =
    let Z : List Value → Type 0 = λ values. AllZip (IsSourceOf held) (map (value_tree c.args.names.now) values) c.loop-value.sources.items in
    subst Z (take_all c.loop-value.value-index c.args.values.now c.loop-value-test.false) (c.loop-value.invariant scope held known)
