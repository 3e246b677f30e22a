use Rattle.std.proofs.Common.{◌≡◌, List, flat_map, map, take, slice_get, Some, sym, ap, subst, ◌∙◌, arith}
use Rattle.fil_ast.specs.Limits.{KeepsStatementLimit}
use Rattle.fil_ast.specs.Numbers.{StatementHasNumbers}
use Rattle.fil_ast.specs.Scope.{Scope, invocations_at}
use Rattle.fil_ast.specs.Tree.{Component, Statement, statement_tree}
use Rattle.fil_share.proofs.Lookup.{at_mapped}
use Rattle.fil_lower.specs.inside.Place.{greatest, wanted_by_ports}
use Rattle.fil_lower.proofs.BodyLemmas.{item_at}
use Rattle.fil_lower.proofs.StepLemmas.{All-at, greatest_walk, ord_max-max, whole_taken}
use Rattle.fil_lower.proofs.body.Body.last_of_arguments.Goals as goal

pub last_of_statement-requires-clause-numbers : goal.last_of_statement-requires-clause-numbers
last_of_statement-requires-clause-numbers c =
    let (l, shows) = c.requires in
    let body = c.args.self.now.comp.now.body.items in
    let at = item_at body c.deref-stmt-items.result.now c.loop-stmt.stmt-index c.stmt-item.result c.deref-stmt-items.ensures.value c.loop-stmt-test.true c.stmt-item.is in
    All-at (StatementHasNumbers c.args.self.now.names.now) body c.loop-stmt.stmt-index c.stmt-item.result at shows.numbers.body

pub last_of_statement-requires-clause-small : goal.last_of_statement-requires-clause-small
last_of_statement-requires-clause-small c =
    let (l, shows) = c.requires in
    let body = c.args.self.now.comp.now.body.items in
    let at = item_at body c.deref-stmt-items.result.now c.loop-stmt.stmt-index c.stmt-item.result c.deref-stmt-items.ensures.value c.loop-stmt-test.true c.stmt-item.is in
    All-at KeepsStatementLimit body c.loop-stmt.stmt-index c.stmt-item.result at shows.small.body

pub loop-stmt-preserved : goal.loop-stmt-preserved
loop-stmt-preserved c =
    let own = c.args.self.now.names.now in
    let body = c.args.self.now.comp.now.body.items in
    let k = c.loop-stmt.stmt-index in
    let s = statement_tree own c.stmt-item.result in
    let at : slice_get (map (statement_tree own) body) k ≡ Some s = at_mapped (statement_tree own) body c.deref-stmt-items.result.now k c.stmt-item.result c.deref-stmt-items.ensures.value c.loop-stmt-test.true c.stmt-item.is in
    let greater = c.max-last.ensures ∙ ord_max-max c.loop-stmt.last c.last_of_statement.result in
    record {
      value = λ low shows.
          let at_body : slice_get low.scope.comp.body k ≡ Some s = ap (λ (c : Component). slice_get c.body k) shows.comp ∙ at in
          greater ∙ greatest_walk (wanted_by_ports low c.args.event.now) invocations_at low.scope.comp.body k s c.loop-stmt.last c.last_of_statement.result at_body (c.loop-stmt.invariant.value low shows) (c.last_of_statement.ensures.value low shows);
      small = omega (arith, greater, c.loop-stmt.invariant.small, c.last_of_statement.ensures.small);
    }

pub returns-clause-value : goal.returns-clause-value
returns-clause-value c = λ low shows.
    let own = c.args.self.now.names.now in
    let body = c.args.self.now.comp.now.body.items in
    let all = whole_taken (statement_tree own) body c.deref-stmt-items.result.now c.loop-stmt.stmt-index c.deref-stmt-items.ensures.value c.loop-stmt-test.false in
    let P : List Statement → Type 0 = λ ss. take c.loop-stmt.stmt-index ss ≡ ss in
    let all_low = subst P (ap (λ (c : Component). c.body) (sym shows.comp)) all in
    c.loop-stmt.invariant.value low shows
    ∙ ap (λ ss. greatest (flat_map (wanted_by_ports low c.args.event.now) (flat_map invocations_at ss))) all_low
    ∙ ap (λ (scope : Scope). greatest (flat_map (wanted_by_ports low c.args.event.now) scope.invocations)) (sym shows.whole)
