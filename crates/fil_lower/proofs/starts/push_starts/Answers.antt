use Rattle.std.proofs.Common.{◌≡◌, map, slice_get, Some, ap, ◌∙◌}
use Rattle.cal_ast.specs.Tree.{assignment_tree}
use Rattle.fil_ast.specs.Scope.{instances_at}
use Rattle.fil_ast.specs.Tree.{Component, statement_tree}
use Rattle.fil_share.proofs.ListLemmas.{Contains-at}
use Rattle.fil_share.proofs.Lookup.{at_mapped}
use Rattle.fil_lower.specs.inside.Lowering.{start_sets}
use Rattle.fil_lower.proofs.StepLemmas.{walk_next}
use Rattle.fil_lower.proofs.starts.push_starts.Goals as goal

pub returns-in_err-push_statement-clause-numbers : goal.returns-in_err-push_statement-clause-numbers
returns-in_err-push_statement-clause-numbers c = λ known. c.push_statement.ensures.numbers (c.loop-stmt.invariant.numbers known)

pub loop-stmt-preserved : goal.loop-stmt-preserved
loop-stmt-preserved c =
    let own = c.args.place.now.body.now.names.now in
    let names = c.args.place.now.names.now in
    let body = c.args.place.now.body.now.comp.now.body.items in
    let k = c.loop-stmt.stmt-index in
    let s = statement_tree own c.stmt-item.result in
    let at : slice_get (map (statement_tree own) body) k ≡ Some s = at_mapped (statement_tree own) body c.deref-stmt-items.result.now k c.stmt-item.result c.deref-stmt-items.ensures.value c.loop-stmt-test.true c.stmt-item.is in
    record {
      sets = λ low shows.
          let at_body : slice_get low.scope.comp.body k ≡ Some s = ap (λ (c : Component). slice_get c.body k) shows.body.comp ∙ at in
          walk_next (start_sets low) instances_at low.scope.comp.body k s (map (assignment_tree names) c.args.sets.now.items) (map (assignment_tree names) c.loop-stmt.sets.items)
          (map (assignment_tree names) c.push_statement.new.sets.items) at_body (c.loop-stmt.invariant.sets low shows)
          (c.in_ok-push_statement.ensures.sets low shows (c.in_ok-groups.ensures low.scope shows.body) (Contains-at low.scope.comp.body k s at_body));
      numbers = λ known. c.push_statement.ensures.numbers (c.loop-stmt.invariant.numbers known);
    }
