use Rattle.std.proofs.Common.{◌≡◌, ◌++◌, map, take, flat_map, slice_get, Some, sym, ap, ◌∙◌}
use Rattle.std.proofs.lemmas.List.Concat.{flat_map-append}
use Rattle.fil_ast.specs.Scope.{invocations_at}
use Rattle.fil_ast.specs.Tree.{statement_tree}
use Rattle.fil_share.specs.Uses.{held_by}
use Rattle.fil_share.proofs.Lookup.{at_mapped}
use Rattle.fil_share.proofs.MakesLemmas.{flat_next}
use Rattle.fil_share.proofs.uses.component_uses.Goals as goal

pub loop-stmt-preserved : goal.loop-stmt-preserved
loop-stmt-preserved c =
    let names = c.args.names.now in
    let body = c.args.comp.now.body.items in
    let tree = map (statement_tree names) body in
    let k = c.loop-stmt.stmt-index in
    let s = statement_tree names c.stmt-item.result in
    let at : slice_get (map (statement_tree names) body) k ≡ Some s = at_mapped (statement_tree names) body c.deref-stmt-items.result.now k c.stmt-item.result c.deref-stmt-items.ensures.value c.loop-stmt-test.true c.stmt-item.is in
    record {
      shown = λ scope shown.
          c.in_ok-push_statement.ensures.meaning scope shown
          ∙ ap (λ hs. hs ++ flat_map (held_by scope) (invocations_at s)) (c.loop-stmt.invariant.shown scope shown)
          ∙ sym (flat_map-append (held_by scope) (flat_map invocations_at (take k tree)) (invocations_at s))
          ∙ ap (flat_map (held_by scope)) (sym (flat_next invocations_at tree k s at));
      good = c.push_statement.ensures.good c.loop-stmt.invariant.good;
    }
