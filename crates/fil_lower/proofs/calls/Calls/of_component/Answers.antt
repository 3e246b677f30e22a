use Rattle.std.proofs.Common.{◌≡◌, ◌++◌, ◌∷◌, [], suc, List, map, flat_map, take, slice_get, Some, inl, refl, sym, ap, subst, ◌∙◌, append-nil, arith}
use Rattle.hw_names.proofs.NameLemmas.{text_of-slice_get}
use Rattle.fil_ast.specs.Items.{TheStatement, scope_after}
use Rattle.fil_ast.specs.Numbers.{StatementHasNumbers}
use Rattle.fil_ast.specs.Rules.{F1}
use Rattle.fil_ast.specs.Scope.{Invocation, invocations_at}
use Rattle.fil_ast.specs.Tree.{component_tree, statement_tree}
use Rattle.fil_share.proofs.Lookup.{at_mapped}
use Rattle.fil_share.proofs.MakesLemmas.{flat_next}
use Rattle.fil_lower.specs.inside.Parts.{invocation_shown}
use Rattle.fil_lower.specs.inside.Place.{ShowsCalls}
use Rattle.fil_lower.proofs.BodyLemmas.{item_at, new_invocation}
use Rattle.fil_lower.proofs.StepLemmas.{All-at}
use Rattle.fil_lower.proofs.calls.Calls.of_component.Goals.{in-Some+in_ok-add, in_default}
use Rattle.fil_lower.proofs.calls.Calls.of_component.Goals as goal

pub loop-stmt-preserved : goal.loop-stmt-preserved
loop-stmt-preserved c =
    let own = c.args.names.now in
    let body = c.args.comp.now.body.items in
    let tree = map (statement_tree own) body in
    let k = c.loop-stmt.stmt-index in
    let s = statement_tree own c.stmt-item.result in
    let at : slice_get tree k ≡ Some s = at_mapped (statement_tree own) body c.deref-stmt-items.result.now k c.stmt-item.result c.deref-stmt-items.ensures.value c.loop-stmt-test.true c.stmt-item.is in
    let item = item_at body c.deref-stmt-items.result.now k c.stmt-item.result c.deref-stmt-items.ensures.value c.loop-stmt-test.true c.stmt-item.is in
    let numbers = All-at (StatementHasNumbers own) body k c.stmt-item.result item c.requires.numbers.body in
    let before = flat_map invocations_at (take k tree) in
    let next = flat_next invocations_at tree k s at in
    let (earlier, keeps) = c.requires.kept in
    let makes = keeps (suc k) (TheStatement (take k tree) s) (inl (s, at, refl)) 0 F1 (omega arith) in
    elim c.match-invoked.branch [
      | in-Some+in_ok-add w ↦
          let v = invocation_shown own w.in-Some.call in
          let is_v : v ∷ [] ≡ invocations_at s = w.in-Some.ensures.shown own in
          let absent = new_invocation (scope_after earlier (component_tree own c.args.comp.now) (take k tree)) s v makes is_v in
          let P : List Invocation → Type 0 = λ vs. ShowsCalls own vs w.add.new.self in
          rw w.calls-is
          (subst P (ap (λ vs. before ++ vs) is_v ∙ sym next)
          (w.in_ok-add.ensures own before v c.loop-stmt.invariant (text_of-slice_get own w.in-Some.call.name w.text.result.now w.text.ensures) refl (w.in-Some.ensures.numbers own numbers).inst absent))
      | in_default w ↦
          let P : List Invocation → Type 0 = λ vs. ShowsCalls own vs c.loop-stmt.calls in
          rw w.calls-is (subst P (sym (next ∙ ap (λ vs. before ++ vs) (sym (w.in_default.ensures.shown own)) ∙ append-nil before)) c.loop-stmt.invariant)
    ]
