use Rattle.std.proofs.Common.{◌≡◌, ◌++◌, ◌∷◌, [], List, All, map, slice_get, Some, None, sym, ap, ap₂, subst, ◌∙◌, append-nil}
use Rattle.std.proofs.lemmas.List.{map-append}
use Rattle.std.proofs.lemmas.List.Elements.{All-push}
use Rattle.net_core.specs.declared.net.Src.{Src}
use Rattle.cal_ast.specs.Numbers.{SetHasNumbers}
use Rattle.cal_ast.specs.Tree.{Assignment, PortName, assignment_tree}
use Rattle.cal_ast.specs.declared.tree.Assign.{Assign}
use Rattle.hw_names.specs.Name.{text_of}
use Rattle.fil_ast.specs.Numbers.{StatementHasNumbers}
use Rattle.fil_ast.specs.Tree.{Component, statement_tree, value_tree}
use Rattle.fil_ast.specs.declared.tree.Stmt.{Stmt}
use Rattle.fil_share.proofs.Lookup.{at_mapped}
use Rattle.fil_lower.specs.inside.Lowering.{connection_set}
use Rattle.fil_lower.proofs.BodyLemmas.{item_at}
use Rattle.fil_lower.proofs.KnownLemmas.{connected_named}
use Rattle.fil_lower.proofs.PlaceLemmas.{no_connection, own_has, own_shown}
use Rattle.fil_lower.proofs.StepLemmas.{All-at, self_next}
use Rattle.fil_lower.proofs.arguments.push_connections.Goals.{in-Set+in_ok-push, in_default}
use Rattle.fil_lower.proofs.arguments.push_connections.Goals as goal

pub source-requires-clause-known : goal.source-requires-clause-known
source-requires-clause-known c =
    let (l, shows) = c.requires in
    let own = c.args.place.now.body.now.names.now in
    let body = c.args.place.now.body.now.comp.now.body.items in
    let k = c.loop-stmt.stmt-index in
    let at : slice_get (map (statement_tree own) body) k ≡ Some (statement_tree own c.stmt-item.result) =
    at_mapped (statement_tree own) body c.deref-stmt-items.result.now k c.stmt-item.result c.deref-stmt-items.ensures.value c.loop-stmt-test.true c.stmt-item.is in
    let at_body = ap (λ (c : Component). slice_get c.body k) shows.body.comp ∙ at ∙ ap (λ (s : Stmt). Some (statement_tree own s)) c.in-Set.is in
    (l, shows, connected_named c.args.place.now.body.now l.scope shows.body k (text_of own c.in-Set.dst) (value_tree own c.in-Set.value) at_body)

pub loop-stmt-preserved : goal.loop-stmt-preserved
loop-stmt-preserved c =
    let (first, shows_first) = c.requires in
    let own = c.args.place.now.body.now.names.now in
    let names = c.args.place.now.names.now in
    let body = c.args.place.now.body.now.comp.now.body.items in
    let k = c.loop-stmt.stmt-index in
    let s = statement_tree own c.stmt-item.result in
    let at : slice_get (map (statement_tree own) body) k ≡ Some s = at_mapped (statement_tree own) body c.deref-stmt-items.result.now k c.stmt-item.result c.deref-stmt-items.ensures.value c.loop-stmt-test.true c.stmt-item.is in
    let item = item_at body c.deref-stmt-items.result.now k c.stmt-item.result c.deref-stmt-items.ensures.value c.loop-stmt-test.true c.stmt-item.is in
    let numbers = All-at (StatementHasNumbers own) body k c.stmt-item.result item shows_first.body.numbers.body in
    let old = map (assignment_tree names) c.args.sets.now.items in
    let before = map (assignment_tree names) c.loop-stmt.sets.items in
    elim c.match-stmt.branch [
      | in-Set+in_ok-push w ↦
          let N : Stmt → Type 0 = StatementHasNumbers own in
          let known = subst N w.in-Set.is numbers in
          let A : List Assign → Type 0 = All (SetHasNumbers names) in
          rw w.sets-is (record {
            sets = λ low shows.
                let at_body : slice_get low.scope.comp.body k ≡ Some s = ap (λ (c : Component). slice_get c.body k) shows.body.comp ∙ at in
                let of : PortName → Src PortName → Assignment = λ dst src. record { dst = dst; guard = None; src = src } in
                let made = ap₂ of (own_shown own names shows.kept w.own.result w.in-Set.dst w.own.ensures known.0) (w.source.ensures.source low shows) in
                self_next (connection_set low) low.scope.comp.body k s old before (map (assignment_tree names) w.push.new.self.items) at_body (c.loop-stmt.invariant.sets low shows)
                (ap (map (assignment_tree names)) w.in_ok-push.ensures.items ∙ map-append (assignment_tree names) c.loop-stmt.sets.items _ ∙ ap (λ (a : Assignment). before ++ a ∷ []) made
                ∙ ap (λ (s : Stmt). before ++ connection_set low (statement_tree own s)) (sym w.in-Set.is));
            numbers = λ earlier. subst A (sym w.in_ok-push.ensures.items)
                (All-push (SetHasNumbers names) c.loop-stmt.sets.items _ (c.loop-stmt.invariant.numbers earlier)
                (own_has own names shows_first.kept w.own.result w.in-Set.dst w.own.ensures known.0, tt, w.source.ensures.numbers));
          })
      | in_default w ↦
          rw w.sets-is (record {
            sets = λ low shows.
                let at_body : slice_get low.scope.comp.body k ≡ Some s = ap (λ (c : Component). slice_get c.body k) shows.body.comp ∙ at in
                self_next (connection_set low) low.scope.comp.body k s old before before at_body (c.loop-stmt.invariant.sets low shows)
                (sym (ap (λ sets. before ++ sets) (no_connection low own c.stmt-item.result w.in_default.not-Set) ∙ append-nil before));
            numbers = c.loop-stmt.invariant.numbers;
          })
    ]
