use Rattle.std.proofs.Common.{◌≡◌, ◌<◌, ◌++◌, ◌∷◌, [], List, All, Contains, length, map, take, slice_get, Some, None, Option, refl, sym, ap, ap₂, subst, ◌∙◌, append-nil, append_assoc, option_map, arith}
use Rattle.std.specs.Option.{option_copied, option_map_or}
use Rattle.std.proofs.lemmas.List.{map-append}
use Rattle.std.proofs.lemmas.List.Elements.{All-contains, All-push}
use Rattle.std.proofs.lemmas.Option.{slice_get-map}
use Rattle.cal_ast.specs.Numbers.{SetHasNumbers}
use Rattle.cal_ast.specs.Tree.{assignment_tree}
use Rattle.cal_ast.specs.declared.tree.Assign.{Assign}
use Rattle.fil_ast.specs.Signature.{SigPort}
use Rattle.fil_ast.specs.Tree.{ValueTree, value_tree}
use Rattle.fil_sig.specs.Seen.{seen_port}
use Rattle.fil_share.proofs.ListLemmas.{Contains-at}
use Rattle.fil_share.proofs.Lookup.{at_mapped, got}
use Rattle.fil_lower.specs.inside.Lowering.{Lowering, argument_set, argument_sets}
use Rattle.fil_lower.specs.inside.Parts.{invocation_shown}
use Rattle.fil_lower.specs.inside.Place.{NamesInvocation}
use Rattle.fil_lower.proofs.KnownLemmas.{argument_next, args_named}
use Rattle.fil_lower.proofs.StepLemmas.{All-at}
use Rattle.fil_lower.proofs.arguments.push_call.Goals.{in-Some+in_ok-argument_set+in_ok-push, in_default}
use Rattle.fil_lower.proofs.arguments.push_call.Goals as goal

pub argument_set-requires-clause-known : goal.argument_set-requires-clause-known
argument_set-requires-clause-known c =
    let (l, shows, among, inputs) = c.requires.known in
    let own = c.args.place.now.body.now.names.now in
    let v = invocation_shown own c.args.call.now in
    let ports = c.args.ports.now in
    let n = c.loop-number.number in
    let p = seen_port c.index-ports-number.result in
    let within : n < length ports = omega arith in
    let at : slice_get (map seen_port ports) n ≡ Some p = at_mapped seen_port ports ports n c.index-ports-number.result refl within c.index-ports-number.is in
    let P : List SigPort → Type 0 = λ ps. Contains ps p in
    let args = c.args.call.now.args.now in
    let value = c.in-Some.value.now in
    let at_value : slice_get (map (value_tree own) args) n ≡ Some (value_tree own value) =
    slice_get-map (value_tree own) args n ∙ ap (option_map (value_tree own)) (sym (got args n c.get.result c.get.ensures.lookup) ∙ ap option_copied c.in-Some.is) in
    let named = All-contains (λ v. All (NamesInvocation l.scope.invocations) v.gives.args) l.scope.invocations v (args_named c.args.place.now.body.now l.scope shows.body) among in
    (l, shows, among, subst P (sym inputs) (Contains-at (map seen_port ports) n p at), All-at (NamesInvocation l.scope.invocations) (map (value_tree own) args) n (value_tree own value) at_value named)

pub loop-number-preserved : goal.loop-number-preserved
loop-number-preserved c =
    let own = c.args.place.now.body.now.names.now in
    let names = c.args.place.now.names.now in
    let v = invocation_shown own c.args.call.now in
    let ports = c.args.ports.now in
    let n = c.loop-number.number in
    let p = seen_port c.index-ports-number.result in
    let within : n < length ports = omega arith in
    let at : slice_get (map seen_port ports) n ≡ Some p = at_mapped seen_port ports ports n c.index-ports-number.result refl within c.index-ports-number.is in
    let args = c.args.call.now.args.now in
    let trees = map (value_tree own) args in
    let old = map (assignment_tree names) c.args.sets.now.items in
    let so_far = λ (low : Lowering). argument_sets low v (take n (map seen_port ports)) trees in
    let read = slice_get-map (value_tree own) args n ∙ ap (option_map (value_tree own)) (sym (got args n c.get.result c.get.ensures.lookup)) in
    let of = λ (low : Lowering) (o : Option ValueTree). option_map_or (λ a. argument_set low v p a ∷ []) o [] in
    elim c.match-get.branch [
      | in-Some+in_ok-argument_set+in_ok-push w ↦
          let at_value : slice_get trees n ≡ Some (value_tree own w.in-Some.value.now) = read ∙ ap (λ r. option_map (value_tree own) (option_copied r)) w.in-Some.is in
          let A : List Assign → Type 0 = All (SetHasNumbers names) in
          rw w.sets-is (record {
            sets = λ low shows.
                ap (map (assignment_tree names)) w.in_ok-push.ensures.items ∙ map-append (assignment_tree names) c.loop-number.sets.items _
                ∙ ap₂ (λ xs a. xs ++ a ∷ []) (c.loop-number.invariant.sets low shows) (w.in_ok-argument_set.ensures.set low shows)
                ∙ append_assoc old (so_far low) _
                ∙ ap (λ xs. old ++ xs) (sym (argument_next low v (map seen_port ports) trees n p at ∙ ap (λ o. so_far low ++ of low o) at_value));
            numbers = λ known. subst A (sym w.in_ok-push.ensures.items) (All-push (SetHasNumbers names) c.loop-number.sets.items _ (c.loop-number.invariant.numbers known) w.in_ok-argument_set.ensures.numbers);
          })
      | in_default w ↦
          let at_value : slice_get trees n ≡ None = read ∙ ap (λ r. option_map (value_tree own) (option_copied r)) w.in_default.is in
          rw w.sets-is (record {
            sets = λ low shows.
                c.loop-number.invariant.sets low shows
                ∙ ap (λ xs. old ++ xs) (sym (argument_next low v (map seen_port ports) trees n p at ∙ ap (λ o. so_far low ++ of low o) at_value ∙ append-nil (so_far low)));
            numbers = c.loop-number.invariant.numbers;
          })
    ]
