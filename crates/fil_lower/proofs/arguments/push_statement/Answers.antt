use Rattle.std.proofs.Common.{◌≡◌, ◌++◌, [], map, flat_map, Some, None, Option, sym, ap, ◌∙◌, append-nil}
use Rattle.std.specs.Option.{option_map_or}
use Rattle.std.proofs.lemmas.Result.{on_ok_weaker}
use Rattle.hw_names.proofs.NameLemmas.{text_of-slice_get}
use Rattle.cal_ast.specs.Tree.{assignment_tree}
use Rattle.fil_ast.specs.Scope.{instance_signature, invocations_at}
use Rattle.fil_ast.specs.Signature.{Signature}
use Rattle.fil_ast.specs.Tree.{statement_tree}
use Rattle.fil_sig.specs.Seen.{seen, seen_port}
use Rattle.fil_lower.specs.inside.Lowering.{argument_sets, invocation_sets}
use Rattle.fil_lower.specs.inside.Parts.{invocation_shown}
use Rattle.fil_lower.proofs.KnownLemmas.{invocation_among}
use Rattle.fil_lower.proofs.arguments.push_statement.Goals as goal

pub push_call-requires-clause-known : goal.push_call-requires-clause-known
push_call-requires-clause-known c =
    let (l, shows, among) = c.requires.known in
    let own = c.args.place.now.body.now.names.now in
    let s = statement_tree own c.args.stmt.now in
    let v = invocation_shown own c.in-Some.call in
    let named = text_of-slice_get own c.in-Some.call.inst c.text.result.now c.text.ensures in
    let signed : instance_signature l.scope v.inst ≡ Some (seen c.in-Some-sig.sig.now) = ap (instance_signature l.scope) named ∙ sym (c.in-Some-sig.ensures.meaning l.scope shows.body.instances) in (
      l,
      shows,
      invocation_among c.args.place.now.body.now l.scope shows.body s v among (c.in-Some.ensures.shown own),
      ap (λ (o : Option Signature). option_map_or (λ (sig : Signature). sig.ins) o []) signed ∙ ap (map seen_port) (sym c.deref.ensures.value),
    )

pub returns-in-Some-sig-clause-sets : goal.returns-in-Some-sig-clause-sets
returns-in-Some-sig-clause-sets c = λ l shows.
    let own = c.args.place.now.body.now.names.now in
    let old = map (assignment_tree c.args.place.now.names.now) c.args.sets.now.items in
    let v = invocation_shown own c.in-Some.call in
    let named = text_of-slice_get own c.in-Some.call.inst c.text.result.now c.text.ensures in
    let signed : instance_signature l.scope v.inst ≡ Some (seen c.in-Some-sig.sig.now) = ap (instance_signature l.scope) named ∙ sym (c.in-Some-sig.ensures.meaning l.scope shows.body.instances) in
    let inputs = ap (λ (o : Option Signature). option_map_or (λ (sig : Signature). sig.ins) o []) signed ∙ ap (map seen_port) (sym c.deref.ensures.value) in
    let made = ap (λ ps. argument_sets l v ps v.gives.args) (sym inputs) ∙ sym (append-nil (invocation_sets l v)) ∙ ap (flat_map (invocation_sets l)) (c.in-Some.ensures.shown own) in
    on_ok_weaker c.push_call.result (λ is. is ∙ ap (λ sets. old ++ sets) made) (c.push_call.ensures.sets l shows)

pub returns-in-None-clause-sets : goal.returns-in-None-clause-sets
returns-in-None-clause-sets c = λ l shows.
    let own = c.args.place.now.body.now.names.now in
    let old = map (assignment_tree c.args.place.now.names.now) c.args.sets.now.items in
    let v = invocation_shown own c.in-Some.call in
    let named = text_of-slice_get own c.in-Some.call.inst c.text.result.now c.text.ensures in
    let signed : instance_signature l.scope v.inst ≡ None = ap (instance_signature l.scope) named ∙ sym (c.in-None.ensures.meaning l.scope shows.body.instances) in
    let inputs = ap (λ (o : Option Signature). option_map_or (λ (sig : Signature). sig.ins) o []) signed in
    let none : flat_map (invocation_sets l) (invocations_at (statement_tree own c.args.stmt.now)) ≡ [] =
    sym (ap (flat_map (invocation_sets l)) (c.in-Some.ensures.shown own)) ∙ append-nil (invocation_sets l v) ∙ ap (λ ps. argument_sets l v ps v.gives.args) inputs in
    sym (ap (λ sets. old ++ sets) none ∙ append-nil old)
