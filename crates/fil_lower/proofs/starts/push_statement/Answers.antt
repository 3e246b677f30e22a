use Rattle.std.proofs.Common.{◌≡◌, ◌++◌, [], List, Contains, map, flat_map, Option, Some, None, sym, ap, subst, ◌∙◌, append-nil, arith}
use Rattle.std.specs.Option.{option_map_or}
use Rattle.std.proofs.lemmas.Option.{slice_get_within}
use Rattle.std.proofs.lemmas.Result.{on_ok_weaker}
use Rattle.hw_names.proofs.NameLemmas.{text_of-slice_get}
use Rattle.hw_names.specs.Name.{Text, text_of}
use Rattle.cal_ast.specs.Tree.{assignment_tree}
use Rattle.fil_ast.specs.Naming.{instance_names}
use Rattle.fil_ast.specs.Scope.{instance_signature, instances_at}
use Rattle.fil_ast.specs.Signature.{SigEvent, Signature}
use Rattle.fil_ast.specs.Tree.{statement_tree}
use Rattle.fil_sig.specs.Seen.{seen, seen_event}
use Rattle.fil_share.proofs.Lookup.{not_found}
use Rattle.fil_lower.specs.inside.Lowering.{start_sets, start_sets_from}
use Rattle.fil_lower.specs.inside.Parts.{instance_shown}
use Rattle.fil_lower.specs.inside.Place.{AreUsesOf}
use Rattle.fil_lower.proofs.KnownLemmas.{instance_among}
use Rattle.fil_lower.proofs.starts.push_statement.Goals as goal

pub returns-in_default-number-clause-sets : goal.returns-in_default-number-clause-sets
returns-in_default-number-clause-sets c = λ l shows uses among.
    let own = c.args.place.now.body.now.names.now in
    let i = instance_shown own c.in-Some.made in
    let named = text_of-slice_get own c.in-Some.made.name c.text-name.result.now c.text-name.ensures in
    let there = instance_among c.args.place.now.body.now l.scope shows.body (statement_tree own c.args.stmt.now) i among (c.in-Some.ensures.shown own) in
    absurd (not_found (Contains (instance_names l.scope.instances) c.text-name.result.now) (c.in_default-number.ensures.present l.scope shows.body.instances)
    (subst (Contains (instance_names l.scope.instances)) named there))

pub get-numbers-requires : goal.get-numbers-requires
get-numbers-requires c =
    let (l, shows, uses) = c.requires.known in
    omega (arith, uses.all, slice_get_within (instance_names l.scope.instances) c.in-Some-number.number c.text-name.result.now (c.in-Some-number.ensures.at l.scope shows.body.instances))

pub push_instance-requires-clause-known : goal.push_instance-requires-clause-known
push_instance-requires-clause-known c =
    let (l, shows, uses) = c.requires.known in
    let own = c.args.place.now.body.now.names.now in
    let named = text_of-slice_get own c.in-Some.made.name c.text-name.result.now c.text-name.ensures in
    let are = uses.each c.in-Some-number.number c.text-name.result.now c.get-numbers.result.now (c.in-Some-number.ensures.at l.scope shows.body.instances) c.get-numbers.ensures in
    let A : Text → Type 0 = λ t. AreUsesOf own c.args.place.now.body.now.uses.items t c.get-numbers.result.now in
    let signed : instance_signature l.scope (text_of own c.in-Some.made.name) ≡ Some (seen c.in-Some-sig.sig.now) = ap (instance_signature l.scope) named ∙ sym (c.in-Some-sig.ensures.meaning l.scope shows.body.instances) in
    (l, seen c.in-Some-sig.sig.now, shows, subst A (sym named) are, signed, ap (map seen_event) (sym c.deref.ensures.value))

pub returns-in-Some-sig-clause-sets : goal.returns-in-Some-sig-clause-sets
returns-in-Some-sig-clause-sets c = λ l shows uses among.
    let own = c.args.place.now.body.now.names.now in
    let old = map (assignment_tree c.args.place.now.names.now) c.args.sets.now.items in
    let i = instance_shown own c.in-Some.made in
    let named = text_of-slice_get own c.in-Some.made.name c.text-name.result.now c.text-name.ensures in
    let are = uses.each c.in-Some-number.number c.text-name.result.now c.get-numbers.result.now (c.in-Some-number.ensures.at l.scope shows.body.instances) c.get-numbers.ensures in
    let A : Text → Type 0 = λ t. AreUsesOf own c.args.place.now.body.now.uses.items t c.get-numbers.result.now in
    let signed : instance_signature l.scope i.name ≡ Some (seen c.in-Some-sig.sig.now) = ap (instance_signature l.scope) named ∙ sym (c.in-Some-sig.ensures.meaning l.scope shows.body.instances) in
    let made =
    ap (λ (es : List SigEvent). start_sets_from l i.name 0 es) (ap (map seen_event) c.deref.ensures.value)
    ∙ sym (ap (λ (o : Option Signature). option_map_or (λ (sig : Signature). start_sets_from l i.name 0 sig.events) o []) signed)
    ∙ sym (append-nil (start_sets l i)) ∙ ap (flat_map (start_sets l)) (c.in-Some.ensures.shown own) in
    on_ok_weaker c.push_instance.result (λ is. is ∙ ap (λ sets. old ++ sets) made) (c.push_instance.ensures.sets l shows (subst A (sym named) are))

pub returns-in-None-clause-sets : goal.returns-in-None-clause-sets
returns-in-None-clause-sets c = λ l shows uses among.
    let own = c.args.place.now.body.now.names.now in
    let old = map (assignment_tree c.args.place.now.names.now) c.args.sets.now.items in
    let i = instance_shown own c.in-Some.made in
    let named = text_of-slice_get own c.in-Some.made.name c.text-name.result.now c.text-name.ensures in
    let signed : instance_signature l.scope i.name ≡ None = ap (instance_signature l.scope) named ∙ sym (c.in-None.ensures.meaning l.scope shows.body.instances) in
    let none : flat_map (start_sets l) (instances_at (statement_tree own c.args.stmt.now)) ≡ [] =
    sym (ap (flat_map (start_sets l)) (c.in-Some.ensures.shown own)) ∙ append-nil (start_sets l i) ∙ ap (λ (o : Option Signature). option_map_or (λ (sig : Signature). start_sets_from l i.name 0 sig.events) o []) signed in
    sym (ap (λ sets. old ++ sets) none ∙ append-nil old)
