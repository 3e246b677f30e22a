use Rattle.std.proofs.Common.{List, length, option_map, slice_get, sym, ap, ◌∙◌, arith}
use Rattle.std.specs.Option.{option_and_then}
use Rattle.std.proofs.lemmas.Option.{slice_get_within}
use Rattle.hw_names.specs.Name.{Text}
use Rattle.fil_ast.specs.Scope.{Invocation, invocation_named}
use Rattle.fil_place.proofs.LookupLemmas.{no_invoked, invoked_some}
use Rattle.fil_loops.proofs.edges.instance_invoked.Goals as goal

pub returns-in_err-instance-clause-meaning : goal.returns-in_err-instance-clause-meaning
returns-in_err-instance-clause-meaning c scope place has =
    let none = no_invoked c.args.place.now.tables.now.instances (invocation_named scope.invocations c.args.name.now) (c.in_err-instance.ensures c.args.place.now.names.now c.args.place.now.earlier.now scope place) in
    ap (option_and_then (slice_get c.args.graph.now.ports.instances)) c.from_residual.ensures ∙ sym (ap (option_map (λ (v : Invocation). v.inst)) none)

pub returns-then-instance-instances-clause-meaning : goal.returns-then-instance-instances-clause-meaning
returns-then-instance-instances-clause-meaning c scope place has =
    let tables = c.args.place.now.tables.now in
    let there = invoked_some tables.instances c.in_ok-instance.instance (invocation_named scope.invocations c.args.name.now) (c.in_ok-instance.ensures c.args.place.now.names.now c.args.place.now.earlier.now scope place) in
    let count = ap length (has ∙ sym place.shows.instances) in
    absurd (omega (arith, slice_get_within tables.instances c.in_ok-instance.instance there.0.inst there.2, c.if-instance-instances.true, c.instances.ensures, count))

pub returns-clause-meaning : goal.returns-clause-meaning
returns-clause-meaning c scope place has =
    let tables = c.args.place.now.tables.now in
    let there = invoked_some tables.instances c.in_ok-instance.instance (invocation_named scope.invocations c.args.name.now) (c.in_ok-instance.ensures c.args.place.now.names.now c.args.place.now.earlier.now scope place) in
    ap (λ (l : List Text). slice_get l c.in_ok-instance.instance) (has ∙ sym place.shows.instances) ∙ there.2 ∙ sym (ap (option_map (λ (v : Invocation). v.inst)) there.1)
