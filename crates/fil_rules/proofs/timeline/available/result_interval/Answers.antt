use Rattle.std.proofs.Common.{None, Option, List, sym, subst, ◌∙◌}
use Rattle.std.specs.Option.{option_and_then}
use Rattle.std.proofs.lemmas.Option.{none-some}
use Rattle.fil_ast.specs.Scope.{Result, invocation_named, result_of}
use Rattle.fil_ast.specs.Signature.{SigPort}
use Rattle.fil_ast.specs.Timeline as tree
use Rattle.fil_sig.specs.Seen.{seen_port}
use Rattle.fil_rules.specs.inside.Available.{result_interval}
use Rattle.fil_place.specs.Times.{AreTimes, ShowsInterval}
use Rattle.fil_place.specs.declared.times.Interval.{Interval}
use Rattle.fil_place.specs.declared.times.Offset.{Offset}
use Rattle.fil_rules.proofs.AvailableLemmas.{invoked_result, no_result, no_times, some_result, some_times}
use Rattle.fil_rules.proofs.timeline.available.result_interval.Goals as goal

pub returns-in_err-found : goal.returns-in_err-found
returns-in_err-found c scope place =
    let events = c.args.place.now.tables.now.events in
    let r = c.from_residual.result in
    let o = result_of scope c.args.invocation.now c.args.port.now in
    let O : Option Result → Type 0 = λ o. ShowsInterval events r (option_and_then result_interval o) in
    let N : Option Interval → Type 0 = λ r. ShowsInterval events r (option_and_then result_interval None) in
    subst O (sym (no_result o (c.in_err-found.ensures scope place))) (subst N (sym c.from_residual.ensures) tt)

pub returns-in_err-at : goal.returns-in_err-at
returns-in_err-at c scope place =
    let invocation = c.args.invocation.now in
    let found = some_result (seen_port c.in_ok-found.found.now) (result_of scope invocation c.args.port.now) (c.in_ok-found.ensures scope place) in
    let none = no_times (invocation_named scope.invocations invocation) (c.in_err-at.ensures c.args.place.now.names.now c.args.place.now.earlier.now scope place) in
    absurd (none-some found.0.invocation (sym none ∙ invoked_result scope invocation c.args.port.now found.0 found.1))

pub returns : goal.returns
returns c scope place =
    let events = c.args.place.now.tables.now.events in
    let invocation = c.args.invocation.now in
    let r = c.interval_at.result in
    let found = some_result (seen_port c.in_ok-found.found.now) (result_of scope invocation c.args.port.now) (c.in_ok-found.ensures scope place) in
    let times = found.0.invocation.gives.times in
    let are = some_times _ found.0.invocation (invocation_named scope.invocations invocation) (invoked_result scope invocation c.args.port.now found.0 found.1) (c.in_ok-at.ensures c.args.place.now.names.now c.args.place.now.earlier.now scope place) in
    let A : List Offset → Type 0 = λ at. AreTimes events at times in
    let P : SigPort → Type 0 = λ p. ShowsInterval events r (tree.interval_at times p) in
    let O : Option Result → Type 0 = λ o. ShowsInterval events r (option_and_then result_interval o) in
    subst O (sym found.1) (subst P found.2 (c.interval_at.ensures.shown events times (subst A (sym c.deref.ensures.value) are)))
