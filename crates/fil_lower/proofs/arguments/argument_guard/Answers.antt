use Rattle.std.proofs.Common.{◌≡◌, Some, sym, ap, ◌∙◌}
use Rattle.std.specs.Option.{option_and_then}
use Rattle.std.proofs.lemmas.List.Elements.{All-contains}
use Rattle.std.proofs.lemmas.Result.{IfOk-weaker}
use Rattle.fil_ast.specs.Timeline.{interval_at}
use Rattle.fil_sig.specs.Seen.{seen_port}
use Rattle.fil_lower.specs.inside.Lowering.{bits_of, during}
use Rattle.fil_lower.specs.inside.Parts.{IsGoodPort, interval_shown, invocation_shown}
use Rattle.fil_lower.proofs.CallLemmas.{IsCalled}
use Rattle.fil_lower.proofs.KnownLemmas.{argument_fits, called, callee_port, interval_event, some_of}
use Rattle.fil_lower.proofs.PlaceLemmas.{has_go}
use Rattle.fil_lower.proofs.arguments.argument_guard.Goals as goal

pub interval_at-requires-clause-port : goal.interval_at-requires-clause-port
interval_at-requires-clause-port c =
    let (l, shows, among, input) = c.requires.known in
    let v = invocation_shown c.args.place.now.body.now.names.now c.args.call.now in
    let (sig, signed, has) = callee_port l v.inst (seen_port c.args.port.now) input in
    All-contains IsGoodPort sig.ins (seen_port c.args.port.now) (shows.body.ports v.inst sig signed) has

pub during-requires-clause-known : goal.during-requires-clause-known
during-requires-clause-known c =
    let (l, shows, among, input) = c.requires.known in
    let own = c.args.place.now.body.now.names.now in
    let v = invocation_shown own c.args.call.now in
    let p = seen_port c.args.port.now in
    let i = interval_shown own c.in-Some.interval in
    let at : interval_at v.gives.times p ≡ Some i = sym (c.in-Some.ensures.shown own) in
    let body = c.args.place.now.body.now in
    let is = All-contains (IsCalled _ l.scope.comp) l.scope.invocations v (called body l.scope shows.body) among in
    let named = interval_event l.scope.comp v.gives.times p i is.times at in
    (l, shows, named, λ some. let go = has_go l i.event (some_of (bits_of l i.event) some) in argument_fits l v p i go.0 shows.enough among input at named go.1)

pub returns-in-Some-clause-guard : goal.returns-in-Some-clause-guard
returns-in-Some-clause-guard c = λ l shows.
    let own = c.args.place.now.body.now.names.now in
    IfOk-weaker c.during.result _ _ (λ guard is. is ∙ ap (option_and_then (during l)) (c.in-Some.ensures.shown own)) (c.during.ensures.guard l shows)
