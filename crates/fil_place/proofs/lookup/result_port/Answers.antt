use Rattle.std.proofs.Common.{Bor, option_map, sym, ap, ◌∙◌}
use Rattle.fil_ast.specs.Scope.{invocation_named}
use Rattle.fil_sig.specs.Seen.{seen_port}
use Rattle.fil_sig.specs.declared.time_sig.SigPort.{SigPort}
use Rattle.fil_place.proofs.LookupLemmas.{no_invoked, invoked_some, result_none, result_seen}
use Rattle.fil_place.proofs.lookup.result_port.Goals as goal

pub returns-in_err-instance : goal.returns-in_err-instance
returns-in_err-instance c scope place =
    let name = c.args.invocation.now in
    let none = no_invoked c.args.place.now.tables.now.instances (invocation_named scope.invocations name) (c.in_err-instance.ensures c.args.place.now.names.now c.args.place.now.earlier.now scope place) in
    ap (option_map (λ (port : Bor SigPort). seen_port port.now)) c.from_residual.ensures ∙ sym (result_none scope name c.args.port.now none)

pub returns-in_err-callee_at : goal.returns-in_err-callee_at
returns-in_err-callee_at c scope place =
    let name = c.args.invocation.now in
    let there = invoked_some c.args.place.now.tables.now.instances c.in_ok-instance.instance (invocation_named scope.invocations name) (c.in_ok-instance.ensures c.args.place.now.names.now c.args.place.now.earlier.now scope place) in
    ap (option_map (λ (port : Bor SigPort). seen_port port.now)) c.from_residual-in_err-callee_at.ensures
    ∙ result_seen scope name c.args.port.now there.0 _ there.1 (c.in_err-callee_at.ensures c.args.place.now.names.now c.args.place.now.comp.now scope there.0.inst place there.2)

pub returns : goal.returns
returns c scope place =
    let name = c.args.invocation.now in
    let there = invoked_some c.args.place.now.tables.now.instances c.in_ok-instance.instance (invocation_named scope.invocations name) (c.in_ok-instance.ensures c.args.place.now.names.now c.args.place.now.earlier.now scope place) in
    c.output.ensures ∙ result_seen scope name c.args.port.now there.0 _ there.1 (c.in_ok-callee_at.ensures c.args.place.now.names.now c.args.place.now.comp.now scope there.0.inst place there.2)
