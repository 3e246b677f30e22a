use Rattle.std.proofs.Common.{Bor, Some, None, option_map, refl, ◌∙◌}
use Rattle.fil_ast.specs.Scope.{Result, input_of, result_of}
use Rattle.fil_ast.specs.Signature as tree
use Rattle.fil_ast.specs.Tree.{port_tree}
use Rattle.fil_ast.specs.declared.tree.FilPort.{FilPort}
use Rattle.fil_sig.specs.Seen.{seen_port}
use Rattle.fil_sig.specs.declared.time_sig.SigPort.{SigPort}
use Rattle.fil_place.proofs.LookupLemmas.{width_seen, width_port, width_out}
use Rattle.fil_place.proofs.lookup.value_width.Goals as goal

pub returns-in_err-input-in-Port : goal.returns-in_err-input-in-Port
returns-in_err-input-in-Port c scope place =
    let names = c.args.place.now.names.now in
    let text = c.text.result.now in
    c.from_residual.ensures
    ∙ width_seen (λ (p : Bor FilPort). tree.sig_port scope.comp.events (port_tree names p.now)) (λ (p : Bor FilPort). p.now.width) None (input_of scope text) (λ p. refl)
    (c.in_err-input-in-Port.ensures.meaning names c.args.place.now.earlier.now scope place)
    ∙ width_port names scope c.args.value c.in-Port.name text c.in-Port.is c.text.ensures

pub returns-in_ok-input-in-Port : goal.returns-in_ok-input-in-Port
returns-in_ok-input-in-Port c scope place =
    let names = c.args.place.now.names.now in
    let text = c.text.result.now in
    width_seen (λ (p : Bor FilPort). tree.sig_port scope.comp.events (port_tree names p.now)) (λ (p : Bor FilPort). p.now.width) (Some c.in_ok-input-in-Port.field-0) (input_of scope text) (λ p. refl)
    (c.in_ok-input-in-Port.ensures.meaning names c.args.place.now.earlier.now scope place)
    ∙ width_port names scope c.args.value c.in-Port.name text c.in-Port.is c.text.ensures

pub returns-in_err-found-in-Out : goal.returns-in_err-found-in-Out
returns-in_err-found-in-Out c scope place =
    let names = c.args.place.now.names.now in
    let invocation = c.text-in-Out.result.now in
    let port = c.text-in-Out-2.result.now in
    c.from_residual-in_err-found-in-Out.ensures
    ∙ width_seen (λ (p : Bor SigPort). seen_port p.now) (λ (p : Bor SigPort). p.now.width) None (option_map (λ (r : Result). r.port) (result_of scope invocation port)) (λ p. refl)
    (c.in_err-found-in-Out.ensures scope place)
    ∙ width_out names scope c.args.value c.in-Out.invocation c.in-Out.port invocation port c.in-Out.is c.text-in-Out.ensures c.text-in-Out-2.ensures

pub returns-in_ok-found-in-Out : goal.returns-in_ok-found-in-Out
returns-in_ok-found-in-Out c scope place =
    let names = c.args.place.now.names.now in
    let invocation = c.text-in-Out.result.now in
    let port = c.text-in-Out-2.result.now in
    width_seen (λ (p : Bor SigPort). seen_port p.now) (λ (p : Bor SigPort). p.now.width) (Some c.in_ok-found-in-Out.found) (option_map (λ (r : Result). r.port) (result_of scope invocation port)) (λ p. refl)
    (c.in_ok-found-in-Out.ensures scope place)
    ∙ width_out names scope c.args.value c.in-Out.invocation c.in-Out.port invocation port c.in-Out.is c.text-in-Out.ensures c.text-in-Out-2.ensures
