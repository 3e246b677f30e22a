use Rattle.std.proofs.Common.{◌<◌, is_some, length, option_map, ap, ◌∙◌, arith}
use Rattle.std.specs.Borrow.{Bor}
use Rattle.std.proofs.lemmas.Bool.Decides.{not_from_Decides}
use Rattle.fil_ast.specs.Scope.{sig_port_named}
use Rattle.fil_ast.specs.Signature.{Signature}
use Rattle.fil_sig.specs.Seen.{seen_port}
use Rattle.fil_sig.specs.declared.time_sig.SigPort.{SigPort}
use Rattle.fil_place.proofs.OutputLemmas.{output_within, output_found, output_absent}
use Rattle.fil_place.proofs.callee.Callee.output.Goals as goal

pub returns-in_err-id : goal.returns-in_err-id
returns-in_err-id c =
    ap (option_map (λ (port : Bor SigPort). seen_port port.now)) c.from_residual.ensures
    ∙ output_absent c.self.inside.sig c.self.inside.outs c.args.name.now c.self.invariant.0 (not_from_Decides (is_some c.find.result) c.find.ensures.present (ap is_some c.in_err-id.was))
    ∙ ap (λ (s : Signature). sig_port_named s.outs c.args.name.now) c.self.view_is

pub index-requires : goal.index-requires
index-requires c =
    let within : c.in_ok-id.id.0 < length c.self.inside.sig.outs.items =
    output_within c.self.inside.sig c.self.inside.outs c.args.name.now c.self.invariant.0 c.in_ok-id.id.0 c.in_ok-id.ensures.text in
    omega (arith, within, c.self.inside.sig.outs.ok.0)

pub returns : goal.returns
returns c =
    output_found c.self.inside.sig c.self.inside.outs c.args.name.now c.self.invariant.0 c.self.invariant.1 c.in_ok-id.id.0 c.in_ok-id.ensures.text c.index.result.now c.index.ensures
    ∙ ap (λ (s : Signature). sig_port_named s.outs c.args.name.now) c.self.view_is
