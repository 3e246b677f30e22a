use Rattle.std.proofs.Common.{ap, sym, ◌∙◌, length, option_map, Some, ◌<◌, arith}
use Rattle.std.proofs.lemmas.Option.{slice_get-get_or, slice_get_within}
use Rattle.net_core.specs.PortList.{port_line}
use Rattle.net_core.specs.Rules.{is_among, port_names, port_named}
use Rattle.net_core.proofs.PortListLemmas.{port_names-port_lines, port_named-port_lines, port_named-absent, is_among-absent}
use Rattle.net_core.proofs.ports.Ports.find.Goals as goal

pub returns-in_err-id : goal.returns-in_err-id
returns-in_err-id c =
    let own = c.self.inside in
    let name = c.args.name.now in
    let seen = ap port_names (sym c.self.view_is) ∙ port_names-port_lines own.names own.ports.items c.self.invariant in
    let absent = is_among-absent own.names name (λ there. let bad = c.in_err-id.ensures.present.1 there in cc) in
    port_named-absent c.args.self.now name (ap (λ names. is_among names name) seen ∙ absent)
    ∙ sym (ap (option_map (port_line name)) c.from_residual.ensures)

pub index-requires : goal.index-requires
index-requires c =
    let within = slice_get_within c.self.inside.names c.in_ok-id.id.0 c.args.name.now c.in_ok-id.ensures.text in
    omega arith

pub returns : goal.returns
returns c =
    let own = c.self.inside in
    let name = c.args.name.now in
    let k = c.in_ok-id.id.0 in
    let within = slice_get_within own.names k name c.in_ok-id.ensures.text in
    let in_ports : k < length own.ports.items = omega arith in
    let port_at = slice_get-get_or own.ports.items k c.index.result.now in_ports ∙ ap Some (sym c.index.ensures) in
    ap (λ ports. port_named ports name) (sym c.self.view_is)
    ∙ port_named-port_lines own.names own.ports.items k name c.index.result.now c.self.invariant c.in_ok-id.ensures.distinct c.in_ok-id.ensures.text port_at
