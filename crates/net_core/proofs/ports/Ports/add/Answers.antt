use Rattle.std.proofs.Common.{[], ◌∷◌, ◌++◌, Ok, ap, ap₂, sym, ◌∙◌, not}
use Rattle.net_core.specs.PortList.{port_line, port_lines}
use Rattle.net_core.specs.Rules.{is_among, port_names}
use Rattle.net_core.proofs.PortListLemmas.{port_names-port_lines, port_lines-push}
use Rattle.net_core.proofs.ports.Ports.add.Goals as goal

pub returns-in_ok-push-clause-new : goal.returns-in_ok-push-clause-new
returns-in_ok-push-clause-new c =
    let old = c.self.inside in
    let seen = ap port_names (sym c.self.view_is) ∙ port_names-port_lines old.names old.ports.items c.self.invariant in
    c.in_ok-new.ensures.new ∙ sym (ap (λ names. not (is_among names c.args.name.now)) seen)

pub returns-in_ok-push-clause-added : goal.returns-in_ok-push-clause-added
returns-in_ok-push-clause-added c is_true =
    let old = c.self.inside in
    let pushed = c.in_ok-push.ensures.items ∙ ap (λ items. items ++ c.args.port ∷ []) c.in_ok-reserve.ensures.items in
    ap₂ port_lines (c.in_ok-new.ensures.added (ap Ok c.if-new.true)) pushed
    ∙ port_lines-push old.names old.ports.items c.args.name.now c.args.port c.self.invariant
    ∙ ap (λ ports. ports ++ port_line c.args.name.now c.args.port ∷ []) c.self.view_is

pub returns-else-new-clause-new : goal.returns-else-new-clause-new
returns-else-new-clause-new c =
    let old = c.self.inside in
    let seen = ap port_names (sym c.self.view_is) ∙ port_names-port_lines old.names old.ports.items c.self.invariant in
    c.in_ok-new.ensures.new ∙ sym (ap (λ names. not (is_among names c.args.name.now)) seen)
