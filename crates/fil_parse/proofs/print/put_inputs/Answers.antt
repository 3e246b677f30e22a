use Rattle.std.proofs.Common.{◌++◌, ap, ◌∙◌, append_assoc, arith}
use Rattle.hw_names.specs.Name.{Text}
use Rattle.fil_parse.proofs.PrintLemmas.{OnOk-is, no_interface, interfaces_first}
use Rattle.fil_parse.proofs.print.put_inputs.Goals as goal

pub returns-then-gos-eq0 : goal.returns-then-gos-eq0
returns-then-gos-eq0 c =
    OnOk-is c.put_ports.result c.put_ports.new.out.items _ _ c.put_ports.ensures
    (ap (λ (t : Text). c.args.out.now.items ++ t) (no_interface c.args.names.now c.args.gos.now c.args.ins.now (omega (arith, c.if-gos-eq0.true))))

pub returns : goal.returns
returns c =
    OnOk-is c.put_more_ports.result c.put_more_ports.new.out.items _ _ c.put_more_ports.ensures
    (rw c.in_ok-put_interfaces.ensures (append_assoc c.args.out.now.items _ _ ∙ ap (λ (t : Text). c.args.out.now.items ++ t) (interfaces_first c.args.names.now c.args.gos.now c.args.ins.now (omega (arith, c.if-gos-eq0.false)))))
