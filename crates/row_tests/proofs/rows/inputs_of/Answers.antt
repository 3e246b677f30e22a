use Rattle.std.proofs.Common.{◌≡◌, List, [], ◌∷◌, map, refl, sym, ap, ◌∙◌, arith}
use Rattle.std.proofs.lemmas.List.{take_all}
use Rattle.hw_names.specs.Name.{Text}
use Rattle.hw_prims.specs.Table.{Pin}
use Rattle.net_core.specs.Netlist.{pin_of}
use Rattle.net_core.specs.declared.net.NetPort.{NetPort}
use Rattle.row_tests.proofs.rows.inputs_of.Goals as goal

pin_widths-map : (names : List Text) (ports : List NetPort) → map (λ (p : Pin). p.width) (map (pin_of names) ports) ≡ map (λ (p : NetPort). p.width) ports
pin_widths-map names [] = refl
pin_widths-map names (p ∷ ports) = ap (λ l. p.width ∷ l) (pin_widths-map names ports)

pub returns : goal.returns
returns c =
    let ports = c.args.net.now.ins.items in
    c.loop-port.invariant ∙ ap (map (λ (p : NetPort). p.width)) (take_all c.loop-port.port-index ports (omega arith))
    ∙ sym (pin_widths-map c.args.net.now.names ports)
