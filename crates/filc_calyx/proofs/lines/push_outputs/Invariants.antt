use Rattle.std.proofs.Common.{◌≡◌, ◌++◌, map, take, flat_map}
use Rattle.hw_prims.specs.Row.{Row}
use Rattle.net_core.specs.Netlist.{netlist_of}
use Rattle.net_sim.specs.Layout.{port_names}
use Rattle.filc_report.specs.Rows.{outputs_of_net, port_text}
use Rattle.filc_calyx.proofs.lines.push_outputs.Given as goal

-- the outputs so far are last
abbrev pub invariant-loop-at : goal.invariant-loop-at
invariant-loop-at l =
    let n = netlist_of l.net in
    (row : Row) → l.sim.values ≡ map row (port_names n) → l.text.items ≡ l.initial.text.items ++ flat_map (λ port. port_text port (row port)) (take l.at (outputs_of_net n))
