use Rattle.std.proofs.Common.{◌≡◌, map, take, replicate}
use Rattle.hw_bits.specs.Values.{values_of, widths_of}
use Rattle.net_core.specs.declared.table.PortInfo.{PortInfo}
use Rattle.filc_report.proofs.inputs.zeros.Given as goal

-- each port so far has a 0 of its width
abbrev pub invariant-loop-port : goal.invariant-loop-port
invariant-loop-port l =
    record {
      widths : widths_of l.inputs.items ≡ map (λ (p : PortInfo). p.width) (take l.port-index l.ports);
      values : values_of l.inputs.items ≡ replicate l.port-index 0;
    }
