use Rattle.net_core.proofs.CircuitLemmas.{same_stops}
use Rattle.net_core.specs.NetRun.{net_circuit}
use Rattle.cal_ast.specs.CalRun.{bare, cal_circuit}
use Rattle.net_flat.proofs.keeps_runs.flattened_keeps_runs.Goals as goal

pub returns : goal.returns
returns c = λ design top n flat asked inputs loads height trace stop stopped.
    record {
      run = (flat.runs asked inputs loads height trace).0 stopped.run;
      stops = same_stops (net_circuit n) (cal_circuit design top bare) flat.conflicts height trace stop stopped.stops;
    }
