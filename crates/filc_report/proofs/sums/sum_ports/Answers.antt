use Rattle.std.proofs.Common.{◌+◌, ◌<◌, length, take, arith}
use Rattle.std.specs.List.{sum}
use Rattle.filc_report.proofs.SumLemmas.{sum_more, total_more}
use Rattle.filc_report.proofs.sums.sum_ports.Goals as goal

pub loop-port-preserved : goal.loop-port-preserved
loop-port-preserved c =
    let values = c.args.sim.now.values in
    let port = c.loop-port.port in
    let within : port < length values = omega (arith, c.loop-port-test.true, c.requires) in
    total_more c.loop-port.total (sum (take port values)) c.low-total.result c.value.result.value (sum (take (port + 1) values)) c.loop-port.invariant c.low-total.ensures (sum_more values port c.value.result.value within c.value.ensures.value)
