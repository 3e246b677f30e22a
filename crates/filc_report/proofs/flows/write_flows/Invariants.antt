use Rattle.std.proofs.Common.{◌≤◌, [], drop, map}
use Rattle.fil_ast.specs.Tree.{component_tree, design_of}
use Rattle.stim_read.specs.TxRun.{transaction_seen}
use Rattle.filc_report.specs.Transactions.{flow_lines}
use Rattle.filc_stop.proofs.SinkLemmas.{PassedUpTo}
use Rattle.filc_report.proofs.flows.write_flows.Given as goal

-- the lines of the transactions so far were passed on
abbrev pub invariant-loop-number : goal.invariant-loop-number
invariant-loop-number g l =
    let sink = g.O.Sink in
    let design = design_of l.built.design in
    let c = component_tree l.built.design.names l.comp in
    let transactions = map transaction_seen l.txs in
    record {
      passed : PassedUpTo (sink.written l.fn.out) [] (sink.written l.out) l.held (flow_lines design c l.number (drop l.number transactions)) (flow_lines design c 0 transactions);
      never_falls : sink.faults l.fn.out ≤ sink.faults l.out;
    }
