use Rattle.std.proofs.Common.{◌≤◌, map}
use Rattle.fil_ast.specs.Transactions.{outputs_shown}
use Rattle.fil_ast.specs.Tree.{port_tree}
use Rattle.hw_bits.specs.Values.{values_of}
use Rattle.filc_report.specs.Transactions.{named_line}
use Rattle.filc_report.proofs.FlowLemmas.{rest_of_flow}
use Rattle.filc_stop.proofs.SinkLemmas.{PassedUpTo}
use Rattle.filc_report.proofs.flows.push_flow.Given as goal

-- the line was passed on up to this output
abbrev pub invariant-loop-at : goal.invariant-loop-at
invariant-loop-at g l =
    let sink = g.O.Sink in
    let outs = map (port_tree l.names) l.comp.outs.items in
    let values = values_of l.values in
    record {
      passed : PassedUpTo (sink.written l.fn.out) l.fn.held (sink.written l.out) l.held (rest_of_flow l.shown outs values l.at) (named_line l.fn.number (outputs_shown l.shown outs values));
      never_falls : sink.faults l.fn.out ≤ sink.faults l.out;
    }
