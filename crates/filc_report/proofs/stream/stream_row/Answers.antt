use Rattle.std.proofs.Common.{◌++◌, None, subst, ◌∙◌}
use Rattle.std.proofs.lemmas.List.{length-map}
use Rattle.hw_bits.specs.Values.{values_of}
use Rattle.hw_io.specs.Writing.{AppendsPrefix, Passes}
use Rattle.net_core.specs.Netlist.{netlist_of}
use Rattle.net_core.specs.Rules.{PortLine, ports_of}
use Rattle.net_sim.specs.Sim.{IfEvaluated, IsRowOfSim, IsEdgeOfSim}
use Rattle.net_sim.specs.declared.sim.Phase.{Phase}
use Rattle.filc_report.proofs.StandLemmas.{line_of_table}
use Rattle.filc_report.proofs.StreamLemmas.{running}
use Rattle.filc_report.proofs.stream.stream_row.Goals as goal

pub returns-in-Ok-clause-streamed : goal.returns-in-Ok-clause-streamed
returns-in-Ok-clause-streamed g c =
    let told = g.O.Sink.written in
    let row = running c.args.sim.now.phase (IsRowOfSim c.args.sim.now (values_of c.args.inputs.now) c.row.new.self None) c.requires.goes_on c.in_default.ensures.running in
    let edge = subst (λ (p : Phase). IfEvaluated p (IsEdgeOfSim c.row.new.self c.edge.new.self)) row.phase c.edge.ensures.evaluated in
    let line = line_of_table (netlist_of c.args.sim.now.net) c.args.table.now.names c.row.new.self.values c.args.view.now c.args.cycle c.requires.table.names c.requires.distinct (row.values ∙ length-map (ports_of (netlist_of c.args.sim.now.net)) (λ (p : PortLine). p.name)) in
    record {
      between = c.row.new.self;
      row = row;
      edge = edge;
      passed = subst (λ text. Passes (told c.args.out.now) c.args.held.now (told c.push_row.new.out) c.push_row.new.held text) line c.in-Ok.ensures.passed;
    }

pub returns-in-Err-push_row-clause-streamed : goal.returns-in-Err-push_row-clause-streamed
returns-in-Err-push_row-clause-streamed g c =
    let told = g.O.Sink.written in
    let row = running c.args.sim.now.phase (IsRowOfSim c.args.sim.now (values_of c.args.inputs.now) c.row.new.self None) c.requires.goes_on c.in_default.ensures.running in
    let line = line_of_table (netlist_of c.args.sim.now.net) c.args.table.now.names c.row.new.self.values c.args.view.now c.args.cycle c.requires.table.names c.requires.distinct (row.values ∙ length-map (ports_of (netlist_of c.args.sim.now.net)) (λ (p : PortLine). p.name)) in
    record {
      row = row;
      emptied = c.in-Err-push_row.ensures.emptied;
      prefix = subst (λ text. AppendsPrefix (told c.args.out.now) (told c.push_row.new.out) (c.args.held.now ++ text)) line c.in-Err-push_row.ensures.prefix;
    }
