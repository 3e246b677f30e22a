use Rattle.std.proofs.Common.{rules, ◌∙◌, refl, sym, subst}
use Rattle.net_core.specs.Netlist.{Netlist, netlist_of}
use Rattle.net_core.specs.Table.{IsTableOf}
use Rattle.filc_report.specs.Driving.{txs_of, FitsDrive, AreInputsAt}
use Rattle.filc_report.specs.Runs.{asked_run}
use Rattle.filc_report.specs.Views.{line_seen}
use Rattle.filc_stop.specs.declared.stop.Stop.TheVariants as stop
use Rattle.filc_report.specs.declared.stream.RowEnd.TheVariants as ends
use Rattle.filc_report.proofs.RunLemmas.{stands_there, stands_here, streamed_here, runnable_from, fault_leaves, all_leaves, finish_fails, conflict_part, conflict_leaves, table_numbers, head_part, nothing_written, passed_leaves}
use Rattle.filc_report.proofs.net_run.write_run.Goals as goal

pub returns-in_err-inputs-clause-leaves : goal.returns-in_err-inputs-clause-leaves
returns-in_err-inputs-clause-leaves g c = λ loads stands.
    let nothing = nothing_written (asked_run (netlist_of c.args.built.now.net) c.args.asked.now loads) (g.O.Sink.written c.args.out.now) in
    search (rules, nothing)

pub returns-in_err-view-clause-leaves : goal.returns-in_err-view-clause-leaves
returns-in_err-view-clause-leaves g c = λ loads stands.
    let nothing = nothing_written (asked_run (netlist_of c.args.built.now.net) c.args.asked.now loads) (g.O.Sink.written c.args.out.now) in
    search (rules, nothing)

pub returns-in_err-held-clause-leaves : goal.returns-in_err-held-clause-leaves
returns-in_err-held-clause-leaves g c = λ loads stands.
    let nothing = nothing_written (asked_run (netlist_of c.args.built.now.net) c.args.asked.now loads) (g.O.Sink.written c.args.out.now) in
    search (rules, nothing)

pub returns-in_err-push-clause-leaves : goal.returns-in_err-push-clause-leaves
returns-in_err-push-clause-leaves g c = λ loads stands.
    let p = asked_run (netlist_of c.args.built.now.net) c.args.asked.now loads in
    let part = head_part p (g.O.Sink.written c.args.out.now) (g.O.Sink.written c.push.new.sink) (rw c.in_ok-held.ensures at c.in_err-push.ensures.prefix) in
    search (rules, part)

pub stream_rows-end-requires : goal.stream_rows-end-requires
stream_rows-end-requires g c =
    let drive = c.args.asked.now.drive in
    let same = sym c.requires.net in
    record {
      table = subst (λ (m : Netlist). IsTableOf m c.args.built.now.table) same c.requires.ready.table;
      distinct = c.in_ok-view.ensures.distinct;
      fresh = c.requires.fresh;
      drive = subst (λ (m : Netlist). FitsDrive m drive) same c.requires.fits;
      inputs = subst (λ (m : Netlist). AreInputsAt m drive c.in_ok-inputs.inputs 0) same c.in_ok-inputs.ensures;
      view = c.in_ok-view.ensures.at;
      within = c.in_ok-view.ensures.within;
    }

pub finish-requires : goal.finish-requires
finish-requires g c = record { net = c.in-Done.ensures.net ∙ c.requires.net; valid = c.requires.ready.valid; numbers = c.requires.ready.numbers }

pub returns-in_err-finish-in-Done-clause-leaves : goal.returns-in_err-finish-in-Done-clause-leaves
returns-in_err-finish-in-Done-clause-leaves g c = λ loads stands.
    let n = netlist_of c.args.built.now.net in
    let told = g.O.Sink.written in
    let asked = c.args.asked.now in
    let line = line_seen c.args.built.now.table.names (txs_of asked.drive) c.in_ok-view.view in
    let p = asked_run n asked loads in
    let runnable = runnable_from c.args.built.now asked loads c.requires.ready c.requires.fits in
    let begun = rw c.in_ok-held.ensures at c.in_ok-push.ensures.passed in
    let there = stands_there n (netlist_of c.args.sim.now.net) c.requires.net asked line c.in_ok-view.ensures.line loads c.args.sim.now 0 stands in
    let streamed = streamed_here n (netlist_of c.args.sim.now.net) c.requires.net asked line c.in_ok-view.ensures.line loads ends.Done (told c.push.new.sink) c.push.new.self (told c.stream_rows-end.new.out) c.stream_rows-end.new.held (c.in-Done.ensures.streamed loads there) in
    let after = stands_here n (netlist_of c.args.sim.now.net) c.requires.net asked line c.in_ok-view.ensures.line loads c.stream_rows-end.new.sim asked.rows (c.in-Done.ensures.stands refl loads there) in
    let part = finish_fails p runnable (told c.args.out.now) (told c.push.new.sink) c.push.new.self begun (told c.stream_rows-end.new.out) (told c.finish.new.out) c.stream_rows-end.new.held c.stream_rows-end.new.sim streamed after c.in_err-finish-in-Done.ensures.prefix in
    passed_leaves p c.from_residual-in_err-finish-in-Done.result stop.WriteFault (told c.args.out.now) (told c.finish.new.out) c.from_residual-in_err-finish-in-Done.ensures.1 part

pub returns-in-Done-clause-leaves : goal.returns-in-Done-clause-leaves
returns-in-Done-clause-leaves g c = λ loads stands.
    let n = netlist_of c.args.built.now.net in
    let told = g.O.Sink.written in
    let asked = c.args.asked.now in
    let line = line_seen c.args.built.now.table.names (txs_of asked.drive) c.in_ok-view.view in
    let p = asked_run n asked loads in
    let runnable = runnable_from c.args.built.now asked loads c.requires.ready c.requires.fits in
    let begun = rw c.in_ok-held.ensures at c.in_ok-push.ensures.passed in
    let there = stands_there n (netlist_of c.args.sim.now.net) c.requires.net asked line c.in_ok-view.ensures.line loads c.args.sim.now 0 stands in
    let streamed = streamed_here n (netlist_of c.args.sim.now.net) c.requires.net asked line c.in_ok-view.ensures.line loads ends.Done (told c.push.new.sink) c.push.new.self (told c.stream_rows-end.new.out) c.stream_rows-end.new.held (c.in-Done.ensures.streamed loads there) in
    let after = stands_here n (netlist_of c.args.sim.now.net) c.requires.net asked line c.in_ok-view.ensures.line loads c.stream_rows-end.new.sim asked.rows (c.in-Done.ensures.stands refl loads there) in
    all_leaves p runnable (told c.args.out.now) (told c.push.new.sink) c.push.new.self begun (told c.stream_rows-end.new.out) (told c.finish.new.out) c.stream_rows-end.new.held c.stream_rows-end.new.sim streamed after c.in_ok-finish-in-Done.ensures.appended

pub returns-in_err-flush-in-Conflict-clause-leaves : goal.returns-in_err-flush-in-Conflict-clause-leaves
returns-in_err-flush-in-Conflict-clause-leaves g c = λ loads stands.
    let n = netlist_of c.args.built.now.net in
    let told = g.O.Sink.written in
    let asked = c.args.asked.now in
    let line = line_seen c.args.built.now.table.names (txs_of asked.drive) c.in_ok-view.view in
    let p = asked_run n asked loads in
    let runnable = runnable_from c.args.built.now asked loads c.requires.ready c.requires.fits in
    let begun = rw c.in_ok-held.ensures at c.in_ok-push.ensures.passed in
    let there = stands_there n (netlist_of c.args.sim.now.net) c.requires.net asked line c.in_ok-view.ensures.line loads c.args.sim.now 0 stands in
    let streamed = streamed_here n (netlist_of c.args.sim.now.net) c.requires.net asked line c.in_ok-view.ensures.line loads (ends.Conflict c.in-Conflict.cycle c.in-Conflict.port) (told c.push.new.sink) c.push.new.self (told c.stream_rows-end.new.out) c.stream_rows-end.new.held (c.in-Conflict.ensures.streamed loads there) in
    let part = conflict_part p runnable (told c.args.out.now) (told c.push.new.sink) c.push.new.self begun c.in-Conflict.cycle c.in-Conflict.port (told c.stream_rows-end.new.out) (told c.flush.new.sink) c.stream_rows-end.new.held streamed c.in_err-flush-in-Conflict.ensures.prefix in
    passed_leaves p c.from_residual-in_err-flush-in-Conflict.result stop.WriteFault (told c.args.out.now) (told c.flush.new.sink) c.from_residual-in_err-flush-in-Conflict.ensures.1 part

pub conflict-requires-clause-named : goal.conflict-requires-clause-named
conflict-requires-clause-named g c = c.in-Conflict.ensures.port c.in-Conflict.cycle c.in-Conflict.port refl

pub conflict-requires-clause-numbers : goal.conflict-requires-clause-numbers
conflict-requires-clause-numbers g c = table_numbers (netlist_of c.args.built.now.net) c.args.built.now.table c.requires.ready.table

pub returns-in-Conflict-clause-leaves : goal.returns-in-Conflict-clause-leaves
returns-in-Conflict-clause-leaves g c = λ loads stands.
    let n = netlist_of c.args.built.now.net in
    let told = g.O.Sink.written in
    let asked = c.args.asked.now in
    let line = line_seen c.args.built.now.table.names (txs_of asked.drive) c.in_ok-view.view in
    let p = asked_run n asked loads in
    let runnable = runnable_from c.args.built.now asked loads c.requires.ready c.requires.fits in
    let begun = rw c.in_ok-held.ensures at c.in_ok-push.ensures.passed in
    let there = stands_there n (netlist_of c.args.sim.now.net) c.requires.net asked line c.in_ok-view.ensures.line loads c.args.sim.now 0 stands in
    let streamed = streamed_here n (netlist_of c.args.sim.now.net) c.requires.net asked line c.in_ok-view.ensures.line loads (ends.Conflict c.in-Conflict.cycle c.in-Conflict.port) (told c.push.new.sink) c.push.new.self (told c.stream_rows-end.new.out) c.stream_rows-end.new.held (c.in-Conflict.ensures.streamed loads there) in
    conflict_leaves p runnable (told c.args.out.now) (told c.push.new.sink) c.push.new.self begun c.in-Conflict.cycle c.in-Conflict.port c.args.built.now.table.names c.conflict.result (told c.stream_rows-end.new.out) (told c.flush.new.sink) c.stream_rows-end.new.held c.requires.ready.table.names c.conflict.ensures streamed c.in_ok-flush-in-Conflict.ensures.appended

pub returns-clause-leaves : goal.returns-clause-leaves
returns-clause-leaves g c = λ loads stands.
    let n = netlist_of c.args.built.now.net in
    let told = g.O.Sink.written in
    let asked = c.args.asked.now in
    let line = line_seen c.args.built.now.table.names (txs_of asked.drive) c.in_ok-view.view in
    let p = asked_run n asked loads in
    let runnable = runnable_from c.args.built.now asked loads c.requires.ready c.requires.fits in
    let begun = rw c.in_ok-held.ensures at c.in_ok-push.ensures.passed in
    let there = stands_there n (netlist_of c.args.sim.now.net) c.requires.net asked line c.in_ok-view.ensures.line loads c.args.sim.now 0 stands in
    let streamed = streamed_here n (netlist_of c.args.sim.now.net) c.requires.net asked line c.in_ok-view.ensures.line loads ends.WriteFault (told c.push.new.sink) c.push.new.self (told c.stream_rows-end.new.out) c.stream_rows-end.new.held (c.in-WriteFault.ensures.streamed loads there) in
    fault_leaves p runnable (told c.args.out.now) (told c.push.new.sink) c.push.new.self begun (told c.stream_rows-end.new.out) c.stream_rows-end.new.held streamed
