use Rattle.std.proofs.Common.{◌≡◌, ◌+◌, ◌≤◌, ℕ, List, length, refl, sym, ap, subst, ◌∙◌, arith}
use Rattle.std.specs.declared.ops.Range.{Range}
use Rattle.hw_bits.specs.Values.{values_of, widths_of}
use Rattle.hw_bits.specs.declared.bits.Bits.{Bits}
use Rattle.hw_io.proofs.WritingLemmas.{rose_at_last}
use Rattle.hw_prims.specs.Table.{pin_widths}
use Rattle.net_core.specs.Netlist.{Netlist, netlist_of}
use Rattle.net_core.specs.Table.{IsTableOf}
use Rattle.net_sim.specs.Layout.{port_names}
use Rattle.net_sim.specs.Sim.{input_row}
use Rattle.net_sim.specs.Standing.{StandsAt}
use Rattle.fil_ast.specs.declared.tx.Tx.{Tx}
use Rattle.filc_report.specs.Driving.{trace_of, txs_of}
use Rattle.filc_report.specs.Intervals.{RiseByEvent}
use Rattle.filc_report.specs.Streams.{IsStopped, IsStreamed}
use Rattle.filc_report.specs.Views.{line_seen, marked_row, marks_in, IsViewAt}
use Rattle.filc_report.specs.declared.stream.RowEnd.TheVariants as ends
use Rattle.filc_report.proofs.DriveLemmas.{drive_rises}
use Rattle.filc_report.proofs.StreamLemmas.{streamed_none, streamed_stands, streamed_all, net_stays, conflict_within, one_row_more, ends_in_row}
use Rattle.filc_report.proofs.ViewLemmas.{row_marked}
use Rattle.filc_report.proofs.stream.stream_rows.Goals as goal

pub loop-cycle-init : goal.loop-cycle-init
loop-cycle-init g c =
    let n = netlist_of c.args.sim.now.net in
    record {
      net = refl;
      goes_on = λ stopped. subst IsStopped c.requires.fresh stopped;
      inputs = c.requires.inputs;
      view = c.requires.view;
      ports = refl;
      marks = λ later. refl;
      streamed = λ loads stands. streamed_none n (line_seen c.args.table.now.names (txs_of c.args.drive) c.args.view.now) c.args.sim.now (trace_of n c.args.drive) loads (g.O.Sink.written c.args.out.now) c.args.held.now stands;
      never_falls = omega arith;
    }

pub set_row-requires : goal.set_row-requires
set_row-requires g c = (netlist_of c.args.sim.now.net, c.requires.drive, c.loop-cycle.invariant.inputs)

pub set_row-requires-in-loop-cycle : goal.set_row-requires-in-loop-cycle
set_row-requires-in-loop-cycle g c = record {
  rise = subst RiseByEvent (sym c.txs.ensures) (drive_rises (netlist_of c.args.sim.now.net) c.args.drive c.requires.drive);
  at = subst (λ (txs : List Tx). IsViewAt c.loop-cycle.view txs c.loop-cycle.cycle) (sym c.txs.ensures) c.loop-cycle.invariant.view;
}

pub stream_row-requires : goal.stream_row-requires
stream_row-requires g c =
    let n = netlist_of c.args.sim.now.net in
    let same = c.loop-cycle.invariant.net in
    let next = c.set_row.ensures.at n c.requires.drive c.loop-cycle.invariant.inputs in
    record {
      goes_on = c.loop-cycle.invariant.goes_on;
      table = subst (λ (m : Netlist). IsTableOf m c.args.table.now) (sym same) c.requires.table;
      distinct = c.requires.distinct;
      within = subst (λ (r : Range ℕ). r.end ≤ length c.args.table.now.names) (sym (c.set_row-in-loop-cycle.ensures.ports ∙ c.loop-cycle.invariant.ports)) c.requires.within;
      marks = c.set_row-in-loop-cycle.ensures.at.marks;
      inputs = ap (λ (m : Netlist). pin_widths m.ins) same ∙ next.widths ∙ ap widths_of (sym c.deref.ensures.value);
    }

pub returns-in_default : goal.returns-in_default
returns-in_default g c =
    let n = netlist_of c.args.sim.now.net in
    let names = c.args.table.now.names in
    let txs = txs_of c.args.drive in
    let line = line_seen names txs c.args.view.now in
    let told = g.O.Sink.written in
    let row = c.stream_row.ensures.streamed in
    let marks = c.set_row-in-loop-cycle.ensures.marks ∙ ap (λ (ts : List Tx). marks_in c.loop-cycle.view ts c.loop-cycle.cycle) c.txs.ensures ∙ c.loop-cycle.invariant.marks c.loop-cycle.cycle in
    record {
      streamed = λ loads stands. ends_in_row n (netlist_of c.loop-cycle.sim.net) c.loop-cycle.invariant.net line (marked_row names c.set_row-in-loop-cycle.new.self)
          c.loop-cycle.sim c.stream_row.new.sim c.args.rows c.loop-cycle.cycle (trace_of n c.args.drive) loads (values_of c.deref.result.now)
          (told c.args.out.now) c.args.held.now (told c.loop-cycle.out) c.loop-cycle.held (told c.stream_row.new.out) c.stream_row.new.held
          (omega (arith, c.loop-cycle-test.true))
          (row_marked names txs c.args.view.now c.set_row-in-loop-cycle.new.self c.loop-cycle.cycle (c.set_row-in-loop-cycle.ensures.ports ∙ c.loop-cycle.invariant.ports) marks)
          (c.loop-cycle.invariant.streamed loads stands)
          (λ port has. ap (λ (bits : List Bits). input_row n (values_of bits) port) c.deref.ensures.value ∙ c.set_row.ensures.given n c.requires.drive c.loop-cycle.invariant.inputs port has)
          c.stream_row.result c.in_default.not-Done row;
      stands = λ done. absurd (c.in_default.not-Done done);
      net = net_stays (netlist_of c.loop-cycle.sim.net) (marked_row names c.set_row-in-loop-cycle.new.self) c.loop-cycle.cycle (values_of c.deref.result.now) c.stream_row.result c.loop-cycle.sim c.stream_row.new.sim (told c.loop-cycle.out) c.loop-cycle.held (told c.stream_row.new.out) c.stream_row.new.held row ∙ c.loop-cycle.invariant.net;
      port = λ at port is. omega (
        arith,
        conflict_within (netlist_of c.loop-cycle.sim.net) (marked_row names c.set_row-in-loop-cycle.new.self) c.loop-cycle.cycle (values_of c.deref.result.now) c.stream_row.result c.loop-cycle.sim c.stream_row.new.sim (told c.loop-cycle.out) c.loop-cycle.held (told c.stream_row.new.out) c.stream_row.new.held row at port is,
        ap (λ (m : Netlist). length (port_names m)) c.loop-cycle.invariant.net,
        ap length c.requires.table.names,
      );
      failed = λ failed. rose_at_last (g.O.Sink.faults c.args.out.now) (g.O.Sink.faults c.loop-cycle.out) (g.O.Sink.faults c.stream_row.new.out) c.loop-cycle.invariant.never_falls (c.stream_row.ensures.failed failed);
      never_falls = omega (arith, c.loop-cycle.invariant.never_falls, c.stream_row.ensures.never_falls);
    }

pub loop-cycle-preserved : goal.loop-cycle-preserved
loop-cycle-preserved g c =
    let n = netlist_of c.args.sim.now.net in
    let names = c.args.table.now.names in
    let txs = txs_of c.args.drive in
    let line = line_seen names txs c.args.view.now in
    let told = g.O.Sink.written in
    let row = c.in-Done.ensures.streamed in
    let marks = c.set_row-in-loop-cycle.ensures.marks ∙ ap (λ (ts : List Tx). marks_in c.loop-cycle.view ts c.loop-cycle.cycle) c.txs.ensures ∙ c.loop-cycle.invariant.marks c.loop-cycle.cycle in
    record {
      net = ap netlist_of (row.edge.net ∙ row.row.net) ∙ c.loop-cycle.invariant.net;
      goes_on = c.in-Done.ensures.goes_on refl;
      inputs = c.set_row.ensures.at n c.requires.drive c.loop-cycle.invariant.inputs;
      view = subst (λ (ts : List Tx). IsViewAt c.set_row-in-loop-cycle.new.self ts (c.loop-cycle.cycle + 1)) c.txs.ensures c.set_row-in-loop-cycle.ensures.at;
      ports = c.set_row-in-loop-cycle.ensures.ports ∙ c.loop-cycle.invariant.ports;
      marks = λ later. subst (λ (ts : List Tx). marks_in c.set_row-in-loop-cycle.new.self ts later ≡ marks_in c.loop-cycle.view ts later) c.txs.ensures (c.set_row-in-loop-cycle.ensures.later later) ∙ c.loop-cycle.invariant.marks later;
      streamed = λ loads stands. one_row_more n (netlist_of c.loop-cycle.sim.net) c.loop-cycle.invariant.net line (marked_row names c.set_row-in-loop-cycle.new.self)
          c.loop-cycle.sim c.stream_row.new.sim c.args.rows c.loop-cycle.cycle (trace_of n c.args.drive) loads (values_of c.deref.result.now)
          (told c.args.out.now) c.args.held.now (told c.loop-cycle.out) c.loop-cycle.held (told c.stream_row.new.out) c.stream_row.new.held
          (omega (arith, c.loop-cycle-test.true))
          (row_marked names txs c.args.view.now c.set_row-in-loop-cycle.new.self c.loop-cycle.cycle (c.set_row-in-loop-cycle.ensures.ports ∙ c.loop-cycle.invariant.ports) marks)
          (c.loop-cycle.invariant.streamed loads stands)
          (λ port has. ap (λ (bits : List Bits). input_row n (values_of bits) port) c.deref.ensures.value ∙ c.set_row.ensures.given n c.requires.drive c.loop-cycle.invariant.inputs port has)
          row;
      never_falls = omega (arith, c.loop-cycle.invariant.never_falls, c.in-Done.ensures.never_falls);
    }

pub returns-clause-streamed : goal.returns-clause-streamed
returns-clause-streamed g c loads stands =
    let n = netlist_of c.args.sim.now.net in
    let line = line_seen c.args.table.now.names (txs_of c.args.drive) c.args.view.now in
    let inputs = trace_of n c.args.drive in
    let all : c.loop-cycle.cycle ≡ c.args.rows = omega (arith, c.loop-cycle-test.false, c.loop-cycle.auto.cycle-end) in
    subst (λ (t : ℕ). IsStreamed n line t inputs loads ends.Done (g.O.Sink.written c.args.out.now) c.args.held.now (g.O.Sink.written c.loop-cycle.out) c.loop-cycle.held) all
    (streamed_all n line c.loop-cycle.sim c.loop-cycle.cycle inputs loads (g.O.Sink.written c.args.out.now) c.args.held.now (g.O.Sink.written c.loop-cycle.out) c.loop-cycle.held (c.loop-cycle.invariant.streamed loads stands))

pub returns-clause-stands : goal.returns-clause-stands
returns-clause-stands g c done loads stands =
    let n = netlist_of c.args.sim.now.net in
    let line = line_seen c.args.table.now.names (txs_of c.args.drive) c.args.view.now in
    let inputs = trace_of n c.args.drive in
    let all : c.loop-cycle.cycle ≡ c.args.rows = omega (arith, c.loop-cycle-test.false, c.loop-cycle.auto.cycle-end) in
    subst (λ (t : ℕ). StandsAt n c.loop-cycle.sim t inputs loads) all
    (streamed_stands n line c.loop-cycle.sim c.loop-cycle.cycle inputs loads (g.O.Sink.written c.args.out.now) c.args.held.now (g.O.Sink.written c.loop-cycle.out) c.loop-cycle.held (c.loop-cycle.invariant.streamed loads stands))
