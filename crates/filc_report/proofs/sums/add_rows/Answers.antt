use Rattle.std.proofs.Common.{◌≡◌, ◌+◌, ◌≤◌, ℕ, List, Some, length, map, refl, sym, ap, ap₂, subst, ◌∙◌, add-one, arith}
use Rattle.std.specs.List.{sum}
use Rattle.std.specs.declared.ops.Range.{Range}
use Rattle.hw_bits.specs.Values.{values_of, widths_of}
use Rattle.hw_bits.specs.declared.bits.Bits.{Bits}
use Rattle.hw_names.specs.Name.{AreDistinct}
use Rattle.hw_prims.specs.Table.{pin_widths}
use Rattle.net_core.specs.Netlist.{Netlist, netlist_of}
use Rattle.net_core.specs.Table.{IsTableOf}
use Rattle.net_sim.specs.Layout.{port_names}
use Rattle.net_sim.specs.Sim.{input_row}
use Rattle.fil_ast.specs.declared.tx.Tx.{Tx}
use Rattle.filc_report.specs.Driving.{trace_of, txs_of}
use Rattle.filc_report.specs.Intervals.{RiseByEvent}
use Rattle.filc_report.specs.Streams.{IsStopped}
use Rattle.filc_report.specs.Sums.{AddUp, sum_seen}
use Rattle.filc_report.specs.Views.{marks_in, IsViewAt}
use Rattle.filc_report.proofs.DriveLemmas.{drive_rises}
use Rattle.filc_report.proofs.SumLemmas.{AddedTo, added_all, added_more, added_none, meets_conflict, ports_added, sum_marked_so}
use Rattle.filc_report.proofs.sums.add_rows.Goals as goal

pub set_row-requires-in-loop-cycle-clause-rise : goal.set_row-requires-in-loop-cycle-clause-rise
set_row-requires-in-loop-cycle-clause-rise c = subst RiseByEvent (sym c.txs.ensures) (drive_rises (netlist_of c.args.sim.now.net) c.args.drive c.requires.drive)

pub loop-cycle-preserved : goal.loop-cycle-preserved
loop-cycle-preserved c =
    let n = netlist_of c.args.sim.now.net in
    let names = c.args.table.now.names in
    let txs = txs_of c.args.drive in
    let row = c.in-Ok.ensures.added in
    let same = c.loop-cycle.invariant.net in
    let view = c.set_row-in-loop-cycle.new.self in
    let ports = c.set_row-in-loop-cycle.ensures.ports ∙ c.loop-cycle.invariant.ports in
    let marks = c.set_row-in-loop-cycle.ensures.marks ∙ ap (λ (ts : List Tx). marks_in c.loop-cycle.view ts c.loop-cycle.cycle) c.txs.ensures ∙ c.loop-cycle.invariant.marks c.loop-cycle.cycle in
    let all : length row.between.values ≡ length (port_names n) = row.row.values ∙ ap (λ (m : Netlist). length (port_names m)) same in
    record {
      net = ap netlist_of (row.edge.net ∙ row.row.net) ∙ same;
      goes_on = c.in-Ok.ensures.goes_on refl;
      inputs = c.set_row.ensures.at n c.requires.drive c.loop-cycle.invariant.inputs;
      view = subst (λ (ts : List Tx). IsViewAt view ts (c.loop-cycle.cycle + 1)) c.txs.ensures c.set_row-in-loop-cycle.ensures.at;
      ports = ports;
      marks = λ later. subst (λ (ts : List Tx). marks_in view ts later ≡ marks_in c.loop-cycle.view ts later) c.txs.ensures (c.set_row-in-loop-cycle.ensures.later later) ∙ c.loop-cycle.invariant.marks later;
      added = λ loads stands.
          subst (λ (t : ℕ). AddedTo n (sum_seen names txs c.args.view.now) c.add_row.new.sim t (trace_of n c.args.drive) loads c.add_row.new.self) (sym (add-one c.loop-cycle.cycle))
          (added_more n (sum_seen names txs c.args.view.now) c.loop-cycle.sim c.add_row.new.sim c.loop-cycle.cycle (trace_of n c.args.drive) loads (values_of c.deref.result.now) c.loop-cycle.sums c.add_row.new.self
          (c.loop-cycle.invariant.added loads stands)
          (λ port has. ap (λ (bits : List Bits). input_row n (values_of bits) port) c.deref.ensures.value ∙ c.set_row.ensures.given n c.requires.drive c.loop-cycle.invariant.inputs port has)
          view row (sum_marked_so n names txs c.args.view.now view c.loop-cycle.cycle row.between.values c.requires.table.names c.requires.distinct all ports marks)
          (ports_added n row.between.values c.loop-cycle.cycle (subst AreDistinct c.requires.table.names c.requires.distinct) all));
    }

pub returns-in-Err : goal.returns-in-Err
returns-in-Err c loads stands =
    let n = netlist_of c.args.sim.now.net in
    let names = c.args.table.now.names in
    let txs = txs_of c.args.drive in
    meets_conflict n (sum_seen names txs c.args.view.now) c.loop-cycle.sim c.add_row.new.sim c.loop-cycle.cycle (trace_of n c.args.drive) loads (values_of c.deref.result.now) c.loop-cycle.sums c.add_row.new.self
    (c.loop-cycle.invariant.added loads stands)
    (λ port has. ap (λ (bits : List Bits). input_row n (values_of bits) port) c.deref.ensures.value ∙ c.set_row.ensures.given n c.requires.drive c.loop-cycle.invariant.inputs port has)
    c.args.rows _ (omega (arith, c.loop-cycle-test.true)) c.in-Err.ensures.added

pub returns : goal.returns
returns c loads stands =
    let n = netlist_of c.args.sim.now.net in
    let due = sum_seen c.args.table.now.names (txs_of c.args.drive) c.args.view.now in
    let all : c.loop-cycle.cycle ≡ c.args.rows = omega (arith, c.loop-cycle-test.false, c.loop-cycle.auto.cycle-end) in
    subst (λ (t : ℕ). AddUp n due t (trace_of n c.args.drive) loads c.loop-cycle.sums) all
    (added_all n due c.loop-cycle.sim c.loop-cycle.cycle (trace_of n c.args.drive) loads c.loop-cycle.sums (c.loop-cycle.invariant.added loads stands))
