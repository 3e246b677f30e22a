use Rattle.std.proofs.Common.{◌≡◌, ◌≤◌, ℕ, List}
use Rattle.hw_names.specs.Name.{Text}
use Rattle.net_core.specs.Netlist.{netlist_of}
use Rattle.net_sim.specs.Standing.{StandsAt}
use Rattle.filc_report.specs.Driving.{trace_of, txs_of, AreInputsAt}
use Rattle.filc_report.specs.Streams.{IsStopped}
use Rattle.filc_report.specs.Views.{line_seen, marks_in, IsViewAt}
use Rattle.filc_report.proofs.StreamLemmas.{StreamedTo}
use Rattle.filc_report.proofs.stream.stream_rows.Given as goal

-- the rows before this one were passed on; the inputs and the view stand before it
abbrev pub invariant-loop-cycle : goal.invariant-loop-cycle
invariant-loop-cycle g l =
    let sink = g.O.Sink in
    let n = netlist_of l.fn.sim.net in
    let trace = trace_of n l.fn.drive in
    let txs = txs_of l.fn.drive in
    record {
      net : netlist_of l.sim.net ≡ n;
      goes_on : IsStopped l.sim.phase → ⊥;
      inputs : AreInputsAt n l.fn.drive l.inputs l.cycle;
      view : IsViewAt l.view txs l.cycle;
      ports : l.view.ports ≡ l.fn.view.ports;
      marks : (later : ℕ) → marks_in l.view txs later ≡ marks_in l.fn.view txs later;
      streamed : (loads : Text → List ℕ) → StandsAt n l.fn.sim 0 trace loads → StreamedTo n (line_seen l.table.names txs l.fn.view) l.sim l.cycle trace loads (sink.written l.fn.out) l.fn.held (sink.written l.out) l.held;
      never_falls : sink.faults l.fn.out ≤ sink.faults l.out;
    }
