use Rattle.std.proofs.Common.{◌≡◌, ℕ, List}
use Rattle.hw_names.specs.Name.{Text}
use Rattle.net_core.specs.Netlist.{netlist_of}
use Rattle.net_sim.specs.Standing.{StandsAt}
use Rattle.filc_report.specs.Driving.{trace_of, txs_of, AreInputsAt}
use Rattle.filc_report.specs.Streams.{IsStopped}
use Rattle.filc_report.specs.Sums.{sum_seen}
use Rattle.filc_report.specs.Views.{marks_in, IsViewAt}
use Rattle.filc_report.proofs.SumLemmas.{AddedTo}
use Rattle.filc_report.proofs.sums.add_rows.Given as goal

-- the rows before this one were added; the inputs and the view stand before it
abbrev pub invariant-loop-cycle : goal.invariant-loop-cycle
invariant-loop-cycle l =
    let n = netlist_of l.fn.sim.net in
    let trace = trace_of n l.fn.drive in
    let txs = txs_of l.fn.drive in
    record {
      net : netlist_of l.sim.net ≡ n;
      goes_on : IsStopped l.sim.phase → ⊥;
      inputs : AreInputsAt n l.fn.drive l.inputs l.cycle;
      view : IsViewAt l.view txs l.cycle;
      ports : l.view.ports ≡ l.fn.view.ports;
      marks : (later : ℕ) → marks_in l.view txs later ≡ marks_in l.fn.view txs later;
      added : (loads : Text → List ℕ) → StandsAt n l.fn.sim 0 trace loads → AddedTo n (sum_seen l.table.names txs l.fn.view) l.sim l.cycle trace loads l.sums;
    }
