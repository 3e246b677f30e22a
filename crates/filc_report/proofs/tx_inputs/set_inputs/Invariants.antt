use Rattle.std.proofs.Common.{◌≡◌, ◌<◌, ℕ, Some, get_or}
use Rattle.std.specs.Prelude.{slice_get}
use Rattle.hw_bits.specs.Values.{values_of, widths_of}
use Rattle.filc_report.specs.Driving.{value_in}
use Rattle.filc_report.specs.Intervals.{ArePassed}
use Rattle.filc_report.specs.declared.tx_inputs.TxInput.{TxInput}
use Rattle.filc_report.proofs.tx_inputs.set_inputs.Given as goal

-- the inputs so far have their values; each has passed only what is over
abbrev pub invariant-loop-at : goal.invariant-loop-at
invariant-loop-at l =
    record {
      passed : (k : ℕ) (i : TxInput) → slice_get l.ports k ≡ Some i → ArePassed i.interval l.list.txs.items (get_or l.nexts k 0) l.row;
      widths : widths_of l.inputs ≡ widths_of l.fn.inputs;
      values : (k : ℕ) (i : TxInput) → k < l.at → slice_get l.ports k ≡ Some i → get_or (values_of l.inputs) k 0 ≡ value_in i l.list l.row (get_or (widths_of l.fn.inputs) k 0);
    }
