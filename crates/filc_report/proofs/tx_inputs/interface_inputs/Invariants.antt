use Rattle.std.proofs.Common.{◌≡◌, ℕ, [], Some, length, map, get_or}
use Rattle.std.specs.Prelude.{slice_get}
use Rattle.fil_sig.specs.Seen.{seen_event}
use Rattle.filc_report.specs.Driving.{IsInterface}
use Rattle.filc_report.specs.declared.tx_inputs.TxInput.{TxInput}
use Rattle.filc_report.proofs.tx_inputs.interface_inputs.Given as goal

-- the inputs so far are interface ports
abbrev pub invariant-loop-input : goal.invariant-loop-input
invariant-loop-input l =
    record {
      as_many : length l.inputs.items ≡ l.input;
      each : (k : ℕ) (i : TxInput) → slice_get l.inputs.items k ≡ Some i → IsInterface (map seen_event l.events) (get_or l.table.names k []) i;
    }
