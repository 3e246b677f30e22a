use Rattle.std.proofs.Common.{◌≡◌, ◌<◌, ℕ, Some, length, map, take, get_or}
use Rattle.std.specs.Prelude.{slice_get}
use Rattle.fil_sig.specs.Seen.{seen_port}
use Rattle.stim_read.specs.TxEvents.{ports_after}
use Rattle.filc_report.specs.Driving.{IsDataInput}
use Rattle.filc_report.specs.declared.tx_inputs.TxInput.{TxInput}
use Rattle.filc_report.proofs.tx_inputs.data_inputs.Given as goal

-- the ports so far are made inputs, and those of each event are counted
abbrev pub invariant-loop-port : goal.invariant-loop-port
invariant-loop-port l =
    record {
      as_many : length l.inputs.items ≡ l.port-index;
      each : (k : ℕ) (i : TxInput) → slice_get l.inputs.items k ≡ Some i → IsDataInput (map seen_port l.ports) k i;
      events : length l.places ≡ 256;
      counted : (e : ℕ) → e < 256 → get_or l.places e 0 ≡ length (ports_after e (take l.port-index (map seen_port l.ports)));
    }
