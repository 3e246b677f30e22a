-- The soak as the program makes it: the netlist, ready to run, and the transactions. This project's.
use Rattle.std.specs.Prelude.{◌≡◌, ◌≤◌}
use Rattle.net_core.specs.Netlist.{netlist_of}
use Rattle.net_guard.specs.Folded.{HasFoldedGuards}
use Rattle.net_text.specs.Names.{HasText}
use Rattle.fil_ast.specs.Signature.{component_signature}
use Rattle.fil_driven.specs.TxDrive.{driven_by}
use Rattle.fil_promise.specs.Refines.{Refines}
use Rattle.fil_sig.specs.Seen.{seen}
use Rattle.stim_read.specs.TxRun.{tx_run_seen}
use Rattle.hw_limits.specs.declared.limits.TheConstants.{MOST_TRANSACTIONS}
use Rattle.filc_load.specs.Built.{IsReady}
use Rattle.filc_report.specs.Runs.{no_loads}
use Rattle.filc_report.specs.Sums.{AddUp, due_in}
use Rattle.filc_report.specs.declared.sums.Sums.{Sums}
use Rattle.filc_run.specs.Soaked.{soak, soak_design, soak_rows, soak_run, soak_transactions}
use Rattle.filc_run.specs.declared.soak.Soak.{Soak}

-- the netlist keeps what the design promises, and so many transactions are there
pub record IsSoak (s : Soak) : Type 0 where
  pub few : s.count ≤ MOST_TRANSACTIONS
  pub ready : IsReady s.lowered.built
  pub refines : Refines soak_design (netlist_of s.lowered.built.net)
  pub folded : HasFoldedGuards (netlist_of s.lowered.built.net)
  pub text : HasText (netlist_of s.lowered.built.net)
  pub sig : seen s.lowered.sig ≡ component_signature soak
  pub rows : s.lowered.rows ≡ soak_rows s.count
  pub list : tx_run_seen s.list ≡ soak_run s.count

-- what the rows of its run add up to
abbrev pub AddsUpTo : Soak → Sums → Type 0
AddsUpTo s =
    AddUp (netlist_of s.lowered.built.net) (due_in (component_signature soak).outs (soak_transactions s.count)) (soak_rows s.count)
    (driven_by (component_signature soak) (soak_run s.count)) no_loads
