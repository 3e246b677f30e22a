-- The rows of a netlist that a Filament design was lowered to, as transactions drive it, after the netlist's text. This project's.
use Rattle.std.specs.Prelude.{◌≡◌, true, [], ◌∷◌, ◌++◌}
use Rattle.hw_names.specs.Name.{Text}
use Rattle.hw_prims.specs.Row.{Trace}
use Rattle.net_core.specs.NetRun.{NetRun}
use Rattle.net_core.specs.Netlist.{Netlist}
use Rattle.net_guard.specs.Folded.{HasFoldedGuards}
use Rattle.net_text.specs.Reading.{Spells}
use Rattle.fil_ast.specs.Signature.{component_signature}
use Rattle.fil_ast.specs.Tree.{Component, Design}
use Rattle.fil_driven.specs.TxDrive.{driven_by}
use Rattle.fil_promise.specs.Refines.{Refines}
use Rattle.stim_read.specs.TxRun.{TxRun}
use Rattle.filc_report.specs.Rows.{lines_text, row_text}
use Rattle.filc_report.specs.Runs.{no_loads}
use Rattle.filc_report.specs.Streams.{shown_ports}
use Rattle.filc_stop.specs.Outcome.{Outcome, done_with}
use Rattle.filc_run.specs.Meant.{rows_taken}

-- the text spells a netlist with folded guards that keeps what the design promises: for every legal list of transactions, overlapping as it may, each
-- instance at each path
-- carries what the list gives it
pub record IsNetOf (design : Design) (net : Netlist) (made : Text) : Type 0 where
  pub refines : Refines design net
  pub folded : HasFoldedGuards net
  pub spells : Spells made net

-- the text is that of such a netlist
abbrev pub IsMadeOf : Design → Text → Type 0
IsMadeOf design made = (net : Netlist) × IsNetOf design net made

-- the text of such a netlist, an empty line, and the rows of all its ports as these transactions of its top component drive it
pub record Traces (design : Design) (c : Component) (run : TxRun) (made : Text) (o : Outcome) : Type 0 where
  pub net : Netlist
  pub made_net : IsNetOf design net made
  pub trace : Trace
  pub is_run : NetRun net (rows_taken c run.transactions) (driven_by (component_signature c) run) no_loads (rows_taken c run.transactions) trace
  pub outcome : o ≡ done_with (made ++ 10 ∷ [] ++ lines_text (row_text (shown_ports net true)) trace (rows_taken c run.transactions))
