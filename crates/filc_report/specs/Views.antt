-- What the rows of a run show of the ports. This project's.
use Rattle.std.specs.Prelude.{◌≡◌, ℕ, ◌+◌, ◌≤◌, Bool, true, List, [], ◌++◌, length, map, drop, slice_range, if◌then◌else◌}
use Rattle.std.specs.Option.{is_some}
use Rattle.hw_names.specs.Name.{Text}
use Rattle.hw_prims.specs.Row.{Row}
use Rattle.net_core.specs.Netlist.{Netlist}
use Rattle.fil_ast.specs.Signature.{Signature}
use Rattle.fil_ast.specs.declared.tx.Tx.{Tx}
use Rattle.fil_sig.specs.Seen.{seen, seen_port}
use Rattle.fil_sig.specs.declared.time_sig.SigPort.{SigPort}
use Rattle.stim_read.specs.TxRun.{Transaction, transaction_seen}
use Rattle.filc_report.specs.Intervals.{port_interval, holding, ArePassedBy}
use Rattle.filc_report.specs.Rows.{marked_line, row_text}
use Rattle.filc_report.specs.Streams.{shown_ports}
use Rattle.fil_driven.specs.Shown.{outputs_line}
use Rattle.filc_report.specs.declared.drive.Drive.{Drive}
use Rattle.filc_report.specs.declared.drive.Drive.TheVariants.{Cycles, Txs}
use Rattle.filc_report.specs.declared.intervals.Interval.{Interval}
use Rattle.filc_report.specs.declared.view.View.{View}

-- the line of a row of a run that transactions drive: all ports with their values, or the outputs in whose intervals the row lies
abbrev pub transactions_line : Netlist → Signature → List Transaction → Bool → ℕ → Row → Text
transactions_line n sig txs all = if all then row_text (shown_ports n true) else outputs_line txs sig.outs

-- the line of a row, by what drives the run
abbrev pub line_of : Netlist → Drive → Bool → ℕ → Row → Text
line_of n (Cycles list) all = row_text (shown_ports n all)
line_of n (Txs list sig) all = transactions_line n (seen sig.now) (map transaction_seen list.now.txs.items) all

-- the intervals in which outputs are shown, where not every port is shown in every row
abbrev pub output_intervals : Drive → Bool → List Interval
output_intervals (Cycles list) all = []
output_intervals (Txs list sig) all = if all then [] else map (λ (p : SigPort). port_interval (seen_port p)) sig.now.outs.items

-- the names of the ports of a view
abbrev pub ports_seen : List Text → View → List Text
ports_seen names v = slice_range names v.ports.start v.ports.end

-- whether each of its ports is shown in a row: the first by their intervals, the others as before
abbrev pub marks_in : View → List Tx → ℕ → List Bool
marks_in v txs row =
    map (λ (i : Interval). is_some (holding i row txs)) v.intervals.items ++ drop (length v.intervals.items) v.shown.items

-- the line of a row with the marks of a view
abbrev pub marked_row : List Text → View → ℕ → Row → Text
marked_row names v row values = marked_line row (ports_seen names v) (map values (ports_seen names v)) v.shown.items

-- the same, where the values of all ports are in the order of their names
abbrev pub line_at : ℕ → List Text → List ℕ → View → Text
line_at row names values v = marked_line row (ports_seen names v) (slice_range values v.ports.start v.ports.end) v.shown.items

-- the line of a row through a view
abbrev pub line_seen : List Text → List Tx → View → ℕ → Row → Text
line_seen names txs v row values = marked_line row (ports_seen names v) (map values (ports_seen names v)) (marks_in v txs row)

-- a view of ports, as it stands before a row
pub record IsViewAt (v : View) (txs : List Tx) (row : ℕ) : Type 0 where
  pub marks : v.ports.start + length v.shown.items ≡ v.ports.end
  pub intervals : length v.intervals.items ≤ length v.shown.items
  pub each : length v.nexts.items ≡ length v.intervals.items
  pub passed : ArePassedBy v.intervals.items txs v.nexts.items row
