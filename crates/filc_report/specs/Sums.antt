-- What the rows of a run that transactions drive add up to. This project's.
use Rattle.std.specs.Prelude.{◌≡◌, ℕ, zero, suc, ◌+◌, ◌%◌, ◌^◌, List, [], ◌∷◌, ◌++◌, codes, decimal, Bool, if◌then◌else◌, map, slice_range, Option, None, Some}
use Rattle.std.specs.List.{sum, sum_by}
use Rattle.std.specs.Option.{option_map_or}
use Rattle.hw_names.specs.Name.{Text}
use Rattle.hw_prims.specs.Row.{Row, Trace}
use Rattle.net_core.specs.Netlist.{Netlist}
use Rattle.net_core.specs.Rules.{PortLine, ports_of}
use Rattle.net_sim.specs.Sim.{SimValue, IsRowOfSim, IsEdgeOfSim}
use Rattle.fil_ast.specs.Signature.{SigPort}
use Rattle.fil_ast.specs.declared.tx.Tx.{Tx}
use Rattle.fil_driven.specs.TxDrive.{covering}
use Rattle.stim_read.specs.TxRun.{Transaction}
use Rattle.filc_report.specs.Streams.{RunsCleanly, RunsIntoConflict}
use Rattle.filc_report.specs.Views.{ports_seen, marks_in}
use Rattle.filc_report.specs.declared.sums.Sums.{Sums}
use Rattle.filc_report.specs.declared.view.View.{View}

-- a sum modulo 2 ^ 64
abbrev pub wrapped : ℕ → ℕ
wrapped total = total % 2 ^ 64

-- the values of all ports in a row
abbrev pub ports_in : Netlist → ℕ → Row → ℕ
ports_in n cycle row = sum_by (λ (p : PortLine). row p.name) (ports_of n)

-- the values of outputs in a row, of each in whose interval one of the transactions stands there
abbrev pub due_in : List SigPort → List Transaction → ℕ → Row → ℕ
due_in outs transactions cycle row = sum_by (λ (p : SigPort). option_map_or (λ t. row p.name) (covering p cycle transactions) 0) outs

-- what the first rows add up to, where this is the sum in a row, by its number and its values
abbrev pub over_rows : (ℕ → Row → ℕ) → Trace → ℕ → ℕ
over_rows sum_in trace zero = 0
over_rows sum_in trace (suc t) = over_rows sum_in trace t + sum_in t (trace t)

-- the rows of the run, none of which has a Conflict, add up to this; a row has so much that is due
pub record AddUp (n : Netlist) (due : ℕ → Row → ℕ) (rows : ℕ) (inputs : Trace) (loads : Text → List ℕ) (sums : Sums) : Type 0 where
  pub trace : Trace
  pub runs : RunsCleanly n rows inputs loads trace
  pub outputs : sums.outputs ≡ wrapped (over_rows due trace rows)
  pub ports : sums.ports ≡ wrapped (over_rows (ports_in n) trace rows)

-- a row of the run has a Conflict
pub record MeetConflict (n : Netlist) (rows : ℕ) (inputs : Trace) (loads : Text → List ℕ) : Type 0 where
  pub trace : Trace
  pub cycle : ℕ
  pub port : Text
  pub runs : RunsIntoConflict n rows inputs loads cycle port trace

-- the rows add up to this, or to nothing, as one has a Conflict
abbrev pub AreAdded : Netlist → (ℕ → Row → ℕ) → ℕ → Trace → (Text → List ℕ) → Option Sums → Type 0
AreAdded n due rows inputs loads None = MeetConflict n rows inputs loads
AreAdded n due rows inputs loads (Some sums) = AddUp n due rows inputs loads sums

-- ---- a row, as it is added

-- those of these values that are marked
abbrev pub marked_sum : List ℕ → List Bool → ℕ
marked_sum (value ∷ values) (marked ∷ marks) = (if marked then value else 0) + marked_sum values marks
marked_sum values marks = 0

-- those of the values of all ports that the view marks
abbrev pub sum_at : List ℕ → View → ℕ
sum_at values v = marked_sum (slice_range values v.ports.start v.ports.end) v.shown.items

-- those that it marks in a row, by its intervals
abbrev pub sum_seen : List Text → List Tx → View → ℕ → Row → ℕ
sum_seen names txs v cycle row = marked_sum (map row (ports_seen names v)) (marks_in v txs cycle)

-- a row without a Conflict was evaluated and added, and the edge after it was made
pub record AddsRow (v : View) (inputs : List ℕ) (old new : SimValue) (before after : Sums) : Type 0 where
  pub between : SimValue
  pub row : IsRowOfSim old inputs between None
  pub edge : IsEdgeOfSim between new
  pub outputs : after.outputs ≡ wrapped (before.outputs + sum_at between.values v)
  pub ports : after.ports ≡ wrapped (before.ports + sum between.values)

-- that, or the row has a Conflict
abbrev pub IsRowAdded : View → List ℕ → Option ℕ → SimValue → SimValue → Sums → Sums → Type 0
IsRowAdded v inputs None old new before after = AddsRow v inputs old new before after
IsRowAdded v inputs (Some port) old new before after = IsRowOfSim old inputs new (Some port)

-- ---- the summary

-- a line: a name, a space and a number
abbrev pub count_line : Text → ℕ → Text
count_line name number = name ++ codes " " ++ decimal number ++ 10 ∷ []

-- how many transactions and rows there are, and what outputs and ports add up to
abbrev pub summary_text : ℕ → ℕ → ℕ → ℕ → Text
summary_text transactions rows outputs ports =
    count_line (codes "transactions") transactions ++ count_line (codes "cycles") rows ++ count_line (codes "sum") outputs ++ count_line (codes "ports") ports
