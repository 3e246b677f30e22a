-- What is printed of the run of a Calyx component under a stimulus: as its schedule means it, and as a netlist shows it. Calyx, ASPLOS 2021; the reports are
-- this project's.
use Rattle.std.specs.Prelude.{◌≡◌, ◌⊎◌, ◌∷◌, [], ◌++◌, ℕ, suc, List, Option, Some, None, true}
use Rattle.hw_names.specs.Name.{Text}
use Rattle.hw_prims.specs.Row.{Trace}
use Rattle.net_core.specs.Circuit.{states_before}
use Rattle.net_core.specs.Netlist.{Netlist}
use Rattle.cal_ast.specs.Schedule as calyx
use Rattle.cal_ast.specs.Tree.{Component, Design}
use Rattle.cal_net.specs.Face.{face}
use Rattle.stim_read.specs.CycleRun.{Run}
use Rattle.filc_load.specs.Given.{after_loads, given_inputs}
use Rattle.filc_report.specs.Rows.{memories_text, outputs_of_net, rows_text}
use Rattle.filc_report.specs.Runs.{RunComes, no_loads, stimulus_run}
use Rattle.filc_stop.specs.Outcome.{Outcome, conflict_after, done_with}
use Rattle.filc_calyx.specs.Made.{IsNetOf}

-- a component of a design as the top, and what a stimulus gives to a run of it: so many rows, the values of its inputs, first words of its observable memories
pub record Driven : Type 0 where
  pub design : Design
  pub top : Component
  pub run : Run

abbrev pub words_given : Driven → Text → List ℕ
words_given d = after_loads (face d.top) d.run.loads no_loads

-- the run that its schedule means, of this height and with this stop
abbrev pub IsRun : Driven → ℕ → Trace → Option Text → Type 0
IsRun d height trace stop = calyx.Run d.design d.top d.run.cycles (given_inputs (face d.top) d.run.settings) (words_given d) height trace stop

-- the rows of the outputs
abbrev pub output_rows : Driven → Trace → ℕ → Text
output_rows d trace height = rows_text (outputs_of_net (face d.top)) trace height

-- its last row has a Conflict, of which this port is reported; the rows before it are printed
pub record EndsInConflict (d : Driven) (o : Outcome) : Type 0 where
  pub trace : Trace
  pub row : ℕ
  pub port : Text
  pub run : IsRun d (suc row) trace (Some port)
  pub outcome : o ≡ conflict_after (output_rows d trace row) row port

-- no row has a Conflict: all rows, and then the words of the observable memories after the last edge
pub record RunsWhole (d : Driven) (o : Outcome) : Type 0 where
  pub trace : Trace
  pub run : IsRun d d.run.cycles trace None
  pub outcome : o ≡ done_with (output_rows d trace d.run.cycles ++ memories_text (face d.top) (states_before d.run.cycles trace (words_given d)))

-- what comes of the run, as the schedule means it
abbrev pub Means : Driven → Outcome → Type 0
Means d o = EndsInConflict d o ⊎ RunsWhole d o

-- the text of a netlist that is made of the design, an empty line, and what comes of its run, with all ports in each row
pub record Traces (d : Driven) (made : Text) (o : Outcome) : Type 0 where
  pub net : Netlist
  pub made_net : IsNetOf d.design net made
  pub comes : RunComes (stimulus_run net d.run (made ++ 10 ∷ []) true) o
