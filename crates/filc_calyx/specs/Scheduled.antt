-- What `sched` prints of the run of a Calyx component under a stimulus: its outputs, and which of its groups and invokes act, row by row. Calyx,
-- ASPLOS 2021; the report is this project's.
use Rattle.std.specs.Prelude.{◌≡◌, ◌⊎◌, ℕ, suc, [], ◌∷◌, ◌++◌, Bool, codes, decimal, flat_map, if◌then◌else◌, Option, Some, None, slice_get}
use Rattle.hw_names.specs.Name.{Text}
use Rattle.hw_prims.specs.Row.{Row, Trace}
use Rattle.net_core.specs.Circuit.{states_before}
use Rattle.net_core.specs.declared.stimulus.CycleList.{CycleList}
use Rattle.cal_ast.specs.Actors.{Actor, GroupNamed, InvokeAt, actors_of}
use Rattle.cal_ast.specs.Top.{IsTop}
use Rattle.cal_ast.specs.Tree.{Component, design_of}
use Rattle.cal_ast.specs.declared.tree.CalDesign.{CalDesign}
use Rattle.cal_net.specs.Face.{face}
use Rattle.stim_read.specs.CycleRun.{run_seen}
use Rattle.filc_report.specs.Rows.{lines_text, memories_text, outputs_of_net, port_text}
use Rattle.filc_stop.specs.Outcome.{Outcome, conflict_after, done_with}
use Rattle.filc_calyx.specs.Means.{Driven, IsRun, words_given}
use Rattle.filc_calyx.specs.declared.schedule.Schedule.{Schedule}
use Rattle.filc_calyx.specs.declared.schedule.Clash.{Clash}

-- the name of a group; of an invoke, the number of its item
abbrev pub actor_name : Actor → Text
actor_name (GroupNamed name) = name
actor_name (InvokeAt item) = codes "#" ++ decimal item

-- a space and the name of an actor, in a row in which it acts
abbrev pub acting_text : (Actor → ℕ → Bool) → ℕ → Actor → Text
acting_text acts t actor = if acts actor t then codes " " ++ actor_name actor else []

-- the line of a row: the cycle, the outputs, a bar, and the groups and invokes of the component that act
abbrev pub schedule_line : Component → (Actor → ℕ → Bool) → ℕ → Row → Text
schedule_line c acts t row =
    decimal t ++ flat_map (λ port. port_text port (row port)) (outputs_of_net (face c)) ++ codes " |" ++ flat_map (acting_text acts t) (actors_of c) ++ 10 ∷ []

-- its last row has a Conflict, of which this port is reported; the rows before it are printed
pub record StopsInConflict (d : Driven) (o : Outcome) : Type 0 where
  pub trace : Trace
  pub row : ℕ
  pub port : Text
  pub run : IsRun d (suc row) trace (Some port)
  pub outcome : o ≡ conflict_after (lines_text (schedule_line d.top (run.acts [])) trace row) row port

-- no row has a Conflict: all rows, and then the words of the observable memories after the last edge
pub record RunsThrough (d : Driven) (o : Outcome) : Type 0 where
  pub trace : Trace
  pub run : IsRun d d.run.cycles trace None
  pub outcome : o ≡ done_with (lines_text (schedule_line d.top (run.acts [])) trace d.run.cycles
      ++ memories_text (face d.top) (states_before d.run.cycles trace (words_given d)))

-- what comes of the run: the schedule of the top
abbrev pub Schedules : Driven → Outcome → Type 0
Schedules d o = StopsInConflict d o ⊎ RunsThrough d o

-- ---- as code has it

-- the top component of the design under the stimulus that gives this list
pub record IsDriven (design : CalDesign) (list : CycleList) (d : Driven) : Type 0 where
  pub design_is : d.design ≡ design_of design
  pub number : ℕ
  pub is_top : IsTop d.design number
  pub at : slice_get d.design number ≡ Some d.top
  pub run_is : d.run ≡ run_seen list

-- what a schedule's text and clash say
abbrev pub outcome_at : Option Clash → Text → Outcome
outcome_at None text = done_with text
outcome_at (Some clash) text = conflict_after text clash.cycle clash.port

abbrev pub outcome_of : Schedule → Outcome
outcome_of s = outcome_at s.clash s.text.items
