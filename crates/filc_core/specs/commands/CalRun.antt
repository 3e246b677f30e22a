-- A Calyx design's run under a stimulus: what `sim`, `trace` and `sched` share. This project's.
use Rattle.std.specs.Prelude.{◌≡◌, ◌⊎◌, ℕ, Some, slice_get}
use Rattle.hw_names.specs.Name.{Text}
use Rattle.cal_ast.specs.Top.{IsTop}
use Rattle.cal_ast.specs.Tree.{Component, Design}
use Rattle.cal_net.specs.Face.{face}
use Rattle.filc_calyx.specs.Means as calyx
use Rattle.filc_load.specs.Source.{FileGivesCal, IsRefusedForSource}
use Rattle.filc_load.specs.StimulusFile.{FileGivesRun, IsRefusedForStimulus, run_causes}
use Rattle.filc_stop.specs.Outcome.{Contents, Outcome}
use Rattle.filc_stop.specs.Stops.{IsOfRun, IsOfSource, IsOfStimulus}
use Rattle.filc_stop.specs.declared.language.Language.TheVariants.{Calyx}
use Rattle.stim_read.specs.CycleRun.{Run}
use Rattle.filc_core.specs.Arguments.{Arguments}
use Rattle.filc_core.specs.Command.{Command, of_design_and_stimulus}

-- a design, the number of its top component, and that component
pub record CalTop : Type 0 where
  pub design : Design
  pub number : ℕ
  pub comp : Component

-- the file gives the design, and the component is its top
pub record GivesTop (contents : Contents) (file : Text) (top : CalTop) : Type 0 where
  pub gives : FileGivesCal contents file top.design
  pub is_top : IsTop top.design top.number
  pub at : slice_get top.design top.number ≡ Some top.comp

-- the design is accepted, and the stimulus gives its top component nothing
pub record IsRefusedWithTop (a : Arguments) (contents : Contents) (o : Outcome) : Type 0 where
  pub top : CalTop
  pub gives : GivesTop contents a.design top
  pub refused : IsRefusedForStimulus contents a.stimulus (λ bytes. run_causes bytes (face top.comp)) o

-- the stimulus gives the top component a run
pub record GivesRunOf (a : Arguments) (contents : Contents) (top : CalTop) (run : Run) : Type 0 where
  pub gives_top : GivesTop contents a.design top
  pub gives_run : FileGivesRun contents a.stimulus (face top.comp) run

-- this comes of that run, where the design that is made has this text
pub record Runs (a : Arguments) (Comes : calyx.Driven → Text → Outcome → Type 0) (contents : Contents) (made : Text) (o : Outcome) : Type 0 where
  pub top : CalTop
  pub run : Run
  pub gives : GivesRunOf a contents top run
  pub comes : Comes (record { design = top.design; top = top.comp; run = run }) made o

pub record IsGranted (a : Arguments) (contents : Contents) : Type 0 where
  pub top : CalTop
  pub run : Run
  pub gives : GivesRunOf a contents top run

-- a command of which this comes, and which makes these texts of designs
abbrev pub cal_run : (calyx.Driven → Text → Outcome → Type 0) → (Contents → Text → Text → Type 0) → Arguments → Command
cal_run Comes Makes a =
    record {
      files = of_design_and_stimulus Calyx a;
      comes = λ contents made o. IsRefusedForSource contents Calyx a.design o ⊎ IsRefusedWithTop a contents o ⊎ Runs a Comes contents made o;
      makes = λ contents. Makes contents a.design;
      stops = λ why. IsOfSource why ⊎ IsOfStimulus why ⊎ IsOfRun why;
      granted = IsGranted a;
    }
