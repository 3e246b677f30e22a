-- How far code has come with the control of an instance, whatever actors and ports are numbered by. This project's.
use Rattle.std.specs.Prelude.{ℕ}
use Rattle.cal_ast.specs.Actors.{Actor}
use Rattle.cal_ast.specs.Tree.{PortName}
use Rattle.cal_walk.specs.Stages.{Progress, Waits, GoesOn, Ends}
use Rattle.cal_walk.specs.Trees.{left_tree, LeftIsWithin}
use Rattle.cal_walk.specs.declared.stage.Stage.{Stage}
use Rattle.cal_walk.specs.declared.stage.Stage.TheVariants.{Waiting, Running, Finished}

abbrev pub progress_tree : (ℕ → Actor) → (ℕ → PortName) → Stage → Progress
progress_tree f h Waiting = Waits
progress_tree f h (Running left) = GoesOn (left_tree f h left)
progress_tree f h Finished = Ends

-- numbers of actors and conditions in what is left are less than these
abbrev pub StageIsWithin : (actors conditions : ℕ) → Stage → Type 0
StageIsWithin actors conditions Waiting = Unit {0}
StageIsWithin actors conditions (Running left) = LeftIsWithin actors conditions left
StageIsWithin actors conditions Finished = Unit {0}
