-- A row's steps, cut into runs of one kind. This project's.
use Rattle.std.specs.Prelude.{List, flat_map, map}
use Rattle.net_steps.specs.Kinds.{add_of, both_of, but_not_of, choose_of, equal_of, mixed_of, pick_of}
use Rattle.net_steps.specs.declared.operation.Operation.{Operation}
use Rattle.net_steps.specs.declared.runs.Run.{Run}
use Rattle.net_steps.specs.declared.runs.Run.TheVariants.{Add, Both, ButNot, Choose, Equal, Mixed, Pick}

-- the steps of a run
abbrev pub operations_of : Run → List Operation
operations_of (Choose steps) = map choose_of steps.items
operations_of (Pick steps) = map pick_of steps.items
operations_of (Both steps) = map both_of steps.items
operations_of (ButNot steps) = map but_not_of steps.items
operations_of (Equal steps) = map equal_of steps.items
operations_of (Add steps) = map add_of steps.items
operations_of (Mixed steps) = map mixed_of steps.items

-- the steps of all runs, one run after another
abbrev pub all_operations : List Run → List Operation
all_operations runs = flat_map operations_of runs
