-- The status with which the program ends, for each answer. This project's.
use Rattle.std.specs.Prelude.{ℕ}
use Rattle.filc_stop.specs.declared.ended.Ended.{Ended}
use Rattle.filc_stop.specs.declared.ended.Ended.TheVariants.{Done, Refused, Usage, ReadFault, WriteFault, Memory, Stimulus, Conflict, Limit}

abbrev pub status_of : Ended → ℕ
status_of Done = 0
status_of Refused = 1
status_of Usage = 2
status_of ReadFault = 3
status_of WriteFault = 4
status_of Memory = 5
status_of Stimulus = 6
status_of Conflict = 7
status_of Limit = 8
