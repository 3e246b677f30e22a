-- The first fault that a walk over a stimulus finds, and what an answer tells of it. This project's.
use Rattle.std.specs.Prelude.{◌≡◌, Bool, if◌then◌else◌, Option, Some, None, Result, Ok, Err}
use Rattle.stim_read.specs.declared.stim_end.StimEnd.{StimEnd}
use Rattle.stim_read.specs.declared.stim_end.StimEnd.TheVariants.{Refused, Limit, Memory}

-- the first of two
abbrev pub first_fault : Option StimEnd → Option StimEnd → Option StimEnd
first_fault (Some fault) later = Some fault
first_fault None later = later

-- the end, where the rule is broken
abbrev pub unless : Bool → StimEnd → Option StimEnd
unless kept fault = if kept then None else Some fault

-- what an answer tells of the first fault
abbrev pub IsTold : StimEnd → Option StimEnd → Type 0
IsTold (Refused rule entry first second delay) fault = fault ≡ Some (Refused rule entry first second delay)
IsTold (Limit count limit cycles) fault = fault ≡ Some (Limit count limit cycles)
IsTold Memory fault = Unit {0}

abbrev pub Tells : {T : Type 0} → Result T StimEnd → Option StimEnd → Type 0
Tells (Ok x) fault = fault ≡ None
Tells (Err end) fault = IsTold end fault
