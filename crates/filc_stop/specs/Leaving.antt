-- What a command leaves in the sink of its report, where this may come of it. This project's.
--
-- A command may make a design and print its text; which one is left to it. So what comes of it is said for each text that it may
-- make: the empty one alone, where it makes none.
use Rattle.std.specs.Prelude.{◌≡◌, ◌⊎◌, [], Option, Result, Ok, Err}
use Rattle.std.specs.Io.KnownBytes.{Appends, Keeps}
use Rattle.hw_io.specs.Writing.{AppendsPrefix}
use Rattle.hw_names.specs.Name.{Text}
use Rattle.filc_stop.specs.Outcome.{Outcome}
use Rattle.filc_stop.specs.Stops.{answer_of, refusal_line}
use Rattle.filc_stop.specs.declared.ended.Ended.{Ended}
use Rattle.filc_stop.specs.declared.ended.Ended.TheVariants.{Done}
use Rattle.filc_stop.specs.declared.stop.Stop.{Stop}
use Rattle.filc_stop.specs.declared.stop.Stop.TheVariants as stop

-- what may come of a command, for each text of a design that it makes
abbrev pub Coming : Type 1
Coming = Text → Outcome → Type 0

-- the command makes no design
abbrev pub MakesNone : Text → Type 0
MakesNone made = made ≡ []

-- the report of an outcome with this answer and this line was written, whole
pub record HasReport (comes : Coming) (ended : Ended) (line : Text) (out out' : Option Text) : Type 0 where
  pub made : Text
  pub report : Text
  pub outcome : comes made (record { ended = ended; report = report; line = line })
  pub reported : Appends out out' report

-- out gained a prefix of the report that belongs to one text that may be made, whatever the rest of it would be
pub record HasPart (makes : Text → Type 0) (comes : Coming) (out out' : Option Text) : Type 0 where
  pub made : Text
  pub makes_it : makes made
  pub part : (o : Outcome) → comes made o → AppendsPrefix out out' o.report

-- the report was cut short: nothing of it is there, or a part
abbrev pub IsCutShort : (Text → Type 0) → Coming → Option Text → Option Text → Type 0
IsCutShort makes comes out out' = Keeps out out' ⊎ HasPart makes comes out out'

-- why the command stopped, and what of its report is there
abbrev pub LeavesAt : (Text → Type 0) → Coming → Stop → Option Text → Option Text → Type 0
LeavesAt makes comes stop.ReadFault out out' = Keeps out out'
LeavesAt makes comes stop.StimulusReadFault out out' = Keeps out out'
LeavesAt makes comes (stop.Refused why) out out' = HasReport comes (answer_of why) (refusal_line why) out out'
LeavesAt makes comes stop.WriteFault out out' = IsCutShort makes comes out out'
LeavesAt makes comes stop.Memory out out' = IsCutShort makes comes out out'

-- what the command leaves in the sink
abbrev pub Leaves : (Text → Type 0) → Coming → Result (Unit {0}) Stop → Option Text → Option Text → Type 0
Leaves makes comes (Ok done) out out' = HasReport comes Done [] out out'
Leaves makes comes (Err why) out out' = LeavesAt makes comes why out out'
