-- What comes of a command: its answer, its report, and the line of a refusal. This project's.
use Rattle.std.specs.Prelude.{ℕ, [], Option}
use Rattle.hw_names.specs.Name.{Text}
use Rattle.filc_stop.specs.Lines.{usage_line, conflict_line}
use Rattle.filc_stop.specs.declared.ended.Ended.{Ended}
use Rattle.filc_stop.specs.declared.ended.Ended.TheVariants.{Done, Usage, Conflict}

-- the content of each file by its name, where it is told
abbrev pub Contents : Type 0
Contents = Text → Option Text

pub record Outcome : Type 0 where
  pub ended : Ended
  pub report : Text
  pub line : Text

-- it is done, with this report
abbrev pub done_with : Text → Outcome
done_with report = record { ended = Done; report = report; line = [] }

-- it is refused before a byte of its report, with this answer and this line
abbrev pub refused_with : Ended → Text → Outcome
refused_with ended line = record { ended = ended; report = []; line = line }

-- after this report a row has a Conflict, at this port
abbrev pub conflict_after : Text → ℕ → Text → Outcome
conflict_after report row port = record { ended = Conflict; report = report; line = conflict_line row port }

-- the words ask for nothing
abbrev pub usage_told : Outcome
usage_told = refused_with Usage usage_line
