-- A verdict is of what the files tell that the words ask for: whatever others tell, it is a verdict too. This project's.
use Rattle.std.specs.Prelude.{List}
use Rattle.hw_names.specs.Name.{Text}
use Rattle.filc_stop.specs.Outcome.{Contents, Outcome}
use Rattle.filc_core.specs.Files.{TellTheSame}
use Rattle.filc_core.specs.Request.{Request, files_of, Asks}
use Rattle.filc_core.specs.Verdict.{Verdict}

-- the files that the words ask for tell the same
abbrev pub TellAlike : List Text → Contents → Contents → Type 0
TellAlike words contents other = (r : Request) → Asks words r → TellTheSame contents other (files_of r)

abbrev pub OnlyWhatIsTold : Type 0
OnlyWhatIsTold =
    (words : List Text) (contents other : Contents) (made : Text) (o : Outcome) → TellAlike words contents other →
    Verdict words contents made o → Verdict words other made o
