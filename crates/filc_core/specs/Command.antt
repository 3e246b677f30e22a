-- What a command is: the files that it reads, and what comes of it. Each command is a function from its arguments to a value of this, in a file of its own
-- (commands/); Request.antt lists them, each with the words that ask for it. This project's.
use Rattle.std.specs.Prelude.{◌≡◌, ◌⊎◌, List, [], ◌∷◌}
use Rattle.hw_names.specs.Name.{Text}
use Rattle.filc_load.specs.Source.{IsAccepted}
use Rattle.filc_stop.specs.Leaving.{Coming}
use Rattle.filc_stop.specs.Outcome.{Contents}
use Rattle.filc_stop.specs.Stops.{ended_of}
use Rattle.filc_stop.specs.declared.ended.Ended.{Ended}
use Rattle.filc_stop.specs.declared.ended.Ended.TheVariants.{Done}
use Rattle.filc_stop.specs.declared.language.Language.{Language}
use Rattle.filc_stop.specs.declared.stop.Stop.{Stop}
use Rattle.filc_core.specs.Arguments.{Arguments}

-- ---- files

-- what a file is to hold
pub data Kind : Type 0 where
  ADesign : Language → Kind
  AStimulus : Kind

pub record AskedFile : Type 0 where
  pub kind : Kind
  pub name : Text

-- such a file passes, so that the next one is read: a design passes where it is accepted, and a stimulus always
abbrev pub PassesAs : Contents → Kind → Text → Type 0
PassesAs contents (ADesign language) name = IsAccepted contents language name
PassesAs contents AStimulus name = Unit {0}

abbrev pub Passes : Contents → AskedFile → Type 0
Passes contents file = PassesAs contents file.kind file.name

-- the file of a command's design, and that of its stimulus
abbrev pub design_file : Language → Text → AskedFile
design_file language name = record { kind = ADesign language; name = name }

abbrev pub stimulus_file : Text → AskedFile
stimulus_file name = record { kind = AStimulus; name = name }

-- the files of a command that reads a design in this language, and of one that reads a stimulus too
abbrev pub of_design : Language → Arguments → List AskedFile
of_design language a = design_file language a.design ∷ []

abbrev pub of_design_and_stimulus : Language → Arguments → List AskedFile
of_design_and_stimulus language a = design_file language a.design ∷ stimulus_file a.stimulus ∷ []

-- ---- commands

pub record Command : Type 1 where
  -- the files that it reads, in this order
  pub files : List AskedFile
  -- what comes of it, where files have these contents and the design that it makes has this text
  pub comes : Contents → Coming
  -- the texts of designs that it may make: the empty text alone, where it makes none
  pub makes : Contents → Text → Type 0
  -- why it may stop before its report is whole
  pub stops : Stop → Type 0
  -- its files give what it asks for, and no limit stands against it
  pub granted : Contents → Type 0

-- its answers: it is done, or stops for one of its reasons
abbrev pub MayAnswer : Command → Ended → Type 0
MayAnswer command ended = (ended ≡ Done) ⊎ ((why : Stop) × command.stops why × (ended ≡ ended_of why))
