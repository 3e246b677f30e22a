-- The files that a command reads, one after another: the next one is read only where this one passes. This project's.
use Rattle.std.specs.Prelude.{◌≡◌, ◌⊎◌, ◌≤◌, List, [], ◌∷◌, IsSome, Contains}
use Rattle.hw_io.specs.Reading.{IsReadFault}
use Rattle.hw_names.specs.Name.{Text}
use Rattle.filc_stop.specs.Outcome.{Contents}
use Rattle.filc_stop.specs.declared.ended.Ended.{Ended}
use Rattle.filc_stop.specs.declared.ended.Ended.TheVariants.{Done, Stimulus, Conflict}
use Rattle.filc_core.specs.Call.{Disk}
use Rattle.filc_core.specs.Command.{AskedFile, Passes}

-- the file is one that may be read: it is the first, or one of the others, where the first one passes if its content is told
abbrev pub MayBeRead : Contents → List AskedFile → Text → Type 0
MayBeRead contents [] name = ⊥
MayBeRead contents (file ∷ files) name = (file.name ≡ name) ⊎ ((IsSome (contents file.name) → Passes contents file) × MayBeRead contents files name)

-- the content of what is read is told: of the first, and where that passes, of the others
abbrev pub AreTold : Contents → List AskedFile → Type 0
AreTold contents [] = Unit {0}
AreTold contents (file ∷ files) = IsSome (contents file.name) × (Passes contents file → AreTold contents files)

-- each of the files tells the same
abbrev pub TellTheSame : Contents → Contents → List AskedFile → Type 0
TellTheSame contents other [] = Unit {0}
TellTheSame contents other (file ∷ files) = (contents file.name ≡ other file.name) × TellTheSame contents other files

-- an answer rests on the files after this one: it is done or has a Conflict, a stimulus is refused, or this file passes
abbrev pub RestsOnMore : Contents → AskedFile → Ended → Type 0
RestsOnMore contents file Done = Unit {0}
RestsOnMore contents file Stimulus = Unit {0}
RestsOnMore contents file Conflict = Unit {0}
RestsOnMore contents file ended = Passes contents file

-- the files on which an answer rests are known: the first, and where the answer rests on more, the others
abbrev pub AreKnown : Disk → Ended → List AskedFile → Type 0
AreKnown disk ended [] = Unit {0}
AreKnown disk ended (file ∷ files) = Contains disk.names file.name × (RestsOnMore disk.contents file ended → AreKnown disk ended files)

-- a file that may be read couldn't be, by its own cause
pub record HasReadCause (disk : Disk) (files : List AskedFile) (name : Text) : Type 0 where
  pub read : MayBeRead disk.contents files name
  pub fault : IsReadFault disk.names name (disk.faults name) (disk.faults' name)

-- nothing of the files changes but the counts of faults of the files that are read, and these don't fall
pub record KeepsFilesBut (is_read : Text → Type 0) (disk : Disk) : Type 0 where
  pub names_kept : disk.names' ≡ disk.names
  pub contents_kept : (file : Text) → disk.contents' file ≡ disk.contents file
  pub others_kept : (file : Text) → (is_read file → ⊥) → disk.faults' file ≡ disk.faults file
  pub never_fall : (file : Text) → disk.faults file ≤ disk.faults' file
