-- What is before and after a call of the program. A name with a prime is after. This project's.
use Rattle.std.specs.Prelude.{ℕ, List, Option}
use Rattle.std.specs.Io.KnownBytes.{Appends, Keeps}
use Rattle.hw_io.specs.Faults.{Rose}
use Rattle.hw_io.specs.Writing.{AppendsPrefix}
use Rattle.hw_names.specs.Name.{Text}
use Rattle.filc_stop.specs.Outcome.{Contents}
use Rattle.filc_stop.specs.declared.ended.Ended.{Ended}

-- a sink: what was written to it, where that is told, and its count of faults
pub record Stream : Type 0 where
  pub written : Option Text
  pub written' : Option Text
  pub faults : ℕ
  pub faults' : ℕ

-- it gained this text, a part of this text, or nothing
abbrev pub Gains : Stream → Text → Type 0
Gains sink text = Appends sink.written sink.written' text

abbrev pub GainsPart : Stream → Text → Type 0
GainsPart sink text = AppendsPrefix sink.written sink.written' text

abbrev pub GainsNothing : Stream → Type 0
GainsNothing sink = Keeps sink.written sink.written'

-- its count of faults rose
abbrev pub HasFault : Stream → Type 0
HasFault sink = Rose sink.faults sink.faults'

-- the files: their names, the content of each, where it is told, and a count of faults for each
pub record Disk : Type 0 where
  pub names : List Text
  pub names' : List Text
  pub contents : Contents
  pub contents' : Contents
  pub faults : Text → ℕ
  pub faults' : Text → ℕ

-- a call: the words after the program's name, the files, the sink of the report and that of the line, and the answer
pub record Call : Type 0 where
  pub words : List Text
  pub disk : Disk
  pub out : Stream
  pub err : Stream
  pub ended : Ended

-- the two, of what is told of a value before and after
abbrev pub stream_of : {S : Type 0} → (S → Option Text) → (S → ℕ) → S → S → Stream
stream_of written faults old new = record { written = written old; written' = written new; faults = faults old; faults' = faults new }

abbrev pub disk_of : {F : Type 0} → (F → List Text) → (F → Contents) → (F → Text → ℕ) → F → F → Disk
disk_of names contents faults old new =
    record { names = names old; names' = names new; contents = contents old; contents' = contents new; faults = faults old; faults' = faults new }
