-- Two programs that keep the contract of the top call answer alike: what OneVerdict says of outcomes, said of what is left in the sinks. This project's.
use Rattle.std.specs.Prelude.{◌≡◌, ◌⊎◌, List, ◌++◌, Some}
use Rattle.hw_names.specs.Name.{Text}
use Rattle.filc_stop.specs.Lines.{as_line}
use Rattle.filc_stop.specs.Outcome.{Contents}
use Rattle.filc_core.specs.Call.{Call, Stream}
use Rattle.filc_core.specs.Request.{Request, command_of, Asks}
use Rattle.filc_core.specs.TopCall.{IsAnswered}
use Rattle.filc_laws.specs.OneLine.{TellOneLoop}
use Rattle.filc_laws.specs.OneVerdict.{AreTracesOfOne}

-- both hold a text that was made, and both were made of the design that the words ask for
pub record HoldTextsOfOne (words : List Text) (contents : Contents) (before out out' : Text) : Type 0 where
  pub asked : Request
  pub asks : Asks words asked
  pub made : Text
  pub made' : Text
  pub from : (command_of asked).makes contents made
  pub from' : (command_of asked).makes contents made'
  pub printed : out ≡ before ++ made
  pub printed' : out' ≡ before ++ made'

-- both hold the trace of a netlist that was made, or what its run adds up to; both netlists were made of the design that the words ask for, and the same
-- stimulus drives them
pub record HoldTracesOfOne (words : List Text) (contents : Contents) (before out out' : Text) : Type 0 where
  pub made : Text
  pub made' : Text
  pub report : Text
  pub report' : Text
  pub traces : AreTracesOfOne words contents made made' report report'
  pub printed : out ≡ before ++ report
  pub printed' : out' ≡ before ++ report'

-- the sinks of the reports hold the same, but for which netlist or which Calyx design was made
abbrev pub IsSameOut : List Text → Contents → Text → Text → Text → Type 0
IsSameOut words contents before out out' =
    (out ≡ out') ⊎ HoldTextsOfOne words contents before out out' ⊎ HoldTracesOfOne words contents before out out'

-- both hold the line of a loop of one netlist or component, from the same port on
pub record HoldOneLoop (before err err' : Text) : Type 0 where
  pub line : Text
  pub line' : Text
  pub loop : TellOneLoop line line'
  pub told : err ≡ before ++ as_line line
  pub told' : err' ≡ before ++ as_line line'

-- the sinks of the lines hold the same, but for which loop was told
abbrev pub IsSameErr : Text → Text → Text → Type 0
IsSameErr before err err' = (err ≡ err') ⊎ HoldOneLoop before err err'

-- what a sink held is told, and what it holds
pub record Holds (sink : Stream) (before after : Text) : Type 0 where
  pub held : sink.written ≡ Some before
  pub holds : sink.written' ≡ Some after

-- two calls have the same words, and the files tell the same
pub record AskAlike (call other : Call) : Type 0 where
  pub words : call.words ≡ other.words
  pub contents : call.disk.contents ≡ other.disk.contents

-- answers to the same words, of the same contents, into sinks that held the same
abbrev pub OneAnswer : Type 0
OneAnswer =
    (call other : Call) → AskAlike call other → IsAnswered call → IsAnswered other →
    (before out out' err err' err'' : Text) → Holds call.out before out → Holds other.out before out' → Holds call.err err err' → Holds other.err err err'' →
    (call.ended ≡ other.ended) × IsSameOut call.words call.disk.contents before out out' × IsSameErr err err' err''
