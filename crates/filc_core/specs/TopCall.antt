-- The theorem of the top call (`Answers`), and each of its words: what a call leaves in the two sinks at each answer, the cause of each answer that is no
-- verdict's, and that what is asked for is done where nothing fails. This project's.
use Rattle.std.specs.Prelude.{◌≡◌, ◌≢◌, ◌⊎◌, ◌≤◌, List, [], Contains}
use Rattle.hw_io.specs.Faults.{Rose}
use Rattle.hw_names.specs.Name.{Text}
use Rattle.filc_stop.specs.Leaving.{IsCutShort}
use Rattle.filc_stop.specs.Lines.{as_line, memory_line, read_fault_line}
use Rattle.filc_stop.specs.Outcome.{Outcome}
use Rattle.filc_stop.specs.declared.ended.Ended.{Ended}
use Rattle.filc_stop.specs.declared.ended.Ended.TheVariants.{Done, Usage, ReadFault, WriteFault, Memory, Conflict}
use Rattle.filc_core.specs.Call.{Call, Gains, GainsNothing, GainsPart, HasFault}
use Rattle.filc_core.specs.Command.{MayAnswer}
use Rattle.filc_core.specs.Files.{AreKnown, AreTold, HasReadCause, KeepsFilesBut, MayBeRead}
use Rattle.filc_core.specs.Request.{Request, command_of, files_of, Asks, AskNothing}
use Rattle.filc_core.specs.Verdict.{Verdict}

-- ---- verdicts

-- the answer is a verdict's, and not one for a fault or for want of memory
abbrev pub IsVerdictEnd : Ended → Type 0
IsVerdictEnd ReadFault = ⊥
IsVerdictEnd WriteFault = ⊥
IsVerdictEnd Memory = ⊥
IsVerdictEnd ended = Unit {0}

-- the content of what the words ask for is told
abbrev pub IsAllTold : Call → Type 0
IsAllTold call = (r : Request) → Asks call.words r → AreTold call.disk.contents (files_of r)

-- an outcome's report and its line were written, whole
pub record IsAnswered (call : Call) : Type 0 where
  pub made : Text
  pub report : Text
  pub line : Text
  pub verdict : Verdict call.words call.disk.contents made (record { ended = call.ended; report = report; line = line })
  pub reported : Gains call.out report
  pub told : Gains call.err (as_line line)

-- the words call for such an answer, whatever the files tell
abbrev pub IsCalledFor : List Text → Ended → Type 0
IsCalledFor words Usage = AskNothing words
IsCalledFor words WriteFault = Unit {0}
IsCalledFor words Memory = Unit {0}
IsCalledFor words ended = (r : Request) × Asks words r × MayAnswer (command_of r) ended

-- the files know what the answer speaks of
abbrev pub KnowsWhatIsAsked : Call → Type 0
KnowsWhatIsAsked call = (r : Request) → Asks call.words r → AreKnown call.disk call.ended (files_of r)

-- ---- faults

-- a file that the words ask for couldn't be read, and nothing is reported
pub record CanNotRead (call : Call) (file : Text) : Type 0 where
  pub r : Request
  pub asks : Asks call.words r
  pub has_cause : HasReadCause call.disk (files_of r) file
  pub unreported : GainsNothing call.out

-- reading failed, and the line names the file
pub record HasReadFault (call : Call) : Type 0 where
  pub file : Text
  pub unread : CanNotRead call file
  pub told : Gains call.err (as_line (read_fault_line file))

-- the report of what the words ask for was cut short: nothing of it is there, or a part
abbrev pub HasPartOfReport : Call → Type 0
HasPartOfReport call =
    (r : Request) × Asks call.words r
    × IsCutShort ((command_of r).makes call.disk.contents) ((command_of r).comes call.disk.contents) call.out.written call.out.written'

-- the line of an outcome was cut short, after its whole report
pub record IsLineCutShort (call : Call) : Type 0 where
  pub made : Text
  pub outcome : Outcome
  pub verdict : Verdict call.words call.disk.contents made outcome
  pub has_line : outcome.line ≢ []
  pub reported : Gains call.out outcome.report
  pub part : GainsPart call.err (as_line outcome.line)

-- the line of a read fault was cut short
pub record IsReadFaultCutShort (call : Call) : Type 0 where
  pub file : Text
  pub unread : CanNotRead call file
  pub part : GainsPart call.err (as_line (read_fault_line file))

-- writing failed: in the report, in the line of an outcome, or in the line of a read fault; the sink that failed is the one whose count rose
pub data HasWriteFault (call : Call) : Type 0 where
  InReport : HasFault call.out → HasPartOfReport call → GainsNothing call.err → HasWriteFault call
  InLine : HasFault call.err → IsLineCutShort call → HasWriteFault call
  InReadFault : HasFault call.err → IsReadFaultCutShort call → HasWriteFault call

-- ---- completeness

-- the file is one that the words ask for
abbrev pub IsAskedFor : Call → Text → Type 0
IsAskedFor call file = (r : Request) × Asks call.words r × MayBeRead call.disk.contents (files_of r) file

-- the files know what the words ask for, and no count of faults rose: not those files', and not those of the two sinks
pub record MeetsNoFault (call : Call) : Type 0 where
  pub known : (file : Text) → IsAskedFor call file → Contains call.disk.names file
  pub read : (file : Text) → IsAskedFor call file → Rose (call.disk.faults file) (call.disk.faults' file) → ⊥
  pub reported : HasFault call.out → ⊥
  pub told : HasFault call.err → ⊥

-- the answers to what is granted: it is done, a run may end in a Conflict, and memory may be wanting
abbrev pub IsEndOf : Request → Ended → Type 0
IsEndOf r Done = Unit {0}
IsEndOf r Conflict = MayAnswer (command_of r) Conflict
IsEndOf r Memory = Unit {0}
IsEndOf r ended = ⊥

-- what is granted is done: no fault stands against it
abbrev pub IsComplete : Call → Type 0
IsComplete call = (r : Request) → Asks call.words r → (command_of r).granted call.disk.contents → MeetsNoFault call → IsEndOf r call.ended

-- ---- the theorem

pub record Answers (call : Call) : Type 0 where
  -- where the content of what is read is told, a verdict's answer comes with its whole report and its whole line
  pub verdict : IsVerdictEnd call.ended → IsAllTold call → IsAnswered call
  pub called_for : IsCalledFor call.words call.ended
  pub known : IsVerdictEnd call.ended → KnowsWhatIsAsked call
  -- each other answer has its cause
  pub read_fault : call.ended ≡ ReadFault → HasReadFault call
  pub write_rose : call.ended ≡ WriteFault → HasFault call.out ⊎ HasFault call.err
  pub write_fault : call.ended ≡ WriteFault → IsAllTold call → HasWriteFault call
  pub memory : call.ended ≡ Memory → IsAllTold call → HasPartOfReport call
  pub memory_line : call.ended ≡ Memory → GainsPart call.err (as_line memory_line)
  -- no file is touched but those that are asked for, and no count of faults falls
  pub files : KeepsFilesBut (IsAskedFor call) call.disk
  pub out_never_falls : call.out.faults ≤ call.out.faults'
  pub err_never_falls : call.err.faults ≤ call.err.faults'
  -- what is asked for is run
  pub complete : IsComplete call
