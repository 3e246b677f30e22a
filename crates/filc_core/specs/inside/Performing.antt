-- What each command does: the contract that all of them keep. This project's.
use Rattle.std.specs.Prelude.{◌⊎◌, ◌≤◌, List, [], ◌∷◌, Result, Ok, Err, IsErrOf, IfErr}
use Rattle.filc_load.specs.Built.{KnowsFile}
use Rattle.filc_stop.specs.Leaving.{Leaves}
use Rattle.filc_stop.specs.Outcome.{Contents}
use Rattle.filc_stop.specs.Stops.{IsOfSource}
use Rattle.filc_stop.specs.declared.stop.Stop.{Stop}
use Rattle.filc_stop.specs.declared.stop.Stop.TheVariants.{ReadFault, StimulusReadFault, Refused, WriteFault}
use Rattle.filc_core.specs.Arguments.{Arguments}
use Rattle.filc_core.specs.Call.{Disk, Stream, GainsNothing, HasFault}
use Rattle.filc_core.specs.Command.{AskedFile, Command, Passes}
use Rattle.filc_core.specs.Files.{AreTold, HasReadCause, KeepsFilesBut, MayBeRead}

-- the command was done, or stopped for another reason than this file or a fault; so the next file was read. Where this file passes, no refusal is for it
abbrev pub GoesOn : Contents → AskedFile → Result (Unit {0}) Stop → Type 0
GoesOn contents file (Ok done) = Unit {0}
GoesOn contents file (Err (Refused why)) = Passes contents file ⊎ (IsOfSource (Refused why) → ⊥)
GoesOn contents file (Err why) = ⊥

-- the files that were read, by the result, are known
abbrev pub AreKnownBy : Disk → Result (Unit {0}) Stop → List AskedFile → Type 0
AreKnownBy disk result [] = Unit {0}
AreKnownBy disk result (file ∷ files) = KnowsFile disk.names file.name result × (GoesOn disk.contents file result → AreKnownBy disk result files)

-- the files, the result, and the sink of the report
pub record Performs (command : Arguments → Command) (a : Arguments) (disk : Disk) (result : Result (Unit {0}) Stop) (out : Stream) : Type 0 where
  pub files : KeepsFilesBut (MayBeRead disk.contents (command a).files) disk
  pub leaves : AreTold disk.contents (command a).files →
      Leaves ((command a).makes disk.contents) ((command a).comes disk.contents) result out.written out.written'
  pub stops : IfErr result (command a).stops
  pub known : AreKnownBy disk result (command a).files
  pub read_fault : IsErrOf result ReadFault → HasReadCause disk (command a).files a.design × GainsNothing out
  pub stimulus_read_fault : IsErrOf result StimulusReadFault → HasReadCause disk (command a).files a.stimulus × GainsNothing out
  pub write_fault : IsErrOf result WriteFault → HasFault out
  pub never_falls : out.faults ≤ out.faults'
