-- Bytes that were passed on up to a rest, when the command stops or writes what is held.
use Rattle.std.proofs.Common.{◌≡◌, [], ◌++◌, Option}
use Rattle.std.specs.Io.KnownBytes.{Appends}
use Rattle.hw_io.specs.Writing.{AppendsPrefix}
use Rattle.hw_names.specs.Name.{Text}
use Rattle.filc_report.proofs.MemoryLemmas.{passed_then_written, passed_then_part}
use Rattle.filc_stop.proofs.SinkLemmas.{PassedUpTo, passed_up_to_all}

-- what the sink has is a prefix of all
pub passed_up_to_part : (first now : Option Text) (held after rest all : Text) → PassedUpTo first held now after rest all → AppendsPrefix first now (held ++ all)
passed_up_to_part first now held after rest all passed = record { gained = passed.gained; left = after ++ rest; in_order = passed.in_order; appended = passed.appended }

-- what is held is all that is left to write
pub passed_up_to_written : (first mid last : Option Text) (after rest all : Text) → rest ≡ [] → PassedUpTo first [] mid after rest all → Appends mid last after → Appends first last all
passed_up_to_written first mid last after rest all none passed written =
    passed_then_written first mid last [] after all (passed_up_to_all first mid [] after rest all none passed) written

pub passed_up_to_unwritten : (first mid last : Option Text) (after rest all : Text) → rest ≡ [] → PassedUpTo first [] mid after rest all → AppendsPrefix mid last after → AppendsPrefix first last all
passed_up_to_unwritten first mid last after rest all none passed written =
    passed_then_part first mid last [] after all (passed_up_to_all first mid [] after rest all none passed) written
