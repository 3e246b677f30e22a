use Rattle.std.proofs.Common.{ap}
use Rattle.std.specs.Prelude.{Err}
use Rattle.filc_load.proofs.LoadLemmas.{too_long_stimulus}
use Rattle.filc_load.proofs.stimulus.read.Goals as goal

pub returns-in-Err-TooLong-clause-refused : goal.returns-in-Err-TooLong-clause-refused
returns-in-Err-TooLong-clause-refused g c told =
    too_long_stimulus (g.F.Files.content c.args.files.now) c.args.file.now told (λ text end. ⊥)
    (c.in-Err-TooLong.ensures.too_long (ap Err c.in-Err-TooLong.field-0-is)).1
