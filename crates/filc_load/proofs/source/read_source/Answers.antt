use Rattle.std.proofs.Common.{ap}
use Rattle.std.specs.Prelude.{Err}
use Rattle.filc_load.proofs.LoadLemmas.{tells_text, too_long}
use Rattle.filc_load.proofs.source.read_source.Goals as goal

pub returns-in-Ok-clause-read : goal.returns-in-Ok-clause-read
returns-in-Ok-clause-read g c told =
    tells_text (g.F.Files.content c.args.files.now) c.args.language c.args.file.now c.in-Ok.text.items told c.in-Ok.ensures.whole
    (rw c.most_bytes.ensures.limit at c.in-Ok.ensures.within)

pub returns-in-Err-TooLong-clause-unread : goal.returns-in-Err-TooLong-clause-unread
returns-in-Err-TooLong-clause-unread g c told =
    too_long (g.F.Files.content c.args.files.now) c.args.language c.args.file.now told
    (rw c.most_bytes.ensures.limit at (c.in-Err-TooLong.ensures.too_long (ap Err c.in-Err-TooLong.field-0-is)).1)
