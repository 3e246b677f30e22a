use Rattle.std.proofs.Common.{ap, string_bytes}
use Rattle.hw_io.proofs.DiskFilesLemmas.{stands_on, read_is_piece}
use Rattle.hw_io.proofs.disk_files.read_at.Goals as goal

pub returns-clause-right : goal.returns-clause-right
returns-clause-right g c =
    let told = g.D.Disk.content c.args.disk.now in
    stands_on _ _ c.args.at c.in_ok-opened.opened.at c.in_ok-count.count _ _ c.read_some.new.buf (ap (λ name. told (string_bytes name)) c.in_ok-opened.ensures.name) c.in_ok-opened.ensures.place c.in_ok-count.ensures.fits.0 c.in_ok-opened.ensures.stands c.in_ok-count.ensures.consumed.0

pub returns-clause-told : goal.returns-clause-told
returns-clause-told g c =
    read_is_piece _ c.read_some.new.buf c.args.at c.in_ok-count.count _ _ c.in_ok-count.ensures.fits.0 c.in_ok-opened.ensures.stands c.in_ok-count.ensures.consumed.0 c.in_ok-count.ensures.consumed.1
