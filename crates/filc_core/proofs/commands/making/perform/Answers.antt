use Rattle.std.proofs.Common.{[], Ok, Err, inr}
use Rattle.filc_stop.specs.declared.stop.Stop.TheVariants as stop
use Rattle.filc_core.proofs.commands.MakingLaws.{making_reads, making_leaves}
use Rattle.filc_core.proofs.PerformLemmas.{source_stops, read_one, reports, report_stops, design_told}
use Rattle.filc_core.specs.commands.Making.{making}
use Rattle.filc_core.specs.inside.Told.{arguments_told}
use Rattle.filc_core.proofs.commands.making.perform.Goals as goal

pub returns-in_err-text : goal.returns-in_err-text
returns-in_err-text g c =
    let asked = arguments_told c.args.arguments.now in let failed = c.in_err-text.ensures in
    source_stops (making c.args.product) asked (making_reads c.args.product asked) failed.files c.in_err-text.field-0.0 c.from_residual.ensures.1 failed.unread failed.known failed.read_fault failed.stops

pub returns-in_err-write_text : goal.returns-in_err-write_text
returns-in_err-write_text g c =
    let asked = arguments_told c.args.arguments.now in let contents = g.F.Files.content c.args.files.now in let made = c.in_ok-text.text.items in let first = c.in_ok-text.ensures in let failed = c.in_err-write_text.ensures in
    report_stops (making c.args.product) asked (read_one (making c.args.product) asked (making_reads c.args.product asked) first.files first.known) stop.WriteFault c.from_residual-in_err-write_text.ensures.1
    (λ told. making_leaves c.args.product asked contents made (first.made (design_told (making c.args.product) asked asked.language [] (making_reads c.args.product asked) contents told))
    (g.O.Sink.written c.args.out.now) (g.O.Sink.written c.write_text.new.out) (Err stop.WriteFault) tt (rw c.deref.ensures.value at failed.prefix) tt)
    (inr tt) tt (λ why. failed.failed) failed.never_falls

pub returns : goal.returns
returns g c =
    let asked = arguments_told c.args.arguments.now in let contents = g.F.Files.content c.args.files.now in let made = c.in_ok-text.text.items in let first = c.in_ok-text.ensures in let wrote = c.in_ok-write_text.ensures in
    reports (making c.args.product) asked (read_one (making c.args.product) asked (making_reads c.args.product asked) first.files first.known)
    (λ told. making_leaves c.args.product asked contents made (first.made (design_told (making c.args.product) asked asked.language [] (making_reads c.args.product asked) contents told))
    (g.O.Sink.written c.args.out.now) (g.O.Sink.written c.write_text.new.out) (Ok tt) (rw c.deref.ensures.value at wrote.appended) tt tt)
    tt tt (λ fault. absurd (let e = fault in cc e)) wrote.never_falls
