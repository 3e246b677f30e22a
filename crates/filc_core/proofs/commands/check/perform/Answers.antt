use Rattle.std.proofs.Common.{[], Ok, Err, inr}
use Rattle.filc_stop.specs.declared.stop.Stop.TheVariants as stop
use Rattle.filc_core.proofs.commands.CheckLaws.{check_reads, check_leaves}
use Rattle.filc_core.proofs.PerformLemmas.{source_stops, read_one, reports, report_stops, design_told}
use Rattle.filc_core.specs.commands.Check.{check}
use Rattle.filc_core.specs.inside.Told.{arguments_told}
use Rattle.filc_core.proofs.commands.check.perform.Goals as goal

pub returns-in_err-accept : goal.returns-in_err-accept
returns-in_err-accept g c =
    let asked = arguments_told c.args.arguments.now in let failed = c.in_err-accept.ensures in
    source_stops check asked (check_reads asked) failed.files c.in_err-accept.field-0.0 c.from_residual.ensures.1 failed.unread failed.known failed.read_fault failed.stops

pub returns-in_err-write_accepted : goal.returns-in_err-write_accepted
returns-in_err-write_accepted g c =
    let asked = arguments_told c.args.arguments.now in let contents = g.F.Files.content c.args.files.now in let first = c.in_ok-accept.ensures in let failed = c.in_err-write_accepted.ensures in
    report_stops check asked (read_one check asked (check_reads asked) first.files first.known) stop.WriteFault c.from_residual-in_err-write_accepted.ensures.1
    (λ told. check_leaves asked contents (first.accepted (design_told check asked asked.language [] (check_reads asked) contents told)) (Err stop.WriteFault) (g.O.Sink.written c.args.out.now) (g.O.Sink.written c.write_accepted.new.out) tt failed.prefix tt)
    (inr tt) tt (λ why. failed.failed) failed.never_falls

pub returns : goal.returns
returns g c =
    let asked = arguments_told c.args.arguments.now in let contents = g.F.Files.content c.args.files.now in let first = c.in_ok-accept.ensures in let wrote = c.in_ok-write_accepted.ensures in
    reports check asked (read_one check asked (check_reads asked) first.files first.known)
    (λ told. check_leaves asked contents (first.accepted (design_told check asked asked.language [] (check_reads asked) contents told)) (Ok tt) (g.O.Sink.written c.args.out.now) (g.O.Sink.written c.write_accepted.new.out) wrote.appended tt tt)
    tt tt (λ fault. absurd (let e = fault in cc e)) wrote.never_falls
