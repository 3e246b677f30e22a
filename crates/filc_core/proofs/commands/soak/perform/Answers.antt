use Rattle.std.proofs.Common.{[], ◌≤◌, refl, inl, inr, arith}
use Rattle.hw_io.proofs.WritingLemmas.{appends_none}
use Rattle.hw_limits.specs.declared.limits.TheConstants.{MOST_TRANSACTIONS}
use Rattle.filc_stop.specs.Stops.{IsWritingStop}
use Rattle.filc_core.proofs.PerformLemmas.{IsNoReadFault, if_stops, no_fault_at_writing, reports}
use Rattle.filc_core.proofs.commands.SoakLaws.{soak_leaves, soak_reads}
use Rattle.filc_core.specs.commands.Soak.{soak}
use Rattle.filc_core.specs.inside.Told.{arguments_told}
use Rattle.filc_core.proofs.commands.soak.perform.Goals as goal

pub returns-then-arguments-gt-MOST_TRANSACTIONS : goal.returns-then-arguments-gt-MOST_TRANSACTIONS
returns-then-arguments-gt-MOST_TRANSACTIONS g c =
    let asked = arguments_told c.args.arguments.now in
    reports soak asked (soak_reads asked g.F.Files.names g.F.Files.content g.F.Files.faults c.args._files.now)
    (λ told. record {
      made = [];
      report = [];
      outcome = inl (record { over = omega (arith, c.if-arguments-gt-MOST_TRANSACTIONS.true); outcome = refl });
      reported = appends_none (g.O.Sink.written c.args.out.now);
    }) (inl tt) tt (λ fault. absurd (let e = fault in cc e)) (omega arith)

pub returns : goal.returns
returns g c =
    let asked = arguments_told c.args.arguments.now in let contents = g.F.Files.content c.args._files.now in
    let few : asked.count ≤ MOST_TRANSACTIONS = omega (arith, c.if-arguments-gt-MOST_TRANSACTIONS.false) in
    reports soak asked (soak_reads asked g.F.Files.names g.F.Files.content g.F.Files.faults c.args._files.now)
    (λ told. soak_leaves asked contents few c.write_soak.result (g.O.Sink.written c.args.out.now) (g.O.Sink.written c.write_soak.new.out) c.write_soak.ensures.leaves)
    (if_stops IsWritingStop (soak asked).stops c.write_soak.result (λ why of. inr of) c.write_soak.ensures.stops) (if_stops IsWritingStop IsNoReadFault c.write_soak.result no_fault_at_writing c.write_soak.ensures.stops)
    c.write_soak.ensures.write_fault c.write_soak.ensures.never_falls
