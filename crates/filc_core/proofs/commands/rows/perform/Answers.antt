use Rattle.std.proofs.Common.{[], ◌≤◌, refl, inl, inr, arith}
use Rattle.hw_io.proofs.WritingLemmas.{appends_none}
use Rattle.net_core.specs.Netlist.{netlist_of}
use Rattle.net_core.specs.declared.stimulus.CycleList.{CycleList}
use Rattle.hw_limits.specs.declared.limits.TheConstants.{MOST_CYCLES}
use Rattle.filc_stop.specs.Stops.{IsOfRun}
use Rattle.filc_stop.specs.declared.language.Language.TheVariants.{Netlists}
use Rattle.filc_core.proofs.PerformLemmas.{IsNoReadFault, source_stops, read_one, reports, design_told, if_stops, no_fault_at_run}
use Rattle.filc_core.proofs.commands.RowsLaws.{rows_reads, rows_leaves}
use Rattle.filc_core.specs.commands.Rows.{rows}
use Rattle.filc_core.specs.inside.Told.{arguments_told}
use Rattle.filc_core.proofs.commands.rows.perform.Goals as goal

pub returns-in_err-built : goal.returns-in_err-built
returns-in_err-built g c =
    let asked = arguments_told c.args.arguments.now in let failed = c.in_err-built.ensures in
    source_stops rows asked (rows_reads asked) failed.files c.in_err-built.field-0.0 c.from_residual.ensures.1 failed.unread failed.known failed.read_fault failed.stops

pub returns-then-arguments-gt-MOST_CYCLES : goal.returns-then-arguments-gt-MOST_CYCLES
returns-then-arguments-gt-MOST_CYCLES g c =
    let asked = arguments_told c.args.arguments.now in let contents = g.F.Files.content c.args.files.now in let first = c.in_ok-built.ensures in
    reports rows asked (read_one rows asked (rows_reads asked) first.files first.known)
    (λ told. record {
      made = [];
      report = [];
      outcome = inr (inl (record {
        net = netlist_of c.in_ok-built.built.net;
        gives = first.read (design_told rows asked Netlists [] (rows_reads asked) contents told);
        over = omega (arith, c.if-arguments-gt-MOST_CYCLES.true);
        outcome = refl;
      }));
      reported = appends_none (g.O.Sink.written c.args.out.now);
    }) (inr (inl tt)) tt (λ fault. absurd (let e = fault in cc e)) (omega arith)

pub returns : goal.returns
returns g c =
    let asked = arguments_told c.args.arguments.now in let contents = g.F.Files.content c.args.files.now in let first = c.in_ok-built.ensures in let n = netlist_of c.in_ok-built.built.net in
    let few : asked.count ≤ MOST_CYCLES = omega (arith, c.if-arguments-gt-MOST_CYCLES.false) in
    let list : CycleList = record { cycles = asked.count; sets = c.new.result; loads = c.new-2.result } in
    reports rows asked (read_one rows asked (rows_reads asked) first.files first.known)
    (λ told. rows_leaves asked contents (record { net = n; gives = first.read (design_told rows asked Netlists [] (rows_reads asked) contents told); within = few }) list refl c.new.ensures.items c.new-2.ensures.items
    c.run.result (g.O.Sink.written c.args.out.now) (g.O.Sink.written c.run.new.out) c.run.ensures.leaves)
    (if_stops IsOfRun (rows asked).stops c.run.result (λ why of. inr (inr of)) c.run.ensures.stops) (if_stops IsOfRun IsNoReadFault c.run.result no_fault_at_run c.run.ensures.stops) c.run.ensures.write_fault c.run.ensures.never_falls
