use Rattle.std.proofs.Common.{[], ◌∷◌, ◌++◌, true, subst, ◌∙◌, arith, inl, inr}
use Rattle.hw_names.specs.Name.{Text}
use Rattle.net_core.specs.Netlist.{netlist_of}
use Rattle.net_text.specs.Layout.{net_text}
use Rattle.filc_report.specs.Runs.{LeavesOfRun, run_from}
use Rattle.filc_stop.proofs.SinkLemmas.{keeps_all}
use Rattle.filc_stop.specs.declared.stop.Stop.TheVariants as stop
use Rattle.filc_core.proofs.commands.NetRunLaws.{is_net_run, net_run_stops, net_run_reports}
use Rattle.filc_core.proofs.PerformLemmas.{source_stops, read_both, report_stops}
use Rattle.filc_core.specs.commands.TraceNet.{trace_net}
use Rattle.filc_core.specs.inside.Told.{arguments_told}
use Rattle.filc_core.proofs.commands.trace_net.perform.Goals as goal

pub returns-in_err-built : goal.returns-in_err-built
returns-in_err-built g c =
    let is = is_net_run (λ net. net_text net ++ 10 ∷ []) true (arguments_told c.args.arguments.now) in let failed = c.in_err-built.ensures in
    source_stops trace_net (arguments_told c.args.arguments.now) is.reads failed.files c.in_err-built.field-0.0 c.from_residual.ensures.1 failed.unread failed.known failed.read_fault failed.stops

pub returns-in_err-list : goal.returns-in_err-list
returns-in_err-list g c =
    let is = is_net_run (λ net. net_text net ++ 10 ∷ []) true (arguments_told c.args.arguments.now) in let n = netlist_of c.in_ok-built.built.net in let first = c.in_ok-built.ensures in let failed = c.in_err-list.ensures in
    net_run_stops trace_net is n (record { files = first.files; known = first.known; accepted = λ told. (n, first.read told) }) first.read failed.files
    c.in_err-list.field-0.0 c.from_residual-in_err-list.ensures.1 failed.refused failed.known failed.read_fault failed.stops

pub returns-in_err-text : goal.returns-in_err-text
returns-in_err-text g c =
    let is = is_net_run (λ net. net_text net ++ 10 ∷ []) true (arguments_told c.args.arguments.now) in let n = netlist_of c.in_ok-built.built.net in let first = c.in_ok-built.ensures in let second = c.in_ok-list.ensures in
    report_stops trace_net (arguments_told c.args.arguments.now) (read_both trace_net (arguments_told c.args.arguments.now) is.reads (record { files = first.files; known = first.known; accepted = λ told. (n, first.read told) }) second.files second.known)
    stop.Memory c.from_residual-in_err-text.ensures.1 (λ told. inl (keeps_all (g.O.Sink.written c.args.out.now))) (inr (inr tt)) tt (λ fault. absurd (let e = fault in cc e)) (omega arith)

pub returns : goal.returns
returns g c =
    let is = is_net_run (λ net. net_text net ++ 10 ∷ []) true (arguments_told c.args.arguments.now) in let n = netlist_of c.in_ok-built.built.net in let first = c.in_ok-built.ensures in let second = c.in_ok-list.ensures in
    net_run_reports trace_net is n (record { files = first.files; known = first.known; accepted = λ told. (n, first.read told) }) first.read second.files
    c.in_ok-list.list second.known second.given (subst (λ (head : Text). LeavesOfRun (run_from n c.in_ok-list.list head true) c.run.result (g.O.Sink.written c.args.out.now) (g.O.Sink.written c.run.new.out)) (c.deref.ensures.value ∙ c.in_ok-text.ensures) c.run.ensures.leaves) c.run.ensures.stops c.run.ensures.write_fault c.run.ensures.never_falls
