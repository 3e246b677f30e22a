use Rattle.fil_ast.specs.Tree.{design_of}
use Rattle.filc_load.proofs.TopLemmas.{has_top}
use Rattle.filc_core.proofs.PerformLemmas.{source_stops}
use Rattle.filc_core.proofs.commands.TransactionsLaws.{loaded_transactions, is_started, started_stops, started_reports}
use Rattle.filc_core.specs.inside.Told.{arguments_told}
use Rattle.filc_core.specs.commands.SimFil.{sim_fil, rows_of_top}
use Rattle.filc_core.specs.commands.Transactions.{Top}
use Rattle.filc_core.proofs.commands.sim_fil.perform.Goals as goal

pub returns-in_err-design : goal.returns-in_err-design
returns-in_err-design g c =
    let is = is_started rows_of_top (arguments_told c.args.arguments.now) in let failed = c.in_err-design.ensures in
    source_stops sim_fil (arguments_told c.args.arguments.now) is.reading.reads failed.files c.in_err-design.field-0.0 c.from_residual.ensures.1 failed.unread failed.known failed.read_fault failed.stops

pub returns-in_err-list : goal.returns-in_err-list
returns-in_err-list g c =
    let is = is_started rows_of_top (arguments_told c.args.arguments.now) in let built = c.in_ok-design.design in let first = c.in_ok-design.ensures in let failed = c.in_err-list.ensures in
    let found = has_top (design_of built.design) built.top first.ready.top in let top : Top = record { design = design_of built.design; number = built.top; comp = found.0 } in
    started_stops sim_fil is.reading top found.1 (record { files = first.files; known = first.known; accepted = λ told. (top.design, first.read told) }) first.read failed.files
    c.in_err-list.field-0.0 c.from_residual-in_err-list.ensures.1 (failed.refused found.0 found.1.at) failed.known failed.read_fault failed.stops

pub write_outputs-requires-clause-transactions : goal.write_outputs-requires-clause-transactions
write_outputs-requires-clause-transactions g c = λ comp at. loaded_transactions comp c.in_ok-list.list (c.in_ok-list.ensures.fits comp at) (c.in_ok-list.ensures.legal comp at)

pub returns : goal.returns
returns g c =
    let is = is_started rows_of_top (arguments_told c.args.arguments.now) in let built = c.in_ok-design.design in let first = c.in_ok-design.ensures in let second = c.in_ok-list.ensures in let wrote = c.write_outputs.ensures in
    let found = has_top (design_of built.design) built.top first.ready.top in let top : Top = record { design = design_of built.design; number = built.top; comp = found.0 } in
    started_reports sim_fil is top found.1 (record { files = first.files; known = first.known; accepted = λ told. (top.design, first.read told) }) first.read second.files
    c.in_ok-list.list second.known (second.given found.0 found.1.at) (wrote.written found.0 found.1.at) (wrote.part found.0 found.1.at) wrote.stops wrote.write_fault wrote.never_falls
