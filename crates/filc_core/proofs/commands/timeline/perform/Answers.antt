use Rattle.fil_ast.specs.Tree.{design_of}
use Rattle.filc_load.proofs.TopLemmas.{has_top}
use Rattle.filc_core.proofs.PerformLemmas.{source_stops}
use Rattle.filc_core.proofs.commands.TransactionsLaws.{is_started, started_stops, started_reports}
use Rattle.filc_core.specs.inside.Told.{arguments_told}
use Rattle.filc_core.specs.commands.Timeline.{timeline, holds_in_top}
use Rattle.filc_core.specs.commands.Transactions.{Top}
use Rattle.filc_core.proofs.commands.timeline.perform.Goals as goal

pub returns-in_err-built : goal.returns-in_err-built
returns-in_err-built g c =
    let is = is_started holds_in_top (arguments_told c.args.arguments.now) in let failed = c.in_err-built.ensures in
    source_stops timeline (arguments_told c.args.arguments.now) is.reading.reads failed.files c.in_err-built.field-0.0 c.from_residual.ensures.1 failed.unread failed.known failed.read_fault failed.stops

pub returns-in_err-list : goal.returns-in_err-list
returns-in_err-list g c =
    let is = is_started holds_in_top (arguments_told c.args.arguments.now) in let built = c.in_ok-built.built in let first = c.in_ok-built.ensures in let failed = c.in_err-list.ensures in
    let found = has_top (design_of built.design) built.top first.ready.top in let top : Top = record { design = design_of built.design; number = built.top; comp = found.0 } in
    started_stops timeline is.reading top found.1 (record { files = first.files; known = first.known; accepted = λ told. (top.design, first.read told) }) first.read failed.files
    c.in_err-list.field-0.0 c.from_residual-in_err-list.ensures.1 (failed.refused found.0 found.1.at) failed.known failed.read_fault failed.stops

pub write_holds-requires-clause-fits : goal.write_holds-requires-clause-fits
write_holds-requires-clause-fits g c = rw c.deref.ensures.value c.in_ok-list.ensures.fits

pub returns : goal.returns
returns g c =
    let is = is_started holds_in_top (arguments_told c.args.arguments.now) in let built = c.in_ok-built.built in let first = c.in_ok-built.ensures in let second = c.in_ok-list.ensures in let wrote = c.write_holds.ensures in
    let found = has_top (design_of built.design) built.top first.ready.top in let top : Top = record { design = design_of built.design; number = built.top; comp = found.0 } in
    started_reports timeline is top found.1 (record { files = first.files; known = first.known; accepted = λ told. (top.design, first.read told) }) first.read second.files
    c.in_ok-list.list second.known (second.given found.0 found.1.at) (rw c.deref.ensures.value at (wrote.written found.0 found.1.at)) (rw c.deref.ensures.value at (wrote.part found.0 found.1.at)) wrote.stops wrote.write_fault wrote.never_falls
