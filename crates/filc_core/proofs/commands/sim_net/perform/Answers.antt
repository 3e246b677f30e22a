use Rattle.std.proofs.Common.{[], false}
use Rattle.net_core.specs.Netlist.{netlist_of}
use Rattle.filc_core.proofs.commands.NetRunLaws.{is_net_run, net_run_stops, net_run_reports}
use Rattle.filc_core.proofs.PerformLemmas.{source_stops}
use Rattle.filc_core.specs.commands.SimNet.{sim_net}
use Rattle.filc_core.specs.inside.Told.{arguments_told}
use Rattle.filc_core.proofs.commands.sim_net.perform.Goals as goal

pub returns-in_err-built : goal.returns-in_err-built
returns-in_err-built g c =
    let is = is_net_run (λ net. []) false (arguments_told c.args.arguments.now) in let failed = c.in_err-built.ensures in
    source_stops sim_net (arguments_told c.args.arguments.now) is.reads failed.files c.in_err-built.field-0.0 c.from_residual.ensures.1 failed.unread failed.known failed.read_fault failed.stops

pub returns-in_err-list : goal.returns-in_err-list
returns-in_err-list g c =
    let is = is_net_run (λ net. []) false (arguments_told c.args.arguments.now) in let n = netlist_of c.in_ok-built.built.net in let first = c.in_ok-built.ensures in let failed = c.in_err-list.ensures in
    net_run_stops sim_net is n (record { files = first.files; known = first.known; accepted = λ told. (n, first.read told) }) first.read failed.files
    c.in_err-list.field-0.0 c.from_residual-in_err-list.ensures.1 failed.refused failed.known failed.read_fault failed.stops

pub returns : goal.returns
returns g c =
    let is = is_net_run (λ net. []) false (arguments_told c.args.arguments.now) in let n = netlist_of c.in_ok-built.built.net in let first = c.in_ok-built.ensures in let second = c.in_ok-list.ensures in
    net_run_reports sim_net is n (record { files = first.files; known = first.known; accepted = λ told. (n, first.read told) }) first.read second.files
    c.in_ok-list.list second.known second.given c.run.ensures.leaves c.run.ensures.stops c.run.ensures.write_fault c.run.ensures.never_falls
