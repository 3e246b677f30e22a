use Rattle.net_core.specs.Netlist.{netlist_of}
use Rattle.filc_report.specs.declared.view.View.{View}
use Rattle.filc_report.proofs.RowLemmas.{range_length}
use Rattle.filc_report.proofs.ViewLemmas.{line_made}
use Rattle.filc_report.proofs.view.View.new.Goals as goal

pub returns-clause-line : goal.returns-clause-line
returns-clause-line c =
    let view : View = record { ports = c.shown-ports.result; intervals = c.in_ok-intervals.intervals; nexts = c.in_ok-nexts.nexts; shown = c.in_ok-shown.shown } in
    line_made (netlist_of c.args.net.now) c.args.table.now.names view c.args.all c.shown-ports.ensures.ports (c.in_ok-shown.ensures.items_if_clones_equal (λ y same. same))
    (range_length c.args.table.now.names c.shown-ports.result.start c.shown-ports.result.end c.shown-ports.ensures.within) c.args.drive c.requires.fits c.in_ok-intervals.ensures
