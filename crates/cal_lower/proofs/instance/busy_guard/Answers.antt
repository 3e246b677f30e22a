use Rattle.net_core.specs.Guard.{Negates}
use Rattle.cal_ast.specs.Numbers.{GuardHasNumbers, PortHasNumbers}
use Rattle.cal_ast.specs.Plan.{section_plan}
use Rattle.cal_ast.specs.Tree.{control_tree, port_tree}
use Rattle.cal_lower.specs.inside.Lowered.{control_ends}
use Rattle.cal_lower.specs.inside.Pieces.{busy_name, either, reads, shown, start_name}
use Rattle.cal_lower.specs.inside.Shown.{seen_guard}
use Rattle.cal_lower.proofs.GrownLemmas.{shows_kept}
use Rattle.cal_lower.proofs.instance.busy_guard.Goals as goal

pub returns-clause-guard : goal.returns-clause-guard
returns-clause-guard c = λ source item.
    let first = c.port.new.self.names in
    let second = c.port-2.new.self.names in
    let names = c.control_ends.new.labels.names in
    let one = reads (shown start_name) in
    let other = reads (shown busy_name) in
    let start_port = shows_kept PortHasNumbers port_tree first second (shown start_name) c.in_ok-start.start c.port-2.ensures.kept.names c.in_ok-start.ensures.port in
    let start = c.in_ok-reads.ensures second (shown start_name) start_port in
    let busy = c.in_ok-reads-2.ensures second (shown busy_name) c.in_ok-busy.ensures.port in
    let runs = shows_kept GuardHasNumbers seen_guard second names (either one other) c.in_ok-runs.runs c.control_ends.ensures.kept.names (c.in_ok-runs.ensures second one other start busy) in
    let ends = control_ends (section_plan item (control_tree source c.args.control.now)) in
    let not_ends = c.in_ok-not_ends.ensures names ends (c.in_ok-ends.ensures.guard source item) in
    c.both.ensures names (either one other) (Negates ends) runs not_ends
