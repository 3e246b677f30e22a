use Rattle.cal_lower.specs.inside.Labels.{label_text}
use Rattle.cal_lower.specs.inside.Pieces.{reads, shown}
use Rattle.cal_ast.specs.Numbers.{PortHasNumbers}
use Rattle.cal_ast.specs.Tree.{port_tree}
use Rattle.cal_lower.proofs.GrownLemmas.{shows_kept}
use Rattle.cal_lower.proofs.ends.port_or.Goals as goal

pub returns-clause-guard : goal.returns-clause-guard
returns-clause-guard c = λ tree at.
    let old = c.args.labels.now in
    let new = c.port.new.self in
    let name = label_text old.names c.args.label in
    let port = shows_kept PortHasNumbers port_tree old.names new.names tree c.args.port c.port.ensures.kept.names at in
    c.either.ensures new.names (reads tree) (reads (shown name)) (c.in_ok-reads.ensures new.names tree port) (c.in_ok-reads-2.ensures new.names (shown name) c.in_ok-other.ensures.port)
