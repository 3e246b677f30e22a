use Rattle.std.proofs.Common.{codes, subst, sym}
use Rattle.cal_ast.specs.declared.tree.CalPort.{CalPort}
use Rattle.cal_lower.specs.inside.Labels.{label_text}
use Rattle.cal_lower.specs.inside.Pieces.{shown}
use Rattle.cal_lower.specs.inside.Shown.{ShowsPort}
use Rattle.cal_lower.proofs.GrownLemmas.{cell_port, labels_texts}
use Rattle.cal_lower.proofs.labels.Labels.port.Goals as goal

pub returns-clause-port : goal.returns-clause-port
returns-clause-port c =
    let old = c.args.self.now in
    let new = c.name.new.self in
    let text = label_text old.names c.args.label in
    let P : CalPort → Type 0 = ShowsPort new.names (shown text) in
    let are = labels_texts old new c.name.ensures.kept c.requires.texts in
    subst P (sym c.port_of.ensures) (cell_port new.names text (codes "out") c.in_ok-name.name new.texts.output c.in_ok-name.ensures.text are.output)
