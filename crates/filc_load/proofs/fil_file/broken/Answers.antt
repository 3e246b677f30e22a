use Rattle.std.proofs.Common.{sym, ◌∙◌}
use Rattle.fil_check.specs.Least.{evidence_of}
use Rattle.hw_names.proofs.NameLemmas.{text_of-slice_get}
use Rattle.filc_load.proofs.FilLemmas.{design_refused}
use Rattle.filc_load.proofs.fil_file.broken.Goals as goal

pub returns-in-Ok : goal.returns-in-Ok
returns-in-Ok c text of =
    let d = c.args.design.now in
    design_refused d c.args.rule c.args.comp c.args.item (evidence_of c.args.evidence) _ c.requires.first (text_of-slice_get d.names c.args.comp c.text.result.now c.text.ensures ∙ sym c.in-Ok.ensures) text of
