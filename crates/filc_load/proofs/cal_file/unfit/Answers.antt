use Rattle.std.proofs.Common.{sym, subst, ◌∙◌}
use Rattle.hw_names.proofs.NameLemmas.{text_of-slice_get}
use Rattle.cal_check.specs.Refusals.{TellsRefusal}
use Rattle.cal_check.specs.declared.refusal.CalEnd.{CalEnd}
use Rattle.filc_load.proofs.CalLemmas.{refusal_number, design_refused}
use Rattle.filc_load.proofs.cal_file.unfit.Goals as goal

pub text-requires : goal.text-requires
text-requires c =
    refusal_number c.args.design.now c.in-Refused.rule c.in-Refused.comp c.in-Refused.item c.in-Refused.ports.items c.requires.written
    (subst (λ (end : CalEnd). TellsRefusal c.args.design.now end) c.in-Refused.is c.requires.first)

pub returns-in-Ok : goal.returns-in-Ok
returns-in-Ok c text of =
    let d = c.args.design.now in
    let first = subst (λ (end : CalEnd). TellsRefusal d end) c.in-Refused.is c.requires.first in
    design_refused d c.in-Refused.rule c.in-Refused.comp c.in-Refused.item c.in-Refused.ports.items _ first
    (text_of-slice_get d.names c.in-Refused.comp c.text.result.now c.text.ensures ∙ sym c.in-Ok.ensures) text of
