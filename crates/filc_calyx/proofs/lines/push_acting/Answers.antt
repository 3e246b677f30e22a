use Rattle.std.proofs.Common.{◌∙◌, ◌++◌, Option, sym, ap, subst}
use Rattle.std.proofs.lemmas.List.{append-nil}
use Rattle.hw_names.specs.Name.{Text}
use Rattle.cal_sched.specs.declared.walker.Walker.{Walker}
use Rattle.filc_calyx.specs.inside.Scheduling.{Tells}
use Rattle.filc_calyx.proofs.LabelLemmas.{none_act}
use Rattle.filc_calyx.proofs.lines.push_acting.Goals as goal

pub returns-in-None : goal.returns-in-None
returns-in-None c = λ actors acts are tells.
    let nothing = none_act acts actors (subst (λ (w : Option Walker). Tells actors acts w) c.in-None.is tells) in
    let text = c.args.text.now.items in
    sym (ap (λ (more : Text). text ++ more) nothing ∙ append-nil text)
