use Rattle.std.proofs.Common.{Some, ap, ◌∙◌}
use Rattle.std.proofs.lemmas.Result.{IfOk-weaker}
use Rattle.cal_lower.proofs.texts.label_name.Goals as goal

pub returns-clause-text : goal.returns-clause-text
returns-clause-text c = IfOk-weaker c.add_name.result _ _ (λ id e. e ∙ ap Some (c.deref.ensures.value ∙ c.in_ok-text.ensures)) c.add_name.ensures.text
