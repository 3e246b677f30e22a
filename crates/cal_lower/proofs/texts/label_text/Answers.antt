use Rattle.std.proofs.Common.{◌++◌, codes, sym, ap, subst, ◌∙◌}
use Rattle.std.proofs.lemmas.Result.{IfOk-weaker}
use Rattle.hw_names.proofs.NameLemmas.{text_of-slice_get}
use Rattle.cal_lower.specs.inside.Labels.{LabelHasNumber, label_text}
use Rattle.cal_lower.specs.declared.texts.Label.{Label}
use Rattle.cal_lower.proofs.texts.label_text.Goals as goal

pub returns-in-Going : goal.returns-in-Going
returns-in-Going c = IfOk-weaker c.numbered.result _ _ (λ text e. e ∙ sym (ap (label_text c.args.names.now) c.in-Going.is)) c.numbered.ensures

pub returns-in-Starting : goal.returns-in-Starting
returns-in-Starting c = IfOk-weaker c.numbered-in-Starting.result _ _ (λ text e. e ∙ sym (ap (label_text c.args.names.now) c.in-Starting.is)) c.numbered-in-Starting.ensures

pub returns-in-Ended : goal.returns-in-Ended
returns-in-Ended c = IfOk-weaker c.numbered-in-Ended.result _ _ (λ text e. e ∙ sym (ap (label_text c.args.names.now) c.in-Ended.is)) c.numbered-in-Ended.ensures

pub returns-in-Again : goal.returns-in-Again
returns-in-Again c = IfOk-weaker c.numbered-in-Again.result _ _ (λ text e. e ∙ sym (ap (label_text c.args.names.now) c.in-Again.is)) c.numbered-in-Again.ensures

pub returns-in-Ends : goal.returns-in-Ends
returns-in-Ends c = IfOk-weaker c.numbered-in-Ends.result _ _ (λ text e. e ∙ sym (ap (label_text c.args.names.now) c.in-Ends.is)) c.numbered-in-Ends.ensures

pub text-requires : goal.text-requires
text-requires c = let P : Label → Type 0 = LabelHasNumber c.args.names.now in subst P c.in-Acts.is c.requires

pub returns-in-Acts : goal.returns-in-Acts
returns-in-Acts c =
    let names = c.args.names.now in
    let group = text_of-slice_get names c.in-Acts.group c.text.result.now c.text.ensures in
    IfOk-weaker c.joined.result _ _ (λ text e. e ∙ ap (λ t. codes "c$acts$" ++ t) (sym group) ∙ sym (ap (label_text names) c.in-Acts.is)) c.joined.ensures

pub text-requires-in-Done : goal.text-requires-in-Done
text-requires-in-Done c = let P : Label → Type 0 = LabelHasNumber c.args.names.now in subst P c.in-Done.is c.requires

pub returns-in-Done : goal.returns-in-Done
returns-in-Done c =
    let names = c.args.names.now in
    let group = text_of-slice_get names c.in-Done.group c.text-in-Done.result.now c.text-in-Done.ensures in
    IfOk-weaker c.joined-in-Done.result _ _ (λ text e. e ∙ ap (λ t. codes "c$done$" ++ t) (sym group) ∙ sym (ap (label_text names) c.in-Done.is)) c.joined-in-Done.ensures
