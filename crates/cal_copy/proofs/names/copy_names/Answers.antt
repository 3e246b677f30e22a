use Rattle.std.proofs.Common.{◌++◌, [], ◌∷◌, List, Contains, sym, ap, subst, ◌∙◌}
use Rattle.hw_names.specs.Name.{Text}
use Rattle.cal_copy.proofs.CopyLemmas.{take_next, absent_before}
use Rattle.cal_copy.proofs.names.copy_names.Goals as goal

pub loop-number-preserved : goal.loop-number-preserved
loop-number-preserved c =
    let texts = c.args.names.now in
    let n = c.loop-number.number in
    let text = c.text.result.now in
    let A : List Text → Type 0 = λ ts. ¬ Contains ts text in
    let absent = subst A (sym c.loop-number.invariant) (absent_before texts n text c.len-number-end.ensures.distinct c.text.ensures) in
    (c.in_ok-_same.ensures.added absent).0 ∙ ap (λ ts. ts ++ text ∷ []) c.loop-number.invariant ∙ sym (take_next texts n text c.text.ensures)
