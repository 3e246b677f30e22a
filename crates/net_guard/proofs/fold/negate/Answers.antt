use Rattle.std.proofs.Common.{Bool, sym, subst, ◌∙◌}
use Rattle.net_guard.proofs.FoldLemmas.{fold_negated, known_negated}
use Rattle.net_guard.specs.inside.Folding.{FoldsTo, IsFoldOf, negated_tree}
use Rattle.net_guard.specs.declared.fold.Folded.{Folded}
use Rattle.net_guard.proofs.fold.negate.Goals as goal

pub returns-in-Known : goal.returns-in-Known
returns-in-Known c = λ names old h.
    let F : Folded → Type 0 = FoldsTo names old in
    let known = subst F c.in-Known.is h in
    λ look. known_negated old c.args.negated c.in-Known.truth known look ∙ sym c.flipped.ensures

pub returns-in-Sometimes : goal.returns-in-Sometimes
returns-in-Sometimes c = λ names old h.
    let F : Folded → Type 0 = FoldsTo names old in
    let fold = subst F c.in-Sometimes.is h in
    let top = c.in-Sometimes.open in
    subst (λ (b : Bool). IsFoldOf names (negated_tree c.args.negated old) (record { negated = b; core = top.core })) (sym c.flipped-in-Sometimes.ensures)
    (fold_negated names old c.args.negated top.negated top.core fold)
