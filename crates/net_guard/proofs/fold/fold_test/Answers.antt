use Rattle.std.proofs.Common.{ap₂, sym, subst, inl, inr, ◌∙◌}
use Rattle.hw_names.specs.Name.{text_of}
use Rattle.hw_names.specs.declared.names.NameId.{NameId}
use Rattle.net_core.specs.Guard.{Compares, holds, source_tree}
use Rattle.net_core.specs.declared.net.Src.{Src}
use Rattle.net_guard.proofs.TopLemmas.{test_folds}
use Rattle.net_guard.specs.inside.Folding.{FoldsTo, plain_open}
use Rattle.net_guard.specs.declared.fold.Folded.{Folded}
use Rattle.net_guard.specs.declared.fold.Folded.TheVariants.{Sometimes}
use Rattle.net_guard.specs.declared.tops.Core.TheVariants as cores
use Rattle.net_guard.proofs.fold.fold_test.Goals as goal

pub returns-in-Port : goal.returns-in-Port
returns-in-Port c = λ names first second.
    let F : Folded → Type 0 = FoldsTo names (Compares c.args.op (source_tree (text_of names) c.args.left) (source_tree (text_of names) c.args.right)) in
    subst F (sym c.plain.ensures) (test_folds names c.args.op c.args.left c.args.right c.in-Port.field-0 c.in-Port.field-0 (inl c.in-Port.is) first second)

pub returns-in-Port-right : goal.returns-in-Port-right
returns-in-Port-right c = λ names first second.
    let F : Folded → Type 0 = FoldsTo names (Compares c.args.op (source_tree (text_of names) c.args.left) (source_tree (text_of names) c.args.right)) in
    let T : Src NameId → Type 0 = λ left. F (Sometimes (plain_open (cores.Test c.args.op left c.args.right))) in
    subst F (sym c.plain-in-Port-right.ensures) (subst T c.in-Lit.is (test_folds names c.args.op c.args.left c.args.right c.in-Port-right.field-0 c.in-Port-right.field-0 (inr c.in-Port-right.is) first second))

pub returns-in-Lit-right : goal.returns-in-Lit-right
returns-in-Lit-right c = λ names first second look.
    ap₂ (λ (a b : Src NameId). holds look (Compares c.args.op (source_tree (text_of names) a) (source_tree (text_of names) b))) c.in-Lit.is c.in-Lit-right.is ∙ sym c.compare.ensures
