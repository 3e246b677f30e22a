use Rattle.std.proofs.Common.{Option, ap, sym, subst, subst₂, ◌∙◌}
use Rattle.hw_names.specs.Name.{text_of}
use Rattle.hw_names.specs.declared.names.NameId.{NameId}
use Rattle.net_core.specs.Guard.{guard_holds, guard_option}
use Rattle.net_core.specs.Numbers.{WhenHasNumbers}
use Rattle.net_core.specs.declared.net.Guard.{Guard}
use Rattle.net_guard.proofs.SetLemmas.{IsWhenFoldOf, guard_folds, no_guard_folds, set_folds, true_guard_folds}
use Rattle.net_guard.specs.inside.Folding.{FoldsTo, tree_of}
use Rattle.net_guard.specs.declared.fold.Folded.{Folded}
use Rattle.net_guard.proofs.simplified.simplify_set.Goals as goal

pub returns-in-None : goal.returns-in-None
returns-in-None c = λ names has.
    let W : Option (Guard NameId) → Option (Guard NameId) → Type 0 = IsWhenFoldOf names in
    let made = c.guarded.ensures in
    set_folds names c.args.set.now c.guarded.result has made.dst made.src (subst₂ W (sym c.in-None.is) (sym made.guard) (no_guard_folds names))

pub returns-in-Known-false : goal.returns-in-Known-false
returns-in-Known-false c = λ names has look.
    let N : Option (Guard NameId) → Type 0 = WhenHasNumbers names in
    let F : Folded → Type 0 = FoldsTo names (tree_of names c.in-Some.guard) in
    let known = subst F c.in-Known-false.is (c.in_ok-fold-in-Some.ensures names (subst N c.in-Some.is has.1)) in
    ap (λ (when : Option (Guard NameId)). guard_holds look (guard_option (text_of names) when)) c.in-Some.is ∙ known look ∙ c.in-Known-false.field-0-test

pub returns-in-Known-true : goal.returns-in-Known-true
returns-in-Known-true c = λ names has.
    let N : Option (Guard NameId) → Type 0 = WhenHasNumbers names in
    let F : Folded → Type 0 = FoldsTo names (tree_of names c.in-Some.guard) in
    let known = subst F c.in-Known-true.is (c.in_ok-fold-in-Some.ensures names (subst N c.in-Some.is has.1)) in
    let W : Option (Guard NameId) → Option (Guard NameId) → Type 0 = IsWhenFoldOf names in
    let made = c.guarded-in-Known-true.ensures in
    set_folds names c.args.set.now c.guarded-in-Known-true.result has made.dst made.src (subst₂ W (sym c.in-Some.is) (sym made.guard) (true_guard_folds names c.in-Some.guard (λ look. known look ∙ c.in-Known-true.field-0-test)))

pub returns-in_ok-guard-in-Sometimes : goal.returns-in_ok-guard-in-Sometimes
returns-in_ok-guard-in-Sometimes c = λ names has.
    let N : Option (Guard NameId) → Type 0 = WhenHasNumbers names in
    let F : Folded → Type 0 = FoldsTo names (tree_of names c.in-Some.guard) in
    let fold = subst F c.in-Sometimes.is (c.in_ok-fold-in-Some.ensures names (subst N c.in-Some.is has.1)) in
    let W : Option (Guard NameId) → Option (Guard NameId) → Type 0 = IsWhenFoldOf names in
    let made = c.guarded-in-Sometimes.ensures in
    let guard = c.in_ok-guard-in-Sometimes.field-0 in
    set_folds names c.args.set.now c.guarded-in-Sometimes.result has made.dst made.src
    (subst₂ W (sym c.in-Some.is) (sym made.guard) (guard_folds names c.in-Some.guard guard c.in-Sometimes.open fold (c.in_ok-guard-in-Sometimes.ensures names fold.numbers)))
