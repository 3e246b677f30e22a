use Rattle.std.proofs.Common.{◌≡◌, ℕ, Bool, not, List, All, length, map, take, rules, arith, ap, ap₂, sym, subst, inl, inr, ◌∙◌}
use Rattle.std.proofs.Math.Seq.{take-length}
use Rattle.hw_names.specs.Name.{Text, text_of}
use Rattle.hw_names.specs.declared.names.NameId.{NameId}
use Rattle.net_core.proofs.GuardLemmas.{guard_tree-All, guard_tree-Any, list_numbers}
use Rattle.net_core.specs.Guard.{AllOf, AnyOf, Compares, GuardTree, Reads, guards_of, source_tree}
use Rattle.net_core.specs.Numbers.{GuardHasNumbers, SourceHasNumbers}
use Rattle.net_core.specs.declared.net.Guard.{Guard, the_lemmas}
use Rattle.net_core.specs.declared.net.Src.{Src}
use Rattle.net_guard.proofs.FoldLemmas.{folds_whole, negation_inside, same_reduced}
use Rattle.net_guard.proofs.GatherLemmas.{decided_list, no_list, trees_next}
use Rattle.net_guard.specs.inside.Folding.{FoldsTo, IsListFoldOf, IsReduced, joint_tree, negated_tree, tree_of}
use Rattle.net_guard.proofs.fold.+fold.Goals as goal

-- what is left behind a `!` or not, as a reduction of the whole
abbrev Left : List Text → Guard NameId → Bool → Guard NameId → Type 0
Left names whole negated g = IsReduced (tree_of names whole) (negated_tree negated (tree_of names g))

pub fold-loop-inner-init : goal.fold-loop-inner-init
fold-loop-inner-init t c = record { depth = omega arith; numbers = λ names has. has; reduced = λ names. same_reduced (tree_of names c.args.guard.now) }

pub fold-loop-inner-preserved : goal.fold-loop-inner-preserved
fold-loop-inner-preserved t c =
    let whole = c.args.guard.now in
    let negated = c.loop-inner.negated in
    let operand : Guard NameId = c.in-Not.operand.value in
    record {
      depth = search (rules, the_lemmas);
      numbers = λ names has.
          let N : Guard NameId → Type 0 = GuardHasNumbers names in
          let inside : N operand = subst N c.in-Not.is (c.loop-inner.invariant.numbers names has) in
          subst N (sym c.deref-inner.ensures) inside;
      reduced = λ names.
          let inside : IsReduced (tree_of names whole) (negated_tree (not negated) (tree_of names operand)) =
          negation_inside (tree_of names whole) (tree_of names operand) negated (subst (Left names whole negated) c.in-Not.is (c.loop-inner.invariant.reduced names)) in
          subst (Left names whole (not negated)) (sym c.deref-inner.ensures) inside;
    }

pub fold-returns-in-Read : goal.fold-returns-in-Read
fold-returns-in-Read t c = λ names numbers.
    let whole = c.args.guard.now in
    let negated = c.loop-inner.negated in
    let N : Guard NameId → Type 0 = GuardHasNumbers names in
    let has = subst N c.in-Read.is (c.loop-inner.invariant.numbers names numbers) in
    let seen : SourceHasNumbers names c.deref.result.now = subst (SourceHasNumbers names) (sym c.deref.ensures) has in
    let tree : GuardTree Text = Reads (source_tree (text_of names) c.deref.result.now) in
    let same : tree_of names c.loop-inner.inner.now ≡ tree = ap (tree_of names) c.in-Read.is ∙ ap (λ (s : Src NameId). Reads (source_tree (text_of names) s)) (sym c.deref.ensures) in
    folds_whole names (tree_of names whole) (negated_tree negated tree) c.negate.result
    (subst (λ (g : GuardTree Text). IsReduced (tree_of names whole) (negated_tree negated g)) same (c.loop-inner.invariant.reduced names))
    (c.negate.ensures names tree (c.fold_source.ensures names seen))

pub fold-returns-in-Test : goal.fold-returns-in-Test
fold-returns-in-Test t c = λ names numbers.
    let whole = c.args.guard.now in
    let negated = c.loop-inner.negated in
    let N : Guard NameId → Type 0 = GuardHasNumbers names in
    let has = subst N c.in-Test.is (c.loop-inner.invariant.numbers names numbers) in
    let first : SourceHasNumbers names c.deref-in-Test.result.now = subst (SourceHasNumbers names) (sym c.deref-in-Test.ensures) has.0 in
    let second : SourceHasNumbers names c.deref-in-Test-2.result.now = subst (SourceHasNumbers names) (sym c.deref-in-Test-2.ensures) has.1 in
    let tests : Src NameId → Src NameId → GuardTree Text = λ a b. Compares c.in-Test.op (source_tree (text_of names) a) (source_tree (text_of names) b) in
    let tree : GuardTree Text = tests c.deref-in-Test.result.now c.deref-in-Test-2.result.now in
    let same : tree_of names c.loop-inner.inner.now ≡ tree = ap (tree_of names) c.in-Test.is ∙ ap₂ tests (sym c.deref-in-Test.ensures) (sym c.deref-in-Test-2.ensures) in
    folds_whole names (tree_of names whole) (negated_tree negated tree) c.negate-in-Test.result
    (subst (λ (g : GuardTree Text). IsReduced (tree_of names whole) (negated_tree negated g)) same (c.loop-inner.invariant.reduced names))
    (c.negate-in-Test.ensures names tree (c.fold_test.ensures names first second))

pub fold-returns-in-All : goal.fold-returns-in-All
fold-returns-in-All t c = λ names numbers.
    let whole = c.args.guard.now in
    let negated = c.loop-inner.negated in
    let gs = c.in-All.guards in
    let each = list_numbers names c.loop-inner.inner.now gs (inl c.in-All.is) (c.loop-inner.invariant.numbers names numbers) in
    let A : List (Guard NameId) → Type 0 = All (GuardHasNumbers names) in
    let F : List (Guard NameId) → Type 0 = λ xs. FoldsTo names (AllOf (guards_of (map (tree_of names) xs))) c.in_ok-folded-in-All.folded in
    let found = subst F c.deref-in-All.ensures.value (c.in_ok-folded-in-All.ensures names (subst A (sym c.deref-in-All.ensures.value) each)) in
    let tree : GuardTree Text = AllOf (guards_of (map (tree_of names) gs.items)) in
    let same : tree_of names c.loop-inner.inner.now ≡ tree = ap (tree_of names) c.in-All.is ∙ guard_tree-All (text_of names) gs in
    folds_whole names (tree_of names whole) (negated_tree negated tree) c.negate-in-All.result
    (subst (λ (g : GuardTree Text). IsReduced (tree_of names whole) (negated_tree negated g)) same (c.loop-inner.invariant.reduced names))
    (c.negate-in-All.ensures names tree found)

pub fold-returns-in-Any : goal.fold-returns-in-Any
fold-returns-in-Any t c = λ names numbers.
    let whole = c.args.guard.now in
    let negated = c.loop-inner.negated in
    let gs = c.in-Any.guards in
    let each = list_numbers names c.loop-inner.inner.now gs (inr c.in-Any.is) (c.loop-inner.invariant.numbers names numbers) in
    let A : List (Guard NameId) → Type 0 = All (GuardHasNumbers names) in
    let F : List (Guard NameId) → Type 0 = λ xs. FoldsTo names (AnyOf (guards_of (map (tree_of names) xs))) c.in_ok-folded-in-Any.folded in
    let found = subst F c.deref-in-Any.ensures.value (c.in_ok-folded-in-Any.ensures names (subst A (sym c.deref-in-Any.ensures.value) each)) in
    let tree : GuardTree Text = AnyOf (guards_of (map (tree_of names) gs.items)) in
    let same : tree_of names c.loop-inner.inner.now ≡ tree = ap (tree_of names) c.in-Any.is ∙ guard_tree-Any (text_of names) gs in
    folds_whole names (tree_of names whole) (negated_tree negated tree) c.negate-in-Any.result
    (subst (λ (g : GuardTree Text). IsReduced (tree_of names whole) (negated_tree negated g)) same (c.loop-inner.invariant.reduced names))
    (c.negate-in-Any.ensures names tree found)

pub fold_list-loop-guard-init : goal.fold_list-loop-guard-init
fold_list-loop-guard-init t c = λ names all. no_list names c.args.joint

pub fold_list-returns-then-decides : goal.fold_list-returns-then-decides
fold_list-returns-then-decides t c = λ names all.
    let guards = c.args.guards.now in
    let i = c.loop-guard.guard-index in
    let g = c.guard-item.result in
    let N : Guard NameId → Type 0 = GuardHasNumbers names in
    let has = subst N (sym c.guard-item.is) (all i g c.loop-guard-test.true) in
    decided_list names c.args.joint guards i g c.in_ok-folded.folded c.loop-guard-test.true c.guard-item.is (c.in_ok-folded.ensures names has) (sym c.decides.ensures ∙ c.if-decides.true)

pub fold_list-loop-guard-preserved : goal.fold_list-loop-guard-preserved
fold_list-loop-guard-preserved t c = λ names all.
    let guards = c.args.guards.now in
    let i = c.loop-guard.guard-index in
    let g = c.guard-item.result in
    let N : Guard NameId → Type 0 = GuardHasNumbers names in
    let has = subst N (sym c.guard-item.is) (all i g c.loop-guard-test.true) in
    let so_far = c.loop-guard.invariant names all in
    let put = c.in_ok-kept.ensures names (map (tree_of names) (take i guards)) (tree_of names g) so_far (c.in_ok-folded.ensures names has) (sym c.decides.ensures ∙ c.if-decides.false) in
    let K : List (GuardTree Text) → Type 0 = λ olds. IsListFoldOf names c.args.joint olds c.in_ok-kept.kept in
    subst K (sym (trees_next names guards i g c.loop-guard-test.true c.guard-item.is)) put

pub fold_list-returns : goal.fold_list-returns
fold_list-returns t c = λ names all.
    let guards = c.args.guards.now in
    let end : c.loop-guard.guard-index ≡ length guards = omega arith in
    let whole : take c.loop-guard.guard-index guards ≡ guards = ap (λ (k : ℕ). take k guards) end ∙ take-length guards in
    let F : List (Guard NameId) → Type 0 = λ gs. FoldsTo names (joint_tree c.args.joint (map (tree_of names) gs)) c.folded.result in
    subst F whole (c.folded.ensures names (map (tree_of names) (take c.loop-guard.guard-index guards)) (c.loop-guard.invariant names all))
