-- Guards that are folded, taken apart at their tops.
use Rattle.std.proofs.Common.{◌≡◌, true, List, All, Vec, Global, refl, sym, ap, ap₂, subst, ◌∙◌, inl, inr, ◌⊎◌}
use Rattle.std.specs.Global.{Box}
use Rattle.hw_names.specs.Name.{Text, text_of}
use Rattle.hw_names.specs.declared.names.NameId.{NameId}
use Rattle.net_core.proofs.GuardLemmas.{guard_tree-All, guard_tree-Any, numbers_from_list}
use Rattle.net_core.specs.Guard.{GuardTree, Reads, Compares, Negates, source_tree}
use Rattle.net_core.specs.Numbers.{GuardHasNumbers, SourceHasNumbers}
use Rattle.net_core.specs.declared.net.Cmp.{Cmp}
use Rattle.net_core.specs.declared.net.Guard.{Guard}
use Rattle.net_core.specs.declared.net.Guard.TheVariants as variants
use Rattle.net_core.specs.declared.net.Src.{Src}
use Rattle.net_core.specs.declared.net.Src.TheVariants.{Port, Lit}
use Rattle.net_guard.proofs.FoldLemmas.{same_reduced}
use Rattle.net_guard.specs.Folded.{ComparesNoLiterals}
use Rattle.net_guard.specs.inside.Folding.{IsFoldOf, IsGuardOf, IsNoListOf, joint_tree, plain_open, tree_of, trees_of}
use Rattle.net_guard.specs.declared.tops.Core.{Core}
use Rattle.net_guard.specs.declared.tops.Core.TheVariants as cores
use Rattle.net_guard.specs.declared.tops.Joint.{Joint}
use Rattle.net_guard.specs.declared.tops.Joint.TheVariants as joints

-- ---- sources and comparisons

pub port_folds : (names : List Text) (p : NameId) → SourceHasNumbers names (Port p) → IsFoldOf names (Reads (source_tree (text_of names) (Port p))) (plain_open (cores.Read (Port p)))
port_folds names p numbers =
    record {
      numbers = numbers;
      reduced = same_reduced (Reads (Port (text_of names p)));
      folded = record { literal = tt; comparison = tt; negation = tt; all = tt; any = tt; lists = tt };
    }

no_literals : (names : List Text) (op : Cmp) (a b : Src NameId) (p q : NameId) → (a ≡ Port p) ⊎ (b ≡ Port q) → ComparesNoLiterals (Compares op (source_tree (text_of names) a) (source_tree (text_of names) b))
no_literals names op (Port n) b p q is = tt
no_literals names op (Lit w v) (Port n) p q is = tt
no_literals names op (Lit w v) (Lit x u) p q (inl e) = absurd (cc)
no_literals names op (Lit w v) (Lit x u) p q (inr e) = absurd (cc)

pub test_folds : (names : List Text) (op : Cmp) (a b : Src NameId) (p q : NameId) → (a ≡ Port p) ⊎ (b ≡ Port q) → SourceHasNumbers names a → SourceHasNumbers names b
    → IsFoldOf names (Compares op (source_tree (text_of names) a) (source_tree (text_of names) b)) (plain_open (cores.Test op a b))
test_folds names op a b p q is first second =
    record {
      numbers = (first, second);
      reduced = same_reduced (Compares op (source_tree (text_of names) a) (source_tree (text_of names) b));
      folded = record { literal = tt; comparison = no_literals names op a b p q is; negation = tt; all = tt; any = tt; lists = tt };
    }

-- ---- tops as guards

pub read_guard : (names : List Text) (s : Src NameId) (b : Box (Src NameId)) → b.value ≡ s → SourceHasNumbers names s → IsGuardOf names (Reads (source_tree (text_of names) s)) (variants.Read b)
read_guard names s b same has =
    let N : Src NameId → Type 0 = SourceHasNumbers names in
    record { numbers = subst N (sym same) has; tree = ap (λ (x : Src NameId). Reads (source_tree (text_of names) x)) same }

pub test_guard : (names : List Text) (op : Cmp) (s u : Src NameId) (a b : Box (Src NameId)) → a.value ≡ s → b.value ≡ u → SourceHasNumbers names s × SourceHasNumbers names u
    → IsGuardOf names (Compares op (source_tree (text_of names) s) (source_tree (text_of names) u)) (variants.Test op a b)
test_guard names op s u a b first second has =
    let N : Src NameId → Type 0 = SourceHasNumbers names in
    record {
      numbers = (subst N (sym first) has.0, subst N (sym second) has.1);
      tree = ap₂ (λ (x y : Src NameId). Compares op (source_tree (text_of names) x) (source_tree (text_of names) y)) first second;
    }

pub list_guard : (names : List Text) (kind : Joint) (list : List (Guard NameId)) (gs : Vec (Guard NameId) Global) (g : Guard NameId) → gs.items ≡ list
    → ((kind ≡ joints.All) × (g ≡ variants.All gs)) ⊎ ((kind ≡ joints.Any) × (g ≡ variants.Any gs)) → All (GuardHasNumbers names) list → IsGuardOf names (joint_tree kind (trees_of names list)) g
list_guard names kind list gs g same (inl (all, is)) numbers =
    let A : List (Guard NameId) → Type 0 = All (GuardHasNumbers names) in
    record {
      numbers = numbers_from_list names g gs (inl is) (subst A (sym same) numbers);
      tree = ap (tree_of names) is ∙ guard_tree-All (text_of names) gs ∙ ap₂ (λ (k : Joint) (xs : List (Guard NameId)). joint_tree k (trees_of names xs)) (sym all) same;
    }
list_guard names kind list gs g same (inr (any, is)) numbers =
    let A : List (Guard NameId) → Type 0 = All (GuardHasNumbers names) in
    record {
      numbers = numbers_from_list names g gs (inr is) (subst A (sym same) numbers);
      tree = ap (tree_of names) is ∙ guard_tree-Any (text_of names) gs ∙ ap₂ (λ (k : Joint) (xs : List (Guard NameId)). joint_tree k (trees_of names xs)) (sym any) same;
    }

pub negated_guard : (names : List Text) (tree : GuardTree Text) (g : Guard NameId) (b : Box (Guard NameId)) → b.value ≡ g → IsGuardOf names tree g → IsGuardOf names (Negates tree) (variants.Not b)
negated_guard names tree g b same h =
    let N : Guard NameId → Type 0 = GuardHasNumbers names in
    record { numbers = subst N (sym same) h.numbers; tree = ap Negates (ap (tree_of names) same ∙ h.tree) }

-- ---- what is no list of a kind

pub negated_no_list : (kind : Joint) (core : Core) → IsNoListOf kind (record { negated = true; core = core })
negated_no_list joints.All core = λ names. tt
negated_no_list joints.Any core = λ names. tt

pub read_no_list : (kind : Joint) (s : Src NameId) → IsNoListOf kind (plain_open (cores.Read s))
read_no_list joints.All s = λ names. tt
read_no_list joints.Any s = λ names. tt

pub test_no_list : (kind : Joint) (op : Cmp) (a b : Src NameId) → IsNoListOf kind (plain_open (cores.Test op a b))
test_no_list joints.All op a b = λ names. tt
test_no_list joints.Any op a b = λ names. tt

pub other_no_list : (kind other : Joint) (gs : List (Guard NameId)) → (other ≡ kind → ⊥) → IsNoListOf kind (plain_open (cores.List other gs))
other_no_list joints.All joints.All gs apart = absurd (apart refl)
other_no_list joints.All joints.Any gs apart = λ names. tt
other_no_list joints.Any joints.All gs apart = λ names. tt
other_no_list joints.Any joints.Any gs apart = absurd (apart refl)

-- a core that is no list
pub no_list_core : (kind : Joint) (core : Core) → ((other : Joint) (gs : List (Guard NameId)) → core ≡ cores.List other gs → ⊥) → IsNoListOf kind (plain_open core)
no_list_core kind (cores.Read s) other = read_no_list kind s
no_list_core kind (cores.Test op a b) other = test_no_list kind op a b
no_list_core kind (cores.List joint gs) other = absurd (other joint gs refl)
