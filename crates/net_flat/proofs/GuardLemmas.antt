-- Guards with full names.
use Rattle.std.proofs.Common.{◌≡◌, ℕ, zero, suc, List, map, All, refl, sym, ap, ap₂, subst, ◌∙◌, inl, inr, ◌⊎◌, Vec, Global, Result, IfOk}
use Rattle.std.specs.List.{AllByRecursion}
use Rattle.std.proofs.lemmas.List.Elements.{All-from_recursion}
use mathlib.Core.Former.{Count}
use Rattle.std.specs.Global.{Box}
use Rattle.hw_names.specs.Name.{KeepsTexts, Text, text_of}
use Rattle.hw_names.specs.declared.names.NameId.{NameId}
use Rattle.cal_ast.specs.Numbers as cal
use Rattle.cal_ast.specs.declared.tree.CalPort.{CalPort}
use Rattle.net_core.proofs.GuardLemmas.{guard_tree-All, guard_tree-Any, numbers_from_list}
use Rattle.net_core.specs.Guard.{GuardTree, Reads, Compares, Negates, AllOf, AnyOf, guards_of, guard_tree, source_tree}
use Rattle.net_core.specs.Numbers.{GuardHasNumbers, SourceHasNumbers}
use Rattle.net_core.specs.declared.net.Cmp.{Cmp}
use Rattle.net_core.specs.declared.net.Src.{Src}
use Rattle.net_core.specs.declared.net.Guard.{Guard, Row_of-Guard, end_of-Guard, more_of-Guard, items-the_row-Guard, items_hidden-the_row-Guard-0}
use Rattle.net_core.specs.declared.net.Guard as code
use Rattle.net_core.specs.declared.net.Guard.TheVariants as variants
use Rattle.net_flat.specs.inside.StandFor.{IsGuard, IsSource, AreGuards, negations, net_guard, net_source}
use Rattle.net_flat.proofs.StandLemmas.{one_kept, stable_source}

row_of : Guard CalPort → (n : Count) × Row_of-Guard CalPort n
row_of (code.All' shape row) = (_, row)
row_of _ = (_, end_of-Guard)

row_numbers : (names : List Text) (n : Count) (r : Row_of-Guard CalPort n) → cal.GuardsHaveNumbers names r → AllByRecursion (cal.GuardHasNumbers names) (items-the_row-Guard CalPort n r)
row_numbers names n end_of-Guard h = tt
row_numbers names n (more_of-Guard g rest) h = (h.0, row_numbers names _ rest h.1)

all_numbers : (names : List Text) (v : Vec (Guard CalPort) Global) → cal.GuardHasNumbers names (variants.All v) → All (cal.GuardHasNumbers names) v.items
unfolding row_of
all_numbers names v h =
    let r = row_of (variants.All v) in
    let P : List (Guard CalPort) → Type 0 = AllByRecursion (cal.GuardHasNumbers names) in
    All-from_recursion (cal.GuardHasNumbers names) v.items (subst P (items_hidden-the_row-Guard-0 CalPort v) (row_numbers names r.0 r.1 h))

-- each guard of a list in a guard has numbers where the guard has
pub list_numbers : (names : List Text) (g : Guard CalPort) (v : Vec (Guard CalPort) Global) → (g ≡ variants.All v) ⊎ (g ≡ variants.Any v) → cal.GuardHasNumbers names g → All (cal.GuardHasNumbers names) v.items
list_numbers names g v (inl e) h = let P : Guard CalPort → Type 0 = cal.GuardHasNumbers names in all_numbers names v (subst P e h)
list_numbers names g v (inr e) h = let P : Guard CalPort → Type 0 = cal.GuardHasNumbers names in all_numbers names v (subst P e h)

-- one more `!` inside is one more in all
pub negations-inside : (n : ℕ) (g : GuardTree Text) → negations n (Negates g) ≡ negations (suc n) g
negations-inside zero g = refl
negations-inside (suc n) g = ap Negates (negations-inside n g)

-- guards of a list that is to hold whole, and of one of which one is to hold
pub is_all : (names : List Text) (f : CalPort → Text) (v : Vec (Guard CalPort) Global) (found : Vec (Guard NameId) Global) → AreGuards names (map (guard_tree f) v.items) found.items → IsGuard names (guard_tree f (variants.All v)) (variants.All found)
is_all names f v found h =
    record {
      numbers = numbers_from_list names (variants.All found) found (inl refl) h.numbers;
      tree = guard_tree-All (text_of names) found ∙ ap (λ gs. AllOf (guards_of gs)) h.trees ∙ sym (guard_tree-All f v);
    }

pub is_any : (names : List Text) (f : CalPort → Text) (v : Vec (Guard CalPort) Global) (found : Vec (Guard NameId) Global) → AreGuards names (map (guard_tree f) v.items) found.items → IsGuard names (guard_tree f (variants.Any v)) (variants.Any found)
is_any names f v found h =
    record {
      numbers = numbers_from_list names (variants.Any found) found (inr refl) h.numbers;
      tree = guard_tree-Any (text_of names) found ∙ ap (λ gs. AnyOf (guards_of gs)) h.trees ∙ sym (guard_tree-Any f v);
    }

-- what is behind so many `!` stands for the whole guard
pub negated_whole : {E : Type 0} (names : List Text) (f : CalPort → Text) (whole inner : Guard CalPort) (count : ℕ) (r : Result (Guard NameId) E)
    → negations count (guard_tree f inner) ≡ guard_tree f whole → IfOk r (IsGuard names (negations count (guard_tree f inner))) → IfOk r (IsGuard names (guard_tree f whole))
negated_whole names f whole inner count r e h = subst (λ (tree : GuardTree Text). IfOk r (IsGuard names tree)) e h

-- a source that was read in a box, and is in a box again
pub boxed : (names : List Text) (f : CalPort → Text) (old seen : Src CalPort) (found new : Src NameId) → seen ≡ old → new ≡ found → IsSource names (source_tree f seen) found → IsSource names (source_tree f old) new
boxed names f old seen found new is made h =
    let S : Src CalPort → Type 0 = λ s. IsSource names (source_tree f s) found in
    let T : Src NameId → Type 0 = λ s. IsSource names (source_tree f old) s in
    subst T (sym made) (subst S is h)

-- a source alone
pub is_read : (names : List Text) (f : CalPort → Text) (a : Box (Src CalPort)) (src : Box (Src NameId)) → IsSource names (source_tree f a.value) src.value → IsGuard names (guard_tree f (variants.Read a)) (variants.Read src)
is_read names f a src h = record { numbers = h.numbers; tree = ap Reads h.tree }

-- a comparison, whose second source was named after the first
pub is_test : (before names : List Text) (f : CalPort → Text) (op : Cmp) (a b : Box (Src CalPort)) (left right : Box (Src NameId)) → KeepsTexts before names
    → IsSource before (source_tree f a.value) left.value → IsSource names (source_tree f b.value) right.value → IsGuard names (guard_tree f (variants.Test op a b)) (variants.Test op left right)
is_test before names f op a b left right kept first second =
    let first' = one_kept SourceHasNumbers net_source stable_source before names (source_tree f a.value) left.value kept first in
    record { numbers = (first'.numbers, second.numbers); tree = ap₂ (Compares op) first'.tree second.tree }

-- one more `!`
pub is_not : (names : List Text) (tree : GuardTree Text) (n : ℕ) (b : Box (Guard NameId)) (g : Guard NameId) → b.value ≡ g → IsGuard names (negations n tree) g → IsGuard names (negations (suc n) tree) (variants.Not b)
is_not names tree n b g same h =
    let N : Guard NameId → Type 0 = GuardHasNumbers names in
    record { numbers = subst N (sym same) h.numbers; tree = ap Negates (ap (net_guard names) same ∙ h.tree) }
