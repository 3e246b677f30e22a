-- The guards of a list that was folded so far, as one more is put last.
use Rattle.std.proofs.Common.{◌≡◌, ℕ, ◌+◌, ◌<◌, ◌≤◌, Bool, true, false, List, [], ◌∷◌, ◌++◌, length, take, get_or, slice_get, All, Some, option_map, refl, sym, ap, ap₂, subst, ◌∙◌, append-nil, arith, length-append}
use Rattle.std.proofs.lemmas.List.{length-map, map-append}
use Rattle.std.proofs.lemmas.List.Elements.{All-append, All-nil, All-push}
use Rattle.std.proofs.lemmas.Option.{slice_get-get_or, slice_get-map}
use Rattle.hw_names.specs.Name.{Text}
use Rattle.hw_names.specs.declared.names.NameId.{NameId}
use Rattle.net_core.specs.Guard.{GuardTree, holds}
use Rattle.net_core.specs.Numbers.{GuardHasNumbers}
use Rattle.net_core.specs.declared.net.Guard.{Guard}
use Rattle.net_guard.proofs.ListLemmas.{decided, folds_append, list_counted, list_fold, list_is_folded, list_left, neutral_fold, no_folds, one_fold, one_left}
use Rattle.net_guard.proofs.Lists.{map_next}
use Rattle.net_guard.specs.inside.Folding.{AreFoldsOf, AreGuardsOf, HasEnough, IsFoldOf, IsGuardOf, IsListFoldOf, FoldsTo, IsNoListOf, decides, flipped, gathered_trees, joint_tree, list_open, neutral, open_tree, tree_of, trees_of}
use Rattle.net_guard.specs.declared.fold.Folded.{Folded}
use Rattle.net_guard.specs.declared.fold.Folded.TheVariants.{Known, Sometimes}
use Rattle.net_guard.specs.declared.list.Gathered.{Gathered}
use Rattle.net_guard.specs.declared.list.Gathered.TheVariants.{Empty, One, Many}
use Rattle.net_guard.specs.declared.tops.Joint.{Joint}
use Rattle.net_guard.specs.declared.tops.Joint.TheVariants as joints
use Rattle.net_guard.specs.declared.tops.Open.{Open}

-- ---- a list of guards, one by one

pub tree_at : (names : List Text) (gs : List (Guard NameId)) (i : ℕ) (g : Guard NameId) → i < length gs → g ≡ get_or gs i g → slice_get (trees_of names gs) i ≡ Some (tree_of names g)
tree_at names gs i g less is =
    slice_get-map (tree_of names) gs i ∙ ap (option_map (tree_of names)) (slice_get-get_or gs i g less ∙ ap Some (sym is))

pub trees_next : (names : List Text) (gs : List (Guard NameId)) (i : ℕ) (g : Guard NameId) → i < length gs → g ≡ get_or gs i g → trees_of names (take (i + 1) gs) ≡ trees_of names (take i gs) ++ tree_of names g ∷ []
trees_next names gs i g less is = map_next (tree_of names) gs i g less is

pub no_list : (names : List Text) (kind : Joint) → IsListFoldOf names kind [] Empty
no_list names kind = record { numbers = tt; enough = tt; folds = no_folds kind }

-- ---- a guard that decides the list, or has no part in it

pub decided_list : (names : List Text) (kind : Joint) (gs : List (Guard NameId)) (i : ℕ) (g : Guard NameId) (found : Folded) → i < length gs → g ≡ get_or gs i g → FoldsTo names (tree_of names g) found → decides kind found ≡ true → FoldsTo names (joint_tree kind (trees_of names gs)) found
decided_list names kind gs i g (Known truth) less is known settles = λ look. decided look kind (trees_of names gs) i (tree_of names g) truth (tree_at names gs i g less is) (known look) settles
decided_list names kind gs i g (Sometimes new) less is fold settles = absurd (cc)

undecided : (kind : Joint) (truth : Bool) → flipped truth (neutral kind) ≡ false → truth ≡ neutral kind
undecided joints.All true idle = refl
undecided joints.All false idle = absurd (cc)
undecided joints.Any true idle = absurd (cc)
undecided joints.Any false idle = refl

-- ---- the guards of the list

pub no_guards : (names : List Text) (gs : List (Guard NameId)) → gs ≡ [] → AreGuardsOf names [] gs
no_guards names gs none =
    let A : List (Guard NameId) → Type 0 = All (GuardHasNumbers names) in
    record { numbers = subst A (sym none) (All-nil (GuardHasNumbers names)); trees = ap (trees_of names) none }

pub one_guard : (names : List Text) (tree : GuardTree Text) (gs : List (Guard NameId)) (g : Guard NameId) → gs ≡ g ∷ [] → IsGuardOf names tree g → AreGuardsOf names (tree ∷ []) gs
one_guard names tree gs g one is =
    let A : List (Guard NameId) → Type 0 = All (GuardHasNumbers names) in
    record {
      numbers = subst A (sym one) (All-push (GuardHasNumbers names) [] g (All-nil (GuardHasNumbers names)) is.numbers);
      trees = ap (trees_of names) one ∙ ap (λ (t : GuardTree Text). t ∷ []) is.tree;
    }

-- ---- one more guard

module _ (names : List Text) (kind : Joint) (olds : List (GuardTree Text)) (old : GuardTree Text) where
  -- one that always has a truth, but does not decide the list
  pub list_skip : (kept : Gathered) (truth : Bool) → IsListFoldOf names kind olds kept → ((look : Text → ℕ) → holds look old ≡ truth) → decides kind (Known truth) ≡ false → IsListFoldOf names kind (olds ++ old ∷ []) kept
  list_skip kept truth so_far known idle =
      let news = gathered_trees names kept in
      let F : List (GuardTree Text) → Type 0 = AreFoldsOf kind (olds ++ old ∷ []) in
      record {
        numbers = so_far.numbers;
        enough = so_far.enough;
        folds = subst F (append-nil news) (folds_append kind olds news (old ∷ []) [] so_far.folds (neutral_fold kind old (λ look. known look ∙ undecided kind truth idle)));
      }

  -- the first one
  pub first_put : (guard : Open) → IsListFoldOf names kind olds Empty → IsFoldOf names old guard → IsNoListOf kind guard → IsListFoldOf names kind (olds ++ old ∷ []) (One guard)
  first_put guard so_far fold none_such =
      record {
        numbers = fold.numbers;
        enough = tt;
        folds = folds_append kind olds [] (old ∷ []) (open_tree names guard ∷ []) so_far.folds (one_fold kind old (open_tree names guard) fold.reduced fold.folded (none_such names));
      }

  some_gathered : (kept : Gathered) → (kept ≡ Empty → ⊥) → HasEnough kept → 1 ≤ length (gathered_trees names kept)
  some_gathered Empty some enough = absurd (some refl)
  some_gathered (One o) some enough = omega arith
  some_gathered (Many gs) some enough = omega (arith, enough, length-map gs (tree_of names))

  -- one that is no list of the same kind
  pub guard_put : (kept : Gathered) (guard : Open) (gs new : List (Guard NameId)) (g : Guard NameId) → IsListFoldOf names kind olds kept → (kept ≡ Empty → ⊥) → AreGuardsOf names (gathered_trees names kept) gs
      → IsFoldOf names old guard → IsNoListOf kind guard → IsGuardOf names (open_tree names guard) g → new ≡ gs ++ g ∷ [] → IsListFoldOf names kind (olds ++ old ∷ []) (Many new)
  guard_put kept guard gs new g so_far some are fold none_such is put =
      let news = gathered_trees names kept in
      let trees : trees_of names new ≡ news ++ open_tree names guard ∷ [] =
      ap (trees_of names) put ∙ map-append (tree_of names) gs (g ∷ []) ∙ ap₂ (λ (ts : List (GuardTree Text)) (t : GuardTree Text). ts ++ t ∷ []) are.trees is.tree in
      let A : List (Guard NameId) → Type 0 = All (GuardHasNumbers names) in
      let F : List (GuardTree Text) → Type 0 = AreFoldsOf kind (olds ++ old ∷ []) in
      record {
        numbers = subst A (sym put) (All-push (GuardHasNumbers names) gs g are.numbers is.numbers);
        enough = omega (arith, some_gathered kept some so_far.enough, ap (length {A = GuardTree Text}) trees, length-append news (open_tree names guard ∷ []), length-map new (tree_of names));
        folds = subst F (sym trees) (folds_append kind olds news (old ∷ []) (open_tree names guard ∷ []) so_far.folds (one_fold kind old (open_tree names guard) fold.reduced fold.folded (none_such names)));
      }

  -- the guards of a list of the same kind
  pub list_put : (kept : Gathered) (gs more new : List (Guard NameId)) → IsListFoldOf names kind olds kept → AreGuardsOf names (gathered_trees names kept) gs
      → IsFoldOf names old (list_open kind more) → new ≡ gs ++ more → IsListFoldOf names kind (olds ++ old ∷ []) (Many new)
  list_put kept gs more new so_far are fold put =
      let news = gathered_trees names kept in
      let mores = trees_of names more in
      let trees : trees_of names new ≡ news ++ mores = ap (trees_of names) put ∙ map-append (tree_of names) gs more ∙ ap (λ (ts : List (GuardTree Text)). ts ++ mores) are.trees in
      let A : List (Guard NameId) → Type 0 = All (GuardHasNumbers names) in
      let F : List (GuardTree Text) → Type 0 = AreFoldsOf kind (olds ++ old ∷ []) in
      record {
        numbers = subst A (sym put) (All-append (GuardHasNumbers names) gs more are.numbers fold.numbers);
        enough = omega (arith, list_counted kind mores fold.folded, ap (length {A = GuardTree Text}) trees, length-append news mores, length-map new (tree_of names));
        folds = subst F (sym trees) (folds_append kind olds news (old ∷ []) mores so_far.folds (list_fold kind old mores fold.reduced fold.folded));
      }

-- ---- what the list is as a guard

pub one_folded : (names : List Text) (kind : Joint) (olds : List (GuardTree Text)) (only : Open) → IsListFoldOf names kind olds (One only) → IsFoldOf names (joint_tree kind olds) only
one_folded names kind olds only is =
    record { numbers = is.numbers; reduced = one_left kind olds (open_tree names only) is.folds; folded = is.folds.folded.0 }

pub list_folded : (names : List Text) (kind : Joint) (olds : List (GuardTree Text)) (gs : List (Guard NameId)) → IsListFoldOf names kind olds (Many gs) → IsFoldOf names (joint_tree kind olds) (list_open kind gs)
list_folded names kind olds gs is =
    record {
      numbers = is.numbers;
      reduced = list_left kind olds (trees_of names gs) is.folds;
      folded = list_is_folded kind (trees_of names gs) is.folds.folded is.folds.none_such (omega (arith, is.enough, length-map gs (tree_of names)));
    }
