-- What code finds of guards, lists and assignments as it folds them. This project's.
use Rattle.std.specs.Prelude.{◌≡◌, ℕ, ◌≤◌, Bool, true, false, not, List, [], ◌∷◌, length, map, sum_by, All, Contains, Option, None, Some, if◌then◌else◌}
use Rattle.hw_names.specs.Name.{Text, text_of}
use Rattle.hw_names.specs.declared.names.NameId.{NameId}
use Rattle.net_core.specs.Guard.{GuardTree, Reads, Compares, Negates, AllOf, AnyOf, guards_of, guard_tree, source_tree, holds}
use Rattle.net_core.specs.Netlist.{SetLine, set_of}
use Rattle.net_core.specs.Numbers.{GuardHasNumbers, SetHasNumbers, SourceHasNumbers}
use Rattle.net_core.specs.Weight.{node_count, nodes_count, set_weight}
use Rattle.net_core.specs.declared.net.Guard.{Guard}
use Rattle.net_core.specs.declared.net.NetAssign.{NetAssign}
use Rattle.net_guard.specs.Folded.{IsFolded, AreFolded, HasNoAll, HasNoAny, IsFoldedOption}
use Rattle.net_guard.specs.Simplified.{leaves, all_leaves, IsSimplifiedSet, AreSimplifiedSets, IsNeverTrue}
use Rattle.net_guard.specs.declared.fold.Folded.{Folded}
use Rattle.net_guard.specs.declared.fold.Folded.TheVariants.{Known, Sometimes}
use Rattle.net_guard.specs.declared.list.Gathered.{Gathered}
use Rattle.net_guard.specs.declared.list.Gathered.TheVariants.{Empty, One, Many}
use Rattle.net_guard.specs.declared.tops.Core.{Core}
use Rattle.net_guard.specs.declared.tops.Core.TheVariants as cores
use Rattle.net_guard.specs.declared.tops.Joint.{Joint}
use Rattle.net_guard.specs.declared.tops.Joint.TheVariants as joints
use Rattle.net_guard.specs.declared.tops.Open.{Open}

abbrev pub tree_of : List Text → Guard NameId → GuardTree Text
tree_of names g = guard_tree (text_of names) g

abbrev pub trees_of : List Text → List (Guard NameId) → List (GuardTree Text)
trees_of names gs = map (tree_of names) gs

-- a list as a guard
abbrev pub joint_tree : Joint → List (GuardTree Text) → GuardTree Text
joint_tree joints.All gs = AllOf (guards_of gs)
joint_tree joints.Any gs = AnyOf (guards_of gs)

-- what a list is where none of its guards decides
abbrev pub neutral : Joint → Bool
neutral joints.All = true
neutral joints.Any = false

-- none of the guards is such a list itself
abbrev pub HasNoSuch : Joint → List (GuardTree Text) → Type 0
HasNoSuch joints.All gs = HasNoAll (guards_of gs)
HasNoSuch joints.Any gs = HasNoAny (guards_of gs)

abbrev pub flipped : Bool → Bool → Bool
flipped truth flip = if flip then not truth else truth

-- the guard, behind a `!` where that is so
abbrev pub negated_tree : Bool → GuardTree Text → GuardTree Text
negated_tree negated g = if negated then Negates g else g

abbrev pub core_tree : List Text → Core → GuardTree Text
core_tree names (cores.Read s) = Reads (source_tree (text_of names) s)
core_tree names (cores.Test op a b) = Compares op (source_tree (text_of names) a) (source_tree (text_of names) b)
core_tree names (cores.List kind gs) = joint_tree kind (trees_of names gs)

abbrev pub CoreHasNumbers : List Text → Core → Type 0
CoreHasNumbers names (cores.Read s) = SourceHasNumbers names s
CoreHasNumbers names (cores.Test op a b) = SourceHasNumbers names a × SourceHasNumbers names b
CoreHasNumbers names (cores.List kind gs) = All (GuardHasNumbers names) gs

abbrev pub open_tree : List Text → Open → GuardTree Text
open_tree names o = negated_tree o.negated (core_tree names o.core)

abbrev pub OpenHasNumbers : List Text → Open → Type 0
OpenHasNumbers names o = CoreHasNumbers names o.core

-- a guard without a `!`
abbrev pub plain_open : Core → Open
plain_open c = record { negated = false; core = c }

-- a list of this kind
abbrev pub list_open : Joint → List (Guard NameId) → Open
list_open kind gs = plain_open (cores.List kind gs)

abbrev pub IsNoListOf : Joint → Open → Type 0
IsNoListOf kind o = (names : List Text) → HasNoSuch kind (open_tree names o ∷ [])

-- the guard has this tree, and its names have texts
pub record IsGuardOf (names : List Text) (seen : GuardTree Text) (g : Guard NameId) : Type 0 where
  pub numbers : GuardHasNumbers names g
  pub tree : tree_of names g ≡ seen

pub record AreGuardsOf (names : List Text) (seen : List (GuardTree Text)) (gs : List (Guard NameId)) : Type 0 where
  pub numbers : All (GuardHasNumbers names) gs
  pub trees : trees_of names gs ≡ seen

abbrev pub gathered_trees : List Text → Gathered → List (GuardTree Text)
gathered_trees names Empty = []
gathered_trees names (One o) = open_tree names o ∷ []
gathered_trees names (Many gs) = trees_of names gs

abbrev pub GatheredHasNumbers : List Text → Gathered → Type 0
GatheredHasNumbers names Empty = Unit {0}
GatheredHasNumbers names (One o) = OpenHasNumbers names o
GatheredHasNumbers names (Many gs) = All (GuardHasNumbers names) gs

abbrev pub HasEnough : Gathered → Type 0
HasEnough Empty = Unit {0}
HasEnough (One o) = Unit {0}
HasEnough (Many gs) = 2 ≤ length gs

-- the new guard is true for the same values of ports, asks nothing that the old one did not, and has no more nodes
pub record IsReduced (old new : GuardTree Text) : Type 0 where
  pub truth : (look : Text → ℕ) → holds look new ≡ holds look old
  pub leaves : (leaf : GuardTree Text) → Contains (leaves new) leaf → Contains (leaves old) leaf
  pub nodes : node_count new ≤ node_count old

-- the guard is the old one, folded
pub record IsFoldOf (names : List Text) (old : GuardTree Text) (new : Open) : Type 0 where
  pub numbers : OpenHasNumbers names new
  pub reduced : IsReduced old (open_tree names new)
  pub folded : IsFolded (open_tree names new)

-- the guard always has this truth, or else folds to this guard
abbrev pub FoldsTo : List Text → GuardTree Text → Folded → Type 0
FoldsTo names old (Known truth) = (look : Text → ℕ) → holds look old ≡ truth
FoldsTo names old (Sometimes new) = IsFoldOf names old new

-- whether a list with such a guard in it has the guard's truth, whatever the others are
abbrev pub decides : Joint → Folded → Bool
decides kind (Known truth) = flipped truth (neutral kind)
decides kind (Sometimes new) = false

-- the guards of a list are the old ones, folded
pub record AreFoldsOf (kind : Joint) (olds news : List (GuardTree Text)) : Type 0 where
  pub truth : (look : Text → ℕ) → holds look (joint_tree kind news) ≡ holds look (joint_tree kind olds)
  pub leaves : (leaf : GuardTree Text) → Contains (all_leaves (guards_of news)) leaf → Contains (all_leaves (guards_of olds)) leaf
  pub nodes : nodes_count (guards_of news) ≤ nodes_count (guards_of olds)
  pub folded : AreFolded (guards_of news)
  pub none_such : HasNoSuch kind news

pub record IsListFoldOf (names : List Text) (kind : Joint) (olds : List (GuardTree Text)) (news : Gathered) : Type 0 where
  pub numbers : GatheredHasNumbers names news
  pub enough : HasEnough news
  pub folds : AreFoldsOf kind olds (gathered_trees names news)

-- what has become of an assignment
pub record IsSetFoldOf (names : List Text) (old new : NetAssign) : Type 0 where
  pub numbers : SetHasNumbers names new
  pub simplified : IsSimplifiedSet (set_of names old) (set_of names new)
  pub folded : IsFoldedOption (set_of names new).guard

-- it never acts and is left out, or else this has become of it
abbrev pub SetFoldsTo : List Text → NetAssign → Option NetAssign → Type 0
SetFoldsTo names old None = IsNeverTrue (set_of names old)
SetFoldsTo names old (Some new) = IsSetFoldOf names old new

-- the assignments with their guards folded, in their order, without some that never act
pub record SetsFoldTo (names : List Text) (olds news : List NetAssign) : Type 0 where
  pub numbers : All (SetHasNumbers names) news
  pub simplified : AreSimplifiedSets (map (set_of names) olds) (map (set_of names) news)
  pub folded : All (λ (a : SetLine). IsFoldedOption a.guard) (map (set_of names) news)
  pub weight : sum_by set_weight (map (set_of names) news) ≤ sum_by set_weight (map (set_of names) olds)
