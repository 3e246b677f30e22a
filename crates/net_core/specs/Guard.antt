-- Guards and sources as trees, whatever their ports are known by, and their meaning in a row. Calyx, ASPLOS 2021.
use Rattle.std.specs.Prelude.{ℕ, Bool, true, false, ◌==◌, not, ◌&&◌, ◌||◌, nat_lt, nat_le, List, [], ◌∷◌, Option, Some, None}
use Rattle.net_core.specs.declared.net.Src.{Src}
use Rattle.net_core.specs.declared.net.Src.TheVariants.{Port, Lit}
use Rattle.net_core.specs.declared.net.Cmp.{Cmp}
use Rattle.net_core.specs.declared.net.Cmp.TheVariants.{Eq, Neq, Lt, Gt, Le, Ge}
use Rattle.net_core.specs.declared.net.Guard.{Row_of-Guard, end_of-Guard, more_of-Guard}
use Rattle.net_core.specs.declared.net.Guard as code

-- a guard without where it lies in memory
mutual
  pub data GuardTree (P : Type 0) : Type 0 where
    -- a port or a literal alone
    Reads : Src P → GuardTree P
    Compares : Cmp → Src P → Src P → GuardTree P
    Negates : GuardTree P → GuardTree P
    AllOf : GuardTrees P → GuardTree P
    AnyOf : GuardTrees P → GuardTree P

  pub data GuardTrees (P : Type 0) : Type 0 where
    NoGuards : GuardTrees P
    MoreGuards : GuardTree P → GuardTrees P → GuardTrees P

-- guards in a list
abbrev pub guards_of : {P : Type 0} → List (GuardTree P) → GuardTrees P
guards_of [] = NoGuards
guards_of (g ∷ gs) = MoreGuards g (guards_of gs)

abbrev pub source_tree : {P Q : Type 0} → (P → Q) → Src P → Src Q
source_tree f (Port p) = Port (f p)
source_tree f (Lit width value) = Lit width value

-- the tree of a guard, with each port seen by f
abbrev mutual
  pub guard_tree : {P Q : Type 0} → (P → Q) → code.Guard P → GuardTree Q
  guard_tree f (code.Read s) = Reads (source_tree f s.value)
  guard_tree f (code.Test op a b) = Compares op (source_tree f a.value) (source_tree f b.value)
  guard_tree f (code.Not' p g) = Negates (guard_tree f g)
  guard_tree f (code.All' shape gs) = AllOf (guard_trees f gs)
  guard_tree f (code.Any' shape gs) = AnyOf (guard_trees f gs)

  pub guard_trees : {P Q : Type 0} {m : _} → (P → Q) → Row_of-Guard P m → GuardTrees Q
  guard_trees f end_of-Guard = NoGuards
  guard_trees f (more_of-Guard g gs) = MoreGuards (guard_tree f g) (guard_trees f gs)

abbrev pub guard_option : {P Q : Type 0} → (P → Q) → Option (code.Guard P) → Option (GuardTree Q)
guard_option f None = None
guard_option f (Some g) = Some (guard_tree f g)

-- the value of a source, where `look` gives the value of a port
abbrev pub source_value : {P : Type 0} → (P → ℕ) → Src P → ℕ
source_value look (Port p) = look p
source_value look (Lit width value) = value

abbrev pub compare_values : Cmp → ℕ → ℕ → Bool
compare_values Eq x y = x == y
compare_values Neq x y = not (x == y)
compare_values Lt x y = nat_lt x y
compare_values Gt x y = nat_lt y x
compare_values Le x y = nat_le x y
compare_values Ge x y = nat_le y x

-- the guard is true
abbrev mutual
  pub holds : {P : Type 0} → (P → ℕ) → GuardTree P → Bool
  holds look (Reads s) = source_value look s == 1
  holds look (Compares op a b) = compare_values op (source_value look a) (source_value look b)
  holds look (Negates g) = not (holds look g)
  holds look (AllOf gs) = all_hold look gs
  holds look (AnyOf gs) = any_holds look gs

  pub all_hold : {P : Type 0} → (P → ℕ) → GuardTrees P → Bool
  all_hold look NoGuards = true
  all_hold look (MoreGuards g gs) = holds look g && all_hold look gs

  pub any_holds : {P : Type 0} → (P → ℕ) → GuardTrees P → Bool
  any_holds look NoGuards = false
  any_holds look (MoreGuards g gs) = holds look g || any_holds look gs

-- no guard is always true
abbrev pub guard_holds : {P : Type 0} → (P → ℕ) → Option (GuardTree P) → Bool
guard_holds look None = true
guard_holds look (Some g) = holds look g
