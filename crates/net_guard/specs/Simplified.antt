-- That a netlist is another one simplified: the same circuit, with guards that are true in the same rows. This project's.
use Rattle.std.specs.Prelude.{◌≡◌, ℕ, ◌≤◌, false, List, [], ◌∷◌, ◌++◌, Contains, Option, None, Some}
use Rattle.hw_names.specs.Name.{Text}
use Rattle.net_core.specs.Guard.{GuardTree, GuardTrees, Reads, Compares, Negates, AllOf, AnyOf, NoGuards, MoreGuards, guard_holds}
use Rattle.net_core.specs.Netlist.{Netlist, SetLine}
use Rattle.net_core.specs.Weight.{option_nodes, weight_of}

-- the lone sources and the comparisons of a guard
abbrev mutual
  pub leaves : GuardTree Text → List (GuardTree Text)
  leaves (Reads s) = Reads s ∷ []
  leaves (Compares op a b) = Compares op a b ∷ []
  leaves (Negates g) = leaves g
  leaves (AllOf gs) = all_leaves gs
  leaves (AnyOf gs) = all_leaves gs

  pub all_leaves : GuardTrees Text → List (GuardTree Text)
  all_leaves NoGuards = []
  all_leaves (MoreGuards g gs) = leaves g ++ all_leaves gs

abbrev pub option_leaves : Option (GuardTree Text) → List (GuardTree Text)
option_leaves None = []
option_leaves (Some g) = leaves g

-- the assignment is the old one, but for its guard: that is true for the same values of ports, asks nothing that the old one did not, and has no
-- more nodes
pub record IsSimplifiedSet (old new : SetLine) : Type 0 where
  pub dst : new.dst ≡ old.dst
  pub src : new.src ≡ old.src
  pub truth : (look : Text → ℕ) → guard_holds look new.guard ≡ guard_holds look old.guard
  pub leaves : (leaf : GuardTree Text) → Contains (option_leaves new.guard) leaf → Contains (option_leaves old.guard) leaf
  pub nodes : option_nodes new.guard ≤ option_nodes old.guard

-- the guard of the assignment is true for no values of ports
abbrev pub IsNeverTrue : SetLine → Type 0
IsNeverTrue a = (look : Text → ℕ) → guard_holds look a.guard ≡ false

-- the new assignments are the old ones, in their order, without some that never act
pub data AreSimplifiedSets : List SetLine → List SetLine → Type 0 where
  NoSets : AreSimplifiedSets [] []
  Kept : (old new : SetLine) (olds news : List SetLine) → IsSimplifiedSet old new → AreSimplifiedSets olds news
      → AreSimplifiedSets (old ∷ olds) (new ∷ news)
  Left : (old : SetLine) (olds news : List SetLine) → IsNeverTrue old → AreSimplifiedSets olds news → AreSimplifiedSets (old ∷ olds) news

-- the name, the ports and the cells are the same
pub record IsSimplified (old new : Netlist) : Type 0 where
  pub name : new.name ≡ old.name
  pub ins : new.ins ≡ old.ins
  pub outs : new.outs ≡ old.outs
  pub wires : new.wires ≡ old.wires
  pub cells : new.cells ≡ old.cells
  pub sets : AreSimplifiedSets old.sets new.sets
  pub weight : weight_of new ≤ weight_of old
