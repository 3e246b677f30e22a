-- What it takes to flatten a guard, and what that adds to the tests that are there. This project's.
use Rattle.std.specs.Prelude.{◌≡◌, ℕ, ◌+◌, ◌<◌, ◌≤◌, Bool, true, if◌then◌else◌, List, length, All, Contains, Option, None, Some, slice_get}
use Rattle.hw_names.specs.Name.{Text}
use Rattle.hw_prims.specs.Row.{Row}
use Rattle.net_core.specs.Graph.{source_ports}
use Rattle.net_core.specs.Guard.{GuardTree, GuardTrees, Reads, Compares, Negates, AllOf, AnyOf, NoGuards, MoreGuards, all_hold, any_holds}
use Rattle.net_core.specs.Rules.{literal_fits}
use Rattle.net_core.specs.declared.net.Src.{Src}
use Rattle.net_sim.specs.Tests.{AreTests, AreValuesIn, Leads, StandsFor}
use Rattle.net_sim.specs.declared.flatten.Exits.{Exits}
use Rattle.net_sim.specs.declared.flatten.Join.{Join}
use Rattle.net_sim.specs.declared.flatten.Join.TheVariants.{All as AllGuards, Any as AnyGuards}
use Rattle.net_sim.specs.declared.guards.Test.{Test}

-- a port of this list, or a literal that fits
pub record IsKnownSource (names : List Text) (s : Src Text) : Type 0 where
  pub there : All (Contains names) (source_ports s)
  pub fits : literal_fits s ≡ true

-- what holds of each source of a guard
abbrev mutual
  pub EachSource : (Src Text → Type 0) → GuardTree Text → Type 0
  EachSource P (Reads s) = P s
  EachSource P (Compares op a b) = P a × P b
  EachSource P (Negates g) = EachSource P g
  EachSource P (AllOf gs) = EachSourceOf P gs
  EachSource P (AnyOf gs) = EachSourceOf P gs

  pub EachSourceOf : (Src Text → Type 0) → GuardTrees Text → Type 0
  EachSourceOf P NoGuards = Unit {0}
  EachSourceOf P (MoreGuards g gs) = EachSource P g × EachSourceOf P gs

abbrev pub EachOptionSource : (Src Text → Type 0) → Option (GuardTree Text) → Type 0
EachOptionSource P None = Unit {0}
EachOptionSource P (Some g) = EachSource P g

-- all guards of a list are true, or one is
abbrev pub joined : Join → Row → GuardTrees Text → Bool
joined AllGuards row gs = all_hold row gs
joined AnyGuards row gs = any_holds row gs

-- where to go on, by the truth of a guard
abbrev pub exit_of : Exits → Bool → ℕ
exit_of exits b = if b then exits.yes else exits.no

-- where a guard of a list leads: to the guards after it, unless it tells alone what the list is
abbrev pub exits_before : Join → Exits → ℕ → Exits
exits_before AllGuards exits others = record { yes = others; no = exits.no }
exits_before AnyGuards exits others = record { yes = exits.yes; no = others }

-- the exits are ends, or tests that are there
pub record AreExits (tests : List Test) (exits : Exits) : Type 0 where
  pub yes : exits.yes < length tests + 2
  pub no : exits.no < length tests + 2

-- the old tests stand, with others after them
pub record KeepsTests (old new : List Test) : Type 0 where
  pub longer : length old ≤ length new
  pub kept : (k : ℕ) (test : Test) → slice_get old k ≡ Some test → slice_get new k ≡ Some test

-- tests were added to the old ones, which lead from `start` to the exit of a truth
pub record AddsTests (names : List Text) (old new : List Test) (exits : Exits) (truth : Row → Bool) (start : ℕ) : Type 0 where
  pub keeps : KeepsTests old new
  pub tests : AreTests (length names) old → AreTests (length names) new
  pub within : start < length new + 2
  pub leads : (row : Row) (values : List ℕ) → AreValuesIn row names values → Leads new values (exit_of exits (truth row)) start

-- the tests of a guard were added to the old ones
pub record AddsGuard (names : List Text) (old new : List Test) (guard : Option (GuardTree Text)) (start : ℕ) : Type 0 where
  pub keeps : KeepsTests old new
  pub tests : AreTests (length names) old → AreTests (length names) new
  pub stands : StandsFor names new start guard
