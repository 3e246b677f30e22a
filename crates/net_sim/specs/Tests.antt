-- Guards as tests that lead on: each says where to go on, to an earlier test or to an end. This project's.
use Rattle.std.specs.Prelude.{◌≡◌, ℕ, ◌+◌, ◌<◌, Bool, true, false, if◌then◌else◌, List, length, Option, Some, slice_get, slice_index}
use Rattle.hw_names.specs.Name.{Text}
use Rattle.hw_prims.specs.Row.{Row}
use Rattle.net_core.specs.Guard.{GuardTree, compare_values, guard_holds}
use Rattle.net_core.specs.Netlist.{Netlist, SetLine}
use Rattle.net_sim.specs.Evaluated.{IsWithin, source_number}
use Rattle.net_sim.specs.Layout.{port_names}
use Rattle.net_sim.specs.declared.guards.Test.{Test}

-- the ends: where a guard is false, and where it is true
abbrev pub end_of : Bool → ℕ
end_of false = 0
end_of true = 1

-- where a test leads, if its sources have these values
abbrev pub exit_at : Test → ℕ → ℕ → ℕ
exit_at test a b = if compare_values test.op a b then test.yes else test.no

-- where a test leads, by the ports' values
abbrev pub next_of : List ℕ → Test → ℕ
next_of values test = exit_at test (source_number values test.left) (source_number values test.right)

-- the tests lead from this number to that one, by the ports' values; the first test has number 2, after the ends
pub data Leads (tests : List Test) (values : List ℕ) (to : ℕ) : ℕ → Type 0 where
  Here : Leads tests values to to
  Onward : (k : ℕ) (test : Test) → slice_get tests k ≡ Some test → Leads tests values to (next_of values test) → Leads tests values to (k + 2)

-- a test reads some of so many ports, and leads to an end or to a test before this place
pub record IsTestAt (ports place : ℕ) (test : Test) : Type 0 where
  pub left : IsWithin ports test.left
  pub right : IsWithin ports test.right
  pub yes : test.yes < place + 2
  pub no : test.no < place + 2

-- each test leads to earlier ones alone
abbrev pub AreTests : ℕ → List Test → Type 0
AreTests ports tests = (k : ℕ) (test : Test) → slice_get tests k ≡ Some test → IsTestAt ports k test

-- the values of the ports with these names in a row
abbrev pub AreValuesIn : Row → List Text → List ℕ → Type 0
AreValuesIn row names values = (k : ℕ) (name : Text) → slice_get names k ≡ Some name → row name ≡ slice_index values k

-- in every row the tests lead from this number to the end that is the guard's truth
pub record StandsFor (names : List Text) (tests : List Test) (start : ℕ) (guard : Option (GuardTree Text)) : Type 0 where
  pub within : start < length tests + 2
  pub leads : (row : Row) (values : List ℕ) → AreValuesIn row names values → Leads tests values (end_of (guard_holds row guard)) start

-- the guards of a netlist's assignments, in their order
pub record AreGuards (n : Netlist) (tests : List Test) (starts : List ℕ) : Type 0 where
  pub tests_are : AreTests (length (port_names n)) tests
  pub all : length starts ≡ length n.sets
  pub each : (k : ℕ) (a : SetLine) (start : ℕ) → slice_get n.sets k ≡ Some a → slice_get starts k ≡ Some start → StandsFor (port_names n) tests start a.guard
