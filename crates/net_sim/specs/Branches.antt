-- Sources and tests by the slots of a row: one for each port, and after them one for each literal. This project's.
use Rattle.std.specs.Prelude.{◌≡◌, ◌==◌, ℕ, ◌+◌, nat_lt, if◌then◌else◌, List, length, Some, slice_get}
use Rattle.hw_bits.specs.declared.bits.Bits.{Bits}
use Rattle.net_sim.specs.Tests.{AreTests, exit_at}
use Rattle.net_sim.specs.declared.branches.Branch.{Branch}
use Rattle.net_sim.specs.declared.guards.Test.{Test}
use Rattle.net_sim.specs.declared.plan.Source.{Source}
use Rattle.net_sim.specs.declared.plan.Source.TheVariants.{Slot, Fixed}

-- one for each of the others, in their order
pub record AreAlong {A B : Type 0} (P : A → B → Type 0) (xs : List A) (ys : List B) : Type 0 where
  pub all : length ys ≡ length xs
  pub each : (k : ℕ) (x : A) (y : B) → slice_get xs k ≡ Some x → slice_get ys k ≡ Some y → P x y

-- the slot of a source
abbrev pub IsSlotOf : ℕ → List Bits → Source → ℕ → Type 0
IsSlotOf ports literals (Slot port) slot = slot ≡ port
IsSlotOf ports literals (Fixed bits) slot = (k : ℕ) × (slot ≡ ports + k) × (slice_get literals k ≡ Some bits)

abbrev pub AreSlots : ℕ → List Bits → List Source → List ℕ → Type 0
AreSlots ports literals = AreAlong (IsSlotOf ports literals)

-- where a branch leads from two values
abbrev pub next_by : Branch → ℕ → ℕ → ℕ
next_by branch a b = if nat_lt a b then branch.less else (if a == b then branch.equal else branch.greater)

-- a branch compares what the test does, and leads where it leads
pub record IsBranchOf (ports : ℕ) (literals : List Bits) (test : Test) (branch : Branch) : Type 0 where
  pub left : IsSlotOf ports literals test.left branch.left
  pub right : IsSlotOf ports literals test.right branch.right
  pub leads : (a b : ℕ) → next_by branch a b ≡ exit_at test a b

-- the branches of tests of so many ports
pub record AreBranches (ports : ℕ) (literals : List Bits) (tests : List Test) (branches : List Branch) : Type 0 where
  pub tests_are : AreTests ports tests
  pub along : AreAlong (IsBranchOf ports literals) tests branches

-- the old literals stand where they were
abbrev pub KeepsLiterals : List Bits → List Bits → Type 0
KeepsLiterals old new = (k : ℕ) (bits : Bits) → slice_get old k ≡ Some bits → slice_get new k ≡ Some bits
