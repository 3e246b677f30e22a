-- Assignments that never act at once, since what one asks is denied by what the other asks. This project's.
use Rattle.std.specs.Prelude.{◌≡◌, ℕ, Bool, true, false, ◌&&◌, ◌||◌, List, Contains, Option, slice_index, unwrap_or}
use Rattle.net_steps.specs.Drivers.{acting}
use Rattle.net_steps.specs.Operations.{has_two}
use Rattle.net_steps.specs.Steps.{IsRowOf}
use Rattle.net_steps.specs.StepsValue.{StepsValue}
use Rattle.net_steps.specs.Truths.{is_true}
use Rattle.net_steps.specs.declared.apart.Group.{Group}
use Rattle.net_steps.specs.declared.drivers.Driver.{Driver}
use Rattle.net_steps.specs.declared.equality.Equality.{Equality}
use Rattle.net_steps.specs.declared.other.Other.{Other}
use Rattle.net_steps.specs.declared.truth.Truth.{Truth}
use Rattle.net_steps.specs.declared.truth.Truth.TheVariants.{Fixed}

-- in each row in which it is true the slot has this number
abbrev pub Implies : StepsValue → Truth → Equality → Type 0
Implies steps truth equality =
    (others : List Other) (slots : List ℕ) → IsRowOf steps others slots → is_true slots truth ≡ true → slice_index slots equality.slot ≡ equality.number

-- in each row in which it is true the slot has one of these numbers
abbrev pub Asks : StepsValue → Truth → ℕ → List ℕ → Type 0
Asks steps truth slot numbers =
    (others : List Other) (slots : List ℕ) → IsRowOf steps others slots → is_true slots truth ≡ true → Contains numbers (slice_index slots slot)

-- no number is in both
abbrev pub AreDisjoint : List ℕ → List ℕ → Type 0
AreDisjoint first second = (number : ℕ) → Contains first number → Contains second number → ⊥

-- there is no row in which both are true
abbrev pub AreNeverBoth : StepsValue → Truth → Truth → Type 0
AreNeverBoth steps one other =
    (others : List Other) (slots : List ℕ) → IsRowOf steps others slots → (is_true slots one && is_true slots other) ≡ false

-- there is no row in which two of the drivers act
abbrev pub HasNoTwo : StepsValue → List Driver → Type 0
HasNoTwo steps drivers =
    (others : List Other) (slots : List ℕ) → IsRowOf steps others slots → has_two (acting slots drivers) ≡ false

-- no truths
abbrev pub empty_group : Group
empty_group = record { first = Fixed false; second = Fixed false; third = Fixed false; fourth = Fixed false }

-- one of the truths is true
abbrev pub has_true : List ℕ → Group → Bool
has_true slots group = is_true slots group.first || (is_true slots group.second || (is_true slots group.third || is_true slots group.fourth))

-- a truth was added that is never true beside one of the others
pub record Joins (steps : StepsValue) (old : Group) (truth : Truth) (new : Group) : Type 0 where
  pub apart : (others : List Other) (slots : List ℕ) → IsRowOf steps others slots → (has_true slots old && is_true slots truth) ≡ false
  pub joined : (others : List Other) (slots : List ℕ) → IsRowOf steps others slots → has_true slots new ≡ (has_true slots old || is_true slots truth)

-- the truths that ask for this number
abbrev pub group_at : (ℕ → Option Group) → ℕ → Group
group_at groups number = unwrap_or (groups number) empty_group

-- a truth was added to the groups of these numbers, where it is never true beside another
pub record JoinsGroups (steps : StepsValue) (old new : ℕ → Option Group) (numbers : List ℕ) (truth : Truth) : Type 0 where
  pub apart : (others : List Other) (slots : List ℕ) → IsRowOf steps others slots → (number : ℕ) → Contains numbers number →
      (has_true slots (group_at old number) && is_true slots truth) ≡ false
  pub kept : (others : List Other) (slots : List ℕ) → IsRowOf steps others slots → (number : ℕ) →
      has_true slots (group_at old number) ≡ true → has_true slots (group_at new number) ≡ true
  pub joined : (others : List Other) (slots : List ℕ) → IsRowOf steps others slots → (number : ℕ) → Contains numbers number →
      is_true slots truth ≡ true → has_true slots (group_at new number) ≡ true
