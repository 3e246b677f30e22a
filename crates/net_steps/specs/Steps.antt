-- Steps that were added to others, and what is then in a slot of every row that they make. This project's.
use Rattle.std.specs.Prelude.{◌≡◌, ℕ, List, [], ◌∷◌, ◌++◌, All, slice_index}
use Rattle.hw_prims.specs.Meaning.{bit}
use Rattle.net_steps.specs.Operations.{AreMade, IsStep, KeepsChoices, KeepsSteps, is_on}
use Rattle.net_steps.specs.StepsValue.{StepsValue}
use Rattle.net_steps.specs.declared.choice.Choice.{Choice}
use Rattle.net_steps.specs.declared.equality.Equality.{Equality}
use Rattle.net_steps.specs.declared.operation.Operation.{Operation}
use Rattle.net_steps.specs.declared.other.Other.{Other}

-- what is assumed of a row holds in it
abbrev pub IsAssumed : List ℕ → List Equality → Type 0
IsAssumed slots equalities = All (λ (equality : Equality). slice_index slots equality.slot ≡ equality.number) equalities

-- the slots are those of a row that these steps make, from a table in which their choices come first, and what is assumed holds in it
pub record IsRowOf (steps : StepsValue) (others : List Other) (slots : List ℕ) : Type 0 where
  pub choices : List Choice
  pub table : KeepsChoices steps.choices choices
  pub made : AreMade others choices steps.base steps.items slots
  pub assumed : IsAssumed slots steps.assumed

-- the old steps and choices stand, with others after them, and no more is assumed
pub record Extends (old new : StepsValue) : Type 0 where
  pub base : new.base ≡ old.base
  pub keeps : KeepsSteps old.items new.items
  pub choices : KeepsChoices old.choices new.choices
  pub assumed : new.assumed ≡ old.assumed

-- one choice was added, last
abbrev pub AddsChoice : StepsValue → StepsValue → Choice → Type 0
AddsChoice old new choice = new ≡ record old { choices = old.choices ++ choice ∷ [] }

-- one step was added, unless it was there
pub record Defines (old new : StepsValue) (step : Operation) (slot : ℕ) : Type 0 where
  pub extends : Extends old new
  pub choices : new.choices ≡ old.choices
  pub is_step : IsStep new.base new.items slot step

-- steps were added that make this value in the slot
pub record AddsSlot (old new : StepsValue) (value : List Other → List ℕ → ℕ) (slot : ℕ) : Type 0 where
  pub extends : Extends old new
  pub made : (others : List Other) (slots : List ℕ) → IsRowOf new others slots → slice_index slots slot ≡ value others slots

-- in each row this number is in the slot
abbrev pub IsConstant : StepsValue → ℕ → ℕ → Type 0
IsConstant steps slot number = (others : List Other) (slots : List ℕ) → IsRowOf steps others slots → slice_index slots slot ≡ number

-- in each row the slot is 0 or 1
abbrev pub IsBit : StepsValue → ℕ → Type 0
IsBit steps slot = (others : List Other) (slots : List ℕ) → IsRowOf steps others slots → slice_index slots slot ≡ bit (is_on slots slot)
