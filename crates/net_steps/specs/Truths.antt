-- What is true in a row, by its slots. This project's.
use Rattle.std.specs.Prelude.{◌≡◌, ℕ, Bool, not, ◌&&◌, ◌||◌, List, if◌then◌else◌}
use Rattle.net_steps.specs.Operations.{is_on}
use Rattle.net_steps.specs.Steps.{Extends, IsRowOf}
use Rattle.net_steps.specs.StepsValue.{StepsValue}
use Rattle.net_steps.specs.declared.other.Other.{Other}
use Rattle.net_steps.specs.declared.truth.Truth.{Truth}
use Rattle.net_steps.specs.declared.truth.Truth.TheVariants.{Fixed, Slot}

abbrev pub is_true : List ℕ → Truth → Bool
is_true slots (Fixed on) = on
is_true slots (Slot slot negated) = if negated then not (is_on slots slot) else is_on slots slot

-- steps were added by which this is true where that holds
pub record AddsTruth (old new : StepsValue) (holds : List ℕ → Bool) (truth : Truth) : Type 0 where
  pub extends : Extends old new
  pub made : (others : List Other) (slots : List ℕ) → IsRowOf new others slots → is_true slots truth ≡ holds slots

-- in each row a test of the slots comes out so
abbrev pub IsAlways : StepsValue → (List ℕ → Bool) → Bool → Type 0
IsAlways steps test on = (others : List Other) (slots : List ℕ) → IsRowOf steps others slots → test slots ≡ on

-- it is true in each row in which the slot is 1, and in no other
abbrev pub IsTruthOf : StepsValue → ℕ → Truth → Type 0
IsTruthOf steps slot truth = (others : List Other) (slots : List ℕ) → IsRowOf steps others slots → is_true slots truth ≡ is_on slots slot

-- it is true in each row in which two others are, and in no other
abbrev pub IsBothOf : StepsValue → Truth → Truth → Truth → Type 0
IsBothOf steps truth one other =
    (others : List Other) (slots : List ℕ) → IsRowOf steps others slots → is_true slots truth ≡ (is_true slots one && is_true slots other)

-- it is true in each row in which one of two others is, and in no other
abbrev pub IsEitherOf : StepsValue → Truth → Truth → Truth → Type 0
IsEitherOf steps truth one other =
    (others : List Other) (slots : List ℕ) → IsRowOf steps others slots → is_true slots truth ≡ (is_true slots one || is_true slots other)
