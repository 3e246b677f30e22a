-- What the assignments to a port give it in a row, by the row's slots. This project's.
use Rattle.std.specs.Prelude.{◌≡◌, ℕ, ◌&&◌, Bool, List, [], ◌∷◌, ◌++◌, length, All, slice_index, if◌then◌else◌}
use Rattle.std.specs.List.{list_any}
use Rattle.net_core.specs.Circuit.{settled}
use Rattle.net_steps.specs.Operations.{has_two, is_on, values_on}
use Rattle.net_steps.specs.Steps.{Extends, IsRowOf}
use Rattle.net_steps.specs.StepsValue.{StepsValue}
use Rattle.net_steps.specs.Truths.{is_true}
use Rattle.net_steps.specs.declared.choice.Choice.{Choice}
use Rattle.net_steps.specs.declared.clashes.Clash.{Clash}
use Rattle.net_steps.specs.declared.drivers.Driver.{Driver}
use Rattle.net_steps.specs.declared.other.Other.{Other}

-- the values of the assignments that act
abbrev pub acting : List ℕ → List Driver → List ℕ
acting slots [] = []
acting slots (d ∷ drivers) = if is_true slots d.truth then slice_index slots d.source ∷ acting slots drivers else acting slots drivers

-- in each row some drivers give what others give
abbrev pub ActAlike : List Driver → List Driver → Type 0
ActAlike drivers others = (slots : List ℕ) → acting slots drivers ≡ acting slots others

-- both act
abbrev pub is_clash : List ℕ → Clash → Bool
is_clash slots clash = is_on slots clash.first && is_on slots clash.second

-- steps were added that make the port's value in the slot, and what tells of its Conflicts
pub record AddsPort (old new : StepsValue) (before after : List Clash) (port : ℕ) (drivers : List Driver) (slot : ℕ) : Type 0 where
  pub extends : Extends old new
  pub value : (others : List Other) (slots : List ℕ) → IsRowOf new others slots → slice_index slots slot ≡ settled (acting slots drivers)
  pub added : List Clash
  pub after_is : after ≡ before ++ added
  pub of_port : All (λ (clash : Clash). clash.port ≡ port) added
  pub told : (others : List Other) (slots : List ℕ) → IsRowOf new others slots → list_any (is_clash slots) added ≡ has_two (acting slots drivers)

-- two slots have one value in each row in which a third is on, or is not
abbrev pub SameWhere : StepsValue → ℕ → Bool → ℕ → ℕ → Type 0
SameWhere steps on is slot other =
    (others : List Other) (slots : List ℕ) → IsRowOf steps others slots → is_on slots on ≡ is → slice_index slots other ≡ slice_index slots slot

-- choices were added, and with them steps that make their truths: what is on of the choices is what acts of the drivers
pub record AddsChoices (old new : StepsValue) (drivers : List Driver) : Type 0 where
  pub extends : Extends old new
  pub added : List Choice
  pub choices : new.choices ≡ old.choices ++ added
  pub count : length added ≡ length drivers
  pub are : (others : List Other) (slots : List ℕ) → IsRowOf new others slots → values_on slots added ≡ acting slots drivers
