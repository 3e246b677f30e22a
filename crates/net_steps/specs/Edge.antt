-- What the edge of a row makes of the cells that keep their state by themselves. This project's.
use Rattle.std.specs.Prelude.{◌≡◌, ℕ, List, length, Some, slice_get}
use Rattle.hw_prims.specs.Meaning.{next_state}
use Rattle.net_steps.specs.Gathered.{gathered}
use Rattle.net_steps.specs.declared.other.Other.{Other}

-- a cell after the edge of a row in which its inputs were in these slots
pub record IsSteppedOther (inputs slots : List ℕ) (old new : Other) : Type 0 where
  pub prim : new.state.prim ≡ old.state.prim
  pub state : new.state.state ≡ next_state old.state.prim old.state.state (gathered slots inputs old.widths.items)
  pub widths : new.widths ≡ old.widths
  pub outputs : new.outputs ≡ old.outputs

pub record AreSteppedOthers (places : List (List ℕ)) (slots : List ℕ) (old new : List Other) : Type 0 where
  pub all : length new ≡ length old
  pub each : (k : ℕ) (inputs : List ℕ) (o n : Other) → slice_get places k ≡ Some inputs → slice_get old k ≡ Some o → slice_get new k ≡ Some n →
      IsSteppedOther inputs slots o n
