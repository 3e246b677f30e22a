-- The least port with a Conflict, by the slots of a row. This project's.
use Rattle.std.specs.Prelude.{◌≡◌, ℕ, true, List, Option, None, Some, slice_get}
use Rattle.hw_graph.specs.ByName.{IsAtMost}
use Rattle.hw_names.specs.Name.{Text}
use Rattle.net_steps.specs.Drivers.{is_clash}
use Rattle.net_steps.specs.declared.clashes.Clash.{Clash}

-- one of the clashes is of this port, and both of its assignments act
pub record Clashes (clashes : List Clash) (slots : List ℕ) (port : ℕ) : Type 0 where
  pub number : ℕ
  pub clash : Clash
  pub at : slice_get clashes number ≡ Some clash
  pub of_port : clash.port ≡ port
  pub both : is_clash slots clash ≡ true

-- the least port that clashes, by the bytes of its name
abbrev pub IsLeastClash : List Text → List Clash → List ℕ → Option ℕ → Type 0
IsLeastClash names clashes slots None = (port : ℕ) → Clashes clashes slots port → ⊥
IsLeastClash names clashes slots (Some least) = Clashes clashes slots least × ((port : ℕ) → Clashes clashes slots port → IsAtMost names least port)
