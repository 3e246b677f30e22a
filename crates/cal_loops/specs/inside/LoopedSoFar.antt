-- The first component that has a loop, of those that are judged so far. This project's.
use Rattle.std.specs.Prelude.{◌≡◌, ℕ, ◌<◌, ◌∷◌, List, map, slice_get, Option, Some, None, Contains}
use Rattle.cal_ast.specs.Tree.{PortName, Component, Design}
use Rattle.cal_ast.specs.Wires.{HasNoLoop, IsLeastLoop, shown}
use Rattle.cal_loops.specs.declared.first_loop.Looped.{Looped}

-- of the components of these numbers, the first that has a loop, and its least loop
pub record IsFirstLooped (design : Design) (numbers : List ℕ) (looped : Looped) : Type 0 where
  pub c : Component
  pub at : slice_get design looped.number ≡ Some c
  pub earlier : (m : ℕ) (other : Component) → m < looped.number → Contains numbers m → slice_get design m ≡ Some other → HasNoLoop design other
  pub first : PortName
  pub others : List PortName
  pub shows : looped.ports.items ≡ map shown (first ∷ others)
  pub loop : IsLeastLoop design c first others

-- none where none of them has a loop
abbrev pub TellsFirstLooped : Design → List ℕ → Option Looped → Type 0
TellsFirstLooped design numbers None = (m : ℕ) (c : Component) → Contains numbers m → slice_get design m ≡ Some c → HasNoLoop design c
TellsFirstLooped design numbers (Some looped) = IsFirstLooped design numbers looped
