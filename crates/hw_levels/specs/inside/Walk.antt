-- A walk over the ports of cells, cell by cell. This project's, for private functions alone.
use Rattle.std.specs.Prelude.{◌≡◌, ℕ, ◌<◌, ◌≤◌, ◌⊎◌, ◌==◌, true, false, Option, None, IfSome, IsSomeAnd, if◌then◌else◌}
use Rattle.hw_levels.specs.declared.cells.CellPort.{CellPort}
use Rattle.hw_levels.specs.declared.cells.Walk.{Walk}

-- the greatest level of an input so far of the cell
abbrev pub inputs_of : Walk → ℕ → Option ℕ
inputs_of walk cell = if cell == walk.cell then walk.inputs else None

-- the port comes no earlier than the last one
abbrev pub IsBefore : Walk → CellPort → Type 0
IsBefore walk port = (walk.cell < port.cell) ⊎ ((walk.cell ≡ port.cell) × (walk.level ≤ port.level))

-- an output of this level in the holder is above the inputs so far of its cell
abbrev pub Allows : Walk → CellPort → ℕ → Type 0
Allows walk port holder_level = port.is_input ≡ false → IfSome (inputs_of walk port.cell) (λ most. most < holder_level)

-- some level is at least this one
abbrev pub IsUpTo : Option ℕ → ℕ → Type 0
IsUpTo most level = IsSomeAnd most (λ m. level ≤ m)

-- the walk has gone over this port, which has this level in the holder
pub record HasGone (old new : Walk) (port : CellPort) (holder_level : ℕ) : Type 0 where
  pub cell : new.cell ≡ port.cell
  pub level : new.level ≡ port.level
  pub input : port.is_input ≡ true → IsUpTo new.inputs holder_level
  pub kept : (other : ℕ) → IsUpTo (inputs_of old port.cell) other → IsUpTo new.inputs other
