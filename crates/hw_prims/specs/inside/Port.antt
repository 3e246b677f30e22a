-- Ports as callers get them, against the pins of the table.
use Rattle.std.specs.Prelude.{ℕ, ◌≡◌, ◌≤◌, List, length, map, slice_get, Option, Some, MatchOption}
use Rattle.std.specs.Borrow.{Bor}
use Rattle.hw_prims.specs.Row.{Text}
use Rattle.hw_prims.specs.Table.{Pin, pin}
use Rattle.hw_prims.specs.declared.name.PrimName.{PrimName}
use Rattle.hw_prims.specs.declared.prim.Dir.{Dir}
use Rattle.hw_prims.specs.declared.prim.PrimPort.{PrimPort}

-- the port is the pin at this place, on this side; there is none past the last pin
abbrev pub IsPortAt : Dir → List Pin → ℕ → Option PrimPort → Type 0
IsPortAt dir pins i port =
    MatchOption port (length pins ≤ i) (λ (p : PrimPort). (slice_get pins i ≡ Some (pin p.name.now p.width)) × (p.dir ≡ dir))

-- the pins of a list of names and widths
abbrev pub pins_listed : List (Bor (List ℕ) × ℕ) → List Pin
pins_listed listed = map (λ (p : Bor (List ℕ) × ℕ). pin p.0.now p.1) listed

-- the names of a list, with their meanings
abbrev pub names_listed : List (Bor (List ℕ) × PrimName) → List (Text × PrimName)
names_listed listed = map (λ (p : Bor (List ℕ) × PrimName). (p.0.now, p.1)) listed
