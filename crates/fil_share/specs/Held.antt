-- A law of what transactions hold: the list has what there is, and no more. Filament, PLDI 2023; the law is this project's.
use Rattle.std.specs.Prelude.{◌↔◌, List, Contains}
use Rattle.fil_ast.specs.Holds.{Start, Hold, IsHold, holds_of}
use Rattle.fil_ast.specs.Scope.{Scope}

-- a hold is listed exactly where it is one
abbrev pub HoldsAreListed : Type 0
HoldsAreListed = (scope : Scope) (starts : List Start) (h : Hold) → Contains (holds_of scope starts) h ↔ IsHold scope starts h
