-- The first component of a design that has a loop. This project's.
use Rattle.std.specs.Prelude.{◌≡◌, ◌∷◌, List, map, Option, Some, None}
use Rattle.cal_ast.specs.Rules.{HasFirstLoop, HasNoLoops}
use Rattle.cal_ast.specs.Tree.{PortName, Design}
use Rattle.cal_ast.specs.Wires.{shown}
use Rattle.cal_loops.specs.declared.first_loop.Looped.{Looped}

-- none where no component has a loop, else the number of the first that has one, and the full names of its least loop's ports
abbrev pub TellsFirstLoop : Design → Option Looped → Type 0
TellsFirstLoop design None = HasNoLoops design
TellsFirstLoop design (Some looped) =
    (first : PortName) × (others : List PortName) × (looped.ports.items ≡ map shown (first ∷ others)) × HasFirstLoop design looped.number first others
