-- Guards behind runs of `!`. This project's.
use Rattle.std.specs.Prelude.{ℕ, zero, suc}
use Rattle.net_core.specs.Guard.{GuardTree, Negates}
use Rattle.cal_ast.specs.Tree.{PortName}

-- the guard behind this many `!`
abbrev pub negations : ℕ → GuardTree PortName → GuardTree PortName
negations zero g = g
negations (suc n) g = Negates (negations n g)
