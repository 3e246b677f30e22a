use Rattle.std.proofs.Common.{◌≡◌, ◌+◌, ◌++◌, List, take, flat_map, None}
use Rattle.net_core.specs.Judging.{cell_lines, first_broken}
use Rattle.net_core.specs.Rules.{PortLine, ports_at, cell_names_at}
use Rattle.net_core.proofs.cells.take_cells.Given as goal

-- the lines so far keep the rules, and their ports and names were put last
abbrev pub invariant-loop-cell : goal.invariant-loop-cell
invariant-loop-cell l =
    let lines = take l.cell-index (cell_lines l.names l.list) in
    (l.item ≡ l.first + l.cell-index)
    × (l.ports ≡ l.initial.ports ++ flat_map ports_at lines)
    × (l.cells ≡ l.initial.cells ++ flat_map cell_names_at lines)
    × ((all : List PortLine) → first_broken all l.initial.ports l.initial.cells l.first lines ≡ None)
