use Rattle.std.proofs.Common.{◌≡◌, ◌+◌, ◌*◌, ◌≤◌, ◌++◌, drop}
use Rattle.net_row.specs.Kinds.{kinds_of, kinds_after, kept_in, others_in}
use Rattle.net_row.proofs.kinds.kinds_of.Given as goal

-- the kinds so far, with those of the cells that are left, are those of all
abbrev pub invariant-loop-cell : goal.invariant-loop-cell
invariant-loop-cell l =
    (l.kinds.of_cells.items ++ kinds_after l.kinds.kept l.kinds.others (drop l.cell-index l.cells) ≡ kinds_of l.cells)
    × (l.kinds.kept + kept_in (drop l.cell-index l.cells) ≡ kept_in l.cells)
    × (l.kinds.others + others_in (drop l.cell-index l.cells) ≡ others_in l.cells)
    × (l.kinds.kept ≤ 2 * l.cell-index)
    × (l.kinds.others ≤ l.cell-index)
