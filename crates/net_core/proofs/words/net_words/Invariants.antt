use Rattle.std.proofs.Common.{◌≡◌, take, sum_by}
use Rattle.net_core.specs.Netlist.{cell_of}
use Rattle.net_core.specs.Weight.{saturated}
use Rattle.net_core.specs.Words.{cell_words}
use Rattle.net_core.specs.declared.net.NetCell.{NetCell}
use Rattle.net_core.proofs.words.net_words.Given as goal

abbrev pub invariant-loop-cell : goal.invariant-loop-cell
invariant-loop-cell l =
    l.words ≡ saturated (sum_by (λ (c : NetCell). cell_words (cell_of l.net.names c)) (take l.cell-index l.net.cells.items))
