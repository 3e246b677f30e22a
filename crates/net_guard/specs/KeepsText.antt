-- That a netlist whose guards are folded has a text. This project's.
use Rattle.net_core.specs.Netlist.{Netlist}
use Rattle.net_guard.specs.Folded.{HasFoldedGuards}
use Rattle.net_guard.specs.Simplified.{IsSimplified}
use Rattle.net_text.specs.Names.{HasText}

-- the law: where a netlist has a text, it has one with its guards folded
abbrev pub SimplifiedKeepsText : Type 0
SimplifiedKeepsText = (old new : Netlist) → IsSimplified old new → HasFoldedGuards new → HasText old → HasText new
