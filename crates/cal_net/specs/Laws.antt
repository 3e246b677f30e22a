-- That wires to which a Calyx design is lowered mean what it meant when they are flattened and simplified, and have a text. This project's.
use Rattle.net_core.specs.Netlist.{Netlist, netlist_of}
use Rattle.net_core.specs.declared.net.Net.{Net}
use Rattle.net_flat.specs.FlatTop.{IsFlatTop}
use Rattle.net_guard.specs.Simplified.{IsSimplified}
use Rattle.net_text.specs.Names.{HasText}
use Rattle.cal_ast.specs.Plain.{HasPlainTree}
use Rattle.cal_ast.specs.Rules.{CalRules}
use Rattle.cal_ast.specs.Tree.{Design}
use Rattle.cal_ast.specs.Written.{DesignIsWritten}
use Rattle.cal_net.specs.Lowers.{LowersControl}
use Rattle.cal_net.specs.Refining.{RefinesTop}

-- wires that lower a design, flattened, are a netlist that shows what the design does
abbrev pub FlattenedWiresRefine : Type 0
FlattenedWiresRefine =
    (source wires : Design) (net : Net) → CalRules source → HasPlainTree source → LowersControl source wires → HasPlainTree wires → IsFlatTop wires net →
    RefinesTop source (netlist_of net)

-- and it has a text where the wires have
abbrev pub FlattenedWiresHaveText : Type 0
FlattenedWiresHaveText = (wires : Design) (net : Net) → DesignIsWritten wires → HasPlainTree wires → IsFlatTop wires net → HasText (netlist_of net)

-- a netlist with its guards folded means the same
abbrev pub SimplifiedNetsRefine : Type 0
SimplifiedNetsRefine = (design : Design) (old new : Netlist) → IsSimplified old new → RefinesTop design old → RefinesTop design new
