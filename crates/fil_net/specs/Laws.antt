-- That a Filament design which is lowered, flattened and simplified is a netlist that keeps what the design promises, and has a text. This project's.
use Rattle.std.specs.Prelude.{◌≡◌, false, All}
use Rattle.net_core.specs.Netlist.{CellLine, Netlist, netlist_of}
use Rattle.net_core.specs.declared.net.Net.{Net}
use Rattle.net_guard.specs.Simplified.{IsSimplified}
use Rattle.net_text.specs.Names.{HasText}
use Rattle.cal_ast.specs.Tree as calyx
use Rattle.fil_ast.specs.Plain.{HasPlainTree}
use Rattle.fil_ast.specs.Rules.{FilRules}
use Rattle.fil_ast.specs.Tree.{Design}
use Rattle.fil_promise.specs.Refines.{Refines}
use Rattle.fil_lower.specs.Lowers.{Lowers}
use Rattle.fil_parse.specs.Written.{DesignIsWritten}
use Rattle.net_flat.specs.FlatTop.{IsFlatTop}

-- names of the grammar have no dots
abbrev pub WrittenDesignsArePlain : Type 0
WrittenDesignsArePlain = (comps : Design) → DesignIsWritten comps → HasPlainTree comps

-- wires that keep what a design promises, flattened, are a netlist that does
abbrev pub FlattenedLoweringsRefine : Type 0
FlattenedLoweringsRefine =
    (comps : Design) (design : calyx.Design) (net : Net) → FilRules comps → Lowers comps design → IsFlatTop design net → Refines comps (netlist_of net)

-- names of the netlist are names of the design, and of registers, joined by dots
abbrev pub FlattenedLoweringsHaveText : Type 0
FlattenedLoweringsHaveText =
    (comps : Design) (design : calyx.Design) (net : Net) → FilRules comps → DesignIsWritten comps → Lowers comps design → IsFlatTop design net →
    HasText (netlist_of net)

-- a netlist with its guards folded keeps what the design promises
abbrev pub SimplifiedNetsRefine : Type 0
SimplifiedNetsRefine = (comps : Design) (old new : Netlist) → IsSimplified old new → Refines comps old → Refines comps new

-- a netlist that keeps what a Filament design promises has no cell that a run loads or prints
abbrev pub RefinedNetsShowNoCell : Type 0
RefinedNetsShowNoCell = (comps : Design) (n : Netlist) → Refines comps n → All (λ (line : CellLine). line.shown ≡ false) n.cells
