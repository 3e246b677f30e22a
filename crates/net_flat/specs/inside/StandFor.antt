-- That parts of a netlist stand for trees of texts, with numbers that have texts. This project's.
use Rattle.std.specs.Prelude.{◌≡◌, ℕ, zero, suc, List, map, All, Option}
use Rattle.hw_names.specs.Name.{Text, text_of}
use Rattle.hw_names.specs.declared.names.NameId.{NameId}
use Rattle.hw_prims.specs.Table.{Pin}
use Rattle.net_core.specs.Guard.{GuardTree, Negates, guard_tree, guard_option, source_tree}
use Rattle.net_core.specs.Netlist.{CellLine, SetLine, pin_of, cell_of, set_of}
use Rattle.net_core.specs.Numbers.{PortHasNumbers, CellHasNumbers, SetHasNumbers, SourceHasNumbers, GuardHasNumbers, WhenHasNumbers}
use Rattle.net_core.specs.declared.net.Guard.{Guard}
use Rattle.net_core.specs.declared.net.NetAssign.{NetAssign}
use Rattle.net_core.specs.declared.net.NetCell.{NetCell}
use Rattle.net_core.specs.declared.net.NetPort.{NetPort}
use Rattle.net_core.specs.declared.net.Src.{Src}

-- a part of the netlist stands for the tree
pub record StandsFor {X Y : Type 0} (Numbered : List Text → X → Type 0) (tree_of : List Text → X → Y) (names : List Text) (y : Y) (x : X) : Type 0 where
  pub numbers : Numbered names x
  pub tree : tree_of names x ≡ y

-- parts of the netlist stand for the trees
pub record StandFor {X Y : Type 0} (Numbered : List Text → X → Type 0) (tree_of : List Text → X → Y) (names : List Text) (ys : List Y)
    (xs : List X) : Type 0 where
  pub numbers : All (Numbered names) xs
  pub trees : map (tree_of names) xs ≡ ys

abbrev pub net_guard : List Text → Guard NameId → GuardTree Text
net_guard names g = guard_tree (text_of names) g

abbrev pub net_source : List Text → Src NameId → Src Text
net_source names s = source_tree (text_of names) s

abbrev pub IsSource : List Text → Src Text → Src NameId → Type 0
IsSource = StandsFor SourceHasNumbers net_source

abbrev pub IsGuard : List Text → GuardTree Text → Guard NameId → Type 0
IsGuard = StandsFor GuardHasNumbers net_guard

abbrev pub AreGuards : List Text → List (GuardTree Text) → List (Guard NameId) → Type 0
AreGuards = StandFor GuardHasNumbers net_guard

abbrev pub net_when : List Text → Option (Guard NameId) → Option (GuardTree Text)
net_when names g = guard_option (text_of names) g

abbrev pub IsWhen : List Text → Option (GuardTree Text) → Option (Guard NameId) → Type 0
IsWhen = StandsFor WhenHasNumbers net_when

abbrev pub IsPin : List Text → Pin → NetPort → Type 0
IsPin = StandsFor PortHasNumbers pin_of

abbrev pub IsCell : List Text → CellLine → NetCell → Type 0
IsCell = StandsFor CellHasNumbers cell_of

abbrev pub IsSet : List Text → SetLine → NetAssign → Type 0
IsSet = StandsFor SetHasNumbers set_of

abbrev pub ArePins : List Text → List Pin → List NetPort → Type 0
ArePins = StandFor PortHasNumbers pin_of

abbrev pub AreCells : List Text → List CellLine → List NetCell → Type 0
AreCells = StandFor CellHasNumbers cell_of

abbrev pub AreSets : List Text → List SetLine → List NetAssign → Type 0
AreSets = StandFor SetHasNumbers set_of

-- the guard behind this many `!`
abbrev pub negations : ℕ → GuardTree Text → GuardTree Text
negations zero g = g
negations (suc n) g = Negates (negations n g)
