-- That each name of a netlist is a number of its list of names. This project's.
use Rattle.std.specs.Prelude.{◌<◌, List, length, All, Option, Some, None}
use Rattle.hw_names.specs.Name.{Text}
use Rattle.hw_names.specs.declared.names.NameId.{NameId}
use Rattle.net_core.specs.declared.net.Src.{Src}
use Rattle.net_core.specs.declared.net.Src.TheVariants.{Port, Lit}
use Rattle.net_core.specs.declared.net.Guard.{Row_of-Guard, end_of-Guard, more_of-Guard}
use Rattle.net_core.specs.declared.net.Guard as code
use Rattle.net_core.specs.declared.net.Net.{Net}
use Rattle.net_core.specs.declared.net.NetAssign.{NetAssign}
use Rattle.net_core.specs.declared.net.NetCell.{NetCell}
use Rattle.net_core.specs.declared.net.NetPort.{NetPort}

abbrev pub IsNumberOf : List Text → NameId → Type 0
IsNumberOf names id = id.0 < length names

abbrev pub SourceHasNumbers : List Text → Src NameId → Type 0
SourceHasNumbers names (Port p) = IsNumberOf names p
SourceHasNumbers names (Lit width value) = Unit {0}

abbrev mutual
  pub GuardHasNumbers : List Text → code.Guard NameId → Type 0
  GuardHasNumbers names (code.Read s) = SourceHasNumbers names s.value
  GuardHasNumbers names (code.Test op a b) = SourceHasNumbers names a.value × SourceHasNumbers names b.value
  GuardHasNumbers names (code.Not' p g) = GuardHasNumbers names g
  GuardHasNumbers names (code.All' shape gs) = GuardsHaveNumbers names gs
  GuardHasNumbers names (code.Any' shape gs) = GuardsHaveNumbers names gs

  pub GuardsHaveNumbers : {m : _} → List Text → Row_of-Guard NameId m → Type 0
  GuardsHaveNumbers names end_of-Guard = Unit {0}
  GuardsHaveNumbers names (more_of-Guard g gs) = GuardHasNumbers names g × GuardsHaveNumbers names gs

abbrev pub WhenHasNumbers : List Text → Option (code.Guard NameId) → Type 0
WhenHasNumbers names None = Unit {0}
WhenHasNumbers names (Some g) = GuardHasNumbers names g

abbrev pub PortHasNumbers : List Text → NetPort → Type 0
PortHasNumbers names p = IsNumberOf names p.name

abbrev pub CellHasNumbers : List Text → NetCell → Type 0
CellHasNumbers names c = IsNumberOf names c.name × IsNumberOf names c.prim

abbrev pub SetHasNumbers : List Text → NetAssign → Type 0
SetHasNumbers names a = IsNumberOf names a.dst × WhenHasNumbers names a.guard × SourceHasNumbers names a.src

pub record HasNumbers (net : Net) : Type 0 where
  pub name : IsNumberOf net.names net.name
  pub ins : All (PortHasNumbers net.names) net.ins.items
  pub outs : All (PortHasNumbers net.names) net.outs.items
  pub wires : All (PortHasNumbers net.names) net.wires.items
  pub cells : All (CellHasNumbers net.names) net.cells.items
  pub sets : All (SetHasNumbers net.names) net.sets.items
