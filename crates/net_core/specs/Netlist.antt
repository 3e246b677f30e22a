-- A netlist as a tree of texts: what its lines say, whatever numbers its names have. This project's.
use Rattle.std.specs.Prelude.{ℕ, Bool, List, ◌++◌, map, Option}
use Rattle.hw_names.specs.Name.{Text, text_of}
use Rattle.hw_prims.specs.Table.{Pin}
use Rattle.net_core.specs.Guard.{GuardTree, source_tree, guard_option}
use Rattle.net_core.specs.declared.net.Net.{Net}
use Rattle.net_core.specs.declared.net.NetAssign.{NetAssign}
use Rattle.net_core.specs.declared.net.NetCell.{NetCell}
use Rattle.net_core.specs.declared.net.NetPort.{NetPort}
use Rattle.net_core.specs.declared.net.Src.{Src}

-- a cell of the primitive that its name and parameters give; a shown one is loaded and printed by a run
pub record CellLine : Type 0 where
  pub name : Text
  pub prim : Text
  pub params : List ℕ
  pub shown : Bool

-- a guarded assignment
pub record SetLine : Type 0 where
  pub dst : Text
  pub guard : Option (GuardTree Text)
  pub src : Src Text

pub record Netlist : Type 0 where
  pub name : Text
  pub ins : List Pin
  pub outs : List Pin
  pub wires : List Pin
  pub cells : List CellLine
  pub sets : List SetLine

-- a line between the first and the last
pub data Line : Type 0 where
  InLine : Pin → Line
  OutLine : Pin → Line
  WireLine : Pin → Line
  CellOf : CellLine → Line
  SetOf : SetLine → Line

-- the lines between the first and the last, in order; an item is the number of a line, counted from 1
abbrev pub lines_of : Netlist → List Line
lines_of n = map InLine n.ins ++ map OutLine n.outs ++ map WireLine n.wires ++ map CellOf n.cells ++ map SetOf n.sets

abbrev pub pin_of : List Text → NetPort → Pin
pin_of names p = record { name = text_of names p.name; width = p.width }

abbrev pub cell_of : List Text → NetCell → CellLine
cell_of names c =
    record { name = text_of names c.name; prim = text_of names c.prim; params = c.params.items; shown = c.shown }

abbrev pub set_of : List Text → NetAssign → SetLine
set_of names a =
    record { dst = text_of names a.dst; guard = guard_option (text_of names) a.guard; src = source_tree (text_of names) a.src }

-- each name's number replaced by its text
abbrev pub netlist_of : Net → Netlist
netlist_of net =
    record {
      name = text_of net.names net.name;
      ins = map (pin_of net.names) net.ins.items;
      outs = map (pin_of net.names) net.outs.items;
      wires = map (pin_of net.names) net.wires.items;
      cells = map (cell_of net.names) net.cells.items;
      sets = map (set_of net.names) net.sets.items;
    }
