-- The Verilog module of a netlist. This project's.
use Rattle.std.specs.Prelude.{List, [], ◌∷◌, ◌++◌, bytes_eq, codes, filter, map, flat_map, Option, None, Some}
use Rattle.hw_names.specs.Name.{Text}
use Rattle.hw_prims.specs.Table.{Pin, prim_of}
use Rattle.hw_prims.specs.declared.prim.Primitive.{Primitive}
use Rattle.net_core.specs.Guard.{GuardTree, GuardTrees, Reads, Compares, Negates, AllOf, AnyOf, NoGuards, MoreGuards}
use Rattle.net_core.specs.Netlist.{Netlist, CellLine, SetLine, WireLine, CellOf}
use Rattle.net_core.specs.Rules.{PortLine, ports_at, ports_of}
use Rattle.net_core.specs.declared.net.Cmp.{Cmp}
use Rattle.net_core.specs.declared.net.Cmp.TheVariants.{Eq, Neq, Lt, Gt, Le, Ge}
use Rattle.net_core.specs.declared.net.Src.{Src}
use Rattle.net_core.specs.declared.net.Src.TheVariants.{Port, Lit}
use Rattle.ver_lang.specs.CellItems.{cell_items}
use Rattle.ver_lang.specs.Tree.{Operator, Equal, Unequal, Less, Greater, AtMost, AtLeast, And, Or, Expr, Name, Literal, Negation, Binary, Choice, Bracketed}
use Rattle.ver_lang.specs.Tree.{Signal, Item, Wire, Assign, Module}

abbrev pub source_expr : Src Text → Expr
source_expr (Port p) = Name p
source_expr (Lit width value) = Literal width value

abbrev pub comparison : Cmp → Operator
comparison Eq = Equal
comparison Neq = Unequal
comparison Lt = Less
comparison Gt = Greater
comparison Le = AtMost
comparison Ge = AtLeast

-- S, (S op S), (!G), (G && G) or (G || G)
abbrev mutual
  pub guard_expr : GuardTree Text → Expr
  guard_expr (Reads s) = source_expr s
  guard_expr (Compares op a b) = Bracketed (Binary (comparison op) (source_expr a) (source_expr b))
  guard_expr (Negates g) = Bracketed (Negation (guard_expr g))
  guard_expr (AllOf gs) = Bracketed (guards_expr And gs)
  guard_expr (AnyOf gs) = Bracketed (guards_expr Or gs)

  -- a list has two guards or more; of none, which no text has, something stands
  pub guards_expr : Operator → GuardTrees Text → Expr
  guards_expr op NoGuards = Literal 1 0
  guards_expr op (MoreGuards g gs) = after_guard op (guard_expr g) gs

  -- these guards after what stands before them
  pub after_guard : Operator → Expr → GuardTrees Text → Expr
  after_guard op before NoGuards = before
  after_guard op before (MoreGuards g gs) = after_guard op (Binary op before (guard_expr g)) gs

-- (G) ? S : others; S alone where there is no guard
abbrev pub guarded : Option (GuardTree Text) → Expr → Expr → Expr
guarded None value others = value
guarded (Some g) value others = Choice (Bracketed (guard_expr g)) value others

-- what drives a port of this width: the source of the first assignment whose guard is true, else 0
abbrev pub driven_value : SetLine → Expr → Expr
driven_value a others = guarded a.guard (source_expr a.src) others

-- the assignments of a port, in their order
abbrev pub sets_to : Text → List SetLine → List SetLine
sets_to port sets = filter (λ (a : SetLine). bytes_eq a.dst port) sets

-- a list of assignments, from the first on
unfoldable pub chain : Expr → List SetLine → Expr
chain last [] = last
chain last (a ∷ sets) = driven_value a (chain last sets)

abbrev pub drive_item : List SetLine → PortLine → Item
drive_item sets p = Assign p.name (chain (Literal p.width 0) (sets_to p.name sets))

-- the cell's items; a cell that is none of a primitive has none
abbrev pub made_items : Text → Option Primitive → List Item
made_items cell None = []
made_items cell (Some prim) = cell_items cell prim

abbrev pub items_of_cell : CellLine → List Item
items_of_cell c = made_items c.name (prim_of c.prim c.params)

abbrev pub pin_signal : Pin → Signal
pin_signal p = record { name = p.name; width = p.width }

abbrev pub line_signal : PortLine → Signal
line_signal p = record { name = p.name; width = p.width }

-- the ports that are no ports of the module: wires, then the ports of each cell
abbrev pub inner_ports : Netlist → List PortLine
inner_ports n = flat_map ports_at (map WireLine n.wires ++ map CellOf n.cells)

-- a wire for each of these, then the items of each cell, then what drives each port that may be driven
abbrev pub items_of : Netlist → List Item
items_of n =
    map (λ p. Wire (line_signal p)) (inner_ports n) ++ flat_map items_of_cell n.cells
    ++ map (drive_item n.sets) (filter (λ (p : PortLine). p.writable) (ports_of n))

-- the clock's name is one that no port has
abbrev pub module_of : Netlist → Module
module_of n =
    record {
      name = n.name;
      clock = codes "$clk";
      ins = map pin_signal n.ins;
      outs = map pin_signal n.outs;
      items = items_of n;
    }
