-- A netlist that lists a design's instances one after another, each once: its wires, cells and assignments are theirs, with full names. This project's.
use Rattle.std.specs.Prelude.{◌≡◌, ◌≢◌, List, [], ◌∷◌, ◌++◌, map, filter, flat_map, Some, option_map, All, AllPairs, Contains}
use Rattle.hw_names.specs.Name.{Path, full_name}
use Rattle.hw_prims.specs.Table.{Pin, is_primitive}
use Rattle.net_core.specs.Guard.{GuardTree, GuardTrees, Reads, Compares, Negates, AllOf, AnyOf, NoGuards, MoreGuards, source_tree}
use Rattle.net_core.specs.Netlist.{CellLine, SetLine, Netlist}
use Rattle.cal_ast.specs.Instances.{component_at, port_name}
use Rattle.cal_ast.specs.Tree.{CellDef, Assignment, Component, Design}
use Rattle.cal_ast.specs.Keeping.{flat_cell}

-- an instance: its path from the top, and its component
abbrev pub Instance : Type 0
Instance = Path × Component

-- the guard with each port seen by f
abbrev mutual
  pub map_guard : {P Q : Type 0} → (P → Q) → GuardTree P → GuardTree Q
  map_guard f (Reads s) = Reads (source_tree f s)
  map_guard f (Compares op a b) = Compares op (source_tree f a) (source_tree f b)
  map_guard f (Negates g) = Negates (map_guard f g)
  map_guard f (AllOf gs) = AllOf (map_guards f gs)
  map_guard f (AnyOf gs) = AnyOf (map_guards f gs)

  pub map_guards : {P Q : Type 0} → (P → Q) → GuardTrees P → GuardTrees Q
  map_guards f NoGuards = NoGuards
  map_guards f (MoreGuards g gs) = MoreGuards (map_guard f g) (map_guards f gs)

-- an assignment of the component at the path, with full names
abbrev pub flat_set : Path → Assignment → SetLine
flat_set path a =
    record { dst = port_name path a.dst; guard = option_map (map_guard (port_name path)) a.guard; src = source_tree (port_name path) a.src }

abbrev pub flat_pin : Path → Pin → Pin
flat_pin path p = record { name = full_name path p.name; width = p.width }

-- the ports of an instance, but for the top's: wires of the netlist
abbrev pub wires_at : Instance → List Pin
wires_at i = map (flat_pin i.0) (i.1.ins ++ i.1.outs)

abbrev pub cells_at : Instance → List CellLine
cells_at i = map (flat_cell i.0) (filter (λ (c : CellDef). is_primitive c.made) i.1.cells)

abbrev pub sets_at : Instance → List SetLine
sets_at i = map (flat_set i.0) i.1.sets

-- the netlist lists the instances of the design below its top, the top first
pub record IsListing (design : Design) (top : Component) (n : Netlist) : Type 0 where
  pub others : List Instance
  pub found : (path : Path) (c : Component) → component_at design top path ≡ Some c → Contains (([], top) ∷ others) (path, c)
  pub listed : All (λ (i : Instance). component_at design top i.0 ≡ Some i.1) others
  pub once : AllPairs (λ (i j : Instance). i.0 ≢ j.0) (([], top) ∷ others)
  pub name : n.name ≡ top.name
  pub ins : n.ins ≡ top.ins
  pub outs : n.outs ≡ top.outs
  pub wires : n.wires ≡ flat_map wires_at others
  pub cells : n.cells ≡ flat_map cells_at (([], top) ∷ others)
  pub sets : n.sets ≡ flat_map sets_at (([], top) ∷ others)
