-- What a Calyx design of wires keeps of the Filament design that is lowered to it. Filament, PLDI 2023; Calyx, ASPLOS 2021; the words are this project's.
use Rattle.std.specs.Prelude.{◌≡◌, ◌⊎◌, ℕ, false, List, [], ◌∷◌, codes, length, map, take, unwrap_or, slice_get, Option, Some, None, All, Contains}
use Rattle.hw_names.specs.Name.{Text}
use Rattle.hw_prims.specs.Row.{Trace}
use Rattle.net_core.specs.Guard.{GuardTree, Reads, AnyOf, guards_of}
use Rattle.net_core.specs.declared.net.Src.TheVariants.{Port, Lit}
use Rattle.cal_ast.specs.CalRun.{BareRun, bare, cal_circuit}
use Rattle.cal_ast.specs.Plain as calyx_names
use Rattle.cal_ast.specs.Tree as calyx
use Rattle.cal_ast.specs.Tree.{Assignment, CellDef, PortName}
use Rattle.cal_ast.specs.Wired.{IsWired}
use Rattle.fil_ast.specs.Primitives.{table_name}
use Rattle.fil_ast.specs.Scope.{Instance}
use Rattle.fil_ast.specs.Tree.{Component, Design}
use Rattle.fil_ast.specs.Wires.{whole_scope}
use Rattle.fil_promise.specs.Refines.{IsGenerated, CarriesLists, inputs_of, outputs_of}
use Rattle.fil_lower.specs.Wires.{IsWiredDesign}

-- ---- cells

-- an instance as a cell, of the primitive of Calyx's table or of the component of that name
abbrev pub instance_cell : Instance → CellDef
instance_cell i = record { name = i.name; made = unwrap_or (table_name i.made) i.made; params = i.params; external = false }

-- a register of one bit that lowering adds, with one of the names that it makes; it is not external
abbrev pub IsMadeByLowering : CellDef → Type 0
IsMadeByLowering cell = IsGenerated cell.name × (cell ≡ record { name = cell.name; made = codes "std_reg"; params = 1 ∷ []; external = false })

-- each instance is a cell, and each other cell is a register that lowering adds
pub record HasInstanceCells (instances : List Instance) (cells : List CellDef) : Type 0 where
  pub all : (i : Instance) → Contains instances i → Contains cells (instance_cell i)
  pub only : (cell : CellDef) → Contains cells cell → Contains (map instance_cell instances) cell ⊎ IsMadeByLowering cell

-- ---- guards

-- the guard asks whether one of some ports is 1: of none, of one, or of two or more; where it is missing, the assignment always acts
pub data AsksForBits : Option (GuardTree PortName) → Type 0 where
  Always : AsksForBits None
  Never : AsksForBits (Some (Reads (Lit 1 0)))
  OfOne : (bit : PortName) → AsksForBits (Some (Reads (Port bit)))
  OfSome : (one other : PortName) (bits : List PortName) → AsksForBits (Some (AnyOf (guards_of (map (λ p. Reads (Port p)) (one ∷ other ∷ bits)))))

abbrev pub IsBitGuarded : Assignment → Type 0
IsBitGuarded a = AsksForBits a.guard

-- ---- components

-- component n keeps its name and its ports, interface ports first, and its instances; and with it as the top, at every path, wires do what bodies say, and
-- every legal list of transactions is carried, without a Conflict
pub record KeepsComponent (comps : Design) (design : calyx.Design) (n : ℕ) (c : Component) (low : calyx.Component) : Type 0 where
  pub name : low.name ≡ c.name
  pub ins : low.ins ≡ inputs_of c
  pub outs : low.outs ≡ outputs_of c
  pub cells : HasInstanceCells (whole_scope (take n comps) c).instances low.cells
  pub guards : All IsBitGuarded low.sets
  pub wires : (asked : ℕ) (inputs : Trace) (loads : Text → List ℕ) (height : ℕ) (trace : Trace) → BareRun design low asked inputs loads height trace →
      IsWiredDesign comps n height trace
  pub carries : CarriesLists comps n c (cal_circuit design low bare)

-- the same components in their order, as wires alone, and C1 to C12 hold; names are plain
pub record Lowers (comps : Design) (design : calyx.Design) : Type 0 where
  pub count : length design ≡ length comps
  pub components : (n : ℕ) (c : Component) (low : calyx.Component) → slice_get comps n ≡ Some c → slice_get design n ≡ Some low →
      KeepsComponent comps design n c low
  pub wired : IsWired design
  pub plain : calyx_names.HasPlainTree design
