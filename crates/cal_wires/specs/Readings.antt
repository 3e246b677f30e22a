-- What each part of a component says of which port or hole reads which within a row. This project's.
use Rattle.std.specs.Prelude.{◌≡◌, ◌⊎◌, ◌↔◌, ℕ, ◌+◌, true, List, [], ◌∷◌, length, slice_get, codes, Option, Some, None, All}
use Rattle.std.specs.List.{flat_map}
use Rattle.hw_names.specs.Name.{Text}
use Rattle.hw_prims.specs.Meaning.{is_through}
use Rattle.hw_prims.specs.Table.{inputs_of, outputs_of, pin_names}
use Rattle.hw_prims.specs.declared.prim.Primitive.{Primitive}
use Rattle.cal_ast.specs.Invoking.{invoke_group}
use Rattle.cal_ast.specs.Ports.{primitive_in}
use Rattle.cal_ast.specs.Sides.{IsSource}
use Rattle.cal_ast.specs.Tree.{PortName, own, port_of, CellDef, Assignment, DoneLine, GroupDef, Statement, Invoke, Component, Design}
use Rattle.cal_ast.specs.Wires.{all_groups, done_ports, set_ports}
use Rattle.cal_wires.specs.Nodes.{Node, APort, AHole, IsKey}
use Rattle.cal_wires.specs.WireGraphs.{Adds, HasReading, IsPair}
use Rattle.cal_wires.specs.declared.graph.WireGraph.{WireGraph}

-- the readings of each of a list, by its place in it
abbrev pub AnyAt : {X : Type 0} → (ℕ → X → Node → Node → Type 0) → List X → Node → Node → Type 0
AnyAt {X} R xs n o = (j : ℕ) × (x : X) × (slice_get xs j ≡ Some x) × R j x n o

abbrev pub AnyOf : {X : Type 0} → (X → Node → Node → Type 0) → List X → Node → Node → Type 0
AnyOf R xs = AnyAt (λ j. R) xs

-- the node reads each of the ports
abbrev pub ReadsEach : Node → List PortName → Node → Node → Type 0
ReadsEach node ports = AnyOf (λ port. IsPair node (APort port)) ports

-- the node reads the hole of this number, if there is one
abbrev pub ReadsHole : Option ℕ → Node → Node → Node → Type 0
ReadsHole None node n o = ⊥
ReadsHole (Some k) node n o = IsPair node (AHole k) n o

-- an assignment's destination reads what it reads, and the hole of its group
abbrev pub ReadsSet : Option ℕ → Assignment → Node → Node → Type 0
ReadsSet hole a n o = ReadsEach (APort a.dst) (set_ports a) n o ⊎ ReadsHole hole (APort a.dst) n o

abbrev pub ReadsSets : Option ℕ → List Assignment → Node → Node → Type 0
ReadsSets hole sets = AnyOf (ReadsSet hole) sets

-- a hole reads what the done lines of its group read, and the component's input go
abbrev pub ReadsDone : ℕ → DoneLine → Node → Node → Type 0
ReadsDone k d = ReadsEach (AHole k) (done_ports d)

abbrev pub ReadsDones : ℕ → List DoneLine → Node → Node → Type 0
ReadsDones k dones = AnyOf (ReadsDone k) dones

abbrev pub ReadsGo : Design → Component → ℕ → Node → Node → Type 0
ReadsGo design c k n o = IsSource design c (own (codes "go")) × IsPair (AHole k) (APort (own (codes "go"))) n o

abbrev pub ReadsGroup : Design → Component → ℕ → GroupDef → Node → Node → Type 0
ReadsGroup design c k g n o = (ReadsGo design c k n o ⊎ ReadsSets (Some k) g.sets n o) ⊎ ReadsDones k g.dones n o

-- groups that are counted from a number on
abbrev pub ReadsGroups : Design → Component → ℕ → List GroupDef → Node → Node → Type 0
ReadsGroups design c from groups = AnyAt (λ j. ReadsGroup design c (from + j)) groups

-- the new graph has the readings of these groups more, and a hole for each
pub record AddsGroups (design : Design) (c : Component) (groups : List GroupDef) (old new : WireGraph) : Type 0 where
  pub adds : Adds (ReadsGroups design c old.holes groups) old new
  pub holes : new.holes ≡ old.holes + length groups

-- the group that a statement stands for, if it is an invoke
abbrev pub group_invoked : Design → Component → Statement → List GroupDef
group_invoked design c (Invoke cell ins outs) = invoke_group design c [] (record { item = 0; cell = cell; ins = ins; outs = outs }) ∷ []
group_invoked design c s = []

abbrev pub groups_invoked : Design → Component → List Statement → List GroupDef
groups_invoked design c statements = flat_map (group_invoked design c) statements

-- an output of a cell of a primitive reads the inputs on which it depends within a row
abbrev pub ReadsThrough : Text → Primitive → Text → Text → Node → Node → Type 0
ReadsThrough cell prim output input n o = (is_through prim input output ≡ true) × IsPair (APort (port_of cell output)) (APort (port_of cell input)) n o

abbrev pub ReadsOutput : Text → Primitive → Text → Node → Node → Type 0
ReadsOutput cell prim output = AnyOf (ReadsThrough cell prim output) (pin_names (inputs_of prim))

abbrev pub ReadsInPrimitive : Text → Primitive → Node → Node → Type 0
ReadsInPrimitive cell prim = AnyOf (ReadsOutput cell prim) (pin_names (outputs_of prim))

-- so of the cell of a name, if it is of a primitive
abbrev pub ReadsPrimitive : Component → Text → Node → Node → Type 0
ReadsPrimitive c cell n o = (prim : Primitive) × (primitive_in c cell ≡ Some prim) × ReadsInPrimitive cell prim n o

-- and of each cell of the component
abbrev pub ReadsPrimitives : Component → Node → Node → Type 0
ReadsPrimitives c = AnyOf (λ (cell : CellDef). ReadsPrimitive c cell.name) c.cells

-- what the component's own text says: its assignments, its groups with those of invokes, and its cells of primitives
abbrev pub ReadsOwn : Design → Component → Node → Node → Type 0
ReadsOwn design c n o = (ReadsSets None c.sets n o ⊎ ReadsGroups design c 0 (all_groups design c) n o) ⊎ ReadsPrimitives c n o

-- the graph has this and nothing else
pub record HasOwnReadings (design : Design) (c : Component) (g : WireGraph) : Type 0 where
  pub nodes : All IsKey g.ports.keys
  pub reads : (n o : Node) → HasReading g n o ↔ ReadsOwn design c n o
