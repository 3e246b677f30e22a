-- What an invoke stands for: a group that starts a cell with inputs, takes its outputs, and is done when the cell is. Calyx, ASPLOS 2021; which
-- port starts a cell is this project's.
use Rattle.std.specs.Prelude.{ℕ, ◌+◌, List, [], ◌∷◌, ◌++◌, map, false, codes, if◌then◌else◌, Option, Some, None}
use Rattle.hw_names.specs.Name.{Text}
use Rattle.hw_prims.specs.Memory.{keeps_words}
use Rattle.hw_prims.specs.declared.prim.Primitive.{Primitive}
use Rattle.hw_prims.specs.declared.prim.Primitive.TheVariants.{StdReg, StdMultPipe}
use Rattle.net_core.specs.declared.net.Src.TheVariants.{Port, Lit}
use Rattle.cal_ast.specs.Items.{Item, TheStatement, items_of}
use Rattle.cal_ast.specs.Ports.{primitive_in, part_in}
use Rattle.cal_ast.specs.Tree.{port_of, Assignment, DoneLine, GroupDef, InBinding, OutBinding, Invoke, Component, Design}

-- the port that starts a primitive, if it can be invoked
abbrev pub primitive_go : Primitive → Option Text
primitive_go (StdReg w) = Some (codes "write_en")
primitive_go (StdMultPipe w) = Some (codes "go")
primitive_go prim = if keeps_words prim then Some (codes "write_en") else None

-- the port that starts a cell of this primitive or component
abbrev pub made_go : Option Primitive → Option Component → Option Text
made_go (Some prim) part = primitive_go prim
made_go None (Some part) = Some (codes "go")
made_go None None = None

abbrev pub go_of : Design → Component → Text → Option Text
go_of design c cell = made_go (primitive_in c cell) (part_in design c cell)

-- an invoke of a component, with its item
pub record InvokeDef : Type 0 where
  pub item : ℕ
  pub cell : Text
  pub ins : List InBinding
  pub outs : List OutBinding

-- the invokes among items that are counted from k
abbrev pub invokes_among : ℕ → List Item → List InvokeDef
invokes_among k [] = []
invokes_among k (TheStatement (Invoke cell ins outs) ∷ items) = record { item = k; cell = cell; ins = ins; outs = outs } ∷ invokes_among (k + 1) items
invokes_among k (item ∷ items) = invokes_among (k + 1) items

abbrev pub invokes_in : Component → List InvokeDef
invokes_in c = invokes_among 0 (items_of c)

abbrev pub gives_input : Text → InBinding → Assignment
gives_input cell b = record { dst = port_of cell b.pin; guard = None; src = b.src }

abbrev pub takes_output : Text → OutBinding → Assignment
takes_output cell b = record { dst = b.dst; guard = None; src = Port (port_of cell b.pin) }

abbrev pub starts_cell : Text → Option Text → List Assignment
starts_cell cell None = []
starts_cell cell (Some go) = record { dst = port_of cell go; guard = None; src = Lit 1 1 } ∷ []

-- the assignments of the group that an invoke stands for
abbrev pub invoke_sets : Design → Component → InvokeDef → List Assignment
invoke_sets design c i = map (gives_input i.cell) i.ins ++ starts_cell i.cell (go_of design c i.cell) ++ map (takes_output i.cell) i.outs

-- the group is done where the cell's done is 1
abbrev pub invoke_done : Text → Text → DoneLine
invoke_done group cell = record { group = group; guard = None; src = Port (port_of cell (codes "done")) }

-- the group that an invoke stands for, with a name
abbrev pub invoke_group : Design → Component → Text → InvokeDef → GroupDef
invoke_group design c name i =
    record { name = name; comb = false; sets = invoke_sets design c i; dones = invoke_done name i.cell ∷ [] }
