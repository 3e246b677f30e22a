-- What the expansion of a component's invokes has made, in memory. This project's.
use Rattle.std.specs.Prelude.{◌≡◌, ℕ, ◌+◌, List, [], ◌∷◌, ◌++◌, length, map, flat_map, codes, slice_get, slice_index_or}
use Rattle.std.specs.Prelude.{false, option_map, Some, None, IfSome, All, Contains}
use Rattle.hw_names.specs.Name.{Text, text_of, KeepsTexts}
use Rattle.hw_names.specs.declared.names.NameId.{NameId}
use Rattle.net_core.specs.Numbers.{IsNumberOf}
use Rattle.net_core.specs.declared.net.Src.TheVariants.{Port, Lit}
use Rattle.cal_ast.specs.Invoking.{InvokeDef, invokes_among, invoke_group, go_of}
use Rattle.cal_ast.specs.Items.{TheStatement, statements_in, unless_empty}
use Rattle.cal_ast.specs.Numbers.{CellHasNumbers, GroupHasNumbers, StatementHasNumbers}
use Rattle.cal_ast.specs.Ports.{cell_named}
use Rattle.cal_ast.specs.Tree.{cell_tree, group_tree, statement_tree, CellDef, GroupDef, InBinding, OutBinding, Statement, Invoke, Component, Design}
use Rattle.cal_ast.specs.declared.tree.Assign.{Assign}
use Rattle.cal_ast.specs.declared.tree.CalPort.{CalPort}
use Rattle.cal_ast.specs.declared.tree.Control.{Control}
use Rattle.cal_ast.specs.declared.tree.DoneSet.{DoneSet}
use Rattle.cal_ast.specs.declared.tree.Group.{Group}
use Rattle.cal_ast.specs.declared.tree.InBind.{InBind}
use Rattle.cal_ast.specs.declared.tree.OutBind.{OutBind}
use Rattle.cal_group.specs.inside.Expanded.{invoke_name, expanded_at}
use Rattle.cal_group.specs.declared.expand.Call.{Call}
use Rattle.cal_group.specs.declared.expand.CellTable.{CellTable}
use Rattle.cal_group.specs.declared.expand.PortNames.{PortNames}

abbrev pub port_at : NameId → NameId → CalPort
port_at cell pin = record { cell = Some cell; port = pin }

-- what an invoke gives the inputs of its cell, and where it takes the outputs
abbrev pub binding_sets : NameId → List InBind → List Assign
binding_sets cell ins = map (λ (b : InBind). record { dst = port_at cell b.port; guard = None; src = b.src }) ins

abbrev pub taking_sets : NameId → List OutBind → List Assign
taking_sets cell outs = map (λ (b : OutBind). record { dst = b.dst; guard = None; src = Port (port_at cell b.port) }) outs

abbrev pub start_set : NameId → NameId → Assign
start_set cell go = record { dst = port_at cell go; guard = None; src = Lit 1 1 }

abbrev pub done_line : NameId → NameId → NameId → DoneSet
done_line group cell done = record { of = group; guard = None; src = Port (port_at cell done) }

-- the group of this name starts the cell of the invoke with its inputs, takes its outputs, and is done when the cell is
pub record IsInvokedGroup (call : Call) (name : NameId) (group : Group) : Type 0 where
  pub name_is : group.name ≡ name
  pub acts : group.comb ≡ false
  pub sets : group.sets.items
      ≡ (binding_sets call.cell call.ins.now ++ start_set call.cell call.go ∷ []) ++ taking_sets call.cell call.outs.now
  pub dones : group.dones.items ≡ done_line name call.cell call.done ∷ []

-- the names are these, or more after them
abbrev pub IsLater : List Text → List Text → List Text → Type 0
IsLater names source later = KeepsTexts names later × KeepsTexts source later

-- each invoke among the statements is of a cell that can be started
abbrev pub CanStart : Design → Component → List Statement → Type 0
CanStart design c statements =
    (cell : Text) (ins : List InBinding) (outs : List OutBinding) → Contains statements (Invoke cell ins outs) →
    (go : Text) × (go_of design c cell ≡ Some go)

-- the groups of the invokes among statements that are counted from k
abbrev pub groups_of_invokes : Design → Component → ℕ → List Statement → List GroupDef
groups_of_invokes design c k statements =
    map (λ (i : InvokeDef). invoke_group design c (invoke_name i.item) i) (invokes_among k (map TheStatement statements))

-- after the groups there are those of the invokes among the statements, in these names and later ones
pub record AddsGroups (design : Design) (c : Component) (source names : List Text) (k : ℕ) (statements : List Statement)
    (before after : List Group) : Type 0 where
  pub numbers : (later : List Text) → IsLater names source later → All (GroupHasNumbers later) before → All (GroupHasNumbers later) after
  pub trees : (later : List Text) → IsLater names source later →
      map (group_tree later) after ≡ map (group_tree later) before ++ groups_of_invokes design c k statements

-- in these names and later ones the statement is the other, at item k, with an enable in place of each invoke
pub record IsExpansion (source names : List Text) (k : ℕ) (statement : Statement) (answer : Control) : Type 0 where
  pub numbers : (later : List Text) → IsLater names source later → StatementHasNumbers later answer
  pub tree : (later : List Text) → IsLater names source later → statement_tree later answer ≡ expanded_at k statement

-- the numbers are those of the names of ports that invokes use
pub record AreNamed (names : List Text) (ports : PortNames) : Type 0 where
  pub go : slice_get names ports.go.0 ≡ Some (codes "go")
  pub write_en : slice_get names ports.write_en.0 ≡ Some (codes "write_en")
  pub done : slice_get names ports.done.0 ≡ Some (codes "done")

-- the statements that a branch or a body counts as
abbrev pub counted : Statement → List Statement
counted s = unless_empty s (statements_in s)

-- the statements of a block, with those inside them
abbrev pub statements_listed : List Text → List Control → List Statement
statements_listed source statements = flat_map (λ (s : Control). statements_in (statement_tree source s)) statements

-- statements the first of which is at item k, each with an enable in place of each invoke
abbrev pub AreExpansions : List Text → List Text → ℕ → List Statement → List Control → Type 0
AreExpansions source names k [] [] = Unit {0}
AreExpansions source names k [] (x ∷ answers) = ⊥
AreExpansions source names k (s ∷ ss) [] = ⊥
AreExpansions source names k (s ∷ ss) (x ∷ answers) =
    IsExpansion source names k s x × AreExpansions source names (k + length (statements_in s)) ss answers

-- the table has a place for each name, and the cells in it have numbers
pub record HoldsCells (source : List Text) (table : CellTable) : Type 0 where
  pub sized : length table.by_name.items ≡ length source
  pub numbers : All (λ found. IfSome found (λ cell. CellHasNumbers source cell.now)) table.by_name.items

-- it has the component's cells, by the numbers of their names
abbrev pub HasCells : Component → List Text → CellTable → Type 0
HasCells c source table =
    (name : NameId) (cell : CellDef) → IsNumberOf source name → cell_named c.cells (text_of source name) ≡ Some cell →
    option_map (λ made. cell_tree source made.now) (slice_index_or table.by_name.items name.0 None) ≡ Some cell
