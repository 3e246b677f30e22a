-- That parts of a design in memory are copies of others, with the same numbers of names. This project's.
use Rattle.std.specs.Prelude.{◌≡◌, List, Option}
use Rattle.hw_names.specs.Name.{Text}
use Rattle.net_core.specs.Guard.{GuardTree, guard_tree, guard_option}
use Rattle.net_core.specs.declared.net.Guard.{Guard}
use Rattle.cal_ast.specs.Numbers.{GuardHasNumbers, WhenHasNumbers, CellHasNumbers, SetHasNumbers, DoneHasNumbers, GroupHasNumbers}
use Rattle.cal_ast.specs.Tree.{PortName, port_tree, cell_tree, assignment_tree, done_tree, group_tree}
use Rattle.cal_ast.specs.declared.tree.Assign.{Assign}
use Rattle.cal_ast.specs.declared.tree.CalCell.{CalCell}
use Rattle.cal_ast.specs.declared.tree.CalPort.{CalPort}
use Rattle.cal_ast.specs.declared.tree.DoneSet.{DoneSet}
use Rattle.cal_ast.specs.declared.tree.Group.{Group}

-- whatever the names are, the copy has the other's tree, and numbers where the other has
pub record IsCopy {X Y : Type 0} (Numbered : List Text → X → Type 0) (tree_of : List Text → X → Y) (x copy : X) : Type 0 where
  pub numbers : (names : List Text) → Numbered names x → Numbered names copy
  pub tree : (names : List Text) → tree_of names copy ≡ tree_of names x

abbrev pub port_guard : List Text → Guard CalPort → GuardTree PortName
port_guard names g = guard_tree (port_tree names) g

abbrev pub port_when : List Text → Option (Guard CalPort) → Option (GuardTree PortName)
port_when names g = guard_option (port_tree names) g

abbrev pub IsGuardCopy : Guard CalPort → Guard CalPort → Type 0
IsGuardCopy = IsCopy GuardHasNumbers port_guard

abbrev pub IsWhenCopy : Option (Guard CalPort) → Option (Guard CalPort) → Type 0
IsWhenCopy = IsCopy WhenHasNumbers port_when

abbrev pub IsSetCopy : Assign → Assign → Type 0
IsSetCopy = IsCopy SetHasNumbers assignment_tree

abbrev pub IsDoneCopy : DoneSet → DoneSet → Type 0
IsDoneCopy = IsCopy DoneHasNumbers done_tree

abbrev pub IsGroupCopy : Group → Group → Type 0
IsGroupCopy = IsCopy GroupHasNumbers group_tree

abbrev pub IsCellCopy : CalCell → CalCell → Type 0
IsCellCopy = IsCopy CellHasNumbers cell_tree
