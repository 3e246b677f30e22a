-- Copies show what their sources do, and parts of the source show its trees under the names that are added to.
use Rattle.std.proofs.Common.{List, map, All, Option, ap₂, ◌∙◌}
use Rattle.std.specs.List.{AllZip}
use Rattle.hw_names.specs.Name.{KeepsTexts, Text}
use Rattle.net_core.specs.Guard.{GuardTree, guard_option, source_tree}
use Rattle.net_core.specs.declared.net.Guard.{Guard}
use Rattle.net_core.specs.declared.net.Src.{Src}
use Rattle.cal_ast.specs.Numbers.{CellHasNumbers, DoneHasNumbers, GroupHasNumbers, SetHasNumbers}
use Rattle.cal_ast.specs.Tree.{PortName, assignment_tree, cell_tree, group_tree, port_tree}
use Rattle.cal_ast.specs.declared.tree.Assign.{Assign}
use Rattle.cal_ast.specs.declared.tree.CalCell.{CalCell}
use Rattle.cal_ast.specs.declared.tree.CalPort.{CalPort}
use Rattle.cal_ast.specs.declared.tree.DoneSet.{DoneSet}
use Rattle.cal_ast.specs.declared.tree.Group.{Group}
use Rattle.cal_copy.proofs.CopyLemmas.{copies_number, copies_tree}
use Rattle.cal_copy.specs.inside.Copies.{IsCellCopy, IsCopy, IsGroupCopy, IsSetCopy, IsWhenCopy}
use Rattle.cal_lower.specs.inside.Shown.{DriveTree, ShowAll, ShowsDrive}
use Rattle.cal_lower.proofs.StableLemmas.{KeepsTexts-trans, cells_kept, cells_numbers, groups_kept, groups_numbers, sets_kept, sets_numbers, source_kept, source_numbers, when_kept, when_numbers}

pub copies_shown : {X Y : Type 0} (Numbered : List Text → X → Type 0) (tree_of : List Text → X → Y) (names : List Text) (ys : List Y) (xs copies : List X)
    → AllZip (IsCopy Numbered tree_of) xs copies → ShowAll Numbered tree_of names ys xs → ShowAll Numbered tree_of names ys copies
copies_shown Numbered tree_of names ys xs copies zip shows = record {
  trees = λ later more. copies_tree Numbered tree_of later xs copies zip ∙ shows.trees later more;
  numbers = λ later more. copies_number Numbered tree_of later xs copies zip (shows.numbers later more);
}

module _ (source names : List Text) (kept : KeepsTexts source names) where
  from_source : (later : List Text) → KeepsTexts names later → KeepsTexts source later
  from_source later more = KeepsTexts-trans source names later kept more

  pub cells_copied : (xs copies : List CalCell) → AllZip IsCellCopy xs copies → All (CellHasNumbers source) xs → ShowAll CellHasNumbers cell_tree names (map (cell_tree source) xs) copies
  cells_copied xs copies zip all = copies_shown CellHasNumbers cell_tree names (map (cell_tree source) xs) xs copies zip (record {
    trees = λ later more. cells_kept source later (from_source later more) xs all;
    numbers = λ later more. cells_numbers source later (from_source later more) xs all;
  })

  pub groups_copied : (xs copies : List Group) → AllZip IsGroupCopy xs copies → All (GroupHasNumbers source) xs → ShowAll GroupHasNumbers group_tree names (map (group_tree source) xs) copies
  groups_copied xs copies zip all = copies_shown GroupHasNumbers group_tree names (map (group_tree source) xs) xs copies zip (record {
    trees = λ later more. groups_kept source later (from_source later more) xs all;
    numbers = λ later more. groups_numbers source later (from_source later more) xs all;
  })

  pub sets_copied : (xs copies : List Assign) → AllZip IsSetCopy xs copies → All (SetHasNumbers source) xs → ShowAll SetHasNumbers assignment_tree names (map (assignment_tree source) xs) copies
  sets_copied xs copies zip all = copies_shown SetHasNumbers assignment_tree names (map (assignment_tree source) xs) xs copies zip (record {
    trees = λ later more. sets_kept source later (from_source later more) xs all;
    numbers = λ later more. sets_numbers source later (from_source later more) xs all;
  })

  -- what a done line gives, where its guard is copied
  abbrev pub done_drive : DoneSet → DriveTree
  done_drive d = record { guard = guard_option (port_tree source) d.guard; src = source_tree (port_tree source) d.src }

  pub done_driven : (d : DoneSet) (guard : Option (Guard CalPort)) → IsWhenCopy d.guard guard → DoneHasNumbers source d
      → ShowsDrive names (done_drive d) (record { guard = guard; src = d.src })
  done_driven d guard copy known = record {
    tree = λ later more.
        let k = from_source later more in
        ap₂ (λ (g : Option (GuardTree PortName)) (s : Src PortName). record { guard = g; src = s }) (copy.tree later ∙ when_kept source later k d.guard known.1) (source_kept source later k d.src known.2);
    numbers = λ later more.
        let k = from_source later more in
        (copy.numbers later (when_numbers source later k d.guard known.1), source_numbers source later k d.src known.2);
  }
