-- What is made of control shows trees, also under names that are added later. This project's.
use Rattle.std.specs.Prelude.{◌≡◌, ℕ, ◌==◌, List, [], ◌∷◌, ◌++◌, map, flat_map, All, Option, Some, slice_get, bytes_eq}
use Rattle.std.specs.Prelude.{if◌then◌else◌}
use Rattle.hw_names.specs.Name.{Text, KeepsTexts}
use Rattle.hw_names.specs.declared.names.NameId.{NameId}
use Rattle.net_core.specs.Guard.{GuardTree, guard_tree, guard_option, source_tree}
use Rattle.net_core.specs.declared.net.Guard.{Guard}
use Rattle.net_core.specs.declared.net.Src.{Src}
use Rattle.net_core.specs.declared.net.Src.TheVariants.{Lit}
use Rattle.cal_ast.specs.Numbers.{PortHasNumbers, GuardHasNumbers, WhenHasNumbers, SourceHasNumbers, CellHasNumbers, SetHasNumbers}
use Rattle.cal_ast.specs.Tree.{PortName, Assignment, port_tree, assignment_tree, cell_tree}
use Rattle.cal_ast.specs.declared.tree.CalPort.{CalPort}
use Rattle.cal_ast.specs.declared.tree.Assign.{Assign}
use Rattle.cal_lower.specs.inside.Pieces.{Kind, Piece, piece_cell, piece_sets}
use Rattle.cal_lower.specs.declared.acts.Acts.{Acts}
use Rattle.cal_lower.specs.declared.acts.Wanted.{Wanted}
use Rattle.cal_lower.specs.declared.pieces.Drive.{Drive}
use Rattle.cal_lower.specs.declared.pieces.Pieces.{Pieces}

-- under these names, and under any that keep their texts, it is the tree, and its names are numbers of them
pub record Shows {X Y : Type 0} (Numbered : List Text → X → Type 0) (tree_of : List Text → X → Y) (names : List Text) (y : Y) (x : X) : Type 0 where
  pub tree : (later : List Text) → KeepsTexts names later → tree_of later x ≡ y
  pub numbers : (later : List Text) → KeepsTexts names later → Numbered later x

-- the same of the elements of a list
pub record ShowAll {X Y : Type 0} (Numbered : List Text → X → Type 0) (tree_of : List Text → X → Y) (names : List Text) (ys : List Y) (xs : List X)
    : Type 0 where
  pub trees : (later : List Text) → KeepsTexts names later → map (tree_of later) xs ≡ ys
  pub numbers : (later : List Text) → KeepsTexts names later → All (Numbered later) xs

abbrev pub ShowsName : List Text → Text → NameId → Type 0
ShowsName names text id = slice_get names id.0 ≡ Some text

abbrev pub ShowsPort : List Text → PortName → CalPort → Type 0
ShowsPort = Shows PortHasNumbers port_tree

abbrev pub seen_guard : List Text → Guard CalPort → GuardTree PortName
seen_guard names g = guard_tree (port_tree names) g

abbrev pub ShowsGuard : List Text → GuardTree PortName → Guard CalPort → Type 0
ShowsGuard = Shows GuardHasNumbers seen_guard

abbrev pub ShowsGuards : List Text → List (GuardTree PortName) → List (Guard CalPort) → Type 0
ShowsGuards = ShowAll GuardHasNumbers seen_guard

-- ---- pieces

-- what drives a piece
pub record DriveTree : Type 0 where
  pub guard : Option (GuardTree PortName)
  pub src : Src PortName

abbrev pub one_when : GuardTree PortName → DriveTree
one_when guard = record { guard = Some guard; src = Lit 1 1 }

-- the piece of this kind and name that is driven so
abbrev pub driven : Kind → Text → DriveTree → Piece
driven kind name drive = record { kind = kind; name = name; guard = drive.guard; src = drive.src }

abbrev pub drive_tree : List Text → Drive → DriveTree
drive_tree names d = record { guard = guard_option (port_tree names) d.guard; src = source_tree (port_tree names) d.src }

abbrev pub DriveHasNumbers : List Text → Drive → Type 0
DriveHasNumbers names d = WhenHasNumbers names d.guard × SourceHasNumbers names d.src

abbrev pub ShowsDrive : List Text → DriveTree → Drive → Type 0
ShowsDrive = Shows DriveHasNumbers drive_tree

-- the cells and the assignments of these pieces
pub record ShowsPieces (names : List Text) (pieces : List Piece) (made : Pieces) : Type 0 where
  pub cells : ShowAll CellHasNumbers cell_tree names (map piece_cell pieces) made.cells.items
  pub sets : ShowAll SetHasNumbers assignment_tree names (flat_map piece_sets pieces) made.sets.items

-- these assignments were put last
abbrev pub ShowsSets : List Text → List Assign → List Assignment → List Assign → Type 0
ShowsSets names old more new =
    (sets : List Assignment) → ShowAll SetHasNumbers assignment_tree names sets old → ShowAll SetHasNumbers assignment_tree names (sets ++ more) new

-- ---- when groups are wanted

-- guards for each group, by its name
abbrev pub Guards : Type 0
Guards = Text → List (GuardTree PortName)

abbrev pub nothing : Guards
nothing group = []

-- and this guard for this group
abbrev pub more_of : Guards → Text → GuardTree PortName → Guards
more_of guards group guard = λ other. if bytes_eq group other then guards other ++ guard ∷ [] else guards other

pub record ShowsWanted (names : List Text) (when_enabled when_tested : List (GuardTree PortName)) (wanted : Wanted) : Type 0 where
  pub enabled : ShowsGuards names when_enabled wanted.enabled.items
  pub tested : ShowsGuards names when_tested wanted.tested.items

-- the guards of a group, and those of the tests that it is for
abbrev pub enabled_in : Wanted → List (Guard CalPort)
enabled_in w = w.enabled.items

abbrev pub tested_in : Wanted → List (Guard CalPort)
tested_in w = w.tested.items

-- the guard is put last among these of the group with this number, and nothing else is changed
abbrev pub PutsGuard : (these others : Wanted → List (Guard CalPort)) → ℕ → Guard CalPort → (old new : List Wanted) → Type 0
PutsGuard these others number guard old new =
    (n : ℕ) (w : Wanted) → slice_get old n ≡ Some w →
    (v : Wanted) × (slice_get new n ≡ Some v) × (others v ≡ others w) × (these v ≡ (if number == n then these w ++ guard ∷ [] else these w))

-- for each of the groups
pub record ShowsActs (names : List Text) (enabled tested : Guards) (acts : Acts) : Type 0 where
  pub at : (n : ℕ) (group : Text) → slice_get acts.groups n ≡ Some group →
      (w : Wanted) × (slice_get acts.wanted.items n ≡ Some w) × ShowsWanted names (enabled group) (tested group) w
