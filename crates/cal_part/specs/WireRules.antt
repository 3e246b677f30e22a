-- What the rules ask of a component of wires alone: of its signature, its cells and its assignments. Calyx documentation; the words are this project's.
use Rattle.std.specs.Prelude.{◌≡◌, ℕ, ◌<◌, List, take, slice_get, Some, Contains}
use Rattle.cal_ast.specs.Naming.{HasNewNames, IsKnownCell, NamesKnown, cell_names}
use Rattle.cal_ast.specs.Sides.{DrivesDestination, ReadsSources}
use Rattle.cal_ast.specs.Tree.{PortName, Assignment, CellDef, Component, Design}
use Rattle.cal_ast.specs.Typing.{HasParameters, HasWidths, WidthsAgree}
use Rattle.cal_ast.specs.Wires.{ReadsPort}

-- C1 to C3 at a cell, after these cells
pub record KeepsAtCell (design : Design) (c : Component) (before : List CellDef) (cell : CellDef) : Type 0 where
  pub new : ¬ Contains (cell_names before) cell.name
  pub known : IsKnownCell design c cell
  pub parameters : HasParameters cell

-- C2 and C4 to C6 at an assignment
pub record KeepsAtSet (design : Design) (c : Component) (a : Assignment) : Type 0 where
  pub known : NamesKnown design c a
  pub widths : WidthsAgree design c a
  pub drives : DrivesDestination design c a
  pub reads : ReadsSources design c a

-- at the signature, after these components, at each cell and at each assignment
pub record KeepsAsWires (design earlier : Design) (c : Component) : Type 0 where
  pub names : HasNewNames earlier c
  pub widths : HasWidths design c
  pub cells : (k : ℕ) (cell : CellDef) → slice_get c.cells k ≡ Some cell → KeepsAtCell design c (take k c.cells) cell
  pub sets : (a : Assignment) → Contains c.sets a → KeepsAtSet design c a

-- each port that a port reads within a row has a lower rank
abbrev pub FallsInRank : Design → Component → (PortName → ℕ) → Type 0
FallsInRank design c rank = (port other : PortName) → ReadsPort design c port other → rank other < rank port
