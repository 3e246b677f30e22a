-- How many registers the control of a component is lowered to, and how wide they are. This project's.
use Rattle.std.specs.Prelude.{◌≡◌, ℕ, ◌+◌, ◌-◌, ◌^◌, ◌≤◌, Bool, false, List, [], ◌∷◌, ◌++◌, length, filter, codes, bytes_eq, All, Contains}
use Rattle.cal_ast.specs.Items.{control_statements}
use Rattle.cal_ast.specs.Keeping.{IsStatelessCell}
use Rattle.cal_ast.specs.Tree.{Statement, Enable, Seq, Par, If, While, Invoke, Statements, NoStatements, MoreStatements, CellDef, Component}

abbrev pub count : Statements → ℕ
count NoStatements = 0
count (MoreStatements s ss) = count ss + 1

-- how many statements stand directly in the statement, where it is a `par`
abbrev pub in_par : Statement → ℕ
in_par (Enable group) = 0
in_par (Seq ss) = 0
in_par (Par ss) = count ss
in_par (If port by s t) = 0
in_par (While port by s) = 0
in_par (Invoke cell ins outs) = 0

-- how many statements of the list stand directly in a `par` of it
abbrev pub parallel : List Statement → ℕ
parallel [] = 0
parallel (s ∷ ss) = in_par s + parallel ss

abbrev pub is_register : CellDef → Bool
is_register cell = bytes_eq cell.made (codes "std_reg")

-- a register that numbers the states of this many statements: not one bit for each
pub record IsNarrow (statements : ℕ) (cell : CellDef) : Type 0 where
  pub width : ℕ
  pub params : cell.params ≡ width ∷ []
  pub narrow : 2 ^ (width - 1) ≤ statements + 2

-- of cells that are added to the component one is a register for the main thread, and at most one for each statement that stands directly in a `par`; no
-- other one has a state
pub record AreFewRegisters (source : Component) (added : List CellDef) : Type 0 where
  pub few : length (filter is_register added) ≤ 1 + parallel (control_statements source.control)
  pub narrow : All (IsNarrow (length (control_statements source.control))) (filter is_register added)
  pub no_others : (cell : CellDef) → Contains added cell → is_register cell ≡ false → IsStatelessCell cell

-- the answer has the cells of the source, and further ones of which few are registers
pub record HasFewRegisters (source answer : Component) : Type 0 where
  pub added : List CellDef
  pub cells : answer.cells ≡ source.cells ++ added
  pub are : AreFewRegisters source added
