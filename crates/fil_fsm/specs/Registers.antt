-- The texts of a chain of registers: those that all have in common, and the name of each. This project's.
use Rattle.std.specs.Prelude.{◌≡◌, ℕ, List, ◌++◌, codes, decimal, slice_get, Some, All}
use Rattle.hw_names.specs.Name.{Text}
use Rattle.cal_ast.specs.Numbers.{CellHasNumbers, PortHasNumbers, SetHasNumbers}
use Rattle.fil_fsm.specs.declared.register.RegisterTexts.{RegisterTexts}
use Rattle.fil_fsm.specs.declared.shift.FsmParts.{FsmParts}

-- the name of a number
abbrev pub generated_name : ℕ → Text
generated_name number = codes "f$" ++ decimal number

-- in this list the numbers are those of the texts
pub record AreRegisterTexts (names : List Text) (texts : RegisterTexts) : Type 0 where
  pub made : slice_get names texts.made.0 ≡ Some (codes "std_reg")
  pub input : slice_get names texts.input.0 ≡ Some (codes "in")
  pub enable : slice_get names texts.enable.0 ≡ Some (codes "write_en")
  pub output : slice_get names texts.output.0 ≡ Some (codes "out")

-- the parts have numbers of the names
pub record PartsHaveNumbers (names : List Text) (parts : FsmParts) : Type 0 where
  pub cells : All (CellHasNumbers names) parts.cells.items
  pub sets : All (SetHasNumbers names) parts.sets.items
  pub bits : All (PortHasNumbers names) parts.bits.items
