-- What a design of wires alone keeps of the Calyx design that it is lowered from, and what text it has. Calyx, ASPLOS 2021; the words are this project's.
use Rattle.std.specs.Prelude.{◌≡◌, ℕ, true, false, slice_get, Some}
use Rattle.hw_names.specs.Name.{Text}
use Rattle.cal_ast.specs.CalRun.{StoppedBareRun}
use Rattle.cal_ast.specs.Keeping.{AddsNoStates, Agree, KeepsRuns, KeepsShape}
use Rattle.cal_ast.specs.Ports.{is_bare}
use Rattle.cal_ast.specs.Schedule.{Run}
use Rattle.cal_ast.specs.Tree.{Component, Design}
use Rattle.cal_ast.specs.Wired.{IsWired}
use Rattle.cal_parse.specs.Spelling.{SpellsDesign}
use Rattle.cal_print.specs.Layout.{design_text}
use Rattle.cal_ast.specs.Registers.{HasFewRegisters}

-- from this component as the top, each run of the wires is one of the source, and shows what all runs of the source of the same inputs and words do
pub record KeepsMeaning (source wires : Design) (c d : Component) : Type 0 where
  pub runs : KeepsRuns (StoppedBareRun wires d) (Run source c)
  pub agree : Agree source c (StoppedBareRun wires d) (Run source c)

-- the same components in their order, bare and without groups; C1 to C12 hold; control has become few registers, and a component without control gets no
-- cell with a state; and each component means what it meant
pub record LowersControl (source wires : Design) : Type 0 where
  pub wired : IsWired wires
  pub shape : KeepsShape source wires
  pub registers : (n : ℕ) (c d : Component) → slice_get source n ≡ Some c → slice_get wires n ≡ Some d → is_bare c ≡ false → HasFewRegisters c d
  pub no_states : (n : ℕ) (c d : Component) → slice_get source n ≡ Some c → slice_get wires n ≡ Some d → is_bare c ≡ true → AddsNoStates c d
  pub means : (n : ℕ) (c d : Component) → slice_get source n ≡ Some c → slice_get wires n ≡ Some d → KeepsMeaning source wires c d

-- the text is the canonical one of such a design, and it spells it, so it is read back to the same tree
pub record IsLoweredText (source : Design) (text : Text) : Type 0 where
  pub wires : Design
  pub lowers : LowersControl source wires
  pub is : text ≡ design_text wires
  pub spells : SpellsDesign text wires
