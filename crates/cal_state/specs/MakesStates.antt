-- What a design keeps whose control has become states. Calyx, ASPLOS 2021; the words are this project's.
use Rattle.std.specs.Prelude.{◌≡◌, ℕ, true, false, List, slice_get, Some}
use Rattle.cal_ast.specs.Holes.{ActivityRule}
use Rattle.cal_ast.specs.Ports.{is_bare}
use Rattle.cal_ast.specs.Registers.{HasFewRegisters}
use Rattle.cal_ast.specs.Tree.{Component, Design}
use Rattle.cal_ast.specs.Written.{DesignIsWritten, RulesAreWritten}
use Rattle.cal_lower.specs.ReplacesControl.{ReplacesControl}

-- rules stand in place of control; control has become few registers, and a component that no control starts keeps its cells
pub record MakesStates (source answer : Design) (rules : List ActivityRule) : Type 0 where
  pub replaces : ReplacesControl source answer rules
  pub registers : (n : ℕ) (c d : Component) → slice_get source n ≡ Some c → slice_get answer n ≡ Some d → is_bare c ≡ false → HasFewRegisters c d
  pub bare_cells : (n : ℕ) (c d : Component) → slice_get source n ≡ Some c → slice_get answer n ≡ Some d → is_bare c ≡ true → d.cells ≡ c.cells
  -- where the source has a text, so have the answer and its rules
  pub written : DesignIsWritten source → DesignIsWritten answer
  pub written_rules : DesignIsWritten source → RulesAreWritten rules
