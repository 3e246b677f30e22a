-- What a design keeps whose groups, which acted where rules say so, have become guarded wires. Calyx, ASPLOS 2021; the words are this project's.
use Rattle.std.specs.Prelude.{◌≡◌, ℕ, List, slice_get, Some}
use Rattle.std.specs.List.{AllZip}
use Rattle.cal_ast.specs.CalRun.{StoppedBareRun}
use Rattle.cal_ast.specs.Holes.{ActivityRule, HoleRun}
use Rattle.cal_ast.specs.Keeping.{KeepsCells, KeepsRuns}
use Rattle.cal_ast.specs.Plain.{HasPlainTree}
use Rattle.cal_ast.specs.Tree.{Component, Design}
use Rattle.cal_ast.specs.Wired.{IsWired}
use Rattle.cal_ast.specs.Written.{DesignIsWritten, RulesAreWritten}

-- the same components in their order, with the same cells, as wires alone, which keep C1 to C12; and from each component as the top, each run of the wires
-- is one of the source
pub record RemovesGroups (source : Design) (rules : List ActivityRule) (wires : Design) : Type 0 where
  pub components : AllZip KeepsCells source wires
  pub wired : IsWired wires
  pub runs : (n : ℕ) (c d : Component) → slice_get source n ≡ Some c → slice_get wires n ≡ Some d →
      KeepsRuns (StoppedBareRun wires d) (HoleRun source rules c)
  -- names stay plain, and where the source and the rules have a text, so have the wires
  pub plain : HasPlainTree source → HasPlainTree wires
  pub written : DesignIsWritten source → RulesAreWritten rules → DesignIsWritten wires
