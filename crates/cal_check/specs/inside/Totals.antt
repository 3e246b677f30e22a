-- What components have of their own, and what they come to, as code has it: no more than the greatest number of 64 bits. This project's.
use Rattle.std.specs.Prelude.{◌≡◌, ℕ, List, length, slice_get, Some}
use Rattle.net_core.specs.Weight.{saturated}
use Rattle.cal_ast.specs.Tree.{Component, Design}
use Rattle.cal_place.specs.Nesting.{HasPart}
use Rattle.cal_check.specs.Weight.{ComesTo}

-- what each component has of its own
pub record AreOwn (design : Design) (own : Component → ℕ) (numbers : List ℕ) : Type 0 where
  pub sized : length numbers ≡ length design
  pub each : (n : ℕ) (c : Component) (number : ℕ) → slice_get design n ≡ Some c → slice_get numbers n ≡ Some number → number ≡ saturated (own c)

-- the component comes to so much
pub record IsWhole (design : Design) (own : Component → ℕ) (c : Component) (number : ℕ) : Type 0 where
  pub whole : ℕ
  pub comes : ComesTo design own c whole
  pub is : number ≡ saturated whole

-- what the components come to that component n has cells of
pub record ArePartsWhole (design : Design) (own : Component → ℕ) (n : ℕ) (numbers : List ℕ) : Type 0 where
  pub sized : length numbers ≡ length design
  pub each : (m : ℕ) (part : Component) (number : ℕ) → HasPart design n m → slice_get design m ≡ Some part → slice_get numbers m ≡ Some number →
      IsWhole design own part number
