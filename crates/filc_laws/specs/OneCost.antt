-- What a Calyx design costs is one number: what it weighs, and how many words its memories have. This project's.
use Rattle.std.specs.Prelude.{◌≡◌, ℕ}
use Rattle.cal_ast.specs.Tree.{Design}
use Rattle.cal_check.specs.Weight.{IsWeight, AreWords}

abbrev pub CalWeightIsOne : Type 0
CalWeightIsOne = (design : Design) (weight other : ℕ) → IsWeight design weight → IsWeight design other → weight ≡ other

abbrev pub CalWordsAreOne : Type 0
CalWordsAreOne = (design : Design) (words other : ℕ) → AreWords design words → AreWords design other → words ≡ other
