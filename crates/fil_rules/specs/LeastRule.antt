-- The least of the rules F1 to F13 that is broken at one item, with what it shows. This project's.
use Rattle.std.specs.Prelude.{◌≡◌, ℕ, ◌+◌, ◌<◌, slice_get, Some}
use Rattle.fil_ast.specs.Evidence as shown
use Rattle.fil_ast.specs.Rules.{Rule, all_rules}
use Rattle.fil_rules.specs.Least.{evidence_of}
use Rattle.fil_rules.specs.declared.rules.ItemEnd.{ItemEnd}
use Rattle.fil_rules.specs.declared.rules.ItemEnd.TheVariants.{Broken, Memory}
use Rattle.fil_rules.specs.declared.rules.Rule as code
use Rattle.fil_rules.specs.declared.rules.Rule.TheVariants as variant

-- the number of the rule that code names so
abbrev pub number_of : code.Rule → ℕ
number_of variant.F1 = 1
number_of variant.F2 = 2
number_of variant.F3 = 3
number_of variant.F4 = 4
number_of variant.F5 = 5
number_of variant.F6 = 6
number_of variant.F7 = 7
number_of variant.F8 = 8
number_of variant.F9 = 9
number_of variant.F10 = 10
number_of variant.F11 = 11
number_of variant.F12 = 12
number_of variant.F13 = 13

-- rules have the numbers 1 to 13; `keeps` says which hold at the item, and `shows` what one that does not shows
pub record IsLeastBroken (keeps : Rule → Type 0) (shows : Rule → shown.Evidence → Type 0) (number : ℕ) (evidence : shown.Evidence) : Type 0 where
  pub place : ℕ
  pub counted : place + 1 ≡ number
  pub lesser : (q : ℕ) (rule : Rule) → q < place → slice_get all_rules q ≡ Some rule → keeps rule
  pub rule : Rule
  pub numbered : slice_get all_rules place ≡ Some rule
  pub broken : ¬ keeps rule
  pub is_shown : shows rule evidence

-- the refusal tells the least broken rule and what it shows; want of memory tells nothing
abbrev pub TellsLeast : (Rule → Type 0) → (Rule → shown.Evidence → Type 0) → ItemEnd → Type 0
TellsLeast keeps shows (Broken broken) = IsLeastBroken keeps shows (number_of broken.rule) (evidence_of broken.evidence)
TellsLeast keeps shows Memory = Unit {0}
