-- Ports in the order of their names, by bytes. This project's.
use Rattle.std.specs.Prelude.{◌≡◌, ◌≢◌, ◌⊎◌, ℕ, ◌<◌, Bool, true, false, List, [], length, Option, Some, None, slice_index_or}
use Rattle.std.specs.Cmp.Lexicographic.{slice_cmp}
use Rattle.std.specs.Ordering.{nat_cmp}
use Rattle.std.specs.declared.cmp.Ordering.TheVariants.{Greater}
use Rattle.hw_names.specs.Name.{Text}

-- the one port's name is not above the other's
abbrev pub IsAtMost : List Text → ℕ → ℕ → Type 0
IsAtMost names a b = slice_cmp nat_cmp (slice_index_or names a []) (slice_index_or names b []) ≢ Greater

-- the lesser of two ports
pub record IsLesser (names : List Text) (a b least : ℕ) : Type 0 where
  pub one : (least ≡ a) ⊎ (least ≡ b)
  pub first : IsAtMost names least a
  pub second : IsAtMost names least b

-- the lesser of the port that was found and of another
abbrev pub IsLeastWith : List Text → Option ℕ → ℕ → ℕ → Type 0
IsLeastWith names (Some found) port least = IsLesser names found port least
IsLeastWith names None port least = least ≡ port

-- the least port that has a mark
pub record IsLeastMarked (names : List Text) (marks : List Bool) (least : ℕ) : Type 0 where
  pub within : least < length marks
  pub marked : slice_index_or marks least false ≡ true
  pub first : (port : ℕ) → port < length marks → slice_index_or marks port false ≡ true → IsAtMost names least port
