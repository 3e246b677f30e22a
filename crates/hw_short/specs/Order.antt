-- The order of full names, and names that tell it. This project's.
use Rattle.std.specs.Prelude.{◌≡◌, ◌≢◌, ℕ, ◌<◌, List, [], length, slice_get, slice_index_or, Option, Some, None}
use Rattle.std.specs.Cmp.Lexicographic.{slice_cmp}
use Rattle.std.specs.Ordering.{nat_cmp}
use Rattle.std.specs.declared.cmp.Ordering.TheVariants.{Greater}
use Rattle.hw_graph.specs.ByName.{IsAtMost}
use Rattle.hw_names.specs.Name.{Text, dotted}
use Rattle.hw_short.specs.declared.full_name.FullName.{FullName}
use Rattle.hw_short.specs.declared.full_name.FullName.TheVariants.{Own, Dotted, Nameless}

-- its numbers are those of texts, of which there are so many
abbrev pub IsFit : ℕ → FullName → Type 0
IsFit count (Own name) = name < count
IsFit count (Dotted owner name) = (owner < count) × (name < count)
IsFit count Nameless = Unit {0}

-- the text of a full name, if it is one
abbrev pub text_in : List Text → FullName → Option Text
text_in texts (Own name) = Some (slice_index_or texts name [])
text_in texts (Dotted owner name) = Some (dotted (slice_index_or texts owner []) (slice_index_or texts name []))
text_in texts Nameless = None

-- the one is not above the other by bytes; what is no text comes last
abbrev pub IsUpTo : Option Text → Option Text → Type 0
IsUpTo (Some text) (Some other) = slice_cmp nat_cmp text other ≢ Greater
IsUpTo (Some text) None = Unit {0}
IsUpTo None (Some other) = ⊥
IsUpTo None None = Unit {0}

-- the order of the names, by their numbers, tells the order of the full names
pub record TellOrder (texts : List Text) (full : List FullName) (names : List Text) : Type 0 where
  pub sized : length names ≡ length full
  pub each : (i j : ℕ) (k l : FullName) →
      slice_get full i ≡ Some k → slice_get full j ≡ Some l → IsAtMost names i j → IsUpTo (text_in texts k) (text_in texts l)
