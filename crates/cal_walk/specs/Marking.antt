-- That code marks the actors that control wants in a row, by their numbers. This project's.
use Rattle.std.specs.Prelude.{◌≡◌, ◌<◌, ℕ, Bool, false, ◌||◌, List, length, slice_index_or}
use Rattle.cal_ast.specs.Actors.{Actor}
use Rattle.cal_walk.specs.declared.marks.Marks.{Marks}

-- each of so many numbers is an actor of its own
abbrev pub HaveOwnMarks : (ℕ → Actor) → ℕ → Type 0
HaveOwnMarks f actors = (j k : ℕ) → j < actors → k < actors → f j ≡ f k → j ≡ k

-- there are marks of as many actors
pub record KeepsSizes (before after : Marks) : Type 0 where
  pub enabled_sized : length after.enabled.items ≡ length before.enabled.items
  pub tested_sized : length after.tested.items ≡ length before.tested.items

-- a mark is true where it was, or where the actor is wanted
abbrev pub AddsMarks : (ℕ → Actor) → (Actor → Bool) → List Bool → List Bool → Type 0
AddsMarks f wanted before after = (k : ℕ) → k < length before → slice_index_or after k false ≡ (slice_index_or before k false || wanted (f k))

-- those of the actors that are enabled, and of those that act in a test
pub record AddsWanted (f : ℕ → Actor) (enabled tested : Actor → Bool) (before after : Marks) : Type 0 where
  pub enabled_are : AddsMarks f enabled before.enabled.items after.enabled.items
  pub tested_are : AddsMarks f tested before.tested.items after.tested.items
