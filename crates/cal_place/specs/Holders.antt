-- Which components a component is a part of, over any number of cells. This project's.
use Rattle.std.specs.Prelude.{◌≡◌, ◌↔◌, ◌⊎◌, ℕ, Bool, true, false, List, slice_get, slice_index_or, Some, Contains}
use Rattle.cal_ast.specs.Naming.{Involves, component_names}
use Rattle.cal_ast.specs.Tree.{Component, Design}
use Rattle.cal_place.specs.FirstPlaces.{IsFirst}
use Rattle.cal_place.specs.Nesting.{HasPart}

-- of the components that this one has cells of, exactly those are marked that reach it, if it is the first of its name
pub record AreHolders (design : Design) (number : ℕ) (holders : List Bool) : Type 0 where
  pub marked : (c part : Component) (m : ℕ) → slice_get design number ≡ Some c → IsFirst (component_names design) c.name number →
      HasPart design number m → slice_get design m ≡ Some part → (slice_index_or holders m false ≡ true) ↔ Involves design c.name part

-- this one and the reached ones are marked, and no others
abbrev pub AreMarks : ℕ → List ℕ → List Bool → Type 0
AreMarks number reached marks = (m : ℕ) → (slice_index_or marks m false ≡ true) ↔ ((m ≡ number) ⊎ Contains reached m)
