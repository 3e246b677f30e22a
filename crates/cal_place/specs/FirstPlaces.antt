-- Names by their first places in a list, in which they may stand more than once. This project's.
use Rattle.std.specs.Prelude.{◌≡◌, ◌↔◌, ℕ, List, length, take, slice_get, Option, Some, None, Contains, IsTrue}
use Rattle.hw_names.specs.Name.{Text, AreDistinct}
use Rattle.cal_place.specs.declared.first_places.FirstPlaces.{FirstPlaces}

-- the name stands there, and not before
pub record IsFirst (list : List Text) (name : Text) (place : ℕ) : Type 0 where
  pub here : slice_get list place ≡ Some name
  pub new : ¬ Contains (take place list) name

-- the first place of the name, none where the list doesn't have it
abbrev pub TellsFirst : List Text → Text → Option ℕ → Type 0
TellsFirst list name None = ¬ Contains list name
TellsFirst list name (Some place) = IsFirst list name place

-- each name of the list has its first place
pub record ShowsFirsts (firsts : FirstPlaces) (list : List Text) : Type 0 where
  pub sized : length firsts.places.items ≡ length firsts.names
  pub first : (id place : ℕ) (name : Text) → slice_get firsts.names id ≡ Some name → slice_get firsts.places.items id ≡ Some place →
      IsFirst list name place
  pub all : (name : Text) → Contains list name → Contains firsts.names name
  pub distinct : IsTrue firsts.distinct ↔ AreDistinct list
  pub listed : AreDistinct list → firsts.names ≡ list
