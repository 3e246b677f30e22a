-- The uses so far of the events of instances, as code has them. This project's.
use Rattle.std.specs.Prelude.{◌≡◌, ℕ, ◌≤◌, ◌&&◌, ◌==◌, true, List, Option, Some, None, IsSome, if◌then◌else◌, slice_index_or}
use Rattle.std.specs.BTreeMap.{BTreeMap, get}
use Rattle.std.specs.declared.cmp.Ordering.{Ordering}
use Rattle.std.specs.Option.{option_or}
use Rattle.std.specs.Ordering.{nat_cmp, ordering_then}
use Rattle.fil_place.specs.declared.starts.First.{First}
use Rattle.fil_place.specs.declared.uses.Use as numbers

-- the numbers of an instance and of an event of its callee, and an offset
abbrev pub Key : Type 0
Key = ℕ × ℕ × ℕ

-- by instance, then by event, then by offset
abbrev pub key_cmp : Key → Key → Ordering
key_cmp a b = ordering_then (ordering_then (nat_cmp a.0 b.0) (nat_cmp a.1 b.1)) (nat_cmp a.2 b.2)

-- the use of an instance that came first, if it is of this event and starts at this offset
abbrev pub first_at : Option First → ℕ → ℕ → Option numbers.Use
first_at None event start = None
first_at (Some first) event start = if first.event == event && first.held.at.plus == start then Some first.held else None

-- the use of an event of an instance that starts at this offset: one of those after the first, or else the first
abbrev pub use_in : List (Option First) → BTreeMap Key numbers.Use → ℕ → ℕ → ℕ → Option numbers.Use
use_in firsts others instance event start = option_or (get key_cmp others (instance, event, start)) (first_at (slice_index_or firsts instance None) event start)

-- no use came after the first, if there is one
abbrev pub IsAlone : Option First → Type 0
IsAlone None = Unit {0}
IsAlone (Some first) = first.alone ≡ true

-- the use that came first is of this event and starts at an offset or later
abbrev pub IsFrom : First → ℕ → ℕ → Type 0
IsFrom first event from = (first.event ≡ event) × (from ≤ first.held.at.plus)

-- or at it or before it
abbrev pub IsUntil : First → ℕ → ℕ → Type 0
IsUntil first event to = (first.event ≡ event) × (first.held.at.plus ≤ to)

-- of the uses after the first of an instance none of this event starts at an offset or later
abbrev pub HasNoOtherFrom : BTreeMap Key numbers.Use → ℕ → ℕ → ℕ → Type 0
HasNoOtherFrom others instance event from = (start : ℕ) → from ≤ start → get key_cmp others (instance, event, start) ≡ None

-- nor up to it
abbrev pub HasNoOtherUntil : BTreeMap Key numbers.Use → ℕ → ℕ → ℕ → Type 0
HasNoOtherUntil others instance event to = (start : ℕ) → start ≤ to → get key_cmp others (instance, event, start) ≡ None

-- of those uses this one of the event starts there, and none before it from an offset on
pub record IsFirstOther (others : BTreeMap Key numbers.Use) (instance event from : ℕ) (held : numbers.Use) : Type 0 where
  pub start : ℕ
  pub after : from ≤ start
  pub there : get key_cmp others (instance, event, start) ≡ Some held
  pub least : (other : ℕ) → from ≤ other → IsSome (get key_cmp others (instance, event, other)) → start ≤ other

-- and none after it up to an offset
pub record IsLastOther (others : BTreeMap Key numbers.Use) (instance event to : ℕ) (held : numbers.Use) : Type 0 where
  pub start : ℕ
  pub before : start ≤ to
  pub there : get key_cmp others (instance, event, start) ≡ Some held
  pub greatest : (other : ℕ) → other ≤ to → IsSome (get key_cmp others (instance, event, other)) → other ≤ start
