-- F11 and F12 over the uses of one event of a unit by one transaction, and the evidence where they are broken. Filament, PLDI 2023; the evidence is this
-- project's.
use Rattle.std.specs.Prelude.{◌≡◌, ◌⊎◌, ℕ, ◌+◌, ◌-◌, ◌<◌, ◌≤◌, max, List, [], ◌∷◌, ◌++◌, take, length, Some, slice_get, All, AllPairs, Contains}
use Rattle.fil_share.specs.declared.hold.Hold.{Hold}
use Rattle.fil_share.specs.declared.hold.Meet.{Meet}

-- the unit is held in a row or more
abbrev pub IsHeld : Hold → Type 0
IsHeld hold = hold.from < hold.to

abbrev pub EndsWithin : ℕ → Hold → Type 0
EndsWithin row hold = hold.to ≤ row

-- the first ends before or where the second starts, or the other way round
abbrev pub AreApart : Hold → Hold → Type 0
AreApart first second = (first.to ≤ second.from) ⊎ (second.to ≤ first.from)

-- from the start of the one to the end of the other is at most the delay
abbrev pub IsWithin : ℕ → Hold → Hold → Type 0
IsWithin delay first last = last.to ≤ first.from + delay

-- F11: no two uses overlap
abbrev pub KeepsApart : List Hold → Type 0
KeepsApart uses = AllPairs AreApart uses

-- F12 in pairs: of each two uses, each ends within the delay after the other's start; a use alone is not judged
abbrev pub EndsInPairs : ℕ → List Hold → Type 0
EndsInPairs delay uses = AllPairs (λ first second. IsWithin delay first second × IsWithin delay second first) uses

-- F11 and F12
abbrev pub CanShare : ℕ → List Hold → Type 0
CanShare delay uses = KeepsApart uses × EndsInPairs delay uses

-- it is one of the uses, and none starts before it, or none after it
abbrev pub StartsFirst : List Hold → Hold → Type 0
StartsFirst uses first = Contains uses first × All (λ hold. first.from ≤ hold.from) uses

abbrev pub StartsLast : List Hold → Hold → Type 0
StartsLast uses last = Contains uses last × All (λ hold. hold.from ≤ last.from) uses

-- F12 of two uses or more: from the first start to the end of the use that starts last is at most the delay
abbrev pub SpansInTime : ℕ → List Hold → Type 0
SpansInTime delay uses = 2 ≤ length uses → (first last : Hold) → StartsFirst uses first → StartsLast uses last → IsWithin delay first last

-- the earlier use at this place overlaps the use, and none before it does
pub record IsFirstOverlap (earlier : List Hold) (use_now : Hold) (place : ℕ) : Type 0 where
  pub other : Hold
  pub at : slice_get earlier place ≡ Some other
  pub overlaps : ¬ AreApart other use_now
  pub before : All (λ hold. AreApart hold use_now) (take place earlier)

-- F11 is broken at a use: the evidence has the gap 0, and the later of the two starts, for the first earlier use that overlaps it
pub record BreaksApart (earlier : List Hold) (use_now : Hold) (meet : Meet) : Type 0 where
  pub place : ℕ
  pub overlap : IsFirstOverlap earlier use_now place
  pub gap : meet.gap ≡ 0
  pub cycle : meet.cycle ≡ max overlap.other.from use_now.from

-- F12 is broken at a use where F11 holds: the evidence has the delay or what is between the first start and the last, if that is more, and the row that is so
-- far after the first start
pub record BreaksInTime (delay : ℕ) (earlier : List Hold) (use_now : Hold) (meet : Meet) : Type 0 where
  pub apart : All (λ hold. AreApart hold use_now) earlier
  pub several : 0 < length earlier
  pub first : Hold
  pub last : Hold
  pub is_first : StartsFirst (earlier ++ use_now ∷ []) first
  pub is_last : StartsLast (earlier ++ use_now ∷ []) last
  pub late : first.from + delay < last.to
  pub gap : meet.gap ≡ max delay (last.from - first.from)
  pub cycle : meet.cycle ≡ meet.gap + first.from

-- F11 or F12 is broken at a use, after earlier ones, with this evidence
abbrev pub BreaksRule : ℕ → List Hold → Hold → Meet → Type 0
BreaksRule delay earlier use_now meet = BreaksApart earlier use_now meet ⊎ BreaksInTime delay earlier use_now meet

-- the evidence is of the first use, in order, at which a rule is broken
pub record IsFirstMeet (delay : ℕ) (uses : List Hold) (meet : Meet) : Type 0 where
  pub number : ℕ
  pub use_now : Hold
  pub at : slice_get uses number ≡ Some use_now
  pub kept : CanShare delay (take number uses)
  pub broken : BreaksRule delay (take number uses) use_now meet
