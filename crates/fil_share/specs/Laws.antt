-- What the rules of sharing are for: holds of a unit by legal transactions never meet. Filament, PLDI 2023; the laws are this project's.
use Rattle.std.specs.Prelude.{◌≡◌, ◌⊎◌, ◌↔◌, ℕ, ◌+◌, ◌<◌, ◌≤◌, List, [], ◌∷◌, map, flat_map, length, All, Contains, Some, slice_get}
use Rattle.std.specs.List.{AllAdjacentBelow}
use Rattle.fil_share.specs.Sharing.{IsHeld, IsWithin, KeepsApart, EndsInPairs, CanShare, SpansInTime, IsFirstMeet}
use Rattle.fil_share.specs.declared.hold.Hold.{Hold}
use Rattle.fil_share.specs.declared.hold.Meet.{Meet}

-- transactions of one event, by their starts, are legal where each starts the delay or more after the one before it
abbrev pub KeepDelay : ℕ → List ℕ → Type 0
KeepDelay delay starts = AllAdjacentBelow (λ start next. start + delay ≤ next) starts (length starts)

-- a use as the transaction that starts at this row makes it
abbrev pub use_from : ℕ → Hold → Hold
use_from start hold = record hold { from = start + hold.from; to = start + hold.to }

-- all uses by all transactions
abbrev pub uses_from : List Hold → List ℕ → List Hold
uses_from uses starts = flat_map (λ start. map (use_from start) uses) starts

-- F10: a use is no longer than the delay
abbrev pub IsShort : ℕ → Hold → Type 0
IsShort delay hold = IsWithin delay hold hold

-- the unit is held in the row
abbrev pub Holds : ℕ → Hold → Type 0
Holds row hold = (hold.from ≤ row) × (row < hold.to)

-- the two forms of F12
abbrev pub FormsAgree : Type 0
FormsAgree = (delay : ℕ) (uses : List Hold) → All IsHeld uses → KeepsApart uses → EndsInPairs delay uses ↔ SpansInTime delay uses

abbrev pub SharingKeepsApart : Type 0
SharingKeepsApart =
    (delay : ℕ) (uses : List Hold) → CanShare delay uses → All (IsShort delay) uses → (starts : List ℕ) → KeepDelay delay starts →
    KeepsApart (uses_from uses starts)

-- one transaction holds the unit by two uses in the row
pub record MeetsItself (uses : List Hold) (row : ℕ) : Type 0 where
  pub i : ℕ
  pub j : ℕ
  pub one : Hold
  pub other : Hold
  pub differ : i < j
  pub at_one : slice_get uses i ≡ Some one
  pub at_other : slice_get uses j ≡ Some other
  pub holds_one : Holds row one
  pub holds_other : Holds row other

-- legal transactions that start at row 0 and so many rows later both hold the unit in the row
pub record MeetsNext (delay : ℕ) (uses : List Hold) (gap row : ℕ) : Type 0 where
  pub later : 0 < gap
  pub legal : KeepDelay delay (0 ∷ gap ∷ [])
  pub one : Hold
  pub other : Hold
  pub has_one : Contains uses one
  pub has_other : Contains uses other
  pub holds_one : Holds row (use_from 0 one)
  pub holds_other : Holds row (use_from gap other)

-- the evidence says where a meet is
abbrev pub MeetIsReal : Type 0
MeetIsReal =
    (delay : ℕ) (uses : List Hold) (meet : Meet) → All IsHeld uses → IsFirstMeet delay uses meet →
    ((meet.gap ≡ 0) × MeetsItself uses meet.cycle) ⊎ MeetsNext delay uses meet.gap meet.cycle

abbrev pub RulesAreExact : Type 0
RulesAreExact =
    (delay : ℕ) (uses : List Hold) → All IsHeld uses → All (IsShort delay) uses →
    CanShare delay uses ↔ ((starts : List ℕ) → KeepDelay delay starts → KeepsApart (uses_from uses starts))
