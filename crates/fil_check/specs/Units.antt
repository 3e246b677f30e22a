-- F11 and F12 at one event of an instance, over invocations and over the holds of one transaction. Filament, PLDI 2023; the laws are this project's.
use Rattle.std.specs.Prelude.{◌≡◌, ℕ, ◌<◌, ◌==◌, ◌&&◌, Bool, List, [], ◌∷◌, map, filter, take, slice_get, Some, ◌↔◌, All, Contains, bytes_eq}
use Rattle.hw_names.specs.Name.{Text}
use Rattle.fil_ast.specs.Evidence.{IsMeetingCycle, IsGap}
use Rattle.fil_ast.specs.Holds.{Hold, holds_of}
use Rattle.fil_ast.specs.Items.{scope_with}
use Rattle.fil_ast.specs.Rules.{KeepsComponent, KeepsRules}
use Rattle.fil_ast.specs.Scope.{Scope, Invocation, invocations_at}
use Rattle.fil_ast.specs.Sharing.{IsUseOf, IsEarlierUse, IsUseSoFar, AreDisjoint, IsWithin, StartsFirst, StartsLast, KeepsUsesApart}
use Rattle.fil_ast.specs.Timeline.{Use}
use Rattle.fil_ast.specs.Tree.{Event, Component, Design, Statement}
use Rattle.fil_ast.specs.Wires.{whole_scope}
use Rattle.fil_share.specs.Sharing as sharing
use Rattle.fil_share.specs.Sharing.{IsFirstMeet}
use Rattle.fil_share.specs.Uses.{shown_hold}
use Rattle.fil_share.specs.declared.hold.Hold as shown
use Rattle.fil_check.specs.Needed.{first_ten, sharing_rules, start_at}

-- an event of an instance, as an event of the component triggers it
pub record UnitEvent : Type 0 where
  pub inst : Text
  pub event : ℕ
  pub on : Text

pub record IsUseOn (unit : UnitEvent) (u : Use) : Type 0 where
  pub of : u.inst ≡ unit.inst
  pub event : u.event ≡ unit.event
  pub on : u.at.event ≡ unit.on

-- the invocation and an earlier one use it
pub record UseTwice (scope : Scope) (unit : UnitEvent) (v : Invocation) (u earlier : Use) : Type 0 where
  pub uses : IsUseOf scope v u
  pub known : IsEarlierUse scope u earlier
  pub on : IsUseOn unit u
  pub earlier_on : IsUseOn unit earlier

-- a use so far of this event: this use itself, or an earlier one
abbrev pub IsUseSoFarOn : Scope → UnitEvent → Use → Use → Type 0
IsUseSoFarOn scope unit u other = IsUseSoFar scope u other × IsUseOn unit other

-- F11 and F12 of an invocation, as far as they speak of this event
pub record SharesAt (scope : Scope) (unit : UnitEvent) (v : Invocation) : Type 0 where
  pub apart : (u earlier : Use) → UseTwice scope unit v u earlier → AreDisjoint earlier u
  pub in_time : (u earlier first last : Use) → UseTwice scope unit v u earlier →
      StartsFirst (IsUseSoFarOn scope unit u) first → StartsLast (IsUseSoFarOn scope unit u) last →
      (e : Event) → Contains scope.comp.events e → e.name ≡ unit.on → IsWithin e.delay first last

-- the component's statements before this one keep them
abbrev pub SharesBefore : Design → Component → UnitEvent → ℕ → Type 0
SharesBefore earlier c unit n =
    (k : ℕ) (s : Statement) → k < n → slice_get c.body k ≡ Some s → All (SharesAt (scope_with earlier c (take k c.body) s) unit) (invocations_at s)

-- all its statements keep them
abbrev pub Shares : Design → Component → UnitEvent → Type 0
Shares earlier c unit =
    (k : ℕ) (s : Statement) → slice_get c.body k ≡ Some s → All (SharesAt (scope_with earlier c (take k c.body) s) unit) (invocations_at s)

abbrev pub is_hold_on : UnitEvent → Hold → Bool
is_hold_on unit h = bytes_eq h.inst unit.inst && h.event == unit.event

-- what one transaction holds of it, which starts at row 0
abbrev pub holds_on : Scope → UnitEvent → List Hold
holds_on scope unit = filter (is_hold_on unit) (holds_of scope (start_at unit.on 0 ∷ []))

-- these are all holds of it by one transaction, on an event of the component with this delay
pub record AreHoldsOn (scope : Scope) (unit : UnitEvent) (delay : ℕ) (uses : List shown.Hold) : Type 0 where
  pub event : Event
  pub is_own : Contains scope.comp.events event
  pub named : event.name ≡ unit.on
  pub delayed : delay ≡ event.delay
  pub names : List Text
  pub are : map (shown_hold names) uses ≡ holds_on scope unit

-- where F1 to F10 hold, a component keeps F11 and F12 at the event exactly if the holds of one transaction keep them
abbrev pub SharingHasOneMeaning : Type 0
SharingHasOneMeaning =
    (earlier : Design) (c : Component) → KeepsRules first_ten earlier → KeepsComponent first_ten earlier c →
    (unit : UnitEvent) (delay : ℕ) (uses : List shown.Hold) → AreHoldsOn (whole_scope earlier c) unit delay uses →
    Shares earlier c unit ↔ sharing.CanShare delay uses

-- each two uses of an event of an instance are on one event of the component
abbrev pub NamesOneEvent : Scope → Invocation → Type 0
NamesOneEvent scope v = (u earlier : Use) → IsUseOf scope v u → IsEarlierUse scope u earlier → earlier.at.event ≡ u.at.event

abbrev pub NameOneEvent : Design → Component → Type 0
NameOneEvent earlier c =
    (k : ℕ) (s : Statement) → slice_get c.body k ≡ Some s → All (NamesOneEvent (scope_with earlier c (take k c.body) s)) (invocations_at s)

-- so a component keeps F11 and F12 exactly if each event of an instance is triggered on one event, and they are kept at each
abbrev pub SharingGoesByEvents : Type 0
SharingGoesByEvents =
    (earlier : Design) (c : Component) → KeepsComponent sharing_rules earlier c ↔ (NameOneEvent earlier c × ((unit : UnitEvent) → Shares earlier c unit))

-- an invocation of the component, where all statements before its own keep F11 and F12 at the event
pub record IsFirstAt (earlier : Design) (c : Component) (unit : UnitEvent) (k : ℕ) (s : Statement) (v : Invocation) : Type 0 where
  pub at : slice_get c.body k ≡ Some s
  pub invoked : Contains (invocations_at s) v
  pub before : SharesBefore earlier c unit k

-- what F11 shows at the event is what the first meet of the holds shows
abbrev pub MeetingHasOneMeaning : Type 0
MeetingHasOneMeaning =
    (earlier : Design) (c : Component) → KeepsRules first_ten earlier → KeepsComponent first_ten earlier c →
    (unit : UnitEvent) (delay : ℕ) (uses : List shown.Hold) → AreHoldsOn (whole_scope earlier c) unit delay uses →
    (k : ℕ) (s : Statement) (v : Invocation) → IsFirstAt earlier c unit k s v →
    (cycle : ℕ) (first : IsMeetingCycle (scope_with earlier c (take k c.body) s) v cycle) → IsUseOn unit first.own → IsUseOn unit first.other →
    IsFirstMeet delay uses (record { gap = 0; cycle = cycle })

-- and so is what F12 shows
abbrev pub GapHasOneMeaning : Type 0
GapHasOneMeaning =
    (earlier : Design) (c : Component) → KeepsRules first_ten earlier → KeepsComponent first_ten earlier c →
    (unit : UnitEvent) (delay : ℕ) (uses : List shown.Hold) → AreHoldsOn (whole_scope earlier c) unit delay uses →
    (k : ℕ) (s : Statement) (v : Invocation) → IsFirstAt earlier c unit k s v → KeepsUsesApart (scope_with earlier c (take k c.body) s) v →
    (gap cycle : ℕ) (first : IsGap (scope_with earlier c (take k c.body) s) v gap cycle) → IsUseOn unit first.first →
    IsFirstMeet delay uses (record { gap = gap; cycle = cycle })
