-- F11 to F13 at one event of an instance. This project's.
use Rattle.std.specs.Prelude.{◌≡◌, ◌⊎◌, ℕ, ◌+◌, ◌-◌, ◌<◌, ◌≤◌, max, List, slice_get, Some, Vec, Contains, IsSome}
use Rattle.std.specs.declared.alloc.Global.{Global}
use Rattle.hw_names.specs.Name.{Text}
use Rattle.fil_ast.specs.Evidence.{AreKeptApart, IsSpan, Fits}
use Rattle.fil_ast.specs.Scope.{Scope, Invocation}
use Rattle.fil_ast.specs.Sharing.{IsUseOf, IsEarlierUse, IsWithin, HasInterface}
use Rattle.fil_ast.specs.Signature.{Signature}
use Rattle.fil_ast.specs.Timeline.{Use, IsUse}
use Rattle.fil_ast.specs.Tree.{Event, TimeAt}
use Rattle.fil_rules.specs.declared.sharing.in_time.Span.{Span}
use Rattle.fil_place.specs.declared.tables.Tables.{Tables}
use Rattle.fil_place.specs.declared.times.Offset.{Offset}
use Rattle.fil_place.specs.declared.uses.Use as numbers
use Rattle.fil_share.specs.declared.hold.Meet.{Meet}
use Rattle.fil_place.specs.Uses.{IsShownBy}
use Rattle.fil_place.specs.declared.starts.Starts.{Starts}
use Rattle.fil_place.specs.Starts.{StartsNoneFrom, StartsNoneUntil, IsFirstFrom, IsLastUntil}

-- the invocation of this number gives these times
abbrev pub GivesTimes : Tables → ℕ → List Offset → Type 0
GivesTimes tables call offsets = (given : Vec Offset Global) × (slice_get tables.times.items call ≡ Some given) × (given.items ≡ offsets)

-- two uses by numbers are on one event, and apart
abbrev pub AreNumbersApart : numbers.Use → numbers.Use → Type 0
AreNumbersApart first second =
    (first.at.event ≡ second.at.event) × ((first.at.plus + first.hold ≤ second.at.plus) ⊎ (second.at.plus + second.hold ≤ first.at.plus))

-- the first number at which something is found, and what is found there
pub record IsFoundFirst (X : Type 0) (Nowhere : ℕ → Type 0) (Found : ℕ → X → Type 0) (x : X) : Type 0 where
  pub number : ℕ
  pub before : (k : ℕ) → k < number → Nowhere k
  pub here : Found number x

-- F11 at event k of an instance, of invocations at these times and at those
abbrev pub AreApartAt : Signature → Text → List TimeAt → List TimeAt → ℕ → Type 0
AreApartAt sig inst times others k =
    (u w : Use) → IsUse sig inst times u → IsUse sig inst others w → u.event ≡ k → w.event ≡ k → AreKeptApart w u

-- F11 at event k of the invocation's instance
abbrev pub KeepsApartAt : Scope → Invocation → ℕ → Type 0
KeepsApartAt with v k = (u earlier : Use) → IsUseOf with v u → IsEarlierUse with u earlier → u.event ≡ k → AreKeptApart earlier u

-- it is broken, and this is the later of the two times
pub record MeetAt (sig : Signature) (inst : Text) (times others : List TimeAt) (k cycle : ℕ) : Type 0 where
  pub own : Use
  pub triggers : IsUse sig inst times own
  pub own_event : own.event ≡ k
  pub other : Use
  pub triggered : IsUse sig inst others other
  pub other_event : other.event ≡ k
  pub meet : ¬ AreKeptApart other own
  pub later : cycle ≡ max other.at.plus own.at.plus

-- one of these uses starts first and one starts last
pub record IsSpanOf (events : List Text) (Among : Use → Type 0) (span : Span) : Type 0 where
  pub first : Use
  pub shows_first : IsShownBy events span.first first
  pub has_first : Among first
  pub least : (u : Use) → Among u → first.at.plus ≤ u.at.plus
  pub last : Use
  pub shows_last : IsShownBy events span.last last
  pub has_last : Among last
  pub greatest : (u : Use) → Among u → u.at.plus ≤ last.at.plus

-- the one that starts first, or last, of two
abbrev pub IsFirstOf : numbers.Use → numbers.Use → numbers.Use → Type 0
IsFirstOf one other first = ((first ≡ one) ⊎ (first ≡ other)) × (first.at.plus ≤ one.at.plus) × (first.at.plus ≤ other.at.plus)

abbrev pub IsLastOf : numbers.Use → numbers.Use → numbers.Use → Type 0
IsLastOf one other last = ((last ≡ one) ⊎ (last ≡ other)) × (one.at.plus ≤ last.at.plus) × (other.at.plus ≤ last.at.plus)

-- from the first start to the last end is at most the delay
abbrev pub SpanFits : Span → ℕ → Type 0
SpanFits span delay = span.last.at.plus + span.last.hold ≤ span.first.at.plus + delay

-- it is more, and two transactions so far apart meet in this row
pub record SpanMeets (span : Span) (delay : ℕ) (meet : Meet) : Type 0 where
  pub late : span.first.at.plus + delay < span.last.at.plus + span.last.hold
  pub gap : meet.gap ≡ max delay (span.last.at.plus - span.first.at.plus)
  pub cycle : meet.cycle ≡ meet.gap + span.first.at.plus

-- F12 at event k of the invocation's instance
abbrev pub EndsAt : Scope → Invocation → ℕ → Type 0
EndsAt with v k =
    (u earlier : Use) → IsUseOf with v u → IsEarlierUse with u earlier → u.event ≡ k → (e : Event) → Contains with.comp.events e → e.name ≡ u.at.event →
    IsWithin e.delay u earlier × IsWithin e.delay earlier u

-- it is broken, with this evidence
pub record GapAt (with : Scope) (v : Invocation) (k : ℕ) (meet : Meet) : Type 0 where
  pub first : Use
  pub last : Use
  pub delay : ℕ
  pub span : IsSpan with v k first last delay
  pub broken : ¬ Fits first last delay
  pub distance : meet.gap ≡ max delay (last.at.plus - first.at.plus)
  pub row : meet.cycle ≡ meet.gap + first.at.plus

-- an earlier invocation of the instance triggers event k of it
pub record IsUsedBefore (with : Scope) (v : Invocation) (k : ℕ) : Type 0 where
  pub earlier : Invocation
  pub is_earlier : Contains with.invocations earlier
  pub same_instance : earlier.inst ≡ v.inst
  pub use_then : Use
  pub triggered : IsUseOf with earlier use_then
  pub same_event : use_then.event ≡ k

-- F13 at event k of the invocation's instance
abbrev pub IsMarkedAt : Scope → Invocation → ℕ → Type 0
IsMarkedAt with v k =
    (u : Use) → IsUseOf with v u → u.event ≡ k → IsSome u.go ⊎ IsUsedBefore with v k → HasInterface with.comp u.at.event

-- a use of the event is apart from the last that starts before it or with it, and from the first that starts after it or with it
pub record HasRoom (starts : Starts) (instance event : ℕ) (own : numbers.Use) : Type 0 where
  pub before : StartsNoneUntil starts instance event own.at.plus ⊎
      ((held : numbers.Use) × IsLastUntil starts instance event own.at.plus held × AreNumbersApart held own)
  pub after : StartsNoneFrom starts instance event own.at.plus ⊎
      ((held : numbers.Use) × IsFirstFrom starts instance event own.at.plus held × AreNumbersApart held own)
