-- F11 to F13: an instance that is invoked several times is never held twice, also by transactions that overlap. Filament, PLDI 2023; the numbers are this
-- project's.
use Rattle.std.specs.Prelude.{◌≡◌, ◌⊎◌, ℕ, ◌+◌, ◌≤◌, map, Some, Contains, IsSome}
use Rattle.hw_names.specs.Name.{Text}
use Rattle.fil_ast.specs.Scope.{Scope, Invocation, instance_signature}
use Rattle.fil_ast.specs.Signature.{Signature}
use Rattle.fil_ast.specs.Timeline.{Use, IsUse}
use Rattle.fil_ast.specs.Tree.{Event, Interface, Component}

-- the invocation triggers this event of its instance
abbrev pub IsUseOf : Scope → Invocation → Use → Type 0
IsUseOf scope v u = (sig : Signature) × (instance_signature scope v.inst ≡ Some sig) × IsUse sig v.inst v.gives.times u

-- an earlier invocation of the instance uses the same event of it
pub record IsEarlierUse (scope : Scope) (u earlier : Use) : Type 0 where
  pub invocation : Invocation
  pub is_earlier : Contains scope.invocations invocation
  pub uses : IsUseOf scope invocation earlier
  pub same_instance : earlier.inst ≡ u.inst
  pub same_event : earlier.event ≡ u.event

-- the first ends before or where the second starts, or the other way round
abbrev pub AreDisjoint : Use → Use → Type 0
AreDisjoint u v = (u.at.plus + u.hold ≤ v.at.plus) ⊎ (v.at.plus + v.hold ≤ u.at.plus)

-- F11: two uses of an event of an instance are on one event of the component, and in disjoint intervals
abbrev pub KeepsUsesApart : Scope → Invocation → Type 0
KeepsUsesApart scope v =
    (u earlier : Use) → IsUseOf scope v u → IsEarlierUse scope u earlier → (earlier.at.event ≡ u.at.event) × AreDisjoint earlier u

-- from the start of the first to the end of the last is at most the delay
abbrev pub IsWithin : ℕ → Use → Use → Type 0
IsWithin delay first last = last.at.plus + last.hold ≤ first.at.plus + delay

-- it is one of these uses, and none of them starts before it
pub record StartsFirst (Among : Use → Type 0) (first : Use) : Type 0 where
  pub among : Among first
  pub least : (other : Use) → Among other → first.at.plus ≤ other.at.plus

-- it is one of these uses, and none of them starts after it
pub record StartsLast (Among : Use → Type 0) (last : Use) : Type 0 where
  pub among : Among last
  pub greatest : (other : Use) → Among other → other.at.plus ≤ last.at.plus

-- a use so far of the event that this use is of: this use itself, or one by an earlier invocation of the instance
abbrev pub IsUseSoFar : Scope → Use → Use → Type 0
IsUseSoFar scope u other = (other ≡ u) ⊎ IsEarlierUse scope u other

-- F12: where an event of an instance has two or more uses so far, from the start of the first to the end of the last is at most the delay of the event of the
-- component on which they are
abbrev pub EndsInTime : Scope → Invocation → Type 0
EndsInTime scope v =
    (u earlier first last : Use) → IsUseOf scope v u → IsEarlierUse scope u earlier →
    StartsFirst (IsUseSoFar scope u) first → StartsLast (IsUseSoFar scope u) last →
    (e : Event) → Contains scope.comp.events e → e.name ≡ u.at.event → IsWithin e.delay first last

-- the component's event has an interface port
abbrev pub HasInterface : Component → Text → Type 0
HasInterface c event = Contains (map (λ (g : Interface). g.event) c.interfaces) event

-- F13: an event without an interface port triggers none that has one, and no instance is invoked twice by times on it
pub record TriggersWithInterface (scope : Scope) (v : Invocation) : Type 0 where
  pub triggers : (u : Use) → IsUseOf scope v u → IsSome u.go → HasInterface scope.comp u.at.event
  pub once : (earlier : Invocation) (u w : Use) → Contains scope.invocations earlier → earlier.inst ≡ v.inst → IsUseOf scope v u → IsUseOf scope earlier w →
      w.at.event ≡ u.at.event → HasInterface scope.comp u.at.event
