-- The uses so far of the events of instances, by the offsets at which they start. This project's.
use Rattle.std.specs.Prelude.{◌≡◌, ◌⊎◌, ℕ, ◌≤◌, List, slice_get, Option, Some, None, IsSome, Contains, length}
use Rattle.hw_names.specs.Name.{Text}
use Rattle.fil_ast.specs.Scope.{Scope, Invocation}
use Rattle.fil_ast.specs.Sharing.{IsUseOf}
use Rattle.fil_ast.specs.Signature.{Signature}
use Rattle.fil_ast.specs.Timeline.{Use, IsUse}
use Rattle.fil_ast.specs.Tree.{TimeAt}
use Rattle.fil_place.specs.inside.StoredUses.{use_in}
use Rattle.fil_place.specs.Uses.{IsShownBy}
use Rattle.fil_place.specs.declared.starts.Starts.{Starts}
use Rattle.fil_place.specs.declared.tables.Tables.{Tables}
use Rattle.fil_place.specs.declared.uses.Use as numbers

-- the use of an event of an instance that starts at this offset
abbrev pub use_at : Starts → ℕ → ℕ → ℕ → Option numbers.Use
use_at starts instance event start = use_in starts.firsts.items starts.others instance event start

-- one use more; the other places keep theirs
pub record PutsUse (instance event : ℕ) (held : numbers.Use) (old new : Starts) : Type 0 where
  pub here : use_at new instance event held.at.plus ≡ Some held
  pub others : (i k start : ℕ) → ¬ ((i ≡ instance) × (k ≡ event) × (start ≡ held.at.plus)) → use_at new i k start ≡ use_at old i k start

abbrev pub StartsNoneFrom : Starts → ℕ → ℕ → ℕ → Type 0
StartsNoneFrom starts instance event from = (start : ℕ) → from ≤ start → use_at starts instance event start ≡ None

abbrev pub StartsNoneUntil : Starts → ℕ → ℕ → ℕ → Type 0
StartsNoneUntil starts instance event to = (start : ℕ) → start ≤ to → use_at starts instance event start ≡ None

-- this use starts there, and none before it from an offset on
pub record IsFirstFrom (starts : Starts) (instance event from : ℕ) (held : numbers.Use) : Type 0 where
  pub start : ℕ
  pub after : from ≤ start
  pub there : use_at starts instance event start ≡ Some held
  pub least : (other : ℕ) → from ≤ other → IsSome (use_at starts instance event other) → start ≤ other

-- and none after it up to an offset
pub record IsLastUntil (starts : Starts) (instance event to : ℕ) (held : numbers.Use) : Type 0 where
  pub start : ℕ
  pub before : start ≤ to
  pub there : use_at starts instance event start ≡ Some held
  pub greatest : (other : ℕ) → other ≤ to → IsSome (use_at starts instance event other) → other ≤ start

-- the uses by an invocation of the instance with this number, of this signature, where it has one, at these times, and no others more
pub record AddsUses (events : List Text) (of : Option Signature) (inst : Text) (times : List TimeAt) (instance : ℕ) (old new : Starts) : Type 0 where
  pub kept : (i k start : ℕ) → IsSome (use_at old i k start) → IsSome (use_at new i k start)
  pub has : (sig : Signature) (u : Use) → of ≡ Some sig → IsUse sig inst times u → IsSome (use_at new instance u.event u.at.plus)
  pub are : (i k start : ℕ) (held : numbers.Use) → use_at new i k start ≡ Some held →
      (use_at old i k start ≡ Some held) ⊎ ((i ≡ instance) × (sig : Signature) × (u : Use) × (of ≡ Some sig) × IsUse sig inst times u × (u.event ≡ k) ×
      (u.at.plus ≡ start) × IsShownBy events held u)

-- a use of the event of the instance by an invocation so far starts there
pub record IsStart (events : List Text) (scope : Scope) (inst : Text) (event start : ℕ) (held : numbers.Use) : Type 0 where
  pub invocation : Invocation
  pub is_earlier : Contains scope.invocations invocation
  pub named : invocation.inst ≡ inst
  pub use_then : Use
  pub triggered : IsUseOf scope invocation use_then
  pub same_event : use_then.event ≡ event
  pub starts : use_then.at.plus ≡ start
  pub shown : IsShownBy events held use_then

-- the uses at the number of an instance are those by the invocations so far
pub record ListsUses (tables : Tables) (instance : ℕ) (scope : Scope) (inst : Text) : Type 0 where
  pub has : (w : Invocation) (u : Use) → Contains scope.invocations w → w.inst ≡ inst → IsUseOf scope w u →
      IsSome (use_at tables.starts instance u.event u.at.plus)
  pub are : (event start : ℕ) (held : numbers.Use) → use_at tables.starts instance event start ≡ Some held →
      IsStart tables.events scope inst event start held

-- so at the number of each instance, and none at other numbers
pub record ListsAllUses (tables : Tables) (scope : Scope) : Type 0 where
  pub each : (instance : ℕ) (inst : Text) → slice_get tables.instances instance ≡ Some inst → ListsUses tables instance scope inst
  pub past : (instance event start : ℕ) → length tables.instances ≤ instance → use_at tables.starts instance event start ≡ None
