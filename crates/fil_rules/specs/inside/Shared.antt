-- An invocation that is judged by F11 to F13, after the earlier ones of its instance. This project's.
use Rattle.std.specs.Prelude.{◌≡◌, ℕ, List, map, Some}
use Rattle.hw_names.specs.Name.{Text, AreDistinct}
use Rattle.fil_ast.specs.Evidence as shown
use Rattle.fil_ast.specs.Evidence.{IsMeetingCycle, IsGap}
use Rattle.fil_ast.specs.Naming.{event_names}
use Rattle.fil_ast.specs.Scope.{Scope, Invocation, instance_signature}
use Rattle.fil_ast.specs.Sharing.{KeepsUsesApart, EndsInTime, TriggersWithInterface}
use Rattle.fil_ast.specs.Signature.{Signature}
use Rattle.fil_ast.specs.Timeline.{HoldsSome, KeepsDelays}
use Rattle.fil_ast.specs.Tree.{component_tree}
use Rattle.fil_ast.specs.declared.tree.FilComp.{FilComp}
use Rattle.fil_rules.specs.Least.{evidence_of}
use Rattle.fil_rules.specs.LeastRule.{number_of}
use Rattle.fil_rules.specs.Held.{AreHeld}
use Rattle.fil_rules.specs.inside.StandsAt.{SharesWell}
use Rattle.fil_place.specs.Tables.{calls_at, calls_from, times_of, times_shown}
use Rattle.fil_place.specs.Times.{AreTimes}
use Rattle.fil_place.specs.declared.place.Place.{Place}
use Rattle.fil_rules.specs.declared.rules.ItemEnd.{ItemEnd}
use Rattle.fil_rules.specs.declared.rules.ItemEnd.TheVariants.{Broken, Memory}
use Rattle.fil_place.specs.declared.tables.Tables.{Tables}
use Rattle.fil_place.specs.declared.times.Offset.{Offset}

-- the invocation stands at these times, after those with these numbers of its instance, in a scope that keeps the rules
pub record IsInvoked (names : List Text) (comp : FilComp) (tables : Tables) (calls : List ℕ) (sig : Signature) (at : List Offset) (with : Scope)
    (v : Invocation) : Type 0 where
  pub is_comp : with.comp ≡ component_tree names comp
  pub events : tables.events ≡ event_names with.comp
  pub distinct : AreDistinct tables.events
  pub times : map (times_shown tables.events) tables.times.items ≡ map times_of with.invocations
  pub earlier : calls ≡ calls_from 0 v.inst with.invocations
  pub signature : instance_signature with v.inst ≡ Some sig
  pub own_times : AreTimes tables.events at v.gives.times
  pub own_holds : HoldsSome sig v.gives.times
  pub own_delays : KeepsDelays with sig v.inst v.gives
  pub held : AreHeld with
  pub shared : SharesWell with

-- the same of the instance with this number at a place that code hands on
abbrev pub IsInvokedIn : Place → ℕ → Signature → List Offset → Scope → Invocation → Type 0
IsInvokedIn place instance sig at with v = IsInvoked place.names.now place.comp.now place.tables.now (calls_at place.tables.now instance) sig at with v

pub record KeepsSharing (with : Scope) (v : Invocation) : Type 0 where
  pub apart : KeepsUsesApart with v
  pub in_time : EndsInTime with v
  pub triggers : TriggersWithInterface with v

-- the least of the three rules that the invocation breaks, with what it shows
pub data IsUnshared (with : Scope) (v : Invocation) (rule : ℕ) (evidence : shown.Evidence) : Type 0 where
  Meets : ¬ KeepsUsesApart with v → (cycle : ℕ) → IsMeetingCycle with v cycle → rule ≡ 11 → evidence ≡ shown.ACycle cycle → IsUnshared with v rule evidence
  Overruns : KeepsUsesApart with v → ¬ EndsInTime with v → (gap cycle : ℕ) → IsGap with v gap cycle → rule ≡ 12 → evidence ≡ shown.AGap gap cycle →
      IsUnshared with v rule evidence
  Unmarked : KeepsUsesApart with v → EndsInTime with v → ¬ TriggersWithInterface with v → rule ≡ 13 → evidence ≡ shown.Nothing → IsUnshared with v rule evidence

abbrev pub TellsSharing : Scope → Invocation → ItemEnd → Type 0
TellsSharing with v (Broken broken) = IsUnshared with v (number_of broken.rule) (evidence_of broken.evidence)
TellsSharing with v Memory = Unit {0}
