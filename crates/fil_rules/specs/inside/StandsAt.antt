-- Where a statement is judged: all before it keeps the rules, and the tables show what it means. This project's.
use Rattle.std.specs.Prelude.{◌≡◌, ℕ, ◌<◌, List, flat_map, slice_get, Some, Contains}
use Rattle.hw_names.specs.Name.{Text, AreDistinct}
use Rattle.fil_ast.specs.Connections.{connected_at}
use Rattle.fil_ast.specs.Scope.{Scope, Invocation}
use Rattle.fil_ast.specs.Sharing.{IsUseOf, AreDisjoint, IsWithin}
use Rattle.fil_ast.specs.Timeline.{Use}
use Rattle.fil_ast.specs.Tree.{Event, Statement}
use Rattle.fil_ast.specs.declared.tree.FilComp.{FilComp}
use Rattle.fil_rules.specs.Held.{AreHeld}
use Rattle.fil_place.specs.Starts.{ListsAllUses}
use Rattle.fil_place.specs.Tables.{IsPlace}
use Rattle.fil_place.specs.declared.place.Place.{Place}
use Rattle.fil_place.specs.declared.earlier.Earlier.{Earlier}
use Rattle.fil_place.specs.declared.tables.Tables.{Tables}

-- the uses of one event of an instance by two invocations keep F11 and F12
pub record AreShared (scope : Scope) (u w : Use) : Type 0 where
  pub event : u.at.event ≡ w.at.event
  pub disjoint : AreDisjoint u w
  pub in_time : (e : Event) → Contains scope.comp.events e → e.name ≡ w.at.event → IsWithin e.delay w u × IsWithin e.delay u w

-- so do all uses by two invocations of one instance
abbrev pub SharesWell : Scope → Type 0
SharesWell scope =
    (i j : ℕ) (v w : Invocation) (u x : Use) → i < j → slice_get scope.invocations i ≡ Some v → slice_get scope.invocations j ≡ Some w → IsUseOf scope v u →
    IsUseOf scope w x → u.inst ≡ x.inst → u.event ≡ x.event → AreShared scope u x

pub record StandsAt (names : List Text) (earlier : Earlier) (comp : FilComp) (tables : Tables) (scope : Scope) (before : List Statement) : Type 0 where
  pub place : IsPlace names earlier comp tables scope
  pub distinct : AreDistinct tables.events
  pub connected : tables.connected ≡ flat_map connected_at before
  pub held : AreHeld scope
  pub shared : SharesWell scope
  pub listed : ListsAllUses tables scope

abbrev pub StandsIn : Place → Scope → List Statement → Type 0
StandsIn place scope before = StandsAt place.names.now place.earlier.now place.comp.now place.tables.now scope before
