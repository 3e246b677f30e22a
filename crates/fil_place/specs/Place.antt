-- A place of a component's body, as code hands it on. This project's.
use Rattle.std.specs.Prelude.{◌++◌}
use Rattle.fil_ast.specs.Scope.{Scope, instances_at}
use Rattle.fil_ast.specs.Tree.{Statement}
use Rattle.fil_place.specs.Tables.{IsPlace}
use Rattle.fil_place.specs.declared.place.Place.{Place}

-- the same of a place that code hands on
abbrev pub IsPlaceIn : Place → Scope → Type 0
IsPlaceIn place scope = IsPlace place.names.now place.earlier.now place.comp.now place.tables.now scope

-- the scope with the instance that a statement makes
abbrev pub with_instance : Scope → Statement → Scope
with_instance scope s = record { comps = scope.comps; comp = scope.comp; instances = scope.instances ++ instances_at s; invocations = scope.invocations }
