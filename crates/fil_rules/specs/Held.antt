-- That uses are held. This project's.
use Rattle.std.specs.Prelude.{◌<◌, Contains}
use Rattle.fil_ast.specs.Scope.{Scope, Invocation}
use Rattle.fil_ast.specs.Sharing.{IsUseOf}
use Rattle.fil_ast.specs.Timeline.{Use}

-- every use is held for a row or more
abbrev pub AreHeld : Scope → Type 0
AreHeld scope = (v : Invocation) (u : Use) → Contains scope.invocations v → IsUseOf scope v u → 0 < u.hold
