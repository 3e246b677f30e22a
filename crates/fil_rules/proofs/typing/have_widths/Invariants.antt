use Rattle.std.proofs.Common.{length}
use Rattle.fil_ast.specs.Scope.{Scope}
use Rattle.fil_place.specs.Place.{IsPlaceIn}
use Rattle.fil_rules.proofs.ArgumentLemmas.{WideBelow}
use Rattle.fil_rules.proofs.typing.have_widths.Given as goal

-- the arguments so far have the widths of their ports
abbrev pub invariant-loop-arg : goal.invariant-loop-arg
invariant-loop-arg l = (scope : Scope) → IsPlaceIn l.place scope → WideBelow l.place.names.now scope l.ports l.args (length l.yielded)
