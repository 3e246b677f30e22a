use Rattle.hw_names.specs.Name.{KeepsTexts}
use Rattle.fil_ast.specs.Scope.{Scope}
use Rattle.fil_lower.specs.inside.Place.{ShowsBody}
use Rattle.fil_lower.proofs.RegisterLemmas.{IsMade}
use Rattle.fil_lower.proofs.bits.EventBits.make.Given as goal

abbrev pub invariant-loop-event : goal.invariant-loop-event
invariant-loop-event l = record {
  kept : KeepsTexts l.fn.names l.names;
  made : (scope : Scope) → ShowsBody l.body scope → IsMade l.fn.names l.names scope l.event-index l.made;
}
