-- What a refusal shows, as callers get it. This project's.
use Rattle.fil_ast.specs.Evidence as shown
use Rattle.fil_rules.specs.declared.rules.Evidence.{Evidence}
use Rattle.fil_rules.specs.declared.rules.Evidence.TheVariants.{Nothing, Offset, Cycle, Gap, Loop}

-- evidence as callers get it, seen as evidence of the rules
abbrev pub evidence_of : Evidence → shown.Evidence
evidence_of Nothing = shown.Nothing
evidence_of (Offset offset) = shown.AnOffset offset
evidence_of (Cycle cycle) = shown.ACycle cycle
evidence_of (Gap meet) = shown.AGap meet.gap meet.cycle
evidence_of (Loop ports) = shown.ALoop ports.items
