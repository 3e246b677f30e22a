use Rattle.std.proofs.Common.{All, Contains, take}
use Rattle.hw_names.specs.Name.{text_of}
use Rattle.fil_ast.specs.declared.tree.Time.{Time}
use Rattle.fil_rules.proofs.naming.name_events.Given as goal

-- the times so far name events
abbrev pub invariant-loop-time : goal.invariant-loop-time
invariant-loop-time l = All (λ (t : Time). Contains l.events (text_of l.names t.event)) (take l.time-index l.at)
