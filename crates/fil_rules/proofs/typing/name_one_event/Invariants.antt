use Rattle.std.proofs.Common.{◌≡◌, All, take}
use Rattle.hw_names.specs.Name.{text_of}
use Rattle.fil_ast.specs.declared.tree.Time.{Time}
use Rattle.fil_rules.proofs.typing.name_one_event.Given as goal

-- the times so far name this event
abbrev pub invariant-loop-time : goal.invariant-loop-time
invariant-loop-time l = All (λ (t : Time). text_of l.names t.event ≡ l.event) (take l.time-index l.at)
