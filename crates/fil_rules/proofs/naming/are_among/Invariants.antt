use Rattle.std.proofs.Common.{All, Contains, take}
use Rattle.hw_names.specs.Name.{text_of}
use Rattle.fil_rules.proofs.naming.are_among.Given as goal

-- the names so far are among those
abbrev pub invariant-loop-id : goal.invariant-loop-id
invariant-loop-id l = All (λ id. Contains l.those (text_of l.names id)) (take l.id-index l.ids)
