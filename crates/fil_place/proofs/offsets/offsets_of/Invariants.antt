use Rattle.std.proofs.Common.{◌≡◌, All, Contains, map, take}
use Rattle.hw_names.specs.Name.{text_of}
use Rattle.fil_ast.specs.Tree.{time_tree}
use Rattle.fil_ast.specs.declared.tree.Time.{Time}
use Rattle.fil_place.specs.Times.{known, time_shown}
use Rattle.fil_place.proofs.offsets.offsets_of.Given as goal

-- the offsets so far are the times so far
abbrev pub invariant-loop-time : goal.invariant-loop-time
invariant-loop-time l =
    All (λ (t : Time). Contains l.events (text_of l.names t.event)) l.at → map (time_shown l.events) l.offsets.items ≡ map (λ (t : Time). known (time_tree l.names t)) (take l.time-index l.at)
