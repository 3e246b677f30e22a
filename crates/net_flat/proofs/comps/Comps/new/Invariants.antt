use Rattle.std.proofs.Common.{take}
use Rattle.net_flat.proofs.CompLemmas.{HasFirst}
use Rattle.net_flat.proofs.comps.Comps.new.Given as goal

-- for each name the first of the components so far
abbrev pub invariant-loop-comp : goal.invariant-loop-comp
invariant-loop-comp l = HasFirst l.design.names (take l.comp-index l.comp-items) l.by_name.items
