use Rattle.std.proofs.Common.{All, List, take}
use Rattle.hw_names.specs.Name.{Text}
use Rattle.net_core.specs.Numbers.{SetHasNumbers}
use Rattle.net_guard.specs.inside.Folding.{SetsFoldTo}
use Rattle.net_guard.proofs.simplified.simplify_sets.Given as goal

abbrev pub invariant-loop-set : goal.invariant-loop-set
invariant-loop-set l = (names : List Text) → All (SetHasNumbers names) l.sets → SetsFoldTo names (take l.set-index l.sets) l.kept.items
