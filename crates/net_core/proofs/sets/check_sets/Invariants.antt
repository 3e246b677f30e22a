use Rattle.std.proofs.Common.{◌≡◌, ◌+◌, List, take, None}
use Rattle.hw_names.specs.Name.{Text}
use Rattle.net_core.specs.Judging.{set_lines, first_broken}
use Rattle.net_core.specs.Rules.{PortLine}
use Rattle.net_core.proofs.sets.check_sets.Given as goal

-- the lines so far keep the rules
abbrev pub invariant-loop-set : goal.invariant-loop-set
invariant-loop-set l =
    (l.item ≡ l.first + l.set-index)
    × ((before : List PortLine) (cells : List Text) → first_broken l.ports before cells l.first (take l.set-index (set_lines l.names l.sets)) ≡ None)
