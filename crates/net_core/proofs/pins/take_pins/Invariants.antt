use Rattle.std.proofs.Common.{◌≡◌, ◌+◌, ◌++◌, List, take, flat_map, None}
use Rattle.hw_names.specs.Name.{Text}
use Rattle.net_core.specs.Judging.{own_lines, first_broken}
use Rattle.net_core.specs.Rules.{PortLine, ports_at}
use Rattle.net_core.proofs.pins.take_pins.Given as goal

-- the lines so far keep the rules, and their ports were put last
abbrev pub invariant-loop-pin : goal.invariant-loop-pin
invariant-loop-pin l =
    let lines = take l.pin-index (own_lines l.side l.names l.pins) in
    (l.item ≡ l.first + l.pin-index)
    × (l.ports ≡ l.initial.ports ++ flat_map ports_at lines)
    × ((all : List PortLine) (cells : List Text) → first_broken all l.initial.ports cells l.first lines ≡ None)
