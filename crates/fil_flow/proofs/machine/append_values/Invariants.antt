use Rattle.std.proofs.Common.{◌≡◌, List, ◌++◌, take}
use Rattle.hw_bits.specs.declared.bits.Bits.{Bits}
use Rattle.fil_flow.specs.inside.Frames.{AreFrom}
use Rattle.fil_flow.proofs.machine.append_values.Given as goal

-- the values from the sources so far are added
abbrev pub invariant-loop-source : goal.invariant-loop-source
invariant-loop-source l =
    (added : List Bits) × (l.found.items ≡ l.initial.found.items ++ added) × AreFrom l.values (take l.source-index l.sources) added
