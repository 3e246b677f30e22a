use Rattle.std.proofs.Common.{◌≡◌, ◌++◌, take}
use Rattle.cal_wires.specs.Nodes.{marked}
use Rattle.cal_wires.proofs.full_names.add_marked.Given as goal

-- the bytes so far are there
abbrev pub invariant-loop-byte : goal.invariant-loop-byte
invariant-loop-byte l = l.key.items ≡ l.fn.key.items ++ marked (take l.byte-index l.text)
