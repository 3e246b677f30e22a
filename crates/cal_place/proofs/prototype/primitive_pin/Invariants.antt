use Rattle.std.proofs.Common.{◌-◌, ◌≤◌, length}
use Rattle.hw_prims.specs.Table.{inputs_of, outputs_of, pins_of}
use Rattle.cal_place.proofs.PrimitiveLemmas.{NoneBefore}
use Rattle.cal_place.proofs.prototype.primitive_pin.Given as goal

-- none of the ports so far has the name
abbrev pub invariant-loop-port : goal.invariant-loop-port
invariant-loop-port l = (l.place ≤ length (pins_of l.prim)) × NoneBefore (inputs_of l.prim) (outputs_of l.prim) l.name l.place

abbrev pub decreases-loop-port : goal.decreases-loop-port
decreases-loop-port l = length (pins_of l.prim) - l.place
