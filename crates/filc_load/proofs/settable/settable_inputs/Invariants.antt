use Rattle.std.proofs.Common.{◌≡◌, map, take}
use Rattle.net_core.specs.Netlist.{netlist_of}
use Rattle.filc_load.specs.Settable.{input_shape}
use Rattle.filc_load.proofs.settable.settable_inputs.Given as goal

-- the inputs so far are there
abbrev pub invariant-loop-port : goal.invariant-loop-port
invariant-loop-port l = l.inputs.items ≡ map input_shape (take l.port (netlist_of l.built.net).ins)
