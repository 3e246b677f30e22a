-- How a netlist is simulated, as callers see it. This project's.
use Rattle.net_sim.specs.Sim.{SimValue}
use Rattle.net_row.specs.declared.sim.Engine.{Engine}
use Rattle.net_row.specs.declared.sim.Engine.TheVariants.{Plain, Flat}

-- the simulation, by whichever it is made
abbrev pub engine_value : Engine → SimValue
engine_value (Plain sim) = sim
engine_value (Flat sim) = sim
