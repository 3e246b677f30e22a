-- The assignments of a netlist by the slots of a row. This project's.
use Rattle.std.specs.Prelude.{List, length}
use Rattle.net_core.specs.Netlist.{Netlist}
use Rattle.net_sim.specs.Branches.{AreSlots, AreBranches}
use Rattle.net_sim.specs.Compiled.{AreSources}
use Rattle.net_sim.specs.Layout.{port_names}
use Rattle.net_sim.specs.Tests.{AreGuards}
use Rattle.net_sim.specs.declared.guards.Test.{Test}
use Rattle.net_sim.specs.declared.lower.Lowered.{Lowered}
use Rattle.net_sim.specs.declared.plan.Source.{Source}

-- the slots of some sources and the branches of some tests, which are those of the assignments
pub record AreLowered (n : Netlist) (lowered : Lowered) : Type 0 where
  pub sources : List Source
  pub sourced : AreSources n sources
  pub slots : AreSlots (length (port_names n)) lowered.literals.items sources lowered.sources.items
  pub tests : List Test
  pub guarded : AreGuards n tests lowered.starts.items
  pub branches : AreBranches (length (port_names n)) lowered.literals.items tests lowered.branches.items
