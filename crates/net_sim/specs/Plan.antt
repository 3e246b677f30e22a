-- What a compiled netlist keeps.
use Rattle.std.specs.Prelude.{◌≡◌, List, map}
use Rattle.hw_names.specs.Name.{AreDistinct}
use Rattle.hw_prims.specs.Cell.{CellValue}
use Rattle.net_core.specs.Netlist.{Netlist, netlist_of}
use Rattle.net_core.specs.Rules.{IsValid}
use Rattle.net_core.specs.Table.{IsTableOf}
use Rattle.net_sim.specs.Compiled.{AreSources, givers_of}
use Rattle.net_sim.specs.Layout.{port_names, AreCellPorts}
use Rattle.net_sim.specs.Lowered.{AreLowered}
use Rattle.net_sim.specs.OrderValue.{OrderValue}
use Rattle.net_sim.specs.PortOrder.{IsPortOrderOf}
use Rattle.net_sim.specs.Shown.{AreShown}
use Rattle.net_sim.specs.declared.cells.CellPorts.{CellPorts}
use Rattle.net_sim.specs.declared.plan.Giver.{Giver}
use Rattle.net_sim.specs.declared.plan.Plan.{Plan}
use Rattle.net_sim.specs.declared.plan.Source.{Source}

-- the netlist's order, cells, sources and givers
pub record IsCompiled (n : Netlist) (order : OrderValue) (cells : List CellPorts) (sources : List Source) (givers : List Giver) : Type 0 where
  pub valid : IsValid n
  pub distinct : AreDistinct (port_names n)
  pub ordered : IsPortOrderOf n order
  pub listed : AreCellPorts n cells
  pub sourced : AreSources n sources
  pub given : givers ≡ givers_of n cells

-- the netlist that was compiled
abbrev pub compiled_net : Plan → Netlist
compiled_net plan = netlist_of plan.net.now

pub record IsPlan (plan : Plan) : Type 0 where
  pub table : IsTableOf (netlist_of plan.net.now) plan.table.now
  pub lowered : AreLowered (netlist_of plan.net.now) plan.lowered
  pub compiled : IsCompiled (netlist_of plan.net.now) plan.order.now plan.cells.items lowered.sources plan.givers.items
  pub shown : AreShown (netlist_of plan.net.now) plan.shown.items

-- the states are those of the cells' primitives
abbrev pub ArePrims : List CellPorts → List CellValue → Type 0
ArePrims cells states = map (λ (s : CellValue). s.prim) states ≡ map (λ (c : CellPorts). c.prim) cells
