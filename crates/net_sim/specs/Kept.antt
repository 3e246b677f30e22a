-- What every simulator keeps.
use Rattle.std.specs.Prelude.{◌≡◌, List}
use Rattle.hw_bits.specs.Values.{widths_of}
use Rattle.hw_bits.specs.declared.bits.Bits.{Bits}
use Rattle.hw_prims.specs.Cell.{CellValue}
use Rattle.net_sim.specs.Layout.{port_widths}
use Rattle.net_sim.specs.Plan.{IsPlan, ArePrims, compiled_net}
use Rattle.net_sim.specs.declared.plan.Plan.{Plan}

pub record IsKept (plan : Plan) (states : List CellValue) (values : List Bits) : Type 0 where
  pub plan_is : IsPlan plan
  pub prims : ArePrims plan.cells.items states
  pub widths : widths_of values ≡ port_widths (compiled_net plan)
