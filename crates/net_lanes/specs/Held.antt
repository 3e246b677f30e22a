-- What lanes are held as, where each has a simulation of its own. This project's.
use Rattle.std.specs.Prelude.{◌≡◌, length, map, All}
use Rattle.hw_bits.specs.Values.{widths_of}
use Rattle.hw_prims.specs.Table.{pin_widths}
use Rattle.net_core.specs.Netlist.{netlist_of}
use Rattle.net_core.specs.declared.net.Net.{Net}
use Rattle.net_sim.specs.Layout.{port_names}
use Rattle.net_lanes.specs.Lanes.{Lane, LanesValue}
use Rattle.net_lanes.specs.declared.lane.LaneRun.{LaneRun}
use Rattle.net_lanes.specs.declared.lane.TheConstants.{LANES}
use Rattle.net_lanes.specs.declared.lane_sim.LaneSim.TheInside.{Inside}

-- a lane as callers see it
abbrev pub lane_seen : LaneRun → Lane
lane_seen run = record { sim = run.sim; rests = run.rests }

abbrev pub lanes_seen : Inside → LanesValue
lanes_seen held = record { net = held.net.now; lanes = map lane_seen held.runs.items }

-- it is a run of the netlist, each of whose ports has a value
pub record IsRunOf (net : Net) (run : LaneRun) : Type 0 where
  pub net_is : run.sim.net ≡ net
  pub values : length run.sim.values ≡ length (port_names (netlist_of net))

-- there is a run for each lane, and a place for the value of each input
pub record AreHeld (held : Inside) : Type 0 where
  pub count : length held.runs.items ≡ LANES
  pub runs : All (IsRunOf held.net.now) held.runs.items
  pub inputs : widths_of held.inputs.items ≡ pin_widths (netlist_of held.net.now).ins
