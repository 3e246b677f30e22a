-- The netlist of a design of wires shows what the source of the wires does.
use Rattle.std.proofs.Common.{◌≡◌, ◌∙◌, ℕ, slice_get, Some}
use Rattle.net_core.proofs.CircuitLemmas.{same_stops}
use Rattle.net_core.specs.NetRun.{net_circuit}
use Rattle.net_core.specs.Netlist.{Netlist, netlist_of}
use Rattle.net_core.specs.declared.net.Net.{Net}
use Rattle.cal_ast.proofs.ListLemmas.{Contains-at}
use Rattle.cal_ast.specs.CalRun.{StoppedBareRun, bare, cal_circuit}
use Rattle.cal_ast.specs.Keeping.{KeepsComponentShape, KeepsRuns, NetRuns}
use Rattle.cal_ast.specs.Plain.{HasPlainTree}
use Rattle.cal_ast.specs.Tree.{Component, Design}
use Rattle.net_flat.specs.FlatTop.{IsFlatTop}
use Rattle.net_flat.specs.Flattened.{IsFlattened}
use Rattle.cal_net.proofs.CellLemmas.{source_cells}
use Rattle.cal_net.proofs.MemoryLemmas.{memories_shown}
use Rattle.cal_net.proofs.PortLemmas.{ports_listed}
use Rattle.cal_net.proofs.FewLemmas.{AddsFew, few_control_registers}
use Rattle.cal_net.proofs.ShapeLemmas.{top_kept, zip_also, zip_left}
use Rattle.cal_net.specs.Laws.{FlattenedWiresRefine}
use Rattle.cal_net.specs.Lowers.{LowersControl}
use Rattle.cal_net.specs.Refining.{RefinesTop}

-- each run of the netlist is one of the wires, and stops alike
from_net : (wires : Design) (top : Component) (n : Netlist) → IsFlattened wires top n → KeepsRuns (NetRuns n) (StoppedBareRun wires top)
from_net wires top n flat asked inputs loads height trace stop given = record {
  run = (flat.runs asked inputs loads height trace).0 given.run;
  stops = same_stops (net_circuit n) (cal_circuit wires top bare) flat.conflicts height trace stop given.stops;
}

refined : (source wires : Design) (net : Net) → LowersControl source wires → HasPlainTree wires → IsFlatTop wires net → RefinesTop source (netlist_of net)
refined source wires net lowers plain flat =
    let n = netlist_of net in
    let c = zip_left KeepsComponentShape source wires flat.place flat.top lowers.shape flat.at in
    let means = lowers.means flat.place c.0 flat.top c.1 flat.at in
    let runs = from_net wires flat.top n flat.flattened in
    let among = Contains-at wires flat.place flat.top flat.at in
    let adds_few : (k : ℕ) (e f : Component) → slice_get source k ≡ Some e → slice_get wires k ≡ Some f → AddsFew e f = λ k e f at at_wires. (lowers.registers k e f at at_wires, lowers.no_states k e f at at_wires) in
    record {
      number = flat.place;
      is_top = top_kept source wires lowers.shape flat.place flat.is_top;
      top = c.0;
      at = c.1;
      refines = record {
        refines = record {
          valid = flat.valid;
          no_loop = flat.no_loop;
          name = flat.flattened.name ∙ c.2.name;
          ins = flat.flattened.ins ∙ c.2.ins;
          outs = flat.flattened.outs ∙ c.2.outs;
          cells = source_cells source wires lowers.shape plain c.0 flat.top c.2 among n flat.flattened.cells;
          runs = λ asked inputs loads height trace stop given. means.runs asked inputs loads height trace stop (runs asked inputs loads height trace stop given);
          agree = λ asked inputs loads a b one other. means.agree asked inputs loads a b (runs asked inputs loads a.height a.trace a.stop one) other;
        };
        ports = ports_listed source wires lowers.shape lowers.wired plain c.0 flat.top c.2 among n flat.listed;
        memories = memories_shown c.0 flat.top c.2 wires n flat.listed;
        registers = few_control_registers source wires (zip_also KeepsComponentShape AddsFew source wires lowers.shape adds_few) plain c.0 flat.top (c.2, adds_few flat.place c.0 flat.top c.1 flat.at) among n flat.flattened.cells;
      };
    }

pub flattened_wires_refine : FlattenedWiresRefine
flattened_wires_refine source wires net rules plain_source lowers plain flat = refined source wires net lowers plain flat
