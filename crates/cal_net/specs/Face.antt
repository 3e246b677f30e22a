-- How a Calyx component looks from outside: the netlist with its ports and its observable memories, and nothing between them. This project's.
use Rattle.std.specs.Prelude.{[], map}
use Rattle.net_core.specs.Netlist.{Netlist}
use Rattle.cal_ast.specs.Keeping.{flat_cell}
use Rattle.cal_ast.specs.Observable.{observable_memories}
use Rattle.cal_ast.specs.Ports.{inputs_in, outputs_in}
use Rattle.cal_ast.specs.Tree.{Component}

-- a stimulus drives these inputs and loads these memories, and a report shows these outputs and memories
abbrev pub face : Component → Netlist
face top =
    record {
      name = top.name;
      ins = inputs_in top;
      outs = outputs_in top;
      wires = [];
      cells = map (flat_cell []) (observable_memories top);
      sets = [];
    }
