use Rattle.std.proofs.Common.{refl, arith}
use Rattle.std.proofs.lemmas.Result.{IfOk-weaker}
use Rattle.hw_cells.proofs.PortLemmas.{kept_of_ports, on_one_side, ports_fit}
use Rattle.hw_cells.proofs.ports_alone.graph_of_ports.Goals as goal

pub condense-requires-clause-fit : goal.condense-requires-clause-fit
condense-requires-clause-fit c =
    ports_fit c.args.part.now c.len-ports.result _ c.as_slice-nodes.result.now c.as_slice-nodes.ensures.value (omega (arith, c.len-ports.ensures, c.args.part.now.nodes.ok.0)) refl c.in_ok-pins_between.ensures c.in_ok-pins_between-2.ensures tt c.args.part.now.in_range c.args.part.now.within

pub condense-requires-clause-sides : goal.condense-requires-clause-sides
condense-requires-clause-sides c = on_one_side c.as_slice-nodes.result.now c.args.part.now.inputs c.len-ports.result _ _ c.in_ok-pins_between.ensures c.in_ok-pins_between-2.ensures

pub returns : goal.returns
returns c =
    IfOk-weaker c.condense.result _ _ (kept_of_ports c.args.part.now c.len-ports.result _ c.as_slice-nodes.result.now c.as_slice-nodes.ensures.value (omega (arith, c.len-ports.ensures, c.args.part.now.nodes.ok.0)) refl c.in_ok-pins_between.ensures c.in_ok-pins_between-2.ensures) c.condense.ensures
