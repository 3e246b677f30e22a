use Rattle.cal_ast.proofs.ItemLemmas.{new_ports}
use Rattle.cal_ast.specs.Naming.{Unreserved}
use Rattle.cal_place.specs.Around.{comp_at, design_at}
use Rattle.cal_loops.proofs.InsideLemmas.{nodes_within, reached_alike}
use Rattle.cal_loops.proofs.ToldCellLemmas.{none_told}
use Rattle.cal_loops.proofs.least_loop.part_inside.Goals as goal

pub invariant_of-own-clause-in_range : goal.invariant_of-own-clause-in_range
invariant_of-own-clause-in_range c = c.requires.graph.in_range

pub invariant_of-own-clause-within : goal.invariant_of-own-clause-within
invariant_of-own-clause-within c =
    let p = c.args.place.now in
    nodes_within (design_at p) (comp_at p) c.args.ports.now.keys c.args.reads c.in_ok-nodes.nodes.items c.requires.graph c.in_ok-nodes.ensures

pub returns-clause-inside : goal.returns-clause-inside
returns-clause-inside c =
    let p = c.args.place.now in
    let distinct = new_ports Unreserved (design_at p) c.requires.kept p.number (comp_at p) c.comp-comp.ensures.at in
    record {
      reached = reached_alike (design_at p) (comp_at p) c.args.ports.now.keys _ c.requires.graph distinct c.in_ok-nodes.ensures c.in_ok-graph.graph c.signature.ensures.inputs c.in_ok-graph.ensures;
      told = none_told c.in_ok-graph.graph.reads c.none-told.result.cells.items c.none-told.ensures;
    }
