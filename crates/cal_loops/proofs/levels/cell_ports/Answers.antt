use Rattle.std.proofs.Common.{◌≡◌, ◌<◌, Option, length, sym, subst, ◌∙◌, arith}
use Rattle.std.specs.Prelude.{IfSome}
use Rattle.std.proofs.lemmas.List.Elements.{All-push}
use Rattle.hw_levels.specs.declared.cells.CellPort.{CellPort}
use Rattle.cal_ast.specs.Tree.{port_of}
use Rattle.cal_place.specs.Around.{comp_at, design_at}
use Rattle.cal_wires.specs.Nodes.{APort}
use Rattle.cal_loops.proofs.CellPortLemmas.{found_more, found_none}
use Rattle.cal_wires.proofs.GainLemmas.{number_within}
use Rattle.cal_loops.proofs.levels.cell_ports.Goals.{in-Some+in_ok-push, in_default}
use Rattle.cal_loops.proofs.levels.cell_ports.Goals as goal

pub loop-node-preserved : goal.loop-node-preserved
loop-node-preserved c =
    let p = c.args.place.now in
    let g = c.args.graph.now in
    let node = c.loop-node.node in
    let ports = c.loop-node.ports.items in
    let inside : CellPort → Type 0 = λ port. port.node < length g.ports.keys in
    elim c.match-cell_port.branch [
      | in-Some+in_ok-push w ↦
          let told = subst (λ (o : Option CellPort). IfSome o (λ port. port.node ≡ node)) w.in-Some.is c.cell_port.ensures.node in
          let within : w.in-Some.port.node < length g.ports.keys = omega (arith, told, c.loop-node-test.true, c.len-node-end.ensures.len) in
          rw (w.ports-is, w.in_ok-push.ensures.items) (record {
            in_range = All-push inside ports w.in-Some.port c.loop-node.invariant.in_range within;
            found = found_more (design_at p) (comp_at p) g c.args.levels.now node ports w.in-Some.port c.loop-node.invariant.found (λ port same is. sym w.in-Some.is ∙ c.cell_port.ensures.found port same is);
          })
      | in_default w ↦
          rw w.ports-is (record {
            in_range = c.loop-node.invariant.in_range;
            found = found_none (design_at p) (comp_at p) g c.args.levels.now node ports c.loop-node.invariant.found (λ port same is. sym w.in_default.is ∙ c.cell_port.ensures.found port same is);
          })
    ]

pub returns-clause-found : goal.returns-clause-found
returns-clause-found c = λ port is.
    let g = c.args.graph.now in
    c.loop-node.invariant.found port is (omega (arith, number_within g (APort (port_of is.cell is.pin)) port.node is.number, c.loop-node-test.false, c.len-node-end.ensures.len, c.loop-node.auto.node-end))
