use Rattle.std.proofs.Common.{◌≡◌, ◌<◌, false, true, length, arith}
use Rattle.std.proofs.lemmas.List.Elements.{All-push}
use Rattle.std.proofs.lemmas.Option.{slice_get_within}
use Rattle.hw_levels.specs.declared.cells.CellPort.{CellPort}
use Rattle.fil_loops.proofs.PartLemmas.{ports_more, ports_skip}
use Rattle.fil_loops.proofs.levels.cell_ports.Goals.{in-Some+in_ok-push, in_default}
use Rattle.fil_loops.proofs.levels.cell_ports.Goals as goal

pub loop-node-preserved : goal.loop-node-preserved
loop-node-preserved c =
    let ports = c.args.ports.now in
    let parts = c.args.parts.now in
    let levels = c.args.levels.now in
    let node = c.loop-node.node in
    let cells = c.loop-node.cells.items in
    elim c.match-cell_port.branch [
      | in-Some+in_ok-push w ↦
          rw (w.cells-is, w.in_ok-push.ensures.items)
          (record {
            all = ports_more ports parts levels node cells w.in-Some.port (λ instance pin own is. (w.in-Some.ensures.found instance pin own is).1) c.loop-node.invariant.all;
            within = All-push (λ (p : CellPort). p.node < length ports.names) cells w.in-Some.port c.loop-node.invariant.within (omega (arith, w.in-Some.ensures.node, c.loop-node-test.true, c.len-node-end.ensures.len));
          })
      | in_default w ↦
          rw w.cells-is
          (record {
            all = ports_skip ports parts levels node cells (λ instance pin own is. (let bad : false ≡ true = (w.in_default.ensures.found instance pin own is).0 in absurd (cc))) c.loop-node.invariant.all;
            within = c.loop-node.invariant.within;
          })
    ]

pub returns-clause-all : goal.returns-clause-all
returns-clause-all c node instance pin own is =
    c.loop-node.invariant.all node instance pin own (omega (arith, slice_get_within c.args.ports.now.names node _ is.here, c.loop-node-test.false, c.len-node-end.ensures.len)) is
