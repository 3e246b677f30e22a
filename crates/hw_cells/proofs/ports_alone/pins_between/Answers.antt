use Rattle.std.proofs.Common.{◌≡◌, ℕ, Some, slice_get, sym, ◌∙◌, arith}
use Rattle.hw_cells.proofs.PortLemmas.{far_all, far_more, far_same, flat_none, flat_some, got}
use Rattle.hw_cells.proofs.ports_alone.pins_between.Goals.{in-Some+in_ok-push, in_default}
use Rattle.hw_cells.proofs.ports_alone.pins_between.Goals as goal

pub loop-port-preserved : goal.loop-port-preserved
loop-port-preserved c =
    let nodes = c.args.nodes.now in
    let port = c.loop-port.port in
    let pins = c.loop-port.pins.items in
    let within = c.loop-port-test.true in
    let look : c.copied.result ≡ slice_get nodes port = c.copied.ensures ∙ got nodes port c.get.result c.get.ensures.lookup in
    elim c.match-flatten.branch [
      | in-Some+in_ok-push w ↦
          let at = sym look ∙ flat_some c.copied.result c.flatten.result c.flatten.ensures w.in-Some.node w.in-Some.is in
          rw (w.pins-is, w.in_ok-push.ensures.items) (far_more nodes c.args.start c.args.end port w.in-Some.node pins within at c.loop-port.invariant)
      | in_default w ↦
          let none : (node : ℕ) → slice_get nodes port ≡ Some (Some node) → ⊥ = λ node at. flat_none c.copied.result c.flatten.result c.flatten.ensures w.in_default.is node (look ∙ at) in
          rw w.pins-is (far_same nodes c.args.start c.args.end port pins within none c.loop-port.invariant)
    ]

pub returns : goal.returns
returns c = far_all c.args.nodes.now c.args.start c.args.end c.loop-port.port c.loop-port.pins.items (omega (arith, c.loop-port-test.false)) c.loop-port.invariant
