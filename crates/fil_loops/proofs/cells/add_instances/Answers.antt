use Rattle.std.proofs.Common.{arith}
use Rattle.fil_loops.proofs.CellPinLemmas.{adds_all, adds_found, skip_no_dot, skip_no_instance}
use Rattle.fil_loops.proofs.cells.add_instances.Goals.{then-name-place-eq46+in-Some+in_ok-push, then-name-place-eq46+in_default, else-name-place-eq46}
use Rattle.fil_loops.proofs.cells.add_instances.Goals as goal

pub loop-place-preserved : goal.loop-place-preserved
loop-place-preserved c =
    let instances = c.args.ports.now.instances in
    let name = c.args.name.now in
    let node = c.args.node in
    let old = c.args.entries.now.items in
    let place = c.loop-place.place in
    let entries = c.loop-place.entries.items in
    let so_far = c.loop-place.invariant in
    elim c.if-name-place-eq46.branch [
      | then-name-place-eq46+in-Some+in_ok-push w ↦
          rw (w.entries-is, w.in_ok-push.ensures.items)
          (adds_found instances name node old c.requires place (omega (arith, c.loop-place-test.true)) w.if-name-place-eq46.true w.in-Some.instance w.in-Some.ensures.some entries so_far)
      | then-name-place-eq46+in_default w ↦ rw w.entries-is (skip_no_instance instances name node old place entries w.in_default.ensures.none so_far)
      | else-name-place-eq46 w ↦ rw w.entries-is (skip_no_dot instances name node old place entries w.if-name-place-eq46.false so_far)
    ]

pub returns : goal.returns
returns c =
    adds_all c.args.ports.now.instances c.args.name.now c.args.node c.args.entries.now.items c.loop-place.place c.loop-place.entries.items (omega (arith, c.loop-place-test.false)) c.loop-place.invariant
