use Rattle.std.proofs.Common.{◌≤◌, length, map, ap, arith}
use Rattle.std.proofs.lemmas.List.{length-map}
use Rattle.fil_sig.specs.Seen.{seen, seen_delay, seen_event}
use Rattle.fil_place.specs.Uses.{MOST_HOLD}
use Rattle.fil_place.proofs.AddedLemmas.{below_all, below_none, below_put, below_skip}
use Rattle.fil_place.proofs.EachLemmas.{item_at}
use Rattle.fil_place.proofs.UseLemmas.{has_delay}
use Rattle.fil_place.proofs.UseLemmas.{good_at}
use Rattle.fil_place.proofs.statement_parts.add_uses.Goals.{in-Some+in_ok-add, in_default}
use Rattle.fil_place.proofs.statement_parts.add_uses.Goals as goal

pub add-requires : goal.add-requires
add-requires c =
    let sig = c.args.sig.now in
    let n = c.loop-number.number in
    let e = c.event-item.result in
    let here = item_at sig.events.items c.deref-event-items.result.now n e c.deref-event-items.ensures.value c.loop-number-test.true c.event-item.is in
    let most : c.in-Some.held.hold ≤ MOST_HOLD = c.in-Some.ensures.small (good_at sig n e c.requires.times here) in
    record { small = omega arith }

pub loop-number-init : goal.loop-number-init
loop-number-init c events inst times are = below_none events (seen c.args.sig.now) inst times c.args.instance c.args.starts.now

pub loop-number-preserved : goal.loop-number-preserved
loop-number-preserved c events inst times are =
    let sig = c.args.sig.now in
    let n = c.loop-number.number in
    let e = c.event-item.result in
    let here = item_at sig.events.items c.deref-event-items.result.now n e c.deref-event-items.ensures.value c.loop-number-test.true c.event-item.is in
    let delay = has_delay sig n e here in
    let so_far = c.loop-number.invariant events inst times are in
    elim c.match-use_of.branch [
      | in-Some+in_ok-add w ↦
          rw w.starts-is (below_put events (seen sig) inst times c.args.instance c.args.starts.now n (seen_delay e.delay) delay c.loop-number.starts so_far w.in-Some.held (w.in-Some.ensures.shown events times are) w.add.new.self w.in_ok-add.ensures)
      | in_default w ↦
          rw w.starts-is (below_skip events (seen sig) inst times c.args.instance c.args.starts.now n (seen_delay e.delay) delay c.loop-number.starts so_far (w.in_default.ensures.shown events times are))
    ]

pub returns : goal.returns
returns c events inst times are =
    let sig = c.args.sig.now in
    let count = length-map sig.events.items seen_event in
    let end : length (map seen_event sig.events.items) ≤ c.loop-number.number = omega (arith, ap length c.deref-event-items.ensures.value, count) in
    below_all events (seen sig) inst times c.args.instance c.args.starts.now c.loop-number.number c.loop-number.starts end (c.loop-number.invariant events inst times are)
