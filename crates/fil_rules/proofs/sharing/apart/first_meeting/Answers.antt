use Rattle.std.proofs.Common.{◌≡◌, ◌<◌, ◌≤◌, inl, inr, length, ap, ◌∙◌, arith}
use Rattle.std.proofs.lemmas.Bool.{cases_lt}
use Rattle.fil_sig.specs.Seen.{seen}
use Rattle.fil_place.proofs.EachLemmas.{item_at}
use Rattle.fil_rules.proofs.SharingLemmas.{event_within}
use Rattle.fil_place.proofs.UseLemmas.{has_delay}
use Rattle.fil_rules.proofs.sharing.apart.first_meeting.Goals as goal

pub returns-in-Some : goal.returns-in-Some
returns-in-Some c events inst times others distinct own other =
    let sig = c.args.sig.now in
    let n = c.loop-number.number in
    let e = c.event-item.result in
    let here = item_at sig.events.items c.deref-event-items.result.now n e c.deref-event-items.ensures.value c.loop-number-test.true c.event-item.is in
    record {
      number = n;
      before = c.loop-number.invariant events inst times others distinct own other;
      here = c.in-Some.ensures events inst times others (seen sig) distinct own other (has_delay sig n e here);
    }

pub loop-number-preserved : goal.loop-number-preserved
loop-number-preserved c events inst times others distinct own other k below u w is_u is_w u_at w_at =
    let sig = c.args.sig.now in
    let n = c.loop-number.number in
    let e = c.event-item.result in
    let here = item_at sig.events.items c.deref-event-items.result.now n e c.deref-event-items.ensures.value c.loop-number-test.true c.event-item.is in
    elim (cases_lt k n) [
      | inl before ↦ c.loop-number.invariant events inst times others distinct own other k before u w is_u is_w u_at w_at
      | inr after ↦
          let same : k ≡ n = omega arith in
          c.in_default.ensures events inst times others (seen sig) distinct own other (has_delay sig n e here) u w is_u is_w (u_at ∙ same) (w_at ∙ same)
    ]

pub returns : goal.returns
returns c events inst times others distinct own other k u w is_u is_w u_at w_at =
    let sig = c.args.sig.now in
    let end : length sig.events.items ≤ c.loop-number.number = omega (arith, ap length c.deref-event-items.ensures.value) in
    let within : u.event < length sig.events.items = event_within sig inst times u is_u in
    let below : k < c.loop-number.number = omega (arith, u_at) in
    c.loop-number.invariant events inst times others distinct own other k below u w is_u is_w u_at w_at
