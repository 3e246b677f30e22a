use Rattle.std.proofs.Common.{◌≡◌, ◌++◌, Some, map, ap, ◌∙◌}
use Rattle.std.specs.List.{range_with_len}
use Rattle.hw_bits.specs.Values.{values_of, widths_of}
use Rattle.stim_read.specs.TxText.{tx_entry_seen}
use Rattle.stim_read.specs.TxEvents.{event_seen, events_seen}
use Rattle.stim_read.specs.TxRules.{event_by, value_or_0}
use Rattle.stim_read.specs.TxRun.{transaction_seen}
use Rattle.stim_read.proofs.TxEventLemmas.{event_is}
use Rattle.stim_read.proofs.TxStartLemmas.{started_as}
use Rattle.stim_read.proofs.txs.push_entry.Goals as goal

pub returns-clause-pushed : goal.returns-clause-pushed
returns-clause-pushed c =
    let ev = events_seen c.args.events.now in
    let e = tx_entry_seen c.args.entry.now in
    let event = c.index-event.result.now in
    let by : event_by ev e.event ≡ Some (event_seen event) = event_is c.args.events.now c.args.entry.now.event c.in-Some.place event c.in-Some.ensures.0 c.in-Some.ensures.1 c.index-event.ensures in
    let made = c.in_ok-values.ensures.values in
    let values = ap values_of c.deref-2.ensures.value ∙ made.0 ∙ ap (λ gs. map (value_or_0 gs) event.names) c.deref.ensures.value in
    let widths = ap widths_of c.deref-2.ensures.value ∙ made.1 in
    c.in_ok-last.ensures.pushed
    ∙ ap (λ ts. map transaction_seen c.args.txs.now.items ++ ts) (started_as ev (event_seen event) e by c.in-Some.place (values_of c.deref-2.result.now) (widths_of c.deref-2.result.now) c.in-Some.ensures.0 values widths (range_with_len 0 e.repeat.times))
