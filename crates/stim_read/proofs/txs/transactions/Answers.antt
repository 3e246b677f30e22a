use Rattle.std.proofs.Common.{◌≡◌, ℕ, ◌+◌, ◌++◌, ◌<◌, None, List, Option, length, map, drop, append_assoc, sym, ap, subst, ◌∙◌, arith}
use Rattle.std.proofs.lemmas.List.{map-append, length-set}
use Rattle.stim_read.specs.TxText.{tx_entry_seen}
use Rattle.stim_read.specs.TxEvents.{events_seen}
use Rattle.stim_read.specs.TxRules.{starts_of, starts_in, event_number}
use Rattle.stim_read.specs.TxRun.{transaction_of, transaction_seen}
use Rattle.stim_read.specs.inside.TxWalk.{IsEntry, entry_fault, last_after, last_by, start_rows, txs_fault}
use Rattle.stim_read.specs.inside.Walk.{first_fault}
use Rattle.stim_read.proofs.FaultLemmas.{passes, told_first, told_by}
use Rattle.stim_read.proofs.TxSaidLemmas.{mapped_hold}
use Rattle.stim_read.proofs.TxStartLemmas.{HasLast, onto, fault_turn, event_there, last_moves, counted_after, written_back}
use Rattle.stim_read.proofs.WalkLemmas.{flat_cut}
use Rattle.stim_read.proofs.txs.transactions.Goals as goal

pub push_entry-requires-clause-entry : goal.push_entry-requires-clause-entry
push_entry-requires-clause-entry c =
    let within : c.loop-entry.entry-index < length c.args.entries.now = omega arith in
    mapped_hold tx_entry_seen IsEntry c.args.entries.now c.loop-entry.entry-index c.entry-item.result c.requires.entries within c.entry-item.is

pub returns-in_err-push_entry-clause-told : goal.returns-in_err-push_entry-clause-told
returns-in_err-push_entry-clause-told c =
    let end = c.in_err-push_entry.field-0.0 in
    let ev = events_seen c.args.events.now in
    let entries = c.args.entries.now in
    let i = c.loop-entry.entry-index in
    let x = c.entry-item.result in
    let n = length c.loop-entry.txs.items in
    let earlier = c.loop-entry.invariant.earlier in
    let last = c.deref_mut.result.now in
    let within : i < length entries = omega arith in
    let entry = mapped_hold tx_entry_seen IsEntry entries i x c.requires.entries within c.entry-item.is in
    let has : HasLast ev last earlier = subst (λ (l : List (Option ℕ)). HasLast ev l earlier) (sym c.deref_mut.ensures.value) c.loop-entry.invariant.last in
    passes c.from_residual-in_err-push_entry.result end _ c.from_residual-in_err-push_entry.ensures.1
    (told_by end _ _ (sym (fault_turn ev last earlier n entries i x within c.entry-item.is has entry) ∙ c.loop-entry.invariant.told)
    (told_first end (entry_fault ev last n (tx_entry_seen x)) _ c.in_err-push_entry.ensures.told))

pub loop-entry-preserved : goal.loop-entry-preserved
loop-entry-preserved c =
    let ev = events_seen c.args.events.now in
    let entries = c.args.entries.now in
    let i = c.loop-entry.entry-index in
    let x = c.entry-item.result in
    let e = tx_entry_seen x in
    let n = length c.loop-entry.txs.items in
    let earlier = c.loop-entry.invariant.earlier in
    let last = c.deref_mut.result.now in
    let items = c.loop-entry.last.items in
    let within : i < length entries = omega arith in
    let entry = mapped_hold tx_entry_seen IsEntry entries i x c.requires.entries within c.entry-item.is in
    let has : HasLast ev last earlier = subst (λ (l : List (Option ℕ)). HasLast ev l earlier) (sym c.deref_mut.ensures.value) c.loop-entry.invariant.last in
    let kept : entry_fault ev last n e ≡ None = c.in_ok-push_entry.ensures.told in
    let there = event_there ev last n e kept in
    let next = onto (starts_of e) earlier in
    let rest = starts_in (map tx_entry_seen (drop (i + 1) entries)) in
    let g = transaction_of ev in
    let moved = last_moves ev there.0 last earlier e there.1 has in
    let changed = c.in_ok-push_entry.ensures.last in
    let same : length c.push_entry.new.last ≡ length items = ap length changed ∙ length-set last (event_number ev.names e.event) (last_after (last_by ev last e) (start_rows e)) ∙ ap length c.deref_mut.ensures.value in
    let count : c.loop-entry.last.len ≡ length c.push_entry.new.last = omega (arith, same, c.loop-entry.last.ok.0) in
    let back = written_back c.loop-entry.last.len c.push_entry.new.last items same count ∙ changed in
    let pushed = c.in_ok-push_entry.ensures.pushed in
    let counted = counted_after ev e c.loop-entry.txs.items c.push_entry.new.txs.items pushed in
    record {
      earlier = next;
      last = subst (λ (l : List (Option ℕ)). HasLast ev l next) (sym back) moved;
      told = ap (λ m. txs_fault ev next m rest) counted
          ∙ sym (fault_turn ev last earlier n entries i x within c.entry-item.is has entry ∙ ap (λ f. first_fault f (txs_fault ev next (n + e.repeat.times) rest)) kept) ∙ c.loop-entry.invariant.told;
      pushed = ap (λ ts. ts ++ map g rest) pushed ∙ append_assoc (map transaction_seen c.loop-entry.txs.items) (map g (starts_of e)) (map g rest)
          ∙ ap (λ ts. map transaction_seen c.loop-entry.txs.items ++ ts) (sym (map-append g (starts_of e) rest))
          ∙ ap (λ ss. map transaction_seen c.loop-entry.txs.items ++ map g ss) (sym (flat_cut tx_entry_seen starts_of entries i x within c.entry-item.is)) ∙ c.loop-entry.invariant.pushed;
    }
