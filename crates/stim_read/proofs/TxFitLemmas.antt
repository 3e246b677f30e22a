-- What a stimulus of transactions gives fits the signature that it is for.
use Rattle.std.proofs.Common.{◌≡◌, ℕ, zero, suc, ◌+◌, ◌<◌, ◌≤◌, max, nat_le, true, List, [], ◌∷◌, length, map, get_or, slice_get, All, Option, Some, None, Result, Ok, Err, IfOk, refl, sym, ap, subst, ◌∙◌, arith}
use Rattle.std.specs.List.{fold}
use Rattle.std.proofs.lemmas.Bool.{leb-true}
use Rattle.std.proofs.lemmas.List.Elements.{All-nil, All-cons, All-map}
use Rattle.std.proofs.lemmas.Option.{slice_get_within}
use Rattle.fil_ast.specs.Signature.{SigEvent, Signature}
use Rattle.fil_ast.specs.declared.tx.Tx.{Tx}
use Rattle.fil_ast.specs.declared.tx.TxList.{TxList}
use Rattle.fil_sig.proofs.ListLemmas.{All-unmap}
use Rattle.stim_read.specs.TxEvents.{Event, EventList, ports_after, port_targets, events_from, events_of}
use Rattle.stim_read.specs.TxRules.{Start, starts_in, event_number, event_by, inputs_of}
use Rattle.stim_read.specs.TxRun.{Transaction, transaction_of, end_row, run_rows, count_of, transaction_seen, tx_run_seen, GiveTransactions}
use Rattle.stim_read.specs.inside.Walk.{first_fault}
use Rattle.stim_read.specs.Rules.{refused}
use Rattle.stim_read.specs.inside.TxWalk.{latest_start, event_fault, tx_fault, txs_fault, count_fault, rows_fault}
use Rattle.stim_read.specs.Fits.{FitsSignature}
use Rattle.hw_limits.specs.declared.limits.TheConstants.{MOST_CYCLES}
use Rattle.stim_read.specs.declared.stim_end.StimEnd.{StimEnd}
use Rattle.stim_read.specs.declared.stim_end.StimEnd.TheVariants.{Limit}
use Rattle.stim_read.proofs.FaultLemmas.{neither_there, kept_by}
use Rattle.stim_read.proofs.TxRuleLemmas.{kept_transactions}
use Rattle.stim_read.proofs.TxEventLemmas.{length_events}

-- ---- events

-- it is of one of the events
abbrev IsOfEvent : EventList → Transaction → Type 0
IsOfEvent events t = t.event < length events.events

start_of_event : (events : EventList) (earlier : List Start) (n : ℕ) (s : Start) → tx_fault events earlier n s ≡ None → IsOfEvent events (transaction_of events s)
start_of_event events earlier n s none = by (event_by events s.event) refl none where
  by : (o : Option Event) → event_by events s.event ≡ o → event_fault o (latest_start events.names (event_number events.names s.event) earlier) n s ≡ None
      → event_number events.names s.event < length events.events
  by None is no_fault = let bad : ◌≡◌ {A = Option StimEnd} (Some (refused 3 n)) None = no_fault in absurd cc
  by (Some event) is no_fault = slice_get_within events.events (event_number events.names s.event) event is

all_of_events : (events : EventList) (earlier : List Start) (n : ℕ) (ss : List Start) → txs_fault events earlier n ss ≡ None → All (IsOfEvent events) (map (transaction_of events) ss)
all_of_events events earlier n [] none = All-nil (IsOfEvent events)
all_of_events events earlier n (s ∷ ss) none =
    let both = neither_there (tx_fault events earlier n s) (txs_fault events (s ∷ earlier) (n + 1) ss) none in
    All-cons (IsOfEvent events) (transaction_of events s) (map (transaction_of events) ss) (start_of_event events earlier n s both.0) (all_of_events events (s ∷ earlier) (n + 1) ss both.1)

-- ---- widths

-- the values have the widths of the data inputs of the transaction's event
abbrev HasWidthsOf : EventList → Transaction → Type 0
HasWidthsOf events t = t.widths ≡ (inputs_of (slice_get events.events t.event)).widths

-- the data inputs of the event with this number, in a list that is numbered from another one on
pub inputs_at : (sig : Signature) (first : ℕ) (es : List SigEvent) (i : ℕ) → i < length es → inputs_of (slice_get (events_from sig first es) i) ≡ port_targets (ports_after (first + i) sig.ins)
inputs_at sig first [] i within = absurd (omega arith)
inputs_at sig first (e ∷ es) zero within = let same : first ≡ first + 0 = omega arith in ap (λ k. port_targets (ports_after k sig.ins)) same
inputs_at sig first (e ∷ es) (suc i) within =
    let same : (first + 1) + i ≡ first + suc i = omega arith in
    inputs_at sig (first + 1) es i (omega arith) ∙ ap (λ k. port_targets (ports_after k sig.ins)) same

-- ---- rows

-- it starts in this row or earlier
abbrev StartsBy : ℕ → Transaction → Type 0
StartsBy row t = t.start ≤ row

start_by_end : (events : List Event) (rows most : ℕ) (ts : List Transaction) → fold (λ n t. max n (end_row events t)) rows ts ≤ most → (rows ≤ most) × All (StartsBy most) ts
start_by_end events rows most [] le = (le, All-nil (StartsBy most))
start_by_end events rows most (t ∷ ts) le =
    let later = start_by_end events (max rows (end_row events t)) most ts le in
    (omega (arith, later.0), All-cons (StartsBy most) t ts (omega (arith, later.0)) later.1)

start_in_time : (events : List Event) (ts : List Transaction) → rows_fault (run_rows events ts) ≡ None → All (StartsBy MOST_CYCLES) ts
start_in_time events ts none =
    let within : run_rows events ts ≤ MOST_CYCLES = leb-true (run_rows events ts) MOST_CYCLES (kept_by (nat_le (run_rows events ts) MOST_CYCLES) (Limit (run_rows events ts) MOST_CYCLES true) none) in
    (start_by_end events 0 MOST_CYCLES ts (omega (arith, within))).1

-- ---- what was read

module _ (bytes : List ℕ) (sig : Signature) where
  pub given_fits_signature : (list : TxList) → GiveTransactions bytes (events_of sig) (tx_run_seen list) → All (FitsSignature sig) list.txs.items
  given_fits_signature list gives k d within =
      let ev = events_of sig in
      let ts = map (transaction_of ev) (starts_in gives.stimulus.entries) in
      let seen : map transaction_seen list.txs.items ≡ ts = ap (λ r. r.transactions) gives.gives in
      let rules = txs_fault ev [] 0 (starts_in gives.stimulus.entries) in
      let rows = rows_fault (run_rows ev.events ts) in
      let counts = neither_there (count_fault (count_of gives.stimulus.entries)) (first_fault rules rows) (kept_transactions ev gives.stimulus gives.kept) in
      let none = neither_there rules rows counts.1 in
      let each : (P : Transaction → Type 0) → All P ts → P (transaction_seen (get_or list.txs.items k d)) =
      λ P all. All-unmap P transaction_seen list.txs.items (subst (λ (xs : List Transaction). All P xs) (sym seen) all) k d within in
      let tx : Tx = get_or list.txs.items k d in
      let of_event : tx.event < length sig.events = omega (arith, each (IsOfEvent ev) (all_of_events ev [] 0 (starts_in gives.stimulus.entries) none.0), length_events sig 0 sig.events) in
      let number : 0 + tx.event ≡ tx.event = omega arith in
      record {
        event = of_event;
        start = each (StartsBy MOST_CYCLES) (start_in_time ev.events ts none.1);
        widths = each (HasWidthsOf ev) (All-map (HasWidthsOf ev) (transaction_of ev) (starts_in gives.stimulus.entries) (λ j e inside. refl))
            ∙ ap (λ t. t.widths) (inputs_at sig 0 sig.events tx.event of_event ∙ ap (λ n. port_targets (ports_after n sig.ins)) number);
      }

  pub result_fits_signature : (r : Result TxList StimEnd) → IfOk r (λ list. GiveTransactions bytes (events_of sig) (tx_run_seen list)) → IfOk r (λ list. All (FitsSignature sig) list.txs.items)
  result_fits_signature (Ok list) gives = given_fits_signature list gives
  result_fits_signature (Err end) gives = tt
