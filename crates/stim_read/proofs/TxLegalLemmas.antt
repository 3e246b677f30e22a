-- What a stimulus of transactions gives is legal: the starts of each event are its delay apart.
use Rattle.std.proofs.Common.{◌≡◌, ℕ, zero, suc, ◌+◌, ◌≤◌, ◌==◌, nat_le, Bool, true, false, cond, List, [], ◌∷◌, map, get_or, slice_get, All, Option, Some, None, Result, Ok, Err, IfOk, refl, sym, ap, subst, ◌∙◌, eq-eqb, arith}
use Rattle.std.specs.Prelude.{AllPairs}
use Rattle.std.proofs.lemmas.Bool.{eqb-true, leb-true}
use Rattle.std.proofs.lemmas.List.Elements.{All-nil, All-cons}
use Rattle.std.proofs.lemmas.List.Kept.{AllPairs-cons}
use Rattle.std.proofs.lemmas.Option.{same_Some}
use Rattle.fil_ast.specs.Signature.{SigEvent, Signature}
use Rattle.fil_ast.specs.declared.tx.TxList.{TxList}
use Rattle.stim_read.specs.Fits.{AreLegal}
use Rattle.stim_read.specs.TxEvents.{Event, EventList, rows_of, event_of, events_from, events_of}
use Rattle.stim_read.specs.TxRules.{Start, starts_in, event_number, event_by}
use Rattle.stim_read.specs.TxRun.{Transaction, transaction_of, run_rows, count_of, transaction_seen, tx_run_seen, GiveTransactions}
use Rattle.stim_read.specs.inside.Walk.{first_fault}
use Rattle.stim_read.specs.Rules.{refused}
use Rattle.stim_read.specs.inside.TxWalk.{latest_start, start_fault, values_fault, event_fault, tx_fault, txs_fault, count_fault, rows_fault}
use Rattle.stim_read.specs.declared.stim_end.StimEnd.{StimEnd}
use Rattle.stim_read.specs.declared.stim_end.StimEnd.TheVariants.{Refused}
use Rattle.stim_read.proofs.FaultLemmas.{neither_there, kept_by}
use Rattle.stim_read.proofs.TxRuleLemmas.{kept_transactions}

-- if it is of the event with this number, it starts at least the event's delay after the row
abbrev StartsAfter : EventList → ℕ → ℕ → Transaction → Type 0
StartsAfter events number row t = number ≡ t.event → (event : Event) → slice_get events.events number ≡ Some event → row + event.delay ≤ t.start

-- S5 at a start
kept_start : (events : EventList) (earlier : List Start) (n : ℕ) (s : Start) → tx_fault events earlier n s ≡ None → (event : Event) → event_by events s.event ≡ Some event
    → (before : ℕ) → latest_start events.names (event_number events.names s.event) earlier ≡ Some before → before + event.delay ≤ s.start
kept_start events earlier n s none event is before last =
    let last_is = latest_start events.names (event_number events.names s.event) earlier in
    let at_event : event_fault (Some event) last_is n s ≡ None = ap (λ o. event_fault o last_is n s) (sym is) ∙ none in
    let apart = (neither_there (values_fault event.inputs n s.given) (start_fault last_is n event.delay s.start) at_event).1 in
    let tested : start_fault (Some before) n event.delay s.start ≡ None = ap (λ o. start_fault o n event.delay s.start) (sym last) ∙ apart in
    leb-true (before + event.delay) s.start (kept_by (nat_le (before + event.delay) s.start) (Refused 5 n before s.start event.delay) tested)

module _ (events : EventList) (number row : ℕ) where
  -- the last start of the event is no earlier than the row
  record IsPast (earlier : List Start) : Type 0 where
    last : ℕ
    is_last : latest_start events.names number earlier ≡ Some last
    past : row ≤ last

  same_event : (s : Start) (earlier : List Start) → event_number events.names s.event ≡ number → latest_start events.names number (s ∷ earlier) ≡ Some s.start
  same_event s earlier same = ap (λ b. cond b (Some s.start) (latest_start events.names number earlier)) (eq-eqb (event_number events.names s.event) number same)

  all_after : (earlier : List Start) (n : ℕ) (ss : List Start) → IsPast earlier → txs_fault events earlier n ss ≡ None → All (StartsAfter events number row) (map (transaction_of events) ss)
  all_after earlier n [] past none = All-nil (StartsAfter events number row)
  all_after earlier n (s ∷ ss) past none =
      by (event_number events.names s.event == number) refl
      (λ later. all_after (s ∷ earlier) (n + 1) ss later (neither_there (tx_fault events earlier n s) (txs_fault events (s ∷ earlier) (n + 1) ss) none).1)
    where
      both : (tx_fault events earlier n s ≡ None) × (txs_fault events (s ∷ earlier) (n + 1) ss ≡ None)
      both = neither_there (tx_fault events earlier n s) (txs_fault events (s ∷ earlier) (n + 1) ss) none

      after : event_number events.names s.event ≡ number → (event : Event) → slice_get events.events number ≡ Some event → row + event.delay ≤ s.start
      after same event is =
          let kept = kept_start events earlier n s both.0 event (ap (slice_get events.events) same ∙ is) past.last (ap (λ k. latest_start events.names k earlier) same ∙ past.is_last) in
          omega (arith, kept, past.past)

      by : (b : Bool) → (event_number events.names s.event == number) ≡ b → (IsPast (s ∷ earlier) → All (StartsAfter events number row) (map (transaction_of events) ss)) → All (StartsAfter events number row) (map (transaction_of events) (s ∷ ss))
      by false is rest =
          All-cons (StartsAfter events number row) (transaction_of events s) (map (transaction_of events) ss)
          (λ same. let other : false ≡ true = sym is ∙ eq-eqb (event_number events.names s.event) number (sym same) in absurd (cc))
          (rest (record { last = past.last; is_last = ap (λ b. cond b (Some s.start) (latest_start events.names number earlier)) is ∙ past.is_last; past = past.past }))
      by true is rest = there (slice_get events.events number) refl
        where
          same : event_number events.names s.event ≡ number
          same = eqb-true (event_number events.names s.event) number is

          there : (o : Option Event) → slice_get events.events number ≡ o → All (StartsAfter events number row) (map (transaction_of events) (s ∷ ss))
          there None at =
              let last = latest_start events.names (event_number events.names s.event) earlier in
              let bad : ◌≡◌ {A = Option StimEnd} (Some (refused 3 n)) None = ap (λ o. event_fault o last n s) (sym (ap (slice_get events.events) same ∙ at)) ∙ both.0 in
              absurd (cc)
          there (Some event) at =
              let here = after same event at in
              All-cons (StartsAfter events number row) (transaction_of events s) (map (transaction_of events) ss) (λ same'. after same)
              (rest (record { last = s.start; is_last = same_event s earlier same; past = omega (arith, here) }))

-- each is after those before it
all_follow : (events : EventList) (earlier : List Start) (n : ℕ) (ss : List Start) → txs_fault events earlier n ss ≡ None
    → AllPairs (λ (a b : Transaction). StartsAfter events a.event a.start b) (map (transaction_of events) ss)
all_follow events earlier n [] none = λ i j d less within. absurd (omega arith)
all_follow events earlier n (s ∷ ss) none =
    let both = neither_there (tx_fault events earlier n s) (txs_fault events (s ∷ earlier) (n + 1) ss) none in
    let number = event_number events.names s.event in
    AllPairs-cons (λ (a b : Transaction). StartsAfter events a.event a.start b) (transaction_of events s) (map (transaction_of events) ss)
    (all_after events number s.start (s ∷ earlier) (n + 1) ss (record { last = s.start; is_last = same_event events number s.start s earlier refl; past = omega arith }) both.1)
    (all_follow events (s ∷ earlier) (n + 1) ss both.1)

-- what a stimulus has to know of an event
event_at : (sig : Signature) (first : ℕ) (es : List SigEvent) (i : ℕ) (e : SigEvent) → slice_get es i ≡ Some e → slice_get (events_from sig first es) i ≡ Some (event_of sig (first + i) e)
event_at sig first [] i e at = absurd (cc)
event_at sig first (f ∷ es) zero e at =
    let number : first ≡ first + 0 = omega arith in
    ap (λ k. Some (event_of sig k f)) number ∙ ap (λ g. Some (event_of sig (first + 0) g)) (same_Some f e at)
event_at sig first (f ∷ es) (suc i) e at =
    let number : (first + 1) + i ≡ first + suc i = omega arith in
    event_at sig (first + 1) es i e at ∙ ap (λ k. Some (event_of sig k e)) number

module _ (bytes : List ℕ) (sig : Signature) where
  given_is_legal : (list : TxList) → GiveTransactions bytes (events_of sig) (tx_run_seen list) → AreLegal sig (map transaction_seen list.txs.items)
  given_is_legal list gives =
      let ev = events_of sig in
      let ss = starts_in gives.stimulus.entries in
      let ts = map (transaction_of ev) ss in
      let seen : map transaction_seen list.txs.items ≡ ts = ap (λ r. r.transactions) gives.gives in
      let rules = txs_fault ev [] 0 ss in
      let rows = rows_fault (run_rows ev.events ts) in
      let counts = neither_there (count_fault (count_of gives.stimulus.entries)) (first_fault rules rows) (kept_transactions ev gives.stimulus gives.kept) in
      let none = neither_there rules rows counts.1 in
      let pairs = all_follow ev [] 0 ss none.0 in
      let legal : AreLegal sig ts = λ i j d less within same e rows at fixed.
      (let number = (get_or ts i d).event in
      let after = pairs i j d less within same (event_of sig (0 + number) e) (event_at sig 0 sig.events number e at) in
      let delay : rows_of e.delay ≡ rows = ap rows_of fixed in
      omega (arith, after, delay)) in
      subst (AreLegal sig) (sym seen) legal

  pub result_is_legal : (r : Result TxList StimEnd) → IfOk r (λ list. GiveTransactions bytes (events_of sig) (tx_run_seen list)) → IfOk r (λ list. AreLegal sig (map transaction_seen list.txs.items))
  result_is_legal (Ok list) gives = given_is_legal list gives
  result_is_legal (Err end) gives = tt
