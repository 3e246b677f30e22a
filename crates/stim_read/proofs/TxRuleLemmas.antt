-- The walk over a stimulus of transactions finds the first limit or rule that the stimulus does not keep.
use Rattle.std.proofs.Common.{◌≡◌, ℕ, ◌+◌, ◌≤◌, Bool, true, false, cond, nat_le, if◌then◌else◌, List, [], ◌∷◌, ◌++◌, Option, Some, None, inl, inr, refl, sym, ap, subst, ◌∙◌}
use Rattle.std.specs.List.{list_all, filter, last_or}
use Rattle.std.proofs.lemmas.Bool.{cases_Bool, leb-true, leb-false, le-leb, lt-leb}
use Rattle.std.proofs.lemmas.List.{append-nil}
use Rattle.std.proofs.lemmas.List.Elements.{filter-append}
use Rattle.std.proofs.lemmas.Option.{same_Some}
use Rattle.hw_names.specs.Name.{Text}
use Rattle.hw_limits.specs.declared.limits.TheConstants.{MOST_TRANSACTIONS, MOST_CYCLES}
use Rattle.stim_read.specs.Rules.{told_of, refused}
use Rattle.stim_read.specs.CycleRules.{has_known_name}
use Rattle.stim_read.specs.TxText.{Transactions}
use Rattle.stim_read.specs.TxEvents.{Event, EventList}
use Rattle.stim_read.specs.TxRules.{Start, starts_in, event_number, event_by, has_all_values, values_fit, starts_after, is_of, last_of, rules_of, start_rules}
use Rattle.stim_read.specs.TxRun.{count_of, rows_of_run, StartsKeepRules, KeepsTxRules, BreaksFirstTx, Count, AtStart, Rows}
use Rattle.stim_read.specs.inside.Walk.{first_fault, unless}
use Rattle.stim_read.specs.inside.TxWalk.{latest_start, start_fault, event_fault, txs_fault, count_fault, rows_fault, transactions_fault}
use Rattle.stim_read.specs.declared.stim_end.StimEnd.{StimEnd}
use Rattle.stim_read.specs.declared.stim_end.StimEnd.TheVariants.{Limit}
use Rattle.stim_read.proofs.FaultLemmas.{alone, assoc, neither, neither_there, refused_then, judged_later, broken, kept_so, kept_by}
use Rattle.stim_read.proofs.RuleLemmas.{fault_in, walk, last_pushed, walk_kept, kept_walk, walk_broken, broken_walk}

-- ---- a start

abbrev row_of : Option Start → Option ℕ
row_of None = None
row_of (Some s) = Some s.start

start_same : (before : Option Start) (n delay : ℕ) (s : Start) → start_fault (row_of before) n delay s.start ≡ unless (starts_after before delay s).kept (told_of n (starts_after before delay s))
start_same None n delay s = refl
start_same (Some b) n delay s = refl

event_same : (o : Option Event) (before : Option Start) (n : ℕ) (s : Start) → event_fault o (row_of before) n s ≡ fault_in n (rules_of o before s)
event_same None before n s = refl
event_same (Some event) before n s =
    let names = unless (list_all (has_known_name event.inputs.names) s.given) (refused 3 n) in
    let values = unless (has_all_values event.inputs s) (refused 6 n) in
    let fit = unless (values_fit event.inputs s) (refused 4 n) in
    let order = starts_after before event.delay s in
    let late = start_fault (row_of before) n event.delay s.start in
    assoc names (first_fault values fit) late ∙ ap (first_fault names) (assoc values fit late)
    ∙ ap (λ o. first_fault names (first_fault values (first_fault fit o))) (start_same before n event.delay s ∙ sym (alone (unless order.kept (told_of n order))))

-- ---- starts

-- the latest start of each event in the one list is the last in the other
abbrev AreAlike : List Text → List Start → List Start → Type 0
AreAlike names latest earlier = (event : ℕ) → latest_start names event latest ≡ row_of (last_of names event earlier)

module _ (names : List Text) (event : ℕ) (s : Start) (earlier : List Start) where
  abbrev of_event : List Start
  of_event = filter (is_of names event) earlier

  last_is : (b : Bool) → is_of names event s ≡ b → last_of names event (earlier ++ s ∷ []) ≡ last_or None (of_event ++ cond b (s ∷ []) [])
  last_is b is = ap (last_or None) (filter-append (is_of names event) earlier (s ∷ []) ∙ ap (λ c. of_event ++ cond c (s ∷ []) []) is)

  last_moves : (latest : List Start) → latest_start names event latest ≡ row_of (last_of names event earlier) → latest_start names event (s ∷ latest) ≡ row_of (last_of names event (earlier ++ s ∷ []))
  last_moves latest so_far = by (is_of names event s) refl where
    now : (b : Bool) → is_of names event s ≡ b → latest_start names event (s ∷ latest) ≡ (if b then Some s.start else latest_start names event latest)
    now b is = ap (λ c. if c then Some s.start else latest_start names event latest) is

    by : (b : Bool) → is_of names event s ≡ b → latest_start names event (s ∷ latest) ≡ row_of (last_of names event (earlier ++ s ∷ []))
    by true is = now true is ∙ sym (ap row_of (last_is true is ∙ last_pushed None of_event s))
    by false is = now false is ∙ so_far ∙ sym (ap row_of (last_is false is ∙ ap (last_or None) (append-nil of_event)))

module _ (events : EventList) where
  txs_walk : (latest earlier : List Start) (n : ℕ) (ss : List Start) → AreAlike events.names latest earlier → txs_fault events latest n ss ≡ walk (start_rules events) earlier n ss
  txs_walk latest earlier n [] alike = refl
  txs_walk latest earlier n (s ∷ ss) alike =
      let number = event_number events.names s.event in
      let event = event_by events s.event in
      ap (λ o. first_fault o (txs_fault events (s ∷ latest) (n + 1) ss))
      (ap (λ b. event_fault event b n s) (alike number) ∙ event_same event (last_of events.names number earlier) n s)
      ∙ ap (first_fault (fault_in n (start_rules events earlier s)))
      (txs_walk (s ∷ latest) (earlier ++ s ∷ []) (n + 1) ss (λ k. last_moves events.names k s earlier latest (alike k)))

  all_starts : (ss : List Start) → txs_fault events [] 0 ss ≡ walk (start_rules events) [] 0 ss
  all_starts ss = txs_walk [] [] 0 ss (λ k. refl)

-- ---- a stimulus

module _ (events : EventList) (t : Transactions) where
  abbrev ss : List Start
  ss = starts_in t.entries

  abbrev count : ℕ
  count = count_of t.entries

  abbrev rows : ℕ
  rows = rows_of_run events t

  abbrev many : StimEnd
  many = Limit count MOST_TRANSACTIONS false

  abbrev long : StimEnd
  long = Limit rows MOST_CYCLES true

  abbrev in_starts : Option StimEnd
  in_starts = txs_fault events [] 0 ss

  starts_are : in_starts ≡ walk (start_rules events) [] 0 ss
  starts_are = all_starts events ss

  count_kept : count ≤ MOST_TRANSACTIONS → count_fault count ≡ None
  count_kept few = kept_so (nat_le count MOST_TRANSACTIONS) many (le-leb count MOST_TRANSACTIONS few)

  starts_kept : StartsKeepRules events t → in_starts ≡ None
  starts_kept kept = starts_are ∙ kept_walk (start_rules events) 0 ss kept

  -- a stimulus without a fault keeps the limits and the rules
  pub transactions_kept : transactions_fault events t ≡ None → KeepsTxRules events t
  transactions_kept none =
      let both = neither_there (count_fault count) (first_fault in_starts (rows_fault rows)) none in
      let rules = neither_there in_starts (rows_fault rows) both.1 in
      record {
        count = leb-true count MOST_TRANSACTIONS (kept_by (nat_le count MOST_TRANSACTIONS) many both.0);
        starts = walk_kept (start_rules events) 0 ss (sym starts_are ∙ rules.0);
        rows = leb-true rows MOST_CYCLES (kept_by (nat_le rows MOST_CYCLES) long rules.1);
      }

  pub kept_transactions : KeepsTxRules events t → transactions_fault events t ≡ None
  kept_transactions kept =
      neither (count_fault count) (first_fault in_starts (rows_fault rows)) (count_kept kept.count)
      (neither in_starts (rows_fault rows) (starts_kept kept.starts) (kept_so (nat_le rows MOST_CYCLES) long (le-leb rows MOST_CYCLES kept.rows)))

  many_told : nat_le count MOST_TRANSACTIONS ≡ false → transactions_fault events t ≡ Some many
  many_told off = refused_then (count_fault count) (first_fault in_starts (rows_fault rows)) many (broken (nat_le count MOST_TRANSACTIONS) many off)

  long_told : count ≤ MOST_TRANSACTIONS → StartsKeepRules events t → nat_le rows MOST_CYCLES ≡ false → transactions_fault events t ≡ Some long
  long_told few kept off =
      judged_later (count_fault count) (first_fault in_starts (rows_fault rows)) long (count_kept few)
      (judged_later in_starts (rows_fault rows) long (starts_kept kept) (broken (nat_le rows MOST_CYCLES) long off))

  -- where the number of transactions is kept, the fault is at a start or in the number of rows
  rules_broken : (end : StimEnd) → count ≤ MOST_TRANSACTIONS → first_fault in_starts (rows_fault rows) ≡ Some end → BreaksFirstTx events t end
  rules_broken end few is = by in_starts refl where
    by : (o : Option StimEnd) → in_starts ≡ o → BreaksFirstTx events t end
    by (Some f) here =
        let found : Some f ≡ Some end = ap (λ o. first_fault o (rows_fault rows)) (sym here) ∙ is in
        AtStart end few (walk_broken (start_rules events) 0 ss end (sym starts_are ∙ here ∙ found))
    by None here =
        let found : rows_fault rows ≡ Some end = ap (λ o. first_fault o (rows_fault rows)) (sym here) ∙ is in
        let kept : StartsKeepRules events t = walk_kept (start_rules events) 0 ss (sym starts_are ∙ here) in
        elim (cases_Bool (nat_le rows MOST_CYCLES)) [
          | inl on ↦ let bad : ◌≡◌ {A = Option StimEnd} None (Some end) = sym (kept_so (nat_le rows MOST_CYCLES) long on) ∙ found in absurd cc
          | inr off ↦ subst (BreaksFirstTx events t) (same_Some long end (sym (broken (nat_le rows MOST_CYCLES) long off) ∙ found)) (Rows few kept (leb-false rows MOST_CYCLES off))
        ]

  -- the fault of a stimulus is the first limit or rule that it does not keep
  pub transactions_broken : (end : StimEnd) → transactions_fault events t ≡ Some end → BreaksFirstTx events t end
  transactions_broken end is = elim (cases_Bool (nat_le count MOST_TRANSACTIONS)) [
    | inr off ↦ subst (BreaksFirstTx events t) (same_Some many end (sym (many_told off) ∙ is)) (Count (leb-false count MOST_TRANSACTIONS off))
    | inl on ↦
        let few = leb-true count MOST_TRANSACTIONS on in
        rules_broken end few (ap (λ o. first_fault o (first_fault in_starts (rows_fault rows))) (sym (count_kept few)) ∙ is)
  ]

  pub broken_transactions : (end : StimEnd) → BreaksFirstTx events t end → transactions_fault events t ≡ Some end
  broken_transactions end (Count over) = many_told (lt-leb count MOST_TRANSACTIONS over)
  broken_transactions _ (AtStart end few first) =
      judged_later (count_fault count) (first_fault in_starts (rows_fault rows)) end (count_kept few)
      (refused_then in_starts (rows_fault rows) end (starts_are ∙ broken_walk (start_rules events) 0 ss end first))
  broken_transactions end (Rows few kept over) = long_told few kept (lt-leb rows MOST_CYCLES over)

  -- one end is told of a stimulus, and none of one that keeps the limits and the rules
  pub one_tx_break : (a b : StimEnd) → BreaksFirstTx events t a → BreaksFirstTx events t b → a ≡ b
  one_tx_break a b p q = same_Some a b (sym (broken_transactions a p) ∙ broken_transactions b q)

  pub kept_tx_unbroken : (end : StimEnd) → KeepsTxRules events t → BreaksFirstTx events t end → ⊥
  kept_tx_unbroken end kept first = let bad : ◌≡◌ {A = Option StimEnd} None (Some end) = sym (kept_transactions kept) ∙ broken_transactions end first in absurd cc
