-- The text of a stimulus gives what it is to give, or is refused.
use Rattle.std.proofs.Common.{◌≡◌, ℕ, zero, suc, ◌+◌, ◌<◌, ◌≤◌, ◌⊎◌, inl, inr, Bool, true, false, List, [], ◌∷◌, codes, length, take, Option, None, Some, refl, sym, subst, ◌∙◌}
use Rattle.std.specs.Prelude.{slice_get}
use Rattle.std.proofs.lemmas.Bool.{cases_lt}
use Rattle.std.proofs.lemmas.Option.{same_Some, slice_get_within}
use Rattle.hw_limits.specs.declared.limits.TheConstants.{MOST_CYCLES, MOST_STIMULUS_BYTES, MOST_TRANSACTIONS}
use Rattle.hw_names.specs.Name.{Text}
use Rattle.fil_ast.specs.Tree.{Component}
use Rattle.net_core.specs.Netlist.{Netlist}
use Rattle.serde_json.specs.Data.{Data}
use Rattle.stim_read.specs.CycleRules.{BreaksFirst, Entries, Rows, InEntries, InInputs, InMemories, InputsKeepRules, KeepsLimits, input_rules, input_targets, memory_rules, memory_targets, sizes_of}
use Rattle.stim_read.specs.CycleRun.{IsJson, NoStimulus, NoValue, ByS1, ByS2, ByRule, Run, SayCycles, run_of}
use Rattle.stim_read.specs.CycleText.{Cycles, cycles_in}
use Rattle.stim_read.specs.Rules.{AreKept, EntriesKeepRules, EntryKeepsRules, FirstBroken, Rule, refused, told_of}
use Rattle.stim_read.specs.TxEvents.{EventList}
use Rattle.stim_read.specs.TxRules.{start_rules, starts_in}
use Rattle.stim_read.specs.TxRun as tx
use Rattle.stim_read.specs.TxRun.{NoJson, NotTransactions, NoTransactions, BrokenRule, SayTransactions, StartsKeepRules, TxRun, count_of, rows_of_run, tx_run_of}
use Rattle.stim_read.specs.TxText.{Transactions, transactions_in}
use Rattle.stim_read.specs.declared.stim_end.StimEnd.{StimEnd}
use Rattle.stim_read.specs.declared.stim_end.StimEnd.TheVariants as stim
use Rattle.filc_load.specs.Settable.{settable_inputs, settable_memories}
use Rattle.filc_load.specs.StimulusFile.{FileGivesRun, FileGivesTransactions, GivesRun, GivesTransactions, IsRefusedBy, TooLong, BreaksRule, IsTooLarge, IsRefusedForStimulus, component_events, run_causes, transaction_causes}
use Rattle.filc_stop.specs.Lines.{limit_line, counted_name, stimulus_line}
use Rattle.filc_stop.specs.Outcome.{Contents, Outcome, refused_with}
use Rattle.filc_stop.specs.declared.ended.Ended.{Ended}
use Rattle.filc_stop.specs.declared.ended.Ended.TheVariants.{Stimulus, Limit}
use Rattle.filc_laws.proofs.existence.Classical.{sure, next, so, by_cases, all_or_first, IsJudgedBelow}
use Rattle.filc_laws.proofs.existence.ListLemmas.{place_of}
use Rattle.filc_laws.specs.Classically.{Classically}

-- ---- rules at entries

-- the first rule that isn't kept
record FirstUnkept (rules : List Rule) : Type 0 where
  pub broken : Rule
  pub place : ℕ
  pub at : slice_get rules place ≡ Some broken
  pub lesser : AreKept (take place rules)
  pub is_broken : broken.kept ≡ false

later_unkept : (r : Rule) (rules : List Rule) → r.kept ≡ true → FirstUnkept rules → FirstUnkept (r ∷ rules)
later_unkept r rules kept f = record { broken = f.broken; place = suc f.place; at = f.at; lesser = rw kept f.lesser; is_broken = f.is_broken }

unkept_from : (r : Rule) (rules : List Rule) (kept : Bool) → r.kept ≡ kept → (r.kept ≡ true → FirstUnkept rules) → FirstUnkept (r ∷ rules)
unkept_from r rules true is later = later_unkept r rules is (later is)
unkept_from r rules false is later = record { broken = r; place = zero; at = refl; lesser = refl; is_broken = is }

first_unkept : (rules : List Rule) → (AreKept rules → ⊥) → FirstUnkept rules
first_unkept [] lacks = absurd (lacks refl)
first_unkept (r ∷ rules) lacks = unkept_from r rules r.kept refl (λ kept. first_unkept rules (λ all. lacks (rw kept all)))

-- an entry breaks a rule, and this is the first, with what is told of it
record FirstTold {Entry : Type 0} (rules_at : List Entry → Entry → List Rule) (entries : List Entry) (first : ℕ) : Type 0 where
  pub entry : ℕ
  pub broken : Rule
  pub breaks : FirstBroken rules_at entries first (told_of entry broken)

module _ {Entry : Type 0} (rules_at : List Entry → Entry → List Rule) (entries : List Entry) (first : ℕ) where
  told_at : (k : ℕ) → k < length entries → (EntryKeepsRules rules_at entries k → ⊥) → ((j : ℕ) → j < k → EntryKeepsRules rules_at entries j) → FirstTold rules_at entries first
  told_at k less lacks before =
      let entry = place_of entries k less in
      let same : (other : Entry) → slice_get entries k ≡ Some other → entry.0 ≡ other = λ other at. same_Some entry.0 other (sym entry.1 ∙ at) in
      let f = first_unkept (rules_at (take k entries) entry.0) (λ kept. lacks (λ other at. subst (λ (x : Entry). AreKept (rules_at (take k entries) x)) (same other at) kept)) in
      record {
        entry = first + k;
        broken = f.broken;
        breaks = record {
          entry = entry.0;
          place = k;
          at = entry.1;
          earlier = λ j below. before j below;
          breaks = record { broken = f.broken; place = f.place; at = f.at; lesser = f.lesser; is_broken = f.is_broken; told = refl };
        };
      }

  abbrev AreKeptOrNot : Type 0
  AreKeptOrNot = EntriesKeepRules rules_at entries ⊎ FirstTold rules_at entries first

  judged_entries : IsJudgedBelow (EntryKeepsRules rules_at entries) (length entries) → AreKeptOrNot
  judged_entries (inl all) = inl (λ k entry at. all k (slice_get_within entries k entry at) entry at)
  judged_entries (inr (k, less, lacks, before)) = inr (told_at k less lacks before)

  are_kept_or_not : Classically AreKeptOrNot
  are_kept_or_not = so (all_or_first (EntryKeepsRules rules_at entries) (length entries)) judged_entries

-- ---- what is told of what stands against a text

-- this text is refused, for one of these causes
abbrev IsRefusedSomehow : (StimEnd → Type 0) → Text → Type 0
IsRefusedSomehow causes text = (ended : Ended) × (line : Text) × IsRefusedBy causes text ended line

module _ (causes : StimEnd → Type 0) (text : Text) (within : length text ≤ MOST_STIMULUS_BYTES) where
  by_rule : (entry : ℕ) (r : Rule) → causes (told_of entry r) → IsRefusedSomehow causes text
  by_rule entry r cause =
      (Stimulus, stimulus_line r.number entry r.first r.second r.delay, BreaksRule r.number entry r.first r.second r.delay within cause refl refl)

  by_form : (number : ℕ) → causes (refused number 0) → IsRefusedSomehow causes text
  by_form number cause = (Stimulus, stimulus_line number 0 0 0 0, BreaksRule number 0 0 0 0 within cause refl refl)

  by_limit : (count limit : ℕ) (cycles : Bool) → causes (stim.Limit count limit cycles) → IsRefusedSomehow causes text
  by_limit count limit cycles cause = (Limit, limit_line (counted_name cycles) count limit, IsTooLarge count limit cycles within cause refl refl)

-- ---- a stimulus of cycles

module _ (text : Text) (n : Netlist) (within : length text ≤ MOST_STIMULUS_BYTES) where
  abbrev IsRunOrNot : Type 0
  IsRunOrNot = ((run : Run) × GivesRun text n run) ⊎ IsRefusedSomehow (run_causes text n) text

  module _ (c : Cycles) (said : SayCycles text c) where
    breaks : (end : StimEnd) → BreaksFirst (settable_inputs n) (settable_memories n) c end → run_causes text n end
    breaks end first = ByRule c end said first

    by_memories : (limits : KeepsLimits c) → (inputs : InputsKeepRules (settable_inputs n) c)
        → AreKeptOrNot (memory_rules (memory_targets (settable_memories n)) (sizes_of (settable_memories n))) c.memories (length c.inputs) → IsRunOrNot
    by_memories limits inputs (inl memories) = inl (
      run_of (settable_inputs n) (settable_memories n) c,
      record {
        within = within;
        gives = record { stimulus = c; said = said; kept = record { limits = limits; entries = record { inputs = inputs; memories = memories } }; gives = refl };
      },
    )
    by_memories limits inputs (inr f) =
        inr (by_rule (run_causes text n) text within f.entry f.broken (breaks (told_of f.entry f.broken) (InEntries (told_of f.entry f.broken) limits (InMemories (told_of f.entry f.broken) inputs f.breaks))))

    by_inputs : (limits : KeepsLimits c) → AreKeptOrNot (input_rules (input_targets (settable_inputs n))) c.inputs 0 → Classically IsRunOrNot
    by_inputs limits (inl inputs) =
        so (are_kept_or_not (memory_rules (memory_targets (settable_memories n)) (sizes_of (settable_memories n))) c.memories (length c.inputs)) (by_memories limits inputs)
    by_inputs limits (inr f) =
        sure (inr (by_rule (run_causes text n) text within f.entry f.broken (breaks (told_of f.entry f.broken) (InEntries (told_of f.entry f.broken) limits (InInputs (told_of f.entry f.broken) f.breaks)))))

    said_run : Classically IsRunOrNot
    said_run = elim (cases_lt MOST_TRANSACTIONS (length c.inputs)) [
      | inl many ↦ sure (inr (by_limit (run_causes text n) text within (length c.inputs) MOST_TRANSACTIONS false (breaks (stim.Limit (length c.inputs) MOST_TRANSACTIONS false) (Entries many))))
      | inr few ↦ elim (cases_lt MOST_CYCLES c.cycles) [
        | inl long ↦ sure (inr (by_limit (run_causes text n) text within c.cycles MOST_CYCLES true (breaks (stim.Limit c.cycles MOST_CYCLES true) (Rows few long))))
        | inr short ↦ next (are_kept_or_not (input_rules (input_targets (settable_inputs n))) c.inputs 0) (by_inputs (record { entries = few; rows = short }))
      ]
    ]

  of_value : (value : Data) → IsJson text value → (said : Option Cycles) → cycles_in value ≡ said → Classically IsRunOrNot
  of_value value json None is = sure (inr (by_form (run_causes text n) text within 2 (NoStimulus (refused 2 0) (ByS2 value json is))))
  of_value value json (Some c) is = said_run c (record { value = value; json = json; says = is })

  is_run_or_not : Classically IsRunOrNot
  is_run_or_not =
      by_cases ((value : Data) × IsJson text value)
      (λ (value, json). of_value value json (cycles_in value) refl)
      (λ none. sure (inr (by_form (run_causes text n) text within 1 (NoStimulus (refused 1 0) (NoValue (refused 1 0) (ByS1 (λ value json. none (value, json))))))))

-- ---- a stimulus of transactions

module _ (text : Text) (comp : Component) (within : length text ≤ MOST_STIMULUS_BYTES) where
  abbrev AreGivenOrNot : Type 0
  AreGivenOrNot = ((run : TxRun) × GivesTransactions text comp run) ⊎ IsRefusedSomehow (transaction_causes text comp) text

  module _ (t : Transactions) (said : SayTransactions text t) where
    abbrev events : EventList
    events = component_events comp

    breaks_tx : (end : StimEnd) → tx.BreaksFirstTx events t end → transaction_causes text comp end
    breaks_tx end first = BrokenRule t end said first

    by_rows : count_of t.entries ≤ MOST_TRANSACTIONS → StartsKeepRules events t → AreGivenOrNot
    by_rows few starts = elim (cases_lt MOST_CYCLES (rows_of_run events t)) [
      | inl long ↦ inr (by_limit (transaction_causes text comp) text within (rows_of_run events t) MOST_CYCLES true (breaks_tx (stim.Limit (rows_of_run events t) MOST_CYCLES true) (tx.Rows few starts long)))
      | inr short ↦ inl (
        tx_run_of events t,
        record {
          within = within;
          gives = record { stimulus = t; said = said; kept = record { count = few; starts = starts; rows = short }; gives = refl };
        },
      )
    ]

    by_starts : count_of t.entries ≤ MOST_TRANSACTIONS → AreKeptOrNot (start_rules events) (starts_in t.entries) 0 → AreGivenOrNot
    by_starts few (inl starts) = by_rows few starts
    by_starts few (inr f) =
        inr (by_rule (transaction_causes text comp) text within f.entry f.broken (breaks_tx (told_of f.entry f.broken) (tx.AtStart (told_of f.entry f.broken) few f.breaks)))

    said_transactions : Classically AreGivenOrNot
    said_transactions = elim (cases_lt MOST_TRANSACTIONS (count_of t.entries)) [
      | inl many ↦ sure (inr (by_limit (transaction_causes text comp) text within (count_of t.entries) MOST_TRANSACTIONS false (breaks_tx (stim.Limit (count_of t.entries) MOST_TRANSACTIONS false) (tx.Count many))))
      | inr few ↦ so (are_kept_or_not (start_rules events) (starts_in t.entries) 0) (by_starts few)
    ]

  of_data : (value : Data) → IsJson text value → (said : Option Transactions) → transactions_in value ≡ said → Classically AreGivenOrNot
  of_data value json None is = sure (inr (by_form (transaction_causes text comp) text within 2 (NoTransactions (refused 2 0) (NotTransactions value json is))))
  of_data value json (Some t) is = said_transactions t (record { value = value; json = json; says = is })

  are_given_or_not : Classically AreGivenOrNot
  are_given_or_not =
      by_cases ((value : Data) × IsJson text value)
      (λ (value, json). of_data value json (transactions_in value) refl)
      (λ none. sure (inr (by_form (transaction_causes text comp) text within 1 (NoTransactions (refused 1 0) (NoJson (refused 1 0) (ByS1 (λ value json. none (value, json))))))))

-- ---- files

refused_for : (contents : Contents) (stimulus bytes : Text) (causes : Text → StimEnd → Type 0) → contents stimulus ≡ Some bytes → IsRefusedSomehow (causes bytes) bytes → (o : Outcome) × IsRefusedForStimulus contents stimulus causes o
refused_for contents stimulus bytes causes told (ended, line, refused) =
    (refused_with ended line, record { ended = ended; line = line; refused = record { bytes = bytes; told = told; refused = refused }; outcome = refl })

too_long : (causes : StimEnd → Type 0) (text : Text) → MOST_STIMULUS_BYTES < length text → IsRefusedSomehow causes text
too_long causes text over = (Limit, limit_line (codes "stimulus") (MOST_STIMULUS_BYTES + 1) MOST_STIMULUS_BYTES, TooLong over refl refl)

module _ (contents : Contents) (stimulus bytes : Text) (told : contents stimulus ≡ Some bytes) where
  abbrev pub IsRunJudged : Netlist → Type 0
  IsRunJudged n = ((run : Run) × FileGivesRun contents stimulus n run) ⊎ ((o : Outcome) × IsRefusedForStimulus contents stimulus (λ text. run_causes text n) o)

  abbrev pub AreTransactionsJudged : Component → Type 0
  AreTransactionsJudged comp =
      ((run : TxRun) × FileGivesTransactions contents stimulus comp run) ⊎ ((o : Outcome) × IsRefusedForStimulus contents stimulus (λ text. transaction_causes text comp) o)

  run_of_file : (n : Netlist) → ((run : Run) × GivesRun bytes n run) ⊎ IsRefusedSomehow (run_causes bytes n) bytes → IsRunJudged n
  run_of_file n (inl (run, gives)) = inl (run, record { bytes = bytes; told = told; gives = gives })
  run_of_file n (inr refused) = inr (refused_for contents stimulus bytes (λ text. run_causes text n) told refused)

  pub run_is_judged : (n : Netlist) → Classically (IsRunJudged n)
  run_is_judged n = elim (cases_lt MOST_STIMULUS_BYTES (length bytes)) [
    | inl over ↦ sure (run_of_file n (inr (too_long (run_causes bytes n) bytes over)))
    | inr within ↦ so (is_run_or_not bytes n within) (run_of_file n)
  ]

  transactions_of_file : (comp : Component) → ((run : TxRun) × GivesTransactions bytes comp run) ⊎ IsRefusedSomehow (transaction_causes bytes comp) bytes → AreTransactionsJudged comp
  transactions_of_file comp (inl (run, gives)) = inl (run, record { bytes = bytes; told = told; gives = gives })
  transactions_of_file comp (inr refused) = inr (refused_for contents stimulus bytes (λ text. transaction_causes text comp) told refused)

  pub transactions_are_judged : (comp : Component) → Classically (AreTransactionsJudged comp)
  transactions_are_judged comp = elim (cases_lt MOST_STIMULUS_BYTES (length bytes)) [
    | inl over ↦ sure (transactions_of_file comp (inr (too_long (transaction_causes bytes comp) bytes over)))
    | inr within ↦ so (are_given_or_not bytes comp within) (transactions_of_file comp)
  ]
