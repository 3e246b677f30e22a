-- What runs side by side keep and give, one run after another.
use Rattle.std.proofs.Common.{◌≡◌, ℕ, suc, codes, ◌+◌, ◌-◌, ◌^◌, ◌<◌, ◌≤◌, Bool, true, false, nat_le, List, [], ◌∷◌, ◌++◌, length, map, drop, get_or, slice_get, All, Option, Some, None, option_map, Vec, Global, Result, Ok, Err, IsErrAnd, IfOk, IfErr, OnOk, inl, inr, ◌⊎◌, refl, sym, ap, ap₂, subst, ◌∙◌, arith, append_assoc}
use Rattle.std.specs.List.{sum_by}
use Rattle.std.proofs.lemmas.Bool.{and_parts, cases_lt, leb-true}
use Rattle.std.proofs.lemmas.List.{drop_all, length-map, get_or-map, map-append}
use Rattle.std.proofs.lemmas.Option.{slice_get-get_or, slice_get-map, slice_get_within, same_Some}
use Rattle.serde_json.specs.Data.{Data}
use Rattle.serde_json.specs.Find.{get}
use Rattle.net_core.specs.declared.stimulus.InputShape.{InputShape}
use Rattle.net_core.specs.declared.stimulus.CycleList.{CycleList}
use Rattle.net_core.specs.declared.stimulus.MemShape.{MemShape}
use Rattle.stim_read.specs.Amounts.{version_in}
use Rattle.stim_read.specs.CycleText.{Cycles, cycles_seen}
use Rattle.stim_read.specs.CycleRules.{KeepsEntryRules, BreaksEntryRule}
use Rattle.stim_read.specs.CycleRun.{Run, run_of, run_seen, NoMemory}
use Rattle.stim_read.specs.Fits.{FitsRun}
use Rattle.stim_read.specs.Parts.{◌>>=◌, provided, items_in, is_object_of, each}
use Rattle.stim_read.specs.Runs.{SayRuns, GiveRuns, AreUnsaid, NoValue, IsRunsCause, NoStimuli, ByRule}
use Rattle.stim_read.specs.RunsRules.{end_in_run, KeepLimits, KeepRules, GoOver, Entries, Rows, BreakInRun, BreakFirst, Limits, InRun}
use Rattle.stim_read.specs.RunsText.{runs_keys, run_in, run_list_in, is_run_count, runs_in, runs_seen}
use Rattle.stim_read.specs.TxRun.{saturated}
use Rattle.stim_read.specs.declared.cycle_text.CycleText.{CycleText}
use Rattle.stim_read.specs.declared.runs_end.RunsEnd.{RunsEnd}
use Rattle.stim_read.specs.declared.runs_end.RunsEnd.TheVariants as runs_end
use Rattle.stim_read.specs.declared.runs_text.TheConstants.{MOST_RUNS}
use Rattle.stim_read.specs.declared.stim_end.StimEnd.{StimEnd}
use Rattle.stim_read.specs.declared.stim_end.StimEnd.TheVariants as stim_end
use Rattle.stim_read.specs.inside.CycleWalk.{entries_fault}
use Rattle.stim_read.specs.inside.Walk.{IsTold}
use Rattle.stim_read.proofs.EachLemmas.{cut_at}
use Rattle.stim_read.proofs.CycleRuleLemmas.{entries_broken, one_entry_break, kept_entries_unbroken}
use Rattle.stim_read.proofs.RunFitLemmas.{kept_fits_run}

-- ---- sums

pub sum_all : {X Y : Type 0} (g : X → Y) (f : Y → ℕ) (count : ℕ) (xs : List X) (i : ℕ) → length xs ≤ i → count ≤ 2 ^ 64 - 1 → saturated (count + sum_by f (map g (drop i xs))) ≡ count
sum_all g f count xs i past small =
    let none : sum_by f (map g (drop i xs)) ≡ 0 = ap (λ ys. sum_by f (map g ys)) (drop_all i xs past) in
    omega (arith, none)

-- ---- how many runs there are

bind_some : {A B : Type 0} (o : Option A) (f : A → Option B) (y : B) → (o >>= f) ≡ Some y → (x : A) × (o ≡ Some x) × (f x ≡ Some y)
bind_some (Some x) f y is = (x, refl, is)
bind_some {A} {B} None f y is = let bad : ◌≡◌ {A = Option B} None (Some y) = is in absurd cc

provided_some : {A : Type 0} (test : Bool) (o : Option A) (y : A) → provided test o ≡ Some y → (test ≡ true) × (o ≡ Some y)
provided_some true o y is = (refl, is)
provided_some {A} false o y is = let bad : ◌≡◌ {A = Option A} None (Some y) = is in absurd cc

length-each : {A B : Type 0} (f : A → Option B) (xs : List A) (ys : List B) → each f xs ≡ Some ys → length ys ≡ length xs
length-each {A} {B} f [] ys is = let same : [] ≡ ys = same_Some {A = List B} [] ys is in ap length (sym same)
length-each {A} {B} f (x ∷ xs) ys is =
    let first = bind_some (f x) (λ y. each f xs >>= λ zs. Some (y ∷ zs)) ys is in
    let rest = bind_some (each f xs) (λ zs. Some (first.0 ∷ zs)) ys first.2 in
    let same : first.0 ∷ rest.0 ≡ ys = same_Some (first.0 ∷ rest.0) ys rest.2 in
    ap length (sym same) ∙ ap suc (length-each f xs rest.0 rest.1)

pub runs_counted : (value : Data) (runs : List Cycles) → runs_in value ≡ Some runs → (1 ≤ length runs) × (length runs ≤ MOST_RUNS)
runs_counted value runs is =
    let version = bind_some (provided (is_object_of runs_keys value) (version_in value)) (λ v. (get (codes "runs") value >>= items_in) >>= λ items. run_list_in v items) runs is in
    let items = bind_some (get (codes "runs") value >>= items_in) (λ items. run_list_in version.0 items) runs version.2 in
    let list = provided_some (is_run_count (length items.0)) (each (run_in version.0) items.0) runs items.2 in
    let same = length-each (run_in version.0) items.0 runs list.1 in
    let both = and_parts (nat_le 1 (length items.0)) (nat_le (length items.0) MOST_RUNS) list.0 in
    let some : 1 ≤ length items.0 = leb-true 1 (length items.0) both.0 in
    let few : length items.0 ≤ MOST_RUNS = leb-true (length items.0) MOST_RUNS both.1 in
    (omega (arith, some, same), omega (arith, few, same))

-- ---- runs that keep the rules

-- the run that a text says
pub run_there : (texts : List CycleText) (i : ℕ) (text : CycleText) → i < length texts → text ≡ get_or texts i text → slice_get (runs_seen texts) i ≡ Some (cycles_seen text)
run_there texts i text within is =
    slice_get-map cycles_seen texts i ∙ ap (option_map cycles_seen) (slice_get-get_or texts i text within ∙ ap (λ (t : CycleText). Some t) (sym is))

module _ (ins : List InputShape) (mems : List MemShape) where
  -- the first runs keep the rules
  abbrev pub KeepUpto : ℕ → List Cycles → Type 0
  KeepUpto number runs = (k : ℕ) (other : Cycles) → k < number → slice_get runs k ≡ Some other → KeepsEntryRules ins mems other

  pub keep_none : (runs : List Cycles) → KeepUpto 0 runs
  keep_none runs k other below at = absurd (omega (arith, below))

  pub keep_more : (number : ℕ) (runs : List Cycles) (c : Cycles) → slice_get runs number ≡ Some c → KeepsEntryRules ins mems c → KeepUpto number runs → KeepUpto (number + 1) runs
  keep_more number runs c here kept before k other below at = elim (cases_lt k number) [
    | inl earlier ↦ before k other earlier at
    | inr beyond ↦
        let e : k ≡ number = omega (arith, below, beyond) in
        subst (KeepsEntryRules ins mems) (same_Some c other (sym here ∙ ap (slice_get runs) (sym e) ∙ at)) kept
  ]

  pub keep_all : (number : ℕ) (runs : List Cycles) → length runs ≤ number → KeepUpto number runs → All (KeepsEntryRules ins mems) runs
  keep_all number runs past kept k d within = kept k (get_or runs k d) (omega (arith, past, within)) (slice_get-get_or runs k d within)

  -- an end in a run, where the earlier ones keep the rules
  pub ends_in_run : (runs : List Cycles) (place : ℕ) (c : Cycles) (end_there : StimEnd) (end : RunsEnd) → slice_get runs place ≡ Some c → KeepUpto place runs
      → IsTold end_there (entries_fault ins mems c) → end ≡ end_in_run place end_there → (end ≡ runs_end.Memory) ⊎ BreakInRun ins mems runs end
  ends_in_run runs place c (stim_end.Refused rule entry first second delay) end at earlier told is =
      let there = stim_end.Refused rule entry first second delay in
      inr (record { run = c; place = place; at = at; earlier = earlier; end_there = there; breaks = entries_broken ins mems c there told; told = is })
  ends_in_run runs place c (stim_end.Limit count limit cycles) end at earlier told is =
      let there = stim_end.Limit count limit cycles in
      inr (record { run = c; place = place; at = at; earlier = earlier; end_there = there; breaks = entries_broken ins mems c there told; told = is })
  ends_in_run runs place c stim_end.Memory end at earlier told is = inl is

  -- one more run keeps the rules, and what it gives is known
  pub judged_more : (lists new : List CycleList) (list : CycleList) (texts : List CycleText) (i : ℕ) (text : CycleText) → i < length texts → text ≡ get_or texts i text → run_seen list ≡ run_of ins mems (cycles_seen text) → new ≡ lists ++ list ∷ []
      → map run_seen new ++ map (run_of ins mems) (runs_seen (drop (i + 1) texts)) ≡ map run_seen lists ++ map (run_of ins mems) (runs_seen (drop i texts))
  judged_more lists new list texts i text within is gives pushed =
      let rest = map (run_of ins mems) (runs_seen (drop (i + 1) texts)) in
      ap (λ (ls : List CycleList). map run_seen ls ++ rest) pushed
      ∙ ap (λ (rs : List Run). rs ++ rest) (map-append run_seen lists (list ∷ []))
      ∙ append_assoc (map run_seen lists) (run_seen list ∷ []) rest
      ∙ ap (λ (r : Run). map run_seen lists ++ r ∷ rest) gives
      ∙ ap (λ (ts : List CycleText). map run_seen lists ++ map (run_of ins mems) (runs_seen ts)) (sym (cut_at texts i text within is))

  -- ---- what they give fits

  abbrev no_cycles : Cycles
  no_cycles = record { cycles = 0; inputs = []; memories = [] }

  pub all_fit : (lists : List CycleList) (runs : List Cycles) → map run_seen lists ≡ map (run_of ins mems) runs → All (KeepsEntryRules ins mems) runs → All (FitsRun ins mems) lists
  all_fit lists runs same kept k d within =
      let many : length lists ≡ length runs = sym (length-map lists run_seen) ∙ ap length same ∙ length-map runs (run_of ins mems) in
      let there : k < length runs = omega (arith, within, many) in
      let seen : run_seen (get_or lists k d) ≡ run_of ins mems (get_or runs k no_cycles) =
      sym (get_or-map run_seen lists k d (run_seen d) within)
      ∙ ap (λ (rs : List Run). get_or rs k (run_seen d)) same
      ∙ get_or-map (run_of ins mems) runs k no_cycles (run_seen d) there in
      kept_fits_run ins mems (get_or runs k no_cycles) (get_or lists k d) (kept k no_cycles there) seen

  -- ---- one end is told

  -- an entry that breaks a rule in a run stands against each claim that the run's entries keep them
  break_in : (runs : List Cycles) (end : RunsEnd) (b : BreakInRun ins mems runs end) (c : Cycles) → slice_get runs b.place ≡ Some c → KeepsEntryRules ins mems c → ⊥
  break_in runs end b c at kept = kept_entries_unbroken ins mems b.run b.end_there (subst (KeepsEntryRules ins mems) (same_Some c b.run (sym at ∙ b.at)) kept) b.breaks

  one_in_run : (runs : List Cycles) (end other : RunsEnd) → BreakInRun ins mems runs end → BreakInRun ins mems runs other → end ≡ other
  one_in_run runs end other a b = elim (cases_lt a.place b.place) [
    | inl less ↦ absurd (break_in runs end a a.run a.at (b.earlier a.place a.run less a.at))
    | inr not_less ↦ elim (cases_lt b.place a.place) [
      | inl more ↦ absurd (break_in runs other b b.run b.at (a.earlier b.place b.run more b.at))
      | inr not_more ↦
          let place : a.place ≡ b.place = omega (arith, not_less, not_more) in
          let run : a.run ≡ b.run = same_Some a.run b.run (sym a.at ∙ ap (slice_get runs) place ∙ b.at) in
          let there = one_entry_break ins mems b.run a.end_there b.end_there (subst (λ c. BreaksEntryRule ins mems c a.end_there) run a.breaks) b.breaks in
          a.told ∙ ap₂ end_in_run place there ∙ sym b.told
    ]
  ]

  one_over : (runs : List Cycles) (end other : RunsEnd) → GoOver runs end → GoOver runs other → end ≡ other
  one_over runs _ _ (Entries over) (Entries over') = refl
  one_over runs _ _ (Entries over) (Rows few over') = absurd (omega (arith, over, few))
  one_over runs _ _ (Rows few over) (Entries over') = absurd (omega (arith, over', few))
  one_over runs _ _ (Rows few over) (Rows few' over') = refl

  never_over : (runs : List Cycles) (end : RunsEnd) → KeepLimits runs → GoOver runs end → ⊥
  never_over runs _ kept (Entries over) = let few = kept.entries in omega (arith, over, few)
  never_over runs _ kept (Rows few over) = let short = kept.rows in omega (arith, over, short)

  pub one_runs_break : (runs : List Cycles) (end other : RunsEnd) → BreakFirst ins mems runs end → BreakFirst ins mems runs other → end ≡ other
  one_runs_break runs _ _ (Limits end over) (Limits other over') = one_over runs end other over over'
  one_runs_break runs _ _ (Limits end over) (InRun other kept breaks) = absurd (never_over runs end kept over)
  one_runs_break runs _ _ (InRun end kept breaks) (Limits other over) = absurd (never_over runs other kept over)
  one_runs_break runs _ _ (InRun end kept breaks) (InRun other kept' breaks') = one_in_run runs end other breaks breaks'

  -- and none of runs that keep the limits and the rules
  pub kept_runs_unbroken : (runs : List Cycles) (end : RunsEnd) → KeepRules ins mems runs → BreakFirst ins mems runs end → ⊥
  kept_runs_unbroken runs _ kept (Limits end over) = never_over runs end kept.limits over
  kept_runs_unbroken runs _ kept (InRun end limits breaks) =
      let within = slice_get_within runs breaks.place breaks.run breaks.at in
      break_in runs end breaks (get_or runs breaks.place breaks.run) (slice_get-get_or runs breaks.place breaks.run within) (kept.entries breaks.place breaks.run within)

  -- ---- what is read

  module _ (bytes : List ℕ) where
    pub unsaid_cause : (end_there : StimEnd) (end : RunsEnd) → AreUnsaid bytes end_there → end ≡ end_in_run 0 end_there → IsRunsCause bytes ins mems end
    unsaid_cause end_there end unsaid is = subst (IsRunsCause bytes ins mems) (sym is) (NoStimuli end_there unsaid)

    pub memory_cause : IsRunsCause bytes ins mems runs_end.Memory
    memory_cause = NoStimuli stim_end.Memory (NoValue stim_end.Memory NoMemory)

    pub limit_cause : (runs : List Cycles) (end : RunsEnd) → SayRuns bytes runs → GoOver runs end → IsRunsCause bytes ins mems end
    limit_cause runs end said over = ByRule runs end said (Limits end over)

    pub run_cause : (runs : List Cycles) (end : RunsEnd) → SayRuns bytes runs → KeepLimits runs → (end ≡ runs_end.Memory) ⊎ BreakInRun ins mems runs end → IsRunsCause bytes ins mems end
    run_cause runs end said limits (inl memory) = subst (IsRunsCause bytes ins mems) (sym memory) memory_cause
    run_cause runs end said limits (inr breaks) = ByRule runs end said (InRun end limits breaks)

    -- the answer of the last step
    pub runs_cause : {T : Type 0} (runs : List Cycles) (r : Result T RunsEnd) → SayRuns bytes runs → KeepLimits runs
        → IfErr r (λ end. (end ≡ runs_end.Memory) ⊎ BreakInRun ins mems runs end) → IfErr r (IsRunsCause bytes ins mems)
    runs_cause runs (Ok lists) said limits cause = tt
    runs_cause runs (Err end) said limits cause = run_cause runs end said limits cause

    pub given_runs : (runs : List Cycles) (lists : List CycleList) → SayRuns bytes runs → KeepLimits runs → All (KeepsEntryRules ins mems) runs → map run_seen lists ≡ map (run_of ins mems) runs
        → GiveRuns bytes ins mems (map run_seen lists)
    given_runs runs lists said limits kept same = record { stimuli = runs; said = said; kept = record { limits = limits; entries = kept }; gives = same }

    -- the results of the last step
    pub result_gives : (runs : List Cycles) (r : Result (Vec CycleList Global) RunsEnd) → SayRuns bytes runs → KeepLimits runs → OnOk r (All (KeepsEntryRules ins mems) runs)
        → IfOk r (λ lists. map run_seen lists.items ≡ map (run_of ins mems) runs) → IfOk r (λ lists. GiveRuns bytes ins mems (map run_seen lists.items))
    result_gives runs (Ok lists) said limits kept same = given_runs runs lists.items said limits kept same
    result_gives runs (Err end) said limits kept same = tt

    pub result_counts : (runs : List Cycles) (r : Result (Vec CycleList Global) RunsEnd) → SayRuns bytes runs
        → IfOk r (λ lists. map run_seen lists.items ≡ map (run_of ins mems) runs) → IfOk r (λ lists. (1 ≤ length lists.items) × (length lists.items ≤ MOST_RUNS))
    result_counts runs (Ok lists) said same =
        let counted = runs_counted said.value runs said.says in
        let many : length lists.items ≡ length runs = sym (length-map lists.items run_seen) ∙ ap length same ∙ length-map runs (run_of ins mems) in
        (omega (arith, counted.0, many), omega (arith, counted.1, many))
    result_counts runs (Err end) said same = tt

  pub result_fits : (runs : List Cycles) (r : Result (Vec CycleList Global) RunsEnd) → OnOk r (All (KeepsEntryRules ins mems) runs)
      → IfOk r (λ lists. map run_seen lists.items ≡ map (run_of ins mems) runs) → IfOk r (λ lists. All (FitsRun ins mems) lists.items)
  result_fits runs (Ok lists) kept same = all_fit lists.items runs same kept
  result_fits runs (Err end) kept same = tt

-- an error that is passed on keeps its cause
pub passes_end : {T : Type 0} (answer : Result T RunsEnd) (e : RunsEnd) (P : RunsEnd → Type 0) → IsErrAnd answer (λ x. x ≡ e) → P e → IfErr answer P
passes_end (Ok x) e P is p = absurd is
passes_end (Err f) e P is p = subst P (sym is) p
