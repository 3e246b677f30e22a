-- The walk over a stimulus of cycles finds the first limit or rule that the stimulus does not keep.
use Rattle.std.proofs.Common.{◌≡◌, ℕ, ◌+◌, ◌≤◌, true, false, nat_le, List, [], ◌∷◌, ◌++◌, length, Option, Some, None, inl, inr, refl, sym, ap, subst, ◌∙◌}
use Rattle.std.specs.List.{last_or}
use Rattle.std.proofs.lemmas.Bool.{cases_Bool, leb-true, leb-false, le-leb, lt-leb}
use Rattle.std.proofs.lemmas.Option.{same_Some}
use Rattle.net_core.specs.declared.stimulus.InputShape.{InputShape}
use Rattle.net_core.specs.declared.stimulus.MemShape.{MemShape}
use Rattle.hw_limits.specs.declared.limits.TheConstants.{MOST_TRANSACTIONS, MOST_CYCLES}
use Rattle.stim_read.specs.Rules.{told_of, refused}
use Rattle.stim_read.specs.CycleText.{Entry, Words, Cycles}
use Rattle.stim_read.specs.CycleRules.{Targets, input_targets, memory_targets, sizes_of, has_known_inputs, has_fitting_values, begins_after, input_rules, is_known_memory, has_room, has_fitting_words, memory_rules, KeepsLimits, KeepsEntryRules, KeepsRules, BreaksEntryRule, InInputs, InMemories, BreaksFirst, Entries, Rows, InEntries}
use Rattle.stim_read.specs.inside.Walk.{first_fault, unless}
use Rattle.stim_read.specs.inside.CycleWalk.{order_fault, input_fault, inputs_fault, memory_fault, memories_fault, limit_fault, entries_fault, cycles_fault}
use Rattle.stim_read.specs.declared.stim_end.StimEnd.{StimEnd}
use Rattle.stim_read.specs.declared.stim_end.StimEnd.TheVariants.{Limit}
use Rattle.stim_read.proofs.FaultLemmas.{alone, neither, neither_there, refused_then, judged_later, broken, kept_so, kept_by}
use Rattle.stim_read.proofs.RuleLemmas.{fault_in, walk, last_pushed, walk_kept, kept_walk, walk_broken, broken_walk}

-- ---- entries of inputs

abbrev from_of : Option Entry → Option ℕ
from_of None = None
from_of (Some e) = Some e.from

order_same : (before : Option Entry) (n : ℕ) (e : Entry) → order_fault (from_of before) n e.from ≡ unless (begins_after before e).kept (told_of n (begins_after before e))
order_same None n e = refl
order_same (Some b) n e = refl

input_same : (t : Targets) (before : List Entry) (n : ℕ) (e : Entry) → input_fault t (from_of (last_or None before)) n e ≡ fault_in n (input_rules t before e)
input_same t before n e =
    let order = begins_after (last_or None before) e in
    ap (λ o. first_fault (unless (has_known_inputs t e) (refused 3 n)) (first_fault (unless (has_fitting_values t e) (refused 4 n)) o))
    (order_same (last_or None before) n e ∙ sym (alone (unless order.kept (told_of n order))))

inputs_walk : (t : Targets) (before : List Entry) (n : ℕ) (es : List Entry) → inputs_fault t (from_of (last_or None before)) n es ≡ walk (input_rules t) before n es
inputs_walk t before n [] = refl
inputs_walk t before n (e ∷ es) =
    let later : List Entry = before ++ e ∷ [] in
    let last : Some e.from ≡ from_of (last_or None later) = sym (ap from_of (last_pushed None before e)) in
    ap (λ o. first_fault o (inputs_fault t (Some e.from) (n + 1) es)) (input_same t before n e)
    ∙ ap (first_fault (fault_in n (input_rules t before e))) (ap (λ b. inputs_fault t b (n + 1) es) last ∙ inputs_walk t later (n + 1) es)

all_inputs : (t : Targets) (n : ℕ) (es : List Entry) → inputs_fault t None n es ≡ walk (input_rules t) [] n es
all_inputs t n es = inputs_walk t [] n es

-- ---- memories

memory_same : (t : Targets) (sizes : List ℕ) (before : List Words) (n : ℕ) (m : Words) → memory_fault t sizes n m ≡ fault_in n (memory_rules t sizes before m)
memory_same t sizes before n m =
    ap (λ o. first_fault (unless (is_known_memory t m) (refused 3 n)) (first_fault (unless (has_room t sizes m) (refused 7 n)) o))
    (sym (alone (unless (has_fitting_words t m) (refused 4 n))))

memories_walk : (t : Targets) (sizes : List ℕ) (before : List Words) (n : ℕ) (ms : List Words) → memories_fault t sizes n ms ≡ walk (memory_rules t sizes) before n ms
memories_walk t sizes before n [] = refl
memories_walk t sizes before n (m ∷ ms) =
    ap (λ o. first_fault o (memories_fault t sizes (n + 1) ms)) (memory_same t sizes before n m)
    ∙ ap (first_fault (fault_in n (memory_rules t sizes before m))) (memories_walk t sizes (before ++ m ∷ []) (n + 1) ms)

-- ---- limits

module _ (c : Cycles) where
  abbrev many : StimEnd
  many = Limit (length c.inputs) MOST_TRANSACTIONS false

  abbrev long : StimEnd
  long = Limit c.cycles MOST_CYCLES true

  abbrev few_fault : Option StimEnd
  few_fault = unless (nat_le (length c.inputs) MOST_TRANSACTIONS) many

  abbrev short_fault : Option StimEnd
  short_fault = unless (nat_le c.cycles MOST_CYCLES) long

  limits_kept : limit_fault c ≡ None → KeepsLimits c
  limits_kept none =
      let both = neither_there few_fault short_fault none in
      record {
        entries = leb-true (length c.inputs) MOST_TRANSACTIONS (kept_by (nat_le (length c.inputs) MOST_TRANSACTIONS) many both.0);
        rows = leb-true c.cycles MOST_CYCLES (kept_by (nat_le c.cycles MOST_CYCLES) long both.1);
      }

  few_kept : length c.inputs ≤ MOST_TRANSACTIONS → few_fault ≡ None
  few_kept few = kept_so (nat_le (length c.inputs) MOST_TRANSACTIONS) many (le-leb (length c.inputs) MOST_TRANSACTIONS few)

  kept_limits : KeepsLimits c → limit_fault c ≡ None
  kept_limits kept = neither few_fault short_fault (few_kept kept.entries) (kept_so (nat_le c.cycles MOST_CYCLES) long (le-leb c.cycles MOST_CYCLES kept.rows))

-- ---- a stimulus

module _ (ins : List InputShape) (mems : List MemShape) (c : Cycles) where
  abbrev in_inputs : Option StimEnd
  in_inputs = inputs_fault (input_targets ins) None 0 c.inputs

  abbrev in_memories : Option StimEnd
  in_memories = memories_fault (memory_targets mems) (sizes_of mems) (length c.inputs) c.memories

  abbrev inputs_walked : Option StimEnd
  inputs_walked = walk (input_rules (input_targets ins)) [] 0 c.inputs

  inputs_are : in_inputs ≡ inputs_walked
  inputs_are = all_inputs (input_targets ins) 0 c.inputs

  memories_are : in_memories ≡ walk (memory_rules (memory_targets mems) (sizes_of mems)) [] (length c.inputs) c.memories
  memories_are = memories_walk (memory_targets mems) (sizes_of mems) [] (length c.inputs) c.memories

  -- a stimulus without a fault in its entries keeps the rules
  pub entries_kept : entries_fault ins mems c ≡ None → KeepsEntryRules ins mems c
  entries_kept none =
      let rules = neither_there in_inputs in_memories none in
      record {
        inputs = walk_kept (input_rules (input_targets ins)) 0 c.inputs (sym inputs_are ∙ rules.0);
        memories = walk_kept (memory_rules (memory_targets mems) (sizes_of mems)) (length c.inputs) c.memories (sym memories_are ∙ rules.1);
      }

  pub kept_entries : KeepsEntryRules ins mems c → entries_fault ins mems c ≡ None
  kept_entries kept =
      neither in_inputs in_memories (inputs_are ∙ kept_walk (input_rules (input_targets ins)) 0 c.inputs kept.inputs)
      (memories_are ∙ kept_walk (memory_rules (memory_targets mems) (sizes_of mems)) (length c.inputs) c.memories kept.memories)

  -- the fault of the entries is the first rule that one breaks
  pub entries_broken : (end : StimEnd) → entries_fault ins mems c ≡ Some end → BreaksEntryRule ins mems c end
  entries_broken end is = by in_inputs refl where
    by : (o : Option StimEnd) → in_inputs ≡ o → BreaksEntryRule ins mems c end
    by (Some f) here =
        let found : Some f ≡ Some end = ap (λ o. first_fault o in_memories) (sym here) ∙ is in
        InInputs end (walk_broken (input_rules (input_targets ins)) 0 c.inputs end (sym inputs_are ∙ here ∙ found))
    by None here =
        let found : in_memories ≡ Some end = ap (λ o. first_fault o in_memories) (sym here) ∙ is in
        InMemories end (walk_kept (input_rules (input_targets ins)) 0 c.inputs (sym inputs_are ∙ here))
        (walk_broken (memory_rules (memory_targets mems) (sizes_of mems)) (length c.inputs) c.memories end (sym memories_are ∙ found))

  pub broken_entries : (end : StimEnd) → BreaksEntryRule ins mems c end → entries_fault ins mems c ≡ Some end
  broken_entries _ (InInputs end first) = refused_then in_inputs in_memories end (inputs_are ∙ broken_walk (input_rules (input_targets ins)) 0 c.inputs end first)
  broken_entries _ (InMemories end kept first) =
      judged_later in_inputs in_memories end (inputs_are ∙ kept_walk (input_rules (input_targets ins)) 0 c.inputs kept)
      (memories_are ∙ broken_walk (memory_rules (memory_targets mems) (sizes_of mems)) (length c.inputs) c.memories end first)

  -- one end is told of the entries, and none of those that keep the rules
  pub one_entry_break : (a b : StimEnd) → BreaksEntryRule ins mems c a → BreaksEntryRule ins mems c b → a ≡ b
  one_entry_break a b p q = same_Some a b (sym (broken_entries a p) ∙ broken_entries b q)

  pub kept_entries_unbroken : (end : StimEnd) → KeepsEntryRules ins mems c → BreaksEntryRule ins mems c end → ⊥
  kept_entries_unbroken end kept first = let bad : ◌≡◌ {A = Option StimEnd} None (Some end) = sym (kept_entries kept) ∙ broken_entries end first in absurd cc

  -- a stimulus without a fault keeps the limits and the rules
  pub cycles_kept : cycles_fault ins mems c ≡ None → KeepsRules ins mems c
  cycles_kept none =
      let both = neither_there (limit_fault c) (entries_fault ins mems c) none in
      record { limits = limits_kept c both.0; entries = entries_kept both.1 }

  pub kept_cycles : KeepsRules ins mems c → cycles_fault ins mems c ≡ None
  kept_cycles kept = neither (limit_fault c) (entries_fault ins mems c) (kept_limits c kept.limits) (kept_entries kept.entries)

  many_told : nat_le (length c.inputs) MOST_TRANSACTIONS ≡ false → cycles_fault ins mems c ≡ Some (many c)
  many_told off =
      refused_then (limit_fault c) (entries_fault ins mems c) (many c)
      (refused_then (few_fault c) (short_fault c) (many c) (broken (nat_le (length c.inputs) MOST_TRANSACTIONS) (many c) off))

  long_told : length c.inputs ≤ MOST_TRANSACTIONS → nat_le c.cycles MOST_CYCLES ≡ false → cycles_fault ins mems c ≡ Some (long c)
  long_told few off =
      refused_then (limit_fault c) (entries_fault ins mems c) (long c)
      (judged_later (few_fault c) (short_fault c) (long c) (few_kept c few) (broken (nat_le c.cycles MOST_CYCLES) (long c) off))

  rules_told : (end : StimEnd) → KeepsLimits c → cycles_fault ins mems c ≡ Some end → entries_fault ins mems c ≡ Some end
  rules_told end limits is = ap (λ o. first_fault o (entries_fault ins mems c)) (sym (kept_limits c limits)) ∙ is

  -- the fault of a stimulus is the first limit or rule that it does not keep
  pub cycles_broken : (end : StimEnd) → cycles_fault ins mems c ≡ Some end → BreaksFirst ins mems c end
  cycles_broken end is = elim (cases_Bool (nat_le (length c.inputs) MOST_TRANSACTIONS)) [
    | inr off ↦ subst (BreaksFirst ins mems c) (same_Some (many c) end (sym (many_told off) ∙ is)) (Entries (leb-false (length c.inputs) MOST_TRANSACTIONS off))
    | inl on ↦
        let few = leb-true (length c.inputs) MOST_TRANSACTIONS on in
        elim (cases_Bool (nat_le c.cycles MOST_CYCLES)) [
          | inr off ↦ subst (BreaksFirst ins mems c) (same_Some (long c) end (sym (long_told few off) ∙ is)) (Rows few (leb-false c.cycles MOST_CYCLES off))
          | inl short ↦
              let limits : KeepsLimits c = record { entries = few; rows = leb-true c.cycles MOST_CYCLES short } in
              InEntries end limits (entries_broken end (rules_told end limits is))
        ]
  ]

  pub broken_cycles : (end : StimEnd) → BreaksFirst ins mems c end → cycles_fault ins mems c ≡ Some end
  broken_cycles end (Entries over) = many_told (lt-leb (length c.inputs) MOST_TRANSACTIONS over)
  broken_cycles end (Rows few over) = long_told few (lt-leb c.cycles MOST_CYCLES over)
  broken_cycles _ (InEntries end limits first) = judged_later (limit_fault c) (entries_fault ins mems c) end (kept_limits c limits) (broken_entries end first)

  -- one end is told of a stimulus, and none of one that keeps the limits and the rules
  pub one_break : (a b : StimEnd) → BreaksFirst ins mems c a → BreaksFirst ins mems c b → a ≡ b
  one_break a b p q = same_Some a b (sym (broken_cycles a p) ∙ broken_cycles b q)

  pub kept_unbroken : (end : StimEnd) → KeepsRules ins mems c → BreaksFirst ins mems c end → ⊥
  kept_unbroken end kept first = let bad : ◌≡◌ {A = Option StimEnd} None (Some end) = sym (kept_cycles kept) ∙ broken_cycles end first in absurd cc
