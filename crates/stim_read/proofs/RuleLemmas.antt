-- The first broken rule is what a walk over the entries finds.
use Rattle.std.proofs.Common.{◌≡◌, ℕ, zero, suc, ◌+◌, ◌<◌, Bool, true, false, ◌&&◌, List, [], ◌∷◌, ◌++◌, take, slice_get, Option, Some, None, refl, sym, ap, subst, ◌∙◌, append_assoc, arith}
use Rattle.std.specs.List.{list_all, last_or}
use Rattle.std.proofs.lemmas.Bool.{and_parts}
use Rattle.std.proofs.lemmas.List.{append-nil}
use Rattle.std.proofs.lemmas.Option.{same_Some}
use Rattle.stim_read.specs.Rules.{Rule, AreKept, told_of, TellsFirst, EntriesKeepRules, FirstBroken}
use Rattle.stim_read.specs.inside.Walk.{first_fault, unless}
use Rattle.stim_read.specs.declared.stim_end.StimEnd.{StimEnd}
use Rattle.stim_read.proofs.FaultLemmas.{neither, neither_there, kept_by, kept_so}

pub last_pushed : {X : Type 0} (o : Option X) (xs : List X) (x : X) → last_or o (xs ++ x ∷ []) ≡ Some x
last_pushed o [] x = refl
last_pushed o (y ∷ ys) x = last_pushed (Some y) ys x

-- ---- the rules at an entry

-- the first of these rules that is broken, in the entry with this number
abbrev pub fault_in : ℕ → List Rule → Option StimEnd
fault_in n [] = None
fault_in n (r ∷ rs) = first_fault (unless r.kept (told_of n r)) (fault_in n rs)

abbrev all_kept : List Rule → Bool
all_kept rs = list_all (λ (r : Rule). r.kept) rs

rules_kept : (n : ℕ) (rs : List Rule) → fault_in n rs ≡ None → AreKept rs
rules_kept n [] none = refl
rules_kept n (r ∷ rs) none =
    let both = neither_there (unless r.kept (told_of n r)) (fault_in n rs) none in
    ap (λ b. b && all_kept rs) (kept_by r.kept (told_of n r) both.0) ∙ rules_kept n rs both.1

kept_rules : (n : ℕ) (rs : List Rule) → AreKept rs → fault_in n rs ≡ None
kept_rules n [] kept = refl
kept_rules n (r ∷ rs) kept =
    let both = and_parts r.kept (all_kept rs) kept in
    neither (unless r.kept (told_of n r)) (fault_in n rs) (kept_so r.kept (told_of n r) both.0) (kept_rules n rs both.1)

rules_told : (n : ℕ) (rs : List Rule) (end : StimEnd) → fault_in n rs ≡ Some end → TellsFirst rs n end
rules_told n [] end is = let bad : ◌≡◌ {A = Option StimEnd} None (Some end) = is in absurd cc
rules_told n (r ∷ rs) end is = by r.kept refl (rules_told n rs end) where
  judged : (b : Bool) → r.kept ≡ b → first_fault (unless b (told_of n r)) (fault_in n rs) ≡ Some end
  judged b so = ap (λ c. first_fault (unless c (told_of n r)) (fault_in n rs)) (sym so) ∙ is

  by : (b : Bool) → r.kept ≡ b → (fault_in n rs ≡ Some end → TellsFirst rs n end) → TellsFirst (r ∷ rs) n end
  by false off others = record { broken = r; place = zero; at = refl; lesser = refl; is_broken = off; told = sym (same_Some (told_of n r) end (judged false off)) }
  by true on others =
      let later = others (judged true on) in
      record {
        broken = later.broken;
        place = suc later.place;
        at = later.at;
        lesser = ap (λ b. b && all_kept (take later.place rs)) on ∙ later.lesser;
        is_broken = later.is_broken;
        told = later.told;
      }

told_at : (n : ℕ) (rs : List Rule) (end : StimEnd) (place : ℕ) (broken : Rule) → slice_get rs place ≡ Some broken → AreKept (take place rs) → broken.kept ≡ false → end ≡ told_of n broken → fault_in n rs ≡ Some end
told_at n [] end place broken at lesser off told = let bad : ◌≡◌ {A = Option Rule} None (Some broken) = at in absurd cc
told_at n (r ∷ rs) end zero broken at lesser off told =
    let same : r ≡ broken = same_Some r broken at in
    ap (λ b. first_fault (unless b (told_of n r)) (fault_in n rs)) (ap (λ (x : Rule). x.kept) same ∙ off)
    ∙ ap (λ (x : Rule). Some (told_of n x)) same ∙ ap (λ (x : StimEnd). Some x) (sym told)
told_at n (r ∷ rs) end (suc place) broken at lesser off told =
    let both = and_parts r.kept (all_kept (take place rs)) lesser in
    ap (λ b. first_fault (unless b (told_of n r)) (fault_in n rs)) both.0 ∙ told_at n rs end place broken at both.1 off told

told_rules : (n : ℕ) (rs : List Rule) (end : StimEnd) → TellsFirst rs n end → fault_in n rs ≡ Some end
told_rules n rs end tells = told_at n rs end tells.place tells.broken tells.at tells.lesser tells.is_broken tells.told

-- ---- the entries

module _ {Entry : Type 0} (rules_at : List Entry → Entry → List Rule) where
  -- the first fault of entries that are numbered from here on, after the earlier ones
  abbrev pub walk : List Entry → ℕ → List Entry → Option StimEnd
  walk earlier n [] = None
  walk earlier n (x ∷ xs) = first_fault (fault_in n (rules_at earlier x)) (walk (earlier ++ x ∷ []) (n + 1) xs)

  -- the rules at this entry after these are kept
  abbrev Kept : List Entry → Entry → Type 0
  Kept earlier x = AreKept (rules_at earlier x)

  entries_kept : (earlier : List Entry) (n : ℕ) (xs : List Entry) → walk earlier n xs ≡ None → (k : ℕ) (x : Entry) → slice_get xs k ≡ Some x → Kept (earlier ++ take k xs) x
  entries_kept earlier n [] none k x at = let bad : ◌≡◌ {A = Option Entry} None (Some x) = at in absurd cc
  entries_kept earlier n (y ∷ ys) none zero x at =
      let both = neither_there (fault_in n (rules_at earlier y)) (walk (earlier ++ y ∷ []) (n + 1) ys) none in
      subst (λ es. Kept es x) (sym (append-nil earlier)) (subst (Kept earlier) (same_Some y x at) (rules_kept n (rules_at earlier y) both.0))
  entries_kept earlier n (y ∷ ys) none (suc k) x at =
      let both = neither_there (fault_in n (rules_at earlier y)) (walk (earlier ++ y ∷ []) (n + 1) ys) none in
      subst (λ es. Kept es x) (append_assoc earlier (y ∷ []) (take k ys)) (entries_kept (earlier ++ y ∷ []) (n + 1) ys both.1 k x at)

  kept_entries : (earlier : List Entry) (n : ℕ) (xs : List Entry) → ((k : ℕ) (x : Entry) → slice_get xs k ≡ Some x → Kept (earlier ++ take k xs) x) → walk earlier n xs ≡ None
  kept_entries earlier n [] kept = refl
  kept_entries earlier n (y ∷ ys) kept =
      neither (fault_in n (rules_at earlier y)) (walk (earlier ++ y ∷ []) (n + 1) ys)
      (kept_rules n (rules_at earlier y) (subst (λ es. Kept es y) (append-nil earlier) (kept zero y refl)))
      (kept_entries (earlier ++ y ∷ []) (n + 1) ys (λ k x at. subst (λ es. Kept es x) (sym (append_assoc earlier (y ∷ []) (take k ys))) (kept (suc k) x at)))

  -- the first broken rule of entries after the earlier ones
  record BrokenAfter (earlier : List Entry) (n : ℕ) (xs : List Entry) (end : StimEnd) : Type 0 where
    entry : Entry
    place : ℕ
    at : slice_get xs place ≡ Some entry
    before : (k : ℕ) → k < place → (x : Entry) → slice_get xs k ≡ Some x → Kept (earlier ++ take k xs) x
    breaks : TellsFirst (rules_at (earlier ++ take place xs) entry) (n + place) end

  entries_broken : (earlier : List Entry) (n : ℕ) (xs : List Entry) (end : StimEnd) → walk earlier n xs ≡ Some end → BrokenAfter earlier n xs end
  entries_broken earlier n [] end is = let bad : ◌≡◌ {A = Option StimEnd} None (Some end) = is in absurd cc
  entries_broken earlier n (y ∷ ys) end is = by (fault_in n (rules_at earlier y)) refl (entries_broken (earlier ++ y ∷ []) (n + 1) ys end) where
    later : List Entry
    later = earlier ++ y ∷ []

    by : (o : Option StimEnd) → fault_in n (rules_at earlier y) ≡ o → (walk later (n + 1) ys ≡ Some end → BrokenAfter later (n + 1) ys end) → BrokenAfter earlier n (y ∷ ys) end
    by (Some f) here others =
        let found : Some f ≡ Some end = ap (λ o. first_fault o (walk later (n + 1) ys)) (sym here) ∙ is in
        let counted : n ≡ n + 0 = omega arith in
        record {
          entry = y;
          place = zero;
          at = refl;
          before = λ k below. absurd (omega (arith, below));
          breaks = subst (λ es. TellsFirst (rules_at es y) (n + 0) end) (sym (append-nil earlier))
              (subst (λ m. TellsFirst (rules_at earlier y) m end) counted (rules_told n (rules_at earlier y) end (here ∙ found)));
        }
    by None here others =
        let rest = others (ap (λ o. first_fault o (walk later (n + 1) ys)) (sym here) ∙ is) in
        let counted : (n + 1) + rest.place ≡ n + suc rest.place = omega arith in
        record {
          entry = rest.entry;
          place = suc rest.place;
          at = rest.at;
          before = earlier_kept rest.place rest.before;
          breaks = subst (λ es. TellsFirst (rules_at es rest.entry) (n + suc rest.place) end) (append_assoc earlier (y ∷ []) (take rest.place ys))
              (subst (λ m. TellsFirst (rules_at (later ++ take rest.place ys) rest.entry) m end) counted rest.breaks);
        }
      where
        earlier_kept : (place : ℕ) → ((k : ℕ) → k < place → (x : Entry) → slice_get ys k ≡ Some x → Kept (later ++ take k ys) x)
            → (k : ℕ) → k < suc place → (x : Entry) → slice_get (y ∷ ys) k ≡ Some x → Kept (earlier ++ take k (y ∷ ys)) x
        earlier_kept place before zero below x at = subst (λ es. Kept es x) (sym (append-nil earlier)) (subst (Kept earlier) (same_Some y x at) (rules_kept n (rules_at earlier y) here))
        earlier_kept place before (suc k) below x at = subst (λ es. Kept es x) (append_assoc earlier (y ∷ []) (take k ys)) (before k (omega (arith, below)) x at)

  broken_at : (earlier : List Entry) (n : ℕ) (xs : List Entry) (end : StimEnd) (place : ℕ) (entry : Entry) → slice_get xs place ≡ Some entry
      → ((k : ℕ) → k < place → (x : Entry) → slice_get xs k ≡ Some x → Kept (earlier ++ take k xs) x)
      → TellsFirst (rules_at (earlier ++ take place xs) entry) (n + place) end → walk earlier n xs ≡ Some end
  broken_at earlier n [] end place entry at before breaks = let bad : ◌≡◌ {A = Option Entry} None (Some entry) = at in absurd cc
  broken_at earlier n (y ∷ ys) end zero entry at before breaks =
      let counted : n + 0 ≡ n = omega arith in
      let here = subst (λ es. TellsFirst (rules_at es entry) n end) (append-nil earlier) (subst (λ m. TellsFirst (rules_at (earlier ++ []) entry) m end) counted breaks) in
      let there = subst (λ x. TellsFirst (rules_at earlier x) n end) (sym (same_Some y entry at)) here in
      ap (λ o. first_fault o (walk (earlier ++ y ∷ []) (n + 1) ys)) (told_rules n (rules_at earlier y) end there)
  broken_at earlier n (y ∷ ys) end (suc place) entry at before breaks =
      let later = earlier ++ y ∷ [] in
      let counted : n + suc place ≡ (n + 1) + place = omega arith in
      let first : fault_in n (rules_at earlier y) ≡ None = kept_rules n (rules_at earlier y) (subst (λ es. Kept es y) (append-nil earlier) (before zero (omega arith) y refl)) in
      ap (λ o. first_fault o (walk later (n + 1) ys)) first
      ∙ broken_at later (n + 1) ys end place entry at
      (λ k below x is. subst (λ es. Kept es x) (sym (append_assoc earlier (y ∷ []) (take k ys))) (before (suc k) (omega (arith, below)) x is))
      (subst (λ es. TellsFirst (rules_at es entry) ((n + 1) + place) end) (sym (append_assoc earlier (y ∷ []) (take place ys)))
      (subst (λ m. TellsFirst (rules_at (earlier ++ y ∷ take place ys) entry) m end) counted breaks))

  -- ---- the laws of the walk

  pub walk_kept : (n : ℕ) (xs : List Entry) → walk [] n xs ≡ None → EntriesKeepRules rules_at xs
  walk_kept n xs none = entries_kept [] n xs none

  pub kept_walk : (n : ℕ) (xs : List Entry) → EntriesKeepRules rules_at xs → walk [] n xs ≡ None
  kept_walk n xs kept = kept_entries [] n xs kept

  pub walk_broken : (n : ℕ) (xs : List Entry) (end : StimEnd) → walk [] n xs ≡ Some end → FirstBroken rules_at xs n end
  walk_broken n xs end is =
      let found = entries_broken [] n xs end is in
      record { entry = found.entry; place = found.place; at = found.at; earlier = found.before; breaks = found.breaks }

  pub broken_walk : (n : ℕ) (xs : List Entry) (end : StimEnd) → FirstBroken rules_at xs n end → walk [] n xs ≡ Some end
  broken_walk n xs end first = broken_at [] n xs end first.place first.entry first.at first.earlier first.breaks
