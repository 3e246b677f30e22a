-- The least broken rule at an item, from a proof that all rules before it hold.
use Rattle.std.proofs.Common.{◌≡◌, ℕ, zero, suc, ◌+◌, ◌<◌, List, [], ◌∷◌, take, slice_get, All, Some, refl, sym, subst, arith}
use Rattle.std.proofs.lemmas.List.Elements.{All-append, All-cons, All-nil}
use Rattle.std.proofs.lemmas.Option.{same_Some, slice_get_within}
use Rattle.fil_ast.specs.Evidence as shown
use Rattle.fil_ast.specs.Rules.{Rule, F1, F2, F3, F4, F5, F6, F7, F8, F9, F10, F11, F12, F13, all_rules}
use Rattle.fil_rules.specs.LeastRule.{IsLeastBroken, TellsLeast, number_of}
use Rattle.fil_rules.specs.declared.rules.Evidence.TheVariants.{Nothing}
use Rattle.fil_rules.specs.declared.rules.ItemEnd.{ItemEnd}
use Rattle.fil_rules.specs.declared.rules.ItemEnd.TheVariants.{Broken}
use Rattle.fil_rules.specs.declared.rules.Rule as code
use Rattle.fil_share.proofs.ListLemmas.{take_next}

-- what holds of the first elements holds of each of them
kept_at : {X : Type 0} (P : X → Type 0) (n : ℕ) (xs : List X) → All P (take n xs) → (k : ℕ) (x : X) → k < n → slice_get xs k ≡ Some x → P x
kept_at P zero xs all k x below at = absurd (omega arith)
kept_at P (suc n) [] all k x below at = let within = slice_get_within [] k x at in absurd (omega arith)
kept_at P (suc n) (y ∷ ys) all zero x below at = subst P (same_Some y x at) (all 0 y (omega arith))
kept_at P (suc n) (y ∷ ys) all (suc k) x below at = kept_at P n ys (λ i d within. all (suc i) d (omega arith)) k x (omega arith) at

module _ (keeps : Rule → Type 0) where
  -- no rule is before the first
  pub none_yet : All keeps (take 0 all_rules)
  none_yet = All-nil keeps

  -- the rules before a place hold, and so does the one that stands there
  pub one_more_rule : (place : ℕ) (rule : Rule) → slice_get all_rules place ≡ Some rule → All keeps (take place all_rules) → keeps rule → All keeps (take (place + 1) all_rules)
  one_more_rule place rule numbered before kept =
      subst (All keeps) (sym (take_next all_rules place rule numbered))
      (All-append keeps (take place all_rules) (rule ∷ []) before (All-cons keeps rule [] kept (All-nil keeps)))

  pub first_four : keeps F1 → keeps F2 → keeps F3 → keeps F4 → All keeps (take 4 all_rules)
  first_four f1 f2 f3 f4 =
      one_more_rule 3 F4 refl (one_more_rule 2 F3 refl (one_more_rule 1 F2 refl (one_more_rule 0 F1 refl none_yet f1) f2) f3) f4

  pub all_thirteen : keeps F1 → keeps F2 → keeps F3 → keeps F4 → keeps F5 → keeps F6 → keeps F7 → keeps F8 → keeps F9 → keeps F10 → keeps F11 → keeps F12 → keeps F13 → All keeps all_rules
  all_thirteen f1 f2 f3 f4 f5 f6 f7 f8 f9 f10 f11 f12 f13 =
      one_more_rule 12 F13 refl (one_more_rule 11 F12 refl (one_more_rule 10 F11 refl (one_more_rule 9 F10 refl (one_more_rule 8 F9 refl
      (one_more_rule 7 F8 refl (one_more_rule 6 F7 refl (one_more_rule 5 F6 refl (one_more_rule 4 F5 refl (first_four f1 f2 f3 f4) f5) f6) f7) f8) f9) f10) f11) f12) f13

  -- the rule at this place is the least that is broken
  pub breaks : (shows : Rule → shown.Evidence → Type 0) (place : ℕ) (rule : Rule) (evidence : shown.Evidence) → slice_get all_rules place ≡ Some rule → All keeps (take place all_rules) → ¬ keeps rule → shows rule evidence
      → IsLeastBroken keeps shows (place + 1) evidence
  breaks shows place rule evidence numbered before unkept shows_it =
      record {
        place = place;
        counted = refl;
        lesser = λ q lesser below at. kept_at keeps place all_rules before q lesser below at;
        rule = rule;
        numbered = numbered;
        broken = unkept;
        is_shown = shows_it;
      }

  -- so tells the end by a rule that shows nothing
  pub ends_by : (shows : Rule → shown.Evidence → Type 0) (place : ℕ) (rule : Rule) (its_code : code.Rule) → number_of its_code ≡ place + 1 → slice_get all_rules place ≡ Some rule → All keeps (take place all_rules) → ¬ keeps rule → shows rule shown.Nothing
      → (end : ItemEnd) → end ≡ Broken (record { rule = its_code; evidence = Nothing }) → TellsLeast keeps shows end
  ends_by shows place rule its_code counted numbered before unkept shows_it end is =
      let L : ℕ → Type 0 = λ n. IsLeastBroken keeps shows n shown.Nothing in
      subst (TellsLeast keeps shows) (sym is) (subst L (sym counted) (breaks shows place rule shown.Nothing numbered before unkept shows_it))
