-- Rules that are kept in stages, and the least of them that is broken.
use Rattle.std.proofs.Common.{◌≡◌, ℕ, ◌+◌, ◌<◌, ◌≤◌, ◌⊎◌, inl, inr, List, [], ◌∷◌, All, Contains, Option, Some, None, Result, Ok, Err, get_or, slice_get, refl, sym, ap, subst, ◌∙◌, arith}
use Rattle.std.specs.Option.{IfSome}
use Rattle.std.specs.Prelude.{IfErr}
use Rattle.std.proofs.lemmas.Bool.{cases_lt}
use Rattle.std.proofs.lemmas.List.Elements.{All-cons, All-head, All-nil}
use Rattle.std.proofs.lemmas.Option.{same_Some, slice_get-get_or}
use Rattle.hw_names.specs.Name.{Text}
use Rattle.fil_ast.specs.Connections.{ConnectsOnce}
use Rattle.fil_ast.specs.Evidence as shown
use Rattle.fil_ast.specs.Evidence.{IsMissingOffset}
use Rattle.fil_ast.specs.Naming.{MakesNewNames, UsesKnownNames}
use Rattle.fil_ast.specs.Rules.{Rule, F1, F2, F3, F4, F5, F6, F7, F8, F9, F10, F11, F12, F13, all_rules}
use Rattle.fil_ast.specs.Scope.{Scope, Invocation, instance_signature, invocations_at, signature_in}
use Rattle.fil_ast.specs.Sharing.{KeepsUsesApart, EndsInTime, TriggersWithInterface}
use Rattle.fil_ast.specs.Signature.{Signature}
use Rattle.fil_ast.specs.Timeline.{HoldsSome, KeepsDelays, ReadsAvailable, interval_at}
use Rattle.fil_ast.specs.Tree.{Giving, Statement, New, Call, Both, Connect, ValueTree}
use Rattle.fil_ast.specs.Typing.{KeepsNumbers, KeepsWidths}
use Rattle.fil_rules.specs.inside.Invocation.{IsBroken, KeepsTimes, TellsTimes, HoldsNone, Misses, Outlasts}
use Rattle.fil_rules.specs.LeastRule.{IsLeastBroken, TellsLeast, number_of}
use Rattle.fil_place.specs.Place.{with_instance}
use Rattle.fil_rules.specs.inside.Shared.{IsUnshared, KeepsSharing, TellsSharing, Meets, Overruns, Unmarked}
use Rattle.fil_rules.specs.inside.Stages.{IsLeastFrom, KeepsFrom, KeptAt, ShownAt, TellsFrom}
use Rattle.fil_rules.specs.declared.rules.Evidence.TheVariants as evidence
use Rattle.fil_rules.specs.declared.rules.ItemEnd.{ItemEnd}
use Rattle.fil_rules.specs.declared.rules.ItemEnd.TheVariants.{Broken, Memory}
use Rattle.fil_rules.specs.declared.rules.Rule as code
use Rattle.fil_rules.specs.declared.rules.Rule.TheVariants as code_rule
use Rattle.fil_rules.proofs.ConnectLemmas.{missing_refutes}

-- what an error tells, told otherwise
pub on_err : {X E : Type 0} (r : Result X E) (P Q : E → Type 0) → IfErr r P → ((e : E) → P e → Q e) → IfErr r Q
on_err (Ok x) P Q told then = tt
on_err (Err e) P Q told then = then e told

module _ (keeps : Rule → Type 0) where
  pub keeps_none : (n : ℕ) → KeepsFrom keeps n n
  keeps_none n place rule after before at = absurd (omega arith)

  pub keeps_more : (from to : ℕ) (rule : Rule) → slice_get all_rules to ≡ Some rule → KeepsFrom keeps from to → keeps rule → KeepsFrom keeps from (to + 1)
  keeps_more from to rule here kept holds place other after before at = by (cases_lt place to)
    where
      by : (place < to) ⊎ (to ≤ place) → keeps other
      by (inl earlier) = kept place other after earlier at
      by (inr later) =
          let same : to ≡ place = omega arith in
          subst keeps (same_Some rule other (sym here ∙ ap (slice_get all_rules) same ∙ at)) holds

  pub keeps_both : (from mid to : ℕ) → KeepsFrom keeps from mid → KeepsFrom keeps mid to → KeepsFrom keeps from to
  keeps_both from mid to first second place rule after before at = by (cases_lt place mid)
    where
      by : (place < mid) ⊎ (mid ≤ place) → keeps rule
      by (inl earlier) = first place rule after earlier at
      by (inr later) = second place rule later before at

  pub later_kept : (from mid to : ℕ) → from ≤ mid → KeepsFrom keeps from to → KeepsFrom keeps mid to
  later_kept from mid to below kept place rule after before at = kept place rule (omega arith) before at

  pub all_kept : KeepsFrom keeps 0 13 → All keeps all_rules
  all_kept kept place other within = kept place (get_or all_rules place other) (omega arith) within (slice_get-get_or all_rules place other within)

  module _ (shows : Rule → shown.Evidence → Type 0) where
    from_start : (from number : ℕ) (e : shown.Evidence) → KeepsFrom keeps 0 from → IsLeastFrom keeps shows from number e → IsLeastBroken keeps shows number e
    from_start from number e kept least = record {
      place = least.place;
      counted = least.counted;
      lesser = λ q rule below at. keeps_both 0 from least.place kept least.lesser q rule (omega arith) below at;
      rule = least.rule;
      numbered = least.numbered;
      broken = least.broken;
      is_shown = least.is_shown;
    }

    -- the least rule of a stage is the least of all, where those before the stage are kept
    pub told_from_start : (from : ℕ) (end : ItemEnd) → KeepsFrom keeps 0 from → TellsFrom keeps shows from end → TellsLeast keeps shows end
    told_from_start from (Broken broken) kept told = from_start from _ _ kept told
    told_from_start from Memory kept told = tt

    -- the refusal by a rule that shows nothing
    pub breaks_at : (from place : ℕ) (rule : Rule) (its_code : code.Rule) (end : ItemEnd) → number_of its_code ≡ place + 1 → end ≡ Broken (record { rule = its_code; evidence = evidence.Nothing }) → from ≤ place → slice_get all_rules place ≡ Some rule → KeepsFrom keeps from place → ¬ keeps rule
        → shows rule shown.Nothing → TellsFrom keeps shows from end
    breaks_at from place rule its_code end numbered is after here kept broken showing =
        let T : ItemEnd → Type 0 = TellsFrom keeps shows from in
        subst T (sym is) (record { place = place; counted = sym numbered; after = after; lesser = kept; rule = rule; numbered = here; broken = broken; is_shown = showing })

-- F1 to F6 at a statement
module _ (scope : Scope) (before : List Statement) (s : Statement) where
  abbrev Kept : Rule → Type 0
  Kept = KeptAt scope before s

  pub kept_1 : MakesNewNames scope s → KeepsFrom Kept 0 1
  kept_1 f1 = keeps_more Kept 0 0 F1 refl (keeps_none Kept 0) f1

  pub kept_2 : MakesNewNames scope s → UsesKnownNames scope s → KeepsFrom Kept 0 2
  kept_2 f1 f2 = keeps_more Kept 0 1 F2 refl (kept_1 f1) f2

  pub kept_3 : MakesNewNames scope s → UsesKnownNames scope s → KeepsWidths scope s → KeepsFrom Kept 0 3
  kept_3 f1 f2 f3 = keeps_more Kept 0 2 F3 refl (kept_2 f1 f2) f3

  pub kept_6 : MakesNewNames scope s → UsesKnownNames scope s → KeepsWidths scope s → KeepsNumbers scope s → KeepsFrom Kept 0 6
  kept_6 f1 f2 f3 f4 =
      let four = keeps_more Kept 0 3 F4 refl (kept_3 f1 f2 f3) f4 in
      keeps_more Kept 0 5 F6 refl (keeps_more Kept 0 4 F5 refl four tt) tt

-- F7 to F10 at a statement that invokes something
module _ (keeps : Rule → Type 0) (shows : Rule → shown.Evidence → Type 0) (scope : Scope) (o : Option Signature) (inst : Text) (gives : Giving) where
  abbrev Holds : Type 0
  Holds = IfSome o (λ (sig : Signature). HoldsSome sig gives.times)

  abbrev Reads : Type 0
  Reads = IfSome o (λ (sig : Signature). ReadsAvailable scope sig gives)

  abbrev Delays : Type 0
  Delays = IfSome o (λ (sig : Signature). KeepsDelays scope sig inst gives)

  weaker : (P Q : Signature → Type 0) → ((sig : Signature) → P sig → Q sig) → (o : Option Signature) → IfSome o P → IfSome o Q
  weaker P Q then None p = tt
  weaker P Q then (Some sig) p = then sig p

  module _ (holds : Holds → keeps F7) (reads : Reads → keeps F8) (connects : keeps F9) (delays : Delays → keeps F10) where
    pub times_kept : IfSome o (λ (sig : Signature). KeepsTimes scope sig inst gives) → KeepsFrom keeps 6 10
    times_kept kept =
        let T : Signature → Type 0 = λ sig. KeepsTimes scope sig inst gives in
        let f7 = holds (weaker T (λ sig. HoldsSome sig gives.times) (λ sig t. t.holds) o kept) in
        let f8 = reads (weaker T (λ sig. ReadsAvailable scope sig gives) (λ sig t. t.reads) o kept) in
        let f10 = delays (weaker T (λ sig. KeepsDelays scope sig inst gives) (λ sig t. t.delays) o kept) in
        keeps_more keeps 6 9 F10 refl
        (keeps_more keeps 6 8 F9 refl (keeps_more keeps 6 7 F8 refl (keeps_more keeps 6 6 F7 refl (keeps_none keeps 6) f7) f8) connects) f10

    module _ (back_7 : keeps F7 → Holds) (back_8 : keeps F8 → Reads) (back_10 : keeps F10 → Delays) (shows_7 : shows F7 shown.Nothing)
        (shows_8 : (offset : ℕ) (sig : Signature) → o ≡ Some sig → IsMissingOffset scope sig gives offset → shows F8 (shown.AnOffset offset)) (shows_10 : shows F10 shown.Nothing) where
      at : (P : Signature → Type 0) (sig : Signature) → o ≡ Some sig → IfSome o P → P sig
      at P sig is p = let I : Option Signature → Type 0 = λ o. IfSome o P in subst I is p

      put : (P : Signature → Type 0) (sig : Signature) → o ≡ Some sig → P sig → IfSome o P
      put P sig is p = let I : Option Signature → Type 0 = λ o. IfSome o P in subst I (sym is) p

      missing_breaks : (sig : Signature) (offset : ℕ) → IsMissingOffset scope sig gives offset → ReadsAvailable scope sig gives → ⊥
      missing_breaks sig offset m all =
          missing_refutes scope m.arg (interval_at gives.times m.port) offset
          (record { need = m.need; is_need = m.is_need; from = m.from; to = m.to; missing = m.missing; least = m.least })
          (all m.number m.arg m.port m.given m.for)

      broken_by : (sig : Signature) → o ≡ Some sig → (rule : ℕ) (e : shown.Evidence) → IsBroken scope sig inst gives rule e → IsLeastFrom keeps shows 6 rule e
      broken_by sig is rule e (HoldsNone not_so number nothing) =
          let S : shown.Evidence → Type 0 = shows F7 in
          record {
            place = 6;
            counted = sym number;
            after = omega arith;
            lesser = keeps_none keeps 6;
            rule = F7;
            numbered = refl;
            broken = λ kept. not_so (at (λ sig. HoldsSome sig gives.times) sig is (back_7 kept));
            is_shown = subst S (sym nothing) shows_7;
          }
      broken_by sig is rule e (Misses some offset missing number offset_shown) =
          let S : shown.Evidence → Type 0 = shows F8 in
          record {
            place = 7;
            counted = sym number;
            after = omega arith;
            lesser = keeps_more keeps 6 6 F7 refl (keeps_none keeps 6) (holds (put (λ sig. HoldsSome sig gives.times) sig is some));
            rule = F8;
            numbered = refl;
            broken = λ kept. missing_breaks sig offset missing (at (λ sig. ReadsAvailable scope sig gives) sig is (back_8 kept));
            is_shown = subst S (sym offset_shown) (shows_8 offset sig is missing);
          }
      broken_by sig is rule e (Outlasts some available not_so number nothing) =
          let S : shown.Evidence → Type 0 = shows F10 in
          let f7 = keeps_more keeps 6 6 F7 refl (keeps_none keeps 6) (holds (put (λ sig. HoldsSome sig gives.times) sig is some)) in
          let f8 = keeps_more keeps 6 7 F8 refl f7 (reads (put (λ sig. ReadsAvailable scope sig gives) sig is available)) in
          record {
            place = 9;
            counted = sym number;
            after = omega arith;
            lesser = keeps_more keeps 6 8 F9 refl f8 connects;
            rule = F10;
            numbered = refl;
            broken = λ kept. not_so (at (λ sig. KeepsDelays scope sig inst gives) sig is (back_10 kept));
            is_shown = subst S (sym nothing) shows_10;
          }

      pub times_told : (end : ItemEnd) (sig : Signature) → o ≡ Some sig → TellsTimes scope sig inst gives end → TellsFrom keeps shows 6 end
      times_told Memory sig is told = tt
      times_told (Broken broken) sig is told = broken_by sig is _ _ told

-- F7 to F10 statement by statement
module _ (scope : Scope) (before : List Statement) where
  module _ (name inst : Text) (gives : Giving) where
    abbrev a_call : Statement
    a_call = Call name inst gives

    pub call_kept : IfSome (instance_signature scope inst) (λ (sig : Signature). KeepsTimes scope sig inst gives) → KeepsFrom (KeptAt scope before a_call) 6 10
    call_kept kept = times_kept (KeptAt scope before a_call) (ShownAt scope a_call) scope (instance_signature scope inst) inst gives (λ h. h) (λ h. h) tt (λ h. h) kept

    pub call_told : (end : ItemEnd) (sig : Signature) → instance_signature scope inst ≡ Some sig → TellsTimes scope sig inst gives end → TellsFrom (KeptAt scope before a_call) (ShownAt scope a_call) 6 end
    call_told end sig is told =
        times_told (KeptAt scope before a_call) (ShownAt scope a_call) scope (instance_signature scope inst) inst gives (λ h. h) (λ h. h) tt (λ h. h) (λ h. h) (λ h. h) (λ h. h) refl
        (λ offset sig is missing. (offset, refl, (sig, is, missing))) refl end sig is told

  module _ (name made : Text) (params : List ℕ) (gives : Giving) where
    abbrev a_both : Statement
    a_both = Both name made params gives

    pub both_kept : IfSome (signature_in scope.comps made params) (λ (sig : Signature). KeepsTimes scope sig name gives) → KeepsFrom (KeptAt scope before a_both) 6 10
    both_kept kept = times_kept (KeptAt scope before a_both) (ShownAt scope a_both) scope (signature_in scope.comps made params) name gives (λ h. h) (λ h. h) tt (λ h. h) kept

    pub both_told : (end : ItemEnd) (sig : Signature) → signature_in scope.comps made params ≡ Some sig → TellsTimes scope sig name gives end → TellsFrom (KeptAt scope before a_both) (ShownAt scope a_both) 6 end
    both_told end sig is told =
        times_told (KeptAt scope before a_both) (ShownAt scope a_both) scope (signature_in scope.comps made params) name gives (λ h. h) (λ h. h) tt (λ h. h) (λ h. h) (λ h. h) (λ h. h) refl
        (λ offset sig is missing. (offset, refl, (sig, is, missing))) refl end sig is told

  module _ (output : Text) (value : ValueTree) where
    abbrev a_connection : Statement
    a_connection = Connect output value

    upto_9 : KeepsFrom (KeptAt scope before a_connection) 6 8
    upto_9 = let K : Rule → Type 0 = KeptAt scope before a_connection in keeps_more K 6 7 F8 refl (keeps_more K 6 6 F7 refl (keeps_none K 6) tt) tt

    pub connection_kept : ConnectsOnce scope before a_connection → KeepsFrom (KeptAt scope before a_connection) 6 10
    connection_kept once = let K : Rule → Type 0 = KeptAt scope before a_connection in keeps_more K 6 9 F10 refl (keeps_more K 6 8 F9 refl upto_9 once) tt

    pub connection_told : (end : ItemEnd) → end ≡ Broken (record { rule = code_rule.F9; evidence = evidence.Nothing }) → ¬ ConnectsOnce scope before a_connection → TellsFrom (KeptAt scope before a_connection) (ShownAt scope a_connection) 6 end
    connection_told end is not_once = breaks_at (KeptAt scope before a_connection) (ShownAt scope a_connection) 6 8 F9 code_rule.F9 end refl is (omega arith) refl upto_9 not_once refl

  pub new_kept : (name made : Text) (params : List ℕ) → KeepsFrom (KeptAt scope before (New name made params)) 6 10
  new_kept name made params =
      let K : Rule → Type 0 = KeptAt scope before (New name made params) in
      keeps_more K 6 9 F10 refl (keeps_more K 6 8 F9 refl (keeps_more K 6 7 F8 refl (keeps_more K 6 6 F7 refl (keeps_none K 6) tt) tt) tt) tt

-- F11 to F13 at a statement that invokes nothing
pub none_invoked : (scope : Scope) (before : List Statement) (s : Statement) → invocations_at s ≡ [] → KeepsFrom (KeptAt scope before s) 10 13
none_invoked scope before s is =
    let keeps : Rule → Type 0 = KeptAt scope before s in
    let with = with_instance scope s in
    let none : (P : Invocation → Type 0) → All P (invocations_at s) = λ P. (let A : List Invocation → Type 0 = All P in subst A (sym is) (All-nil P)) in
    keeps_more keeps 10 12 F13 refl
    (keeps_more keeps 10 11 F12 refl (keeps_more keeps 10 10 F11 refl (keeps_none keeps 10) (none (KeepsUsesApart with))) (none (EndsInTime with)))
    (none (TriggersWithInterface with))

-- F11 to F13 at a statement with this invocation
module _ (scope : Scope) (before : List Statement) (s : Statement) (v : Invocation) (is : invocations_at s ≡ v ∷ []) where
  abbrev AtS : Rule → Type 0
  AtS = KeptAt scope before s

  abbrev ShownS : Rule → shown.Evidence → Type 0
  ShownS = ShownAt scope s

  abbrev with : Scope
  with = with_instance scope s

  of_all : (P : Invocation → Type 0) → P v → All P (invocations_at s)
  of_all P p = let A : List Invocation → Type 0 = All P in subst A (sym is) (All-cons P v [] p (All-nil P))

  of_one : (P : Invocation → Type 0) → All P (invocations_at s) → P v
  of_one P all = let A : List Invocation → Type 0 = All P in All-head P v [] (subst A is all)

  there : Contains (invocations_at s) v
  there = let C : List Invocation → Type 0 = λ vs. Contains vs v in subst C (sym is) (0, omega arith, refl)

  upto_11 : KeepsUsesApart with v → KeepsFrom AtS 10 11
  upto_11 f11 = keeps_more AtS 10 10 F11 refl (keeps_none AtS 10) (of_all (KeepsUsesApart with) f11)

  upto_12 : KeepsUsesApart with v → EndsInTime with v → KeepsFrom AtS 10 12
  upto_12 f11 f12 = keeps_more AtS 10 11 F12 refl (upto_11 f11) (of_all (EndsInTime with) f12)

  pub sharing_kept : KeepsSharing with v → KeepsFrom AtS 10 13
  sharing_kept kept = keeps_more AtS 10 12 F13 refl (upto_12 kept.apart kept.in_time) (of_all (TriggersWithInterface with) kept.triggers)

  unshared : (rule : ℕ) (e : shown.Evidence) → IsUnshared with v rule e → IsLeastFrom AtS ShownS 10 rule e
  unshared rule e (Meets not_so cycle meeting number is_cycle) = record {
    place = 10;
    counted = sym number;
    after = omega arith;
    lesser = keeps_none AtS 10;
    rule = F11;
    numbered = refl;
    broken = λ all. not_so (of_one (KeepsUsesApart with) all);
    is_shown = (cycle, is_cycle, (v, there, meeting));
  }
  unshared rule e (Overruns f11 not_so gap cycle is_gap number is_gap_shown) = record {
    place = 11;
    counted = sym number;
    after = omega arith;
    lesser = upto_11 f11;
    rule = F12;
    numbered = refl;
    broken = λ all. not_so (of_one (EndsInTime with) all);
    is_shown = (gap, cycle, is_gap_shown, (v, there, is_gap));
  }
  unshared rule e (Unmarked f11 f12 not_so number nothing) = record {
    place = 12;
    counted = sym number;
    after = omega arith;
    lesser = upto_12 f11 f12;
    rule = F13;
    numbered = refl;
    broken = λ all. not_so (of_one (TriggersWithInterface with) all);
    is_shown = nothing;
  }

  pub sharing_told : (end : ItemEnd) → TellsSharing with v end → TellsFrom AtS ShownS 10 end
  sharing_told Memory told = tt
  sharing_told (Broken broken) told = unshared _ _ told
