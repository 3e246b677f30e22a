-- Marks of actors: one more, none, and those of one plan after those of another.
use Rattle.std.proofs.Common.{◌≡◌, inl, inr, ℕ, ◌<◌, Bool, true, false, ◌||◌, List, [], ◌∷◌, ◌++◌, length, map, set, get_or, take, Option, Some, None, refl, sym, ap, ◌∙◌, subst, arith}
use Rattle.std.specs.Prelude.{option_map, slice_get}
use Rattle.std.proofs.lemmas.Bool.{cases_eq, false_from_ne_true}
use Rattle.std.proofs.lemmas.List.{get_or-set_same, get_or-set_other}
use Rattle.cal_ast.specs.Actors.{Actor, same_actor}
use Rattle.cal_ast.specs.Plan.{Plan, AtOnce, InTurn}
use Rattle.cal_walk.specs.Left.{enables, enables_at_once, tests, tests_at_once, is_over, are_over, is_by}
use Rattle.cal_walk.specs.Marking.{HaveOwnMarks, KeepsSizes, AddsMarks, AddsWanted}
use Rattle.cal_walk.specs.Trees.{plans_of}
use Rattle.cal_walk.specs.declared.marks.Marks.{Marks}
use Rattle.cal_walk.proofs.PastLemmas.{enables_first, enables_none, tests_first, tests_none}
use Rattle.cal_walk.proofs.WantLemmas.{same_actor_of, of_same_actor}

or_false : (b : Bool) → b ≡ (b || false)
or_false true = refl
or_false false = refl

or_assoc : (a b c : Bool) → ((a || b) || c) ≡ (a || (b || c))
or_assoc true b c = refl
or_assoc false b c = refl

or_true : (b : Bool) → true ≡ (b || true)
or_true true = refl
or_true false = refl

module _ (f : ℕ → Actor) where
  pub no_marks : (marks : List Bool) → AddsMarks f (λ actor. false) marks marks
  no_marks marks k within = or_false (get_or marks k false)

  pub one_mark : (marks : List Bool) (actor : ℕ) → actor < length marks → HaveOwnMarks f (length marks) → AddsMarks f (λ other. same_actor (f actor) other) marks (set marks actor true)
  one_mark marks actor there apart k within = elim (cases_eq k actor) [
    | inl same ↦
        let P : ℕ → Type 0 = λ x. get_or (set marks actor true) x false ≡ (get_or marks x false || same_actor (f actor) (f x)) in
        let here : get_or (set marks actor true) actor false ≡ true = get_or-set_same marks actor true false there in
        let wanted : same_actor (f actor) (f actor) ≡ true = same_actor_of (f actor) (f actor) refl in
        subst P (sym same) (here ∙ or_true (get_or marks actor false) ∙ ap (λ b. get_or marks actor false || b) (sym wanted))
    | inr other ↦
        let kept : get_or (set marks actor true) k false ≡ get_or marks k false = get_or-set_other marks actor k true false other in
        let not_wanted : same_actor (f actor) (f k) ≡ false =
        false_from_ne_true (same_actor (f actor) (f k)) (λ e. other (apart k actor within there (sym (of_same_actor (f actor) (f k) e)))) in
        kept ∙ or_false (get_or marks k false) ∙ ap (λ b. get_or marks k false || b) (sym not_wanted)
  ]

  -- the actor of a condition, and none
  pub tested_mark : (by : Option ℕ) (actor : ℕ) (marks : List Bool) → by ≡ Some actor → actor < length marks → HaveOwnMarks f (length marks) → AddsMarks f (is_by (option_map f by)) marks (set marks actor true)
  tested_mark by actor marks is there apart =
      let P : Option ℕ → Type 0 = λ o. AddsMarks f (is_by (option_map f o)) marks (set marks actor true) in
      subst P (sym is) (one_mark marks actor there apart)

  pub untested_mark : (by : Option ℕ) (marks : List Bool) → by ≡ None → AddsMarks f (is_by (option_map f by)) marks marks
  untested_mark by marks is =
      let P : Option ℕ → Type 0 = λ o. AddsMarks f (is_by (option_map f o)) marks marks in
      subst P (sym is) (no_marks marks)

  pub same_marks : (p q : Actor → Bool) (before after : List Bool) → ((actor : Actor) → p actor ≡ q actor) → AddsMarks f p before after → AddsMarks f q before after
  same_marks p q before after same marks k within = marks k within ∙ ap (λ b. get_or before k false || b) (same (f k))

  pub both_marks : (p q : Actor → Bool) (before mid after : List Bool) → length mid ≡ length before → AddsMarks f p before mid → AddsMarks f q mid after
      → AddsMarks f (λ actor. p actor || q actor) before after
  both_marks p q before mid after sized first second k within =
      second k (omega (arith, within, sized)) ∙ ap (λ b. b || q (f k)) (first k within) ∙ or_assoc (get_or before k false) (p (f k)) (q (f k))

  -- those of a plan that wants what another does
  pub same_wanted : (p q : Plan) (before after : Marks) → p ≡ q → AddsWanted f (enables p) (tests p) before after → AddsWanted f (enables q) (tests q) before after
  same_wanted p q before after e = subst (λ (x : Plan). AddsWanted f (enables x) (tests x) before after) e

  -- nothing wanted
  pub none_wanted : (p : Plan) (marks : Marks) → ((actor : Actor) → enables p actor ≡ false) → ((actor : Actor) → tests p actor ≡ false) → AddsWanted f (enables p) (tests p) marks marks
  none_wanted p marks enabled tested = record {
    enabled_are = same_marks (λ actor. false) (enables p) marks.enabled.items marks.enabled.items (λ actor. sym (enabled actor)) (no_marks marks.enabled.items);
    tested_are = same_marks (λ actor. false) (tests p) marks.tested.items marks.tested.items (λ actor. sym (tested actor)) (no_marks marks.tested.items);
  }

  -- what another plan wants too
  pub wanted_alike : (p q : Plan) (before after : Marks) → ((actor : Actor) → enables p actor ≡ enables q actor) → ((actor : Actor) → tests p actor ≡ tests q actor)
      → AddsWanted f (enables p) (tests p) before after → AddsWanted f (enables q) (tests q) before after
  wanted_alike p q before after enabled tested wanted = record {
    enabled_are = same_marks (enables p) (enables q) before.enabled.items after.enabled.items enabled wanted.enabled_are;
    tested_are = same_marks (tests p) (tests q) before.tested.items after.tested.items tested wanted.tested_are;
  }

-- as many marks as before
pub same_sizes : (marks : Marks) → KeepsSizes marks marks
same_sizes marks = record { enabled_sized = refl; tested_sized = refl }

pub sizes_both : (before mid after : Marks) → KeepsSizes before mid → KeepsSizes mid after → KeepsSizes before after
sizes_both before mid after first second = record { enabled_sized = second.enabled_sized ∙ first.enabled_sized; tested_sized = second.tested_sized ∙ first.tested_sized }

pub sizes_alike : (before after : Marks) → KeepsSizes before after → length before.tested.items ≡ length before.enabled.items → length after.tested.items ≡ length after.enabled.items
sizes_alike before after sizes alike = sizes.tested_sized ∙ alike ∙ sym sizes.enabled_sized

pub apart_after : (f : ℕ → Actor) (before after : Marks) → KeepsSizes before after → HaveOwnMarks f (length before.enabled.items) → HaveOwnMarks f (length after.enabled.items)
apart_after f before after sizes apart = subst (λ (n : ℕ). HaveOwnMarks f n) (sym sizes.enabled_sized) apart

module _ {X : Type 0} (tree : X → Plan) where
  at_once_push : (xs : List X) (x : X) (actor : Actor) → (enables_at_once (plans_of (map tree xs)) actor || enables (tree x) actor) ≡ enables_at_once (plans_of (map tree (xs ++ x ∷ []))) actor
  at_once_push [] x actor = or_false (enables (tree x) actor)
  at_once_push (y ∷ xs) x actor =
      or_assoc (enables (tree y) actor) (enables_at_once (plans_of (map tree xs)) actor) (enables (tree x) actor) ∙ ap (λ b. enables (tree y) actor || b) (at_once_push xs x actor)

  tested_push : (xs : List X) (x : X) (actor : Actor) → (tests_at_once (plans_of (map tree xs)) actor || tests (tree x) actor) ≡ tests_at_once (plans_of (map tree (xs ++ x ∷ []))) actor
  tested_push [] x actor = or_false (tests (tree x) actor)
  tested_push (y ∷ xs) x actor =
      or_assoc (tests (tree y) actor) (tests_at_once (plans_of (map tree xs)) actor) (tests (tree x) actor) ∙ ap (λ b. tests (tree y) actor || b) (tested_push xs x actor)

  -- one more of plans at once
  pub wanted_push : (f : ℕ → Actor) (xs : List X) (x : X) (before mid after : Marks) → KeepsSizes before mid
      → AddsWanted f (enables (AtOnce (plans_of (map tree xs)))) (tests (AtOnce (plans_of (map tree xs)))) before mid → AddsWanted f (enables (tree x)) (tests (tree x)) mid after
      → AddsWanted f (enables (AtOnce (plans_of (map tree (xs ++ x ∷ []))))) (tests (AtOnce (plans_of (map tree (xs ++ x ∷ []))))) before after
  wanted_push f xs x before mid after sizes first second = record {
    enabled_are = same_marks f (λ actor. enables_at_once (plans_of (map tree xs)) actor || enables (tree x) actor) (enables_at_once (plans_of (map tree (xs ++ x ∷ [])))) before.enabled.items after.enabled.items (at_once_push xs x)
        (both_marks f (enables_at_once (plans_of (map tree xs))) (enables (tree x)) before.enabled.items mid.enabled.items after.enabled.items sizes.enabled_sized first.enabled_are second.enabled_are);
    tested_are = same_marks f (λ actor. tests_at_once (plans_of (map tree xs)) actor || tests (tree x) actor) (tests_at_once (plans_of (map tree (xs ++ x ∷ [])))) before.tested.items after.tested.items (tested_push xs x)
        (both_marks f (tests_at_once (plans_of (map tree xs))) (tests (tree x)) before.tested.items mid.tested.items after.tested.items sizes.tested_sized first.tested_are second.tested_are);
  }

  -- of a list that is this one
  pub wanted_next : (f : ℕ → Actor) (xs more : List X) (x : X) (before mid after : Marks) → more ≡ xs ++ x ∷ [] → KeepsSizes before mid
      → AddsWanted f (enables (AtOnce (plans_of (map tree xs)))) (tests (AtOnce (plans_of (map tree xs)))) before mid → AddsWanted f (enables (tree x)) (tests (tree x)) mid after
      → AddsWanted f (enables (AtOnce (plans_of (map tree more)))) (tests (AtOnce (plans_of (map tree more)))) before after
  wanted_next f xs more x before mid after is sizes first second =
      same_wanted f (AtOnce (plans_of (map tree (xs ++ x ∷ [])))) (AtOnce (plans_of (map tree more))) before after
      (sym (ap (λ (ys : List X). AtOnce (plans_of (map tree ys))) is)) (wanted_push f xs x before mid after sizes first second)

  pub wanted_whole : (f : ℕ → Actor) (xs all : List X) (before after : Marks) → xs ≡ all
      → AddsWanted f (enables (AtOnce (plans_of (map tree xs)))) (tests (AtOnce (plans_of (map tree xs)))) before after
      → AddsWanted f (enables (AtOnce (plans_of (map tree all)))) (tests (AtOnce (plans_of (map tree all)))) before after
  wanted_whole f xs all before after is wanted =
      same_wanted f (AtOnce (plans_of (map tree xs))) (AtOnce (plans_of (map tree all))) before after (ap (λ (ys : List X). AtOnce (plans_of (map tree ys))) is) wanted

  -- plans in turn want what the first of them wants that takes a row
  module _ (f : ℕ → Actor) (xs : List X) (before after : Marks) where
    pub first_wanted : (k : ℕ) (x : X) → are_over (plans_of (map tree (take k xs))) ≡ true → slice_get xs k ≡ Some x → is_over (tree x) ≡ false
        → AddsWanted f (enables (tree x)) (tests (tree x)) before after → AddsWanted f (enables (InTurn (plans_of (map tree xs)))) (tests (InTurn (plans_of (map tree xs)))) before after
    first_wanted k x over at lasts wanted =
        wanted_alike f (tree x) (InTurn (plans_of (map tree xs))) before after (λ actor. sym (enables_first tree xs actor k x over at lasts)) (λ actor. sym (tests_first tree xs actor k x over at lasts)) wanted

    pub no_first_wanted : are_over (plans_of (map tree xs)) ≡ true → after ≡ before → AddsWanted f (enables (InTurn (plans_of (map tree xs)))) (tests (InTurn (plans_of (map tree xs)))) before after
    no_first_wanted over same =
        let P : Marks → Type 0 = AddsWanted f (enables (InTurn (plans_of (map tree xs)))) (tests (InTurn (plans_of (map tree xs)))) before in
        subst P (sym same) (none_wanted f (InTurn (plans_of (map tree xs))) before (λ actor. enables_none tree xs actor over) (λ actor. tests_none tree xs actor over))
