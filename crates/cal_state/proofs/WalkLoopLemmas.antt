-- What is made of statements, as far as a list of them is gone over.
use Rattle.std.proofs.Common.{◌≡◌, ℕ, ◌+◌, Bool, true, false, ◌||◌, not, List, [], ◌∷◌, ◌++◌, refl, sym, ap, ap₂, subst, ◌∙◌}
use Rattle.hw_names.specs.Name.{KeepsTexts, Text}
use Rattle.cal_ast.specs.Plan.{Plan, Plans, NoPlans, MorePlans}
use Rattle.cal_ast.specs.declared.tree.Control.{Control}
use Rattle.cal_token.specs.inside.Tokens.{size}
use Rattle.cal_walk.specs.Left.{is_over}
use Rattle.cal_lower.proofs.SizeLemmas.{item_after, plan, plans, plans_end, plans_next}
use Rattle.cal_state.specs.inside.Making.{ShowsPlaces, ShowsThread, Walk, at_once_walk, branch_walk, turn_walk, turns_walk, with_walk}
use Rattle.cal_state.specs.inside.Threads.{Place, Thread, lasting_states, places_after, places_in_turn}
use Rattle.cal_state.specs.declared.places.Entry.{Entry}
use Rattle.cal_state.specs.declared.places.Places.{Places}
use Rattle.cal_state.proofs.MadeLemmas.{thread_kept}
use Rattle.cal_state.proofs.WalkLemmas.{at_once_more, no_walk, turns_more, walk_assoc, walk_none}

-- what a walk shows, by an equal one
pub shows_same : (names : List Text) (one other : Walk) (made : Places) → one ≡ other → ShowsPlaces names one made → ShowsPlaces names other made
shows_same names one other made is shows = let P : Walk → Type 0 = λ w. ShowsPlaces names w made in subst P is shows

-- ---- statements in turn

-- so far this was made, and with what the rest makes it is the whole
pub record TurnsSoFar (source : List Text) (thread : Thread) (whole : Walk) (names : List Text) (made : Places) (at : Entry) (rest : List Control) : Type 0 where
  pub item : ℕ
  pub so_far : Walk
  pub entry : ShowsThread names thread at.thread
  pub shows : ShowsPlaces names so_far made
  pub same : with_walk so_far (turns_walk at.later thread at.state at.number (plans source item rest)) ≡ whole

module _ (source : List Text) (thread : Thread) where
  pub turns_start : (item : ℕ) (walk : Walk) (names : List Text) (made : Places) (first : Entry) (ss rest : List Control) → rest ≡ ss → ShowsThread names thread first.thread
      → ShowsPlaces names walk made
      → TurnsSoFar source thread (with_walk walk (turns_walk first.later thread first.state first.number (plans source item ss))) names made first rest
  turns_start item walk names made first ss rest is entry shows = record {
    item = item;
    so_far = walk;
    entry = entry;
    shows = shows;
    same = ap (λ (l : List Control). with_walk walk (turns_walk first.later thread first.state first.number (plans source item l))) is;
  }

  pub turns_next : (whole : Walk) (old new : List Text) (made made' : Places) (at next : Entry) (rest others : List Control) (s : Control) → KeepsTexts old new → rest ≡ s ∷ others
      → (so_far : TurnsSoFar source thread whole old made at rest)
      → ShowsPlaces new (with_walk so_far.so_far (turn_walk at.later thread at.state at.number (plan source so_far.item s))) made'
      → let p = plan source so_far.item s in
      next ≡ record { thread = at.thread; state = at.state + lasting_states p; number = at.number + size p; later = at.later || not (is_over p) }
      → TurnsSoFar source thread whole new made' next others
  turns_next whole old new made made' at next rest others s kept is so_far shows next_is =
      let item = so_far.item in
      let p = plan source item s in
      let later = item_after source item s in
      let after : Entry = record { thread = at.thread; state = at.state + lasting_states p; number = at.number + size p; later = at.later || not (is_over p) } in
      let here = turn_walk at.later thread at.state at.number p in
      let more = turns_walk after.later thread after.state after.number (plans source later others) in
      let P : Entry → Type 0 = λ e. TurnsSoFar source thread whole new made' e others in
      subst P (sym next_is) (record {
        item = later;
        so_far = with_walk so_far.so_far here;
        entry = thread_kept old new kept thread at.thread so_far.entry;
        shows = shows;
        same =
            walk_assoc so_far.so_far here more
            ∙ ap (with_walk so_far.so_far) (sym (turns_more thread at.state at.number p (plans source later others) at.later))
            ∙ ap (λ (ps : Plans). with_walk so_far.so_far (turns_walk at.later thread at.state at.number ps)) (sym (plans_next source item rest others s is))
            ∙ so_far.same;
      })

  no_turns : (later : Bool) (n k : ℕ) → turns_walk later thread n k NoPlans ≡ no_walk
  no_turns true n k = refl
  no_turns false n k = refl

  pub turns_end : (whole : Walk) (names : List Text) (made : Places) (at : Entry) (rest : List Control) → rest ≡ [] → TurnsSoFar source thread whole names made at rest
      → ShowsPlaces names whole made
  turns_end whole names made at rest is so_far =
      let none : with_walk so_far.so_far (turns_walk at.later thread at.state at.number (plans source so_far.item rest)) ≡ so_far.so_far =
      ap (λ (ps : Plans). with_walk so_far.so_far (turns_walk at.later thread at.state at.number ps)) (plans_end source so_far.item rest is)
      ∙ ap (with_walk so_far.so_far) (no_turns at.later at.state at.number) ∙ walk_none so_far.so_far in
      shows_same names so_far.so_far whole made (sym none ∙ so_far.same) so_far.shows

-- ---- statements at once

pub record OnceSoFar (source : List Text) (whole : Walk) (names : List Text) (made : Places) (number : ℕ) (rest : List Control) : Type 0 where
  pub item : ℕ
  pub so_far : Walk
  pub shows : ShowsPlaces names so_far made
  pub same : with_walk so_far (at_once_walk number (plans source item rest)) ≡ whole

module _ (source : List Text) where
  pub once_start : (item : ℕ) (walk : Walk) (names : List Text) (made : Places) (number : ℕ) (ss rest : List Control) → rest ≡ ss → ShowsPlaces names walk made
      → OnceSoFar source (with_walk walk (at_once_walk number (plans source item ss))) names made number rest
  once_start item walk names made number ss rest is shows = record {
    item = item;
    so_far = walk;
    shows = shows;
    same = ap (λ (l : List Control). with_walk walk (at_once_walk number (plans source item l))) is;
  }

  pub once_next : (whole : Walk) (old new : List Text) (made made' : Places) (number next : ℕ) (rest others : List Control) (s : Control) → rest ≡ s ∷ others
      → (so_far : OnceSoFar source whole old made number rest)
      → ShowsPlaces new (with_walk so_far.so_far (branch_walk number (plan source so_far.item s))) made' → next ≡ number + size (plan source so_far.item s)
      → OnceSoFar source whole new made' next others
  once_next whole old new made made' number next rest others s is so_far shows next_is =
      let item = so_far.item in
      let p = plan source item s in
      let later = item_after source item s in
      let here = branch_walk number p in
      let P : ℕ → Type 0 = λ k. OnceSoFar source whole new made' k others in
      subst P (sym next_is) (record {
        item = later;
        so_far = with_walk so_far.so_far here;
        shows = shows;
        same =
            walk_assoc so_far.so_far here (at_once_walk (number + size p) (plans source later others))
            ∙ ap (with_walk so_far.so_far) (sym (at_once_more number p (plans source later others)))
            ∙ ap (λ (ps : Plans). with_walk so_far.so_far (at_once_walk number ps)) (sym (plans_next source item rest others s is))
            ∙ so_far.same;
      })

  pub once_end : (whole : Walk) (names : List Text) (made : Places) (number : ℕ) (rest : List Control) → rest ≡ [] → OnceSoFar source whole names made number rest
      → ShowsPlaces names whole made
  once_end whole names made number rest is so_far =
      let none : with_walk so_far.so_far (at_once_walk number (plans source so_far.item rest)) ≡ so_far.so_far =
      ap (λ (ps : Plans). with_walk so_far.so_far (at_once_walk number ps)) (plans_end source so_far.item rest is) ∙ walk_none so_far.so_far in
      shows_same names so_far.so_far whole made (sym none ∙ so_far.same) so_far.shows
