-- A part that starts by its own token walks, and stays off, as its plan does.
use Rattle.std.proofs.Common.{◌≡◌, ℕ, Bool, true, false, sym, ap, subst, inl, inr, ◌∙◌}
use Rattle.std.proofs.lemmas.Bool.{cases_Bool, both_ways, cond-true, cond-false}
use Rattle.cal_ast.specs.Plan.{Plan}
use Rattle.cal_walk.specs.Left.{Sight, is_over, left}
use Rattle.cal_token.specs.inside.Coming.{IsOff, IsLaterOff, LeavesLater, IsStarting, IsOn}
use Rattle.cal_token.specs.inside.Laws.{ComesTo, Walks, StaysOff}
use Rattle.cal_token.specs.inside.Tokens.{Tokens, Starting, Steps, StepsLater, ends, enables_by, tests_by}
use Rattle.cal_token.proofs.StartLemmas.{with_none, with_start, start_of}
use Rattle.cal_token.proofs.Walking.{Law, LaterWalks, LaterStaysOff}

module _ (v : Tokens) (s : Sight) (k : ℕ) (p : Plan) where
  -- what its token gives
  abbrev starts : Bool
  starts = v (Starting k)

  going : (rest : Plan) → is_over p ≡ false → Walks v s k p rest starts → LaterWalks v s k p rest
  going rest more walks = record {
    enabled = λ actor. cond-false (is_over p) false (enables_by v k p starts actor) more ∙ walks.enabled actor;
    tested = λ actor. cond-false (is_over p) false (tests_by v k p starts actor) more ∙ walks.tested actor;
    last = cond-false (is_over p) false (ends v s k p starts) more ∙ walks.last;
    next = λ w steps.
        let parts : (w (Starting k) ≡ false) × Steps v s k p starts w = start_of w k p false (Steps v s k p starts w) more steps in
        let comes : ComesTo w k p (left s rest) = walks.next w parts.1 in
        record {
          ended = λ over. with_start w k p false (IsOff w k p) more parts.0 (comes.ended over);
          left = λ lasts. IsOn k p (left s rest) more parts.0 (comes.left lasts);
        };
  }

  none : is_over p ≡ true → LaterStaysOff v s k p
  none over = record {
    enabled = λ actor. cond-true (is_over p) false (enables_by v k p starts actor) over;
    tested = λ actor. cond-true (is_over p) false (tests_by v k p starts actor) over;
    last = cond-true (is_over p) false (ends v s k p starts) over;
    next = λ w steps. with_none w k p false (IsOff w k p) over;
    starts = λ w more steps. absurd (both_ways (is_over p) more over);
  }

  staying : is_over p ≡ false → starts ≡ false → StaysOff v s k p → LaterStaysOff v s k p
  staying more not_now stays = record {
    enabled = λ actor. cond-false (is_over p) false (enables_by v k p starts actor) more ∙ ap (λ b. enables_by v k p b actor) not_now ∙ stays.enabled actor;
    tested = λ actor. cond-false (is_over p) false (tests_by v k p starts actor) more ∙ ap (λ b. tests_by v k p b actor) not_now ∙ stays.tested actor;
    last = cond-false (is_over p) false (ends v s k p starts) more ∙ ap (λ b. ends v s k p b) not_now ∙ stays.last;
    next = λ w steps. let parts = next w false more steps in with_start w k p false (IsOff w k p) more parts.0 parts.1;
    starts = λ w lasts steps. next w true more steps;
  }
    where
      next : (w : Tokens) (now : Bool) → is_over p ≡ false → StepsLater v s k p now w → (w (Starting k) ≡ now) × IsOff w k p
      next w now lasts steps =
          let parts : (w (Starting k) ≡ now) × Steps v s k p starts w = start_of w k p now (Steps v s k p starts w) lasts steps in
          let S : Bool → Type 0 = λ b. Steps v s k p b w in
          (parts.0, stays.next w (subst S not_now parts.1))

module _ (v : Tokens) (s : Sight) (p : Plan) (law : Law v s p) where
  pub later_walks : (k : ℕ) (rest : Plan) → LeavesLater v k p rest → LaterWalks v s k p rest
  later_walks k rest (IsStarting _ _ more now off) =
      let W : Bool → Type 0 = λ b. Walks v s k p p b in going v s k p p more (subst W (sym now) (law.start k more off))
  later_walks k rest (IsOn _ _ _ more not_now leaves) =
      let W : Bool → Type 0 = λ b. Walks v s k p rest b in going v s k p rest more (subst W (sym not_now) (law.on k rest more leaves))

  pub later_off : (k : ℕ) → IsLaterOff v k p → LaterStaysOff v s k p
  later_off k is = elim (cases_Bool (is_over p)) [
    | inl over ↦ none v s k p over
    | inr more ↦
        let parts : (v (Starting k) ≡ false) × IsOff v k p = start_of v k p false (IsOff v k p) more is in
        staying v s k p more parts.0 (law.off k more parts.1)
  ]
