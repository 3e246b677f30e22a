-- What a plan takes of a row where its first part takes one.
use Rattle.std.proofs.Common.{◌≡◌, true, false, refl, sym}
use Rattle.std.proofs.lemmas.Bool.{cond-true, cond-false}
use Rattle.cal_ast.specs.Actors.{Actor}
use Rattle.cal_ast.specs.Plan.{Plan, InTurn, Plans, NoPlans, MorePlans}
use Rattle.cal_walk.specs.Left.{Sight, is_over, before_others, left, left_in_turn, enables, enables_in_turn, tests, tests_in_turn}

-- in a row a plan does what its first part does, and after it the others are left too
pub record BeginsWith (s : Sight) (whole first : Plan) (others : Plans) : Type 0 where
  pub enabled : (actor : Actor) → enables first actor ≡ enables whole actor
  pub tested : (actor : Actor) → tests first actor ≡ tests whole actor
  pub rest : before_others (left s first) others ≡ left s whole

-- two plans do the same in a row
pub record SameRow (s : Sight) (one other : Plan) : Type 0 where
  pub enabled : (actor : Actor) → enables one actor ≡ enables other actor
  pub tested : (actor : Actor) → tests one actor ≡ tests other actor
  pub rest : left s one ≡ left s other

module _ (s : Sight) (p : Plan) where
  pub begins_in_turn : (ps : Plans) → is_over p ≡ false → BeginsWith s (InTurn (MorePlans p ps)) p ps
  begins_in_turn ps lasts = record {
    enabled = λ actor. sym (cond-false (is_over p) (enables_in_turn ps actor) (enables p actor) lasts);
    tested = λ actor. sym (cond-false (is_over p) (tests_in_turn ps actor) (tests p actor) lasts);
    rest = sym (cond-false (is_over p) (left_in_turn s ps) (before_others (left s p) ps) lasts);
  }

  pub begins_before : (ps : Plans) → is_over p ≡ false → BeginsWith s (before_others p ps) p ps
  begins_before NoPlans lasts = record { enabled = λ actor. refl; tested = λ actor. refl; rest = refl }
  begins_before (MorePlans q qs) lasts = begins_in_turn (MorePlans q qs) lasts

  -- before others a part that takes no row changes nothing
  pub past_first : (ps : Plans) → is_over p ≡ true → SameRow s (InTurn ps) (InTurn (MorePlans p ps))
  past_first ps over = record {
    enabled = λ actor. sym (cond-true (is_over p) (enables_in_turn ps actor) (enables p actor) over);
    tested = λ actor. sym (cond-true (is_over p) (tests_in_turn ps actor) (tests p actor) over);
    rest = sym (cond-true (is_over p) (left_in_turn s ps) (before_others (left s p) ps) over);
  }
