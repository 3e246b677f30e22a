-- An enable: its token is there while its actor goes on.
use Rattle.std.proofs.Common.{◌≡◌, ℕ, Bool, true, false, not, ◌&&◌, ◌||◌, refl, ap, ◌∙◌}
use Rattle.std.specs.Prelude.{if◌then◌else◌}
use Rattle.std.proofs.lemmas.Bool.{and_left}
use Rattle.cal_ast.specs.Actors.{Actor, same_actor}
use Rattle.cal_ast.specs.Plan.{Plan, Enables}
use Rattle.cal_walk.specs.Left.{Sight, is_over, nothing}
use Rattle.cal_token.specs.inside.Coming.{IsOff, Leaves, GoesOn}
use Rattle.cal_token.specs.inside.Laws.{ComesTo, Walks, StaysOff}
use Rattle.cal_token.specs.inside.Tokens.{Tokens, Going}
use Rattle.cal_token.proofs.Walking.{Law}

done_ends : (actor : Actor) (done : Bool) → done ≡ is_over (if done then nothing else Enables actor)
done_ends actor true = refl
done_ends actor false = refl

comes : (k : ℕ) (actor : Actor) (w : Tokens) (done : Bool) → w (Going k) ≡ not done → ComesTo w k (Enables actor) (if done then nothing else Enables actor)
comes k actor w true is = record { ended = λ over. is; left = λ lasts. absurd (cc) }
comes k actor w false is = record { ended = λ over. absurd (cc); left = λ lasts. GoesOn k actor is }

module _ (v : Tokens) (s : Sight) (actor : Actor) where
  -- in a row in which it is enabled
  enabling : (k : ℕ) (start : Bool) → (start || v (Going k)) ≡ true → Walks v s k (Enables actor) (Enables actor) start
  enabling k start on = record {
    enabled = λ other. ap (λ b. b && same_actor actor other) on;
    tested = λ other. refl;
    last = ap (λ b. b && s.done actor) on ∙ done_ends actor (s.done actor);
    next = λ w step. comes k actor w (s.done actor) (step ∙ ap (λ b. b && not (s.done actor)) on);
  }

  going_on : (k : ℕ) (rest : Plan) → Leaves v k (Enables actor) rest → Walks v s k (Enables actor) rest false
  going_on k rest (GoesOn _ _ going) = enabling k false going

  resting : (k : ℕ) → IsOff v k (Enables actor) → StaysOff v s k (Enables actor)
  resting k off = record {
    enabled = λ other. and_left (v (Going k)) (same_actor actor other) off;
    tested = λ other. refl;
    last = and_left (v (Going k)) (s.done actor) off;
    next = λ w step. step ∙ and_left (v (Going k)) (not (s.done actor)) off;
  }

  pub enable_law : Law v s (Enables actor)
  enable_law = record {
    start = λ k more off. enabling k true refl;
    on = λ k rest more leaves. going_on k rest leaves;
    off = λ k more off. resting k off;
  }
