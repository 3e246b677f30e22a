-- The tokens of a part with the one by which it starts.
use Rattle.std.proofs.Common.{◌≡◌, ℕ, ◌+◌, Bool, true, false}
use Rattle.cal_ast.specs.Plan.{Plan, Plans, NoPlans, MorePlans}
use Rattle.std.proofs.lemmas.Bool.{and_parts}
use Rattle.cal_walk.specs.Left.{is_over, are_over}
use Rattle.cal_token.specs.inside.Coming.{IsOff, OthersAreOff}
use Rattle.cal_token.specs.inside.Tokens.{Tokens, Starting, WithStart, size}
use Rattle.cal_token.proofs.TestLemmas.{at_true, at_false, of_false}

module _ (v : Tokens) (k : ℕ) (p : Plan) (start : Bool) (others : Type 0) where
  pub with_none : is_over p ≡ true → WithStart v k p start others
  with_none over = at_true (is_over p) (Unit {0}) ((v (Starting k) ≡ start) × others) over tt

  pub with_start : is_over p ≡ false → v (Starting k) ≡ start → others → WithStart v k p start others
  with_start more is rest = at_false (is_over p) (Unit {0}) ((v (Starting k) ≡ start) × others) more (is, rest)

  pub start_of : is_over p ≡ false → WithStart v k p start others → (v (Starting k) ≡ start) × others
  start_of more h = of_false (is_over p) (Unit {0}) ((v (Starting k) ≡ start) × others) more h

-- plans that take no row have no tokens
pub none_on : (v : Tokens) (k : ℕ) (ps : Plans) → are_over ps ≡ true → OthersAreOff v k ps
none_on v k NoPlans over = tt
none_on v k (MorePlans p ps) over =
    let each = and_parts (is_over p) (are_over ps) over in (with_none v k p false (IsOff v k p) each.0, none_on v (k + size p) ps each.1)
