-- Tokens walk control forward: the laws of the kinds of plans, put together.
use Rattle.cal_ast.specs.Plan.{Plan, Enables, InTurn, AtOnce, Chooses, Repeats, Plans, NoPlans, MorePlans}
use Rattle.cal_walk.specs.Left.{Sight}
use Rattle.cal_token.specs.inside.Laws.{TokensWalkControl}
use Rattle.cal_token.specs.inside.Tokens.{Tokens}
use Rattle.cal_token.proofs.AtOnceLemmas.{at_once_law, more_at_once, none_at_once}
use Rattle.cal_token.proofs.ChoiceLemmas.{choice_law}
use Rattle.cal_token.proofs.EnableLemmas.{enable_law}
use Rattle.cal_token.proofs.InTurnLemmas.{in_turn_law, more_in_turn, none_in_turn}
use Rattle.cal_token.proofs.LoopLemmas.{loop_law}
use Rattle.cal_token.proofs.OthersLemmas.{more_others, no_others}
use Rattle.cal_token.proofs.Walking.{Law, OthersLaw, InTurnLaw, AtOnceLaw}

module _ (v : Tokens) (s : Sight) where
  mutual
    law_of : (p : Plan) → Law v s p
    law_of (Enables actor) = enable_law v s actor
    law_of (InTurn ps) = in_turn_law v s ps (turns_of ps)
    law_of (AtOnce ps) = at_once_law v s ps (all_of ps)
    law_of (Chooses port by on off) = choice_law v s port by on off (law_of on) (law_of off)
    law_of (Repeats port by body) = loop_law v s port by body (law_of body)

    others_of : (ps : Plans) → OthersLaw v s ps
    others_of NoPlans = no_others v s
    others_of (MorePlans p ps) = more_others v s p ps (law_of p) (others_of ps)

    turns_of : (ps : Plans) → InTurnLaw v s ps
    turns_of NoPlans = none_in_turn v s
    turns_of (MorePlans p ps) = more_in_turn v s p ps (law_of p) (others_of ps) (turns_of ps)

    all_of : (ps : Plans) → AtOnceLaw v s ps
    all_of NoPlans = none_at_once v s
    all_of (MorePlans p ps) = more_at_once v s p ps (law_of p) (all_of ps)

pub tokens_walk_control : TokensWalkControl
tokens_walk_control v s k p more =
    let law : Law v s p = law_of v s p in
    (law.start k more, λ rest leaves. law.on k rest more leaves, law.off k more)
