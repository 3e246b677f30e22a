use Rattle.cal_token.proofs.TokenLemmas as lemmas
use Rattle.cal_token.proofs.laws.tokens_walk_control.Goals as goal

pub returns : goal.returns
returns c = lemmas.tokens_walk_control
