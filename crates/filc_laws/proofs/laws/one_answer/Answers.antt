use Rattle.filc_laws.proofs.AnswerLemmas.{one_answer}
use Rattle.filc_laws.proofs.laws.one_answer.Goals as goal

pub returns : goal.returns
returns c = one_answer
