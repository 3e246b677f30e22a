use Rattle.fil_ast.proofs.HoldLemmas.{is_listed, listed_is}
use Rattle.fil_share.proofs.own.holds_are_listed.Goals as goal

pub returns : goal.returns
returns c = λ scope starts h. (listed_is scope starts h, is_listed scope starts h)
