use Rattle.fil_share.proofs.OwnLemmas.{spaced_holds_are_apart}
use Rattle.fil_share.proofs.own.spaced_holds_are_apart.Goals as goal

pub returns : goal.returns
returns c = spaced_holds_are_apart
