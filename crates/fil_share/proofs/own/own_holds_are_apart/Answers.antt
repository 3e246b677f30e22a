use Rattle.fil_share.proofs.OwnLemmas.{own_holds_are_apart}
use Rattle.fil_share.proofs.own.own_holds_are_apart.Goals as goal

pub returns : goal.returns
returns c = own_holds_are_apart
