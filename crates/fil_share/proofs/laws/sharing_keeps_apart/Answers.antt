use Rattle.fil_share.proofs.LawLemmas.{sharing_keeps_apart}
use Rattle.fil_share.proofs.laws.sharing_keeps_apart.Goals as goal

pub returns : goal.returns
returns c = λ delay uses kept short. sharing_keeps_apart delay uses kept short
