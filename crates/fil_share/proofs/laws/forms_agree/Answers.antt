use Rattle.fil_share.proofs.SharingLemmas.{forms_agree}
use Rattle.fil_share.proofs.laws.forms_agree.Goals as goal

pub returns : goal.returns
returns c = forms_agree
