use Rattle.fil_laws.proofs.ListLemmas.{legal_lists_can_be_given}
use Rattle.fil_laws.proofs.lists.legal_lists_can_be_given.Goals as goal

pub returns : goal.returns
returns c = legal_lists_can_be_given
