use Rattle.fil_lower.proofs.DesignLemmas.{components_separate}
use Rattle.fil_lower.proofs.laws.components_stay_separate.Goals as goal

pub returns : goal.returns
returns c = components_separate
