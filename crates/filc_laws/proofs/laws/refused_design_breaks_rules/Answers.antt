use Rattle.filc_laws.proofs.FilRuleLemmas.{refused_design_breaks_rules}
use Rattle.filc_laws.proofs.laws.refused_design_breaks_rules.Goals as goal

pub returns : goal.returns
returns c = refused_design_breaks_rules
