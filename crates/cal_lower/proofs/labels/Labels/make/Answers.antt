use Rattle.std.proofs.Common.{List, subst}
use Rattle.hw_names.specs.Name.{KeepsTexts, Text}
use Rattle.cal_lower.proofs.labels.Labels.make.Goals as goal

pub returns-clause-kept : goal.returns-clause-kept
returns-clause-kept c =
    let K : List Text → Type 0 = λ ts. KeepsTexts ts c.common_texts.new.names in
    subst K c.in_ok-names.ensures c.common_texts.ensures.kept
