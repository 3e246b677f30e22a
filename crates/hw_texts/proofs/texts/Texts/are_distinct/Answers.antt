use Rattle.std.proofs.Common.{subst}
use Rattle.hw_names.specs.Name.{AreDistinct}
use Rattle.hw_texts.specs.Texts.{TextList}
use Rattle.hw_texts.proofs.texts.Texts.are_distinct.Goals as goal

pub returns : goal.returns
returns c = subst (λ (t : TextList). AreDistinct t.all) c.self.view_is c.self.invariant
