use Rattle.hw_texts.proofs.TextLemmas.{names_first}
use Rattle.hw_texts.proofs.texts.Texts.begin_with_names.Goals as goal

pub returns : goal.returns
returns c = names_first c.self.inside.names.now c.self.inside.others c.args.self.now c.self.view_is
