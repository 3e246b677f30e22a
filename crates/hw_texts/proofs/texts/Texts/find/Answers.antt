use Rattle.hw_texts.proofs.TextLemmas.{other_found}
use Rattle.hw_texts.proofs.texts.Texts.find.Goals as goal

pub returns-in-Some-find-clause-some : goal.returns-in-Some-find-clause-some
returns-in-Some-find-clause-some c = other_found c.self.inside.names.now c.self.inside.others c.args.self.now c.len.result c.in-Some-find.id.0 c.args.text.now c.self.view_is c.len.ensures.len c.in-Some-find.ensures.text
