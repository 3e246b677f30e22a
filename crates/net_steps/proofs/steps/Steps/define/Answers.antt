use Rattle.net_steps.proofs.EqualityLemmas.{defined}
use Rattle.net_steps.proofs.steps.Steps.define.Goals as goal

pub returns : goal.returns
returns c =
    defined c.args.self.now c.self.inside.base c.self.inside.set.keys c.insert_full.new.self.keys c.self.inside.choices.items c.self.inside.assumed.items c.args.operation c.in_ok-index.index c.self.view_is c.in_ok-index.ensures.keys c.in_ok-index.ensures.stored
