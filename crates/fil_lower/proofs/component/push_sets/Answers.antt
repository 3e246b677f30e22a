use Rattle.fil_lower.proofs.component.push_sets.Goals as goal

pub returns-clause-numbers : goal.returns-clause-numbers
returns-clause-numbers c = λ known. c.push_connections.ensures.numbers (c.push_starts.ensures.numbers (c.push_arguments.ensures.numbers known))
