use Rattle.std.proofs.Common.{drop, ap, ◌∙◌}
use Rattle.std.specs.List.{prefix_len}
use Rattle.net_text.specs.inside.ReadGuards.{is_bang}
use Rattle.net_text.proofs.GuardLoops.{plain_after}
use Rattle.net_text.proofs.guards.negations.Goals as goal

pub returns-clause-plain : goal.returns-clause-plain
returns-clause-plain c =
    ap (prefix_len is_bang) (c.split_at.ensures.back ∙ ap (λ n. drop n c.args.text.now) c.negation_count-count.ensures.is) ∙ plain_after c.args.text.now
