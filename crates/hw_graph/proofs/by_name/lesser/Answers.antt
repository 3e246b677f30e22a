use Rattle.std.proofs.Common.{sym, ◌∙◌}
use Rattle.hw_graph.proofs.NameOrderLemmas.{is_lesser_second, is_lesser_first}
use Rattle.hw_graph.proofs.by_name.lesser.Goals as goal

pub returns-in-Greater : goal.returns-in-Greater
returns-in-Greater c = is_lesser_second c.args.names.now c.args.first c.args.second _ _ c.text_at.ensures c.text_at-2.ensures (sym c.cmp.ensures ∙ c.in-Greater.is)

pub returns-in_default : goal.returns-in_default
returns-in_default c = is_lesser_first c.args.names.now c.args.first c.args.second _ _ c.text_at.ensures c.text_at-2.ensures (λ e. c.in_default.not-Greater (c.cmp.ensures ∙ e))
