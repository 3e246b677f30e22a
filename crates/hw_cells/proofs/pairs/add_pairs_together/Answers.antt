use Rattle.std.proofs.Common.{ℕ, ◌<◌, length, sym, subst, ◌∙◌}
use Rattle.std.specs.Prelude.{All}
use Rattle.hw_cells.proofs.PairLemmas.{outputs_within}
use Rattle.hw_cells.proofs.pairs.add_pairs_together.Goals as goal

pub reached_together-requires-clause-within : goal.reached_together-requires-clause-within
reached_together-requires-clause-within c =
    let nodes = length c.args.reads.now in
    subst (All (λ (node : ℕ). node < nodes)) (sym (c.deref.ensures.value ∙ c.in_ok-nodes.ensures)) (outputs_within nodes c.args.starts.now c.requires.within)
