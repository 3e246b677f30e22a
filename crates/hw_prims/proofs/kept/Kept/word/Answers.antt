use Rattle.hw_prims.proofs.KeptLemmas.{words_are_kept}
use Rattle.hw_prims.proofs.kept.Kept.word.Goals as goal

pub unreachable-requires : goal.unreachable-requires
unreachable-requires c =
    words_are_kept c.args.prim c.args.self.now c.args.at c.requires.kept c.requires.at c.in_default.not-Memory
