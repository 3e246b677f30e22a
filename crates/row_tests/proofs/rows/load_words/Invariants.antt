use Rattle.std.proofs.Common.{◌≡◌}
use Rattle.net_sim.specs.declared.sim.Phase.TheVariants.{Fresh}
use Rattle.row_tests.specs.Pairs.{IsPair}
use Rattle.row_tests.proofs.rows.load_words.Given as goal

abbrev pub invariant-loop-mem : goal.invariant-loop-mem
invariant-loop-mem l =
    IsPair l.pair.ports l.pair.shown l.pair.plain l.pair.flat × (l.pair.plain.net ≡ l.fn.pair.plain.net) ×
    (l.pair.plain.phase ≡ Fresh) × (l.pair.flat.phase ≡ Fresh) × (l.pair.shown ≡ l.fn.pair.shown)
