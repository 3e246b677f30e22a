use Rattle.std.proofs.Common.{arith}
use Rattle.net_tests.proofs.memories.load_words.Goals as goal

pub load-requires-clause-width : goal.load-requires-clause-width
load-requires-clause-width g c = λ cell prim is. omega (arith, c.word.ensures.width cell prim is)
