use Rattle.std.proofs.Common.{◌≤◌, sym, subst, arith}
use Rattle.net_steps.proofs.WordLemmas.{word_narrow, word_wide}
use Rattle.net_steps.proofs.words.MemoryWords.word.Goals as goal

pub wrap-requires-clause-wide : goal.wrap-requires-clause-wide
wrap-requires-clause-wide c =
    let m = c.args.self.now in
    subst (λ w. 1 ≤ w) (sym c.word_width.ensures) (word_wide m.prim m.grid c.requires.words.grid_is)

pub wrap-requires-clause-narrow : goal.wrap-requires-clause-narrow
wrap-requires-clause-narrow c =
    let m = c.args.self.now in
    let narrow = word_narrow m.prim m.grid c.requires.words.grid_is in
    let is = c.word_width.ensures in
    omega (arith, narrow, is)
