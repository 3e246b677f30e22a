use Rattle.std.proofs.Common.{◌≤◌, ◌<◌, ◌^◌, sym, subst, arith}
use Rattle.hw_bits.proofs.WidthLemmas.{lt-wider}
use Rattle.net_steps.proofs.WordLemmas.{word_narrow}
use Rattle.net_steps.proofs.words.MemoryWords.load.Goals as goal

pub overflow_cast-value : goal.overflow_cast-value
overflow_cast-value c =
    let m = c.args.self.now in
    let word = c.args.word in
    let narrow : word.width ≤ 64 = subst (λ w. w ≤ 64) (sym c.requires.width) (word_narrow m.prim m.grid c.requires.words.grid_is) in
    let small : c.value.result < 2 ^ 64 = subst (λ v. v < 2 ^ 64) (sym c.value.ensures) (lt-wider word.width 64 word.value narrow word.fits) in
    omega (arith, small)
