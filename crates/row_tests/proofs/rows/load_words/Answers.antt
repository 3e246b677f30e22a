use Rattle.std.proofs.Common.{◌≡◌, subst, arith}
use Rattle.net_core.specs.Netlist.{netlist_of}
use Rattle.net_sim.specs.Shown.{IsShown}
use Rattle.row_tests.proofs.rows.load_words.Goals as goal

pub load-requires-clause-width : goal.load-requires-clause-width
load-requires-clause-width c = λ cell prim is. omega (arith, c.in_ok-word.ensures, c.width.ensures, c.word.ensures.width cell prim is)

pub load-requires-then-has_word-clause-width : goal.load-requires-then-has_word-clause-width
load-requires-then-has_word-clause-width c = λ cell prim is.
    let of_plain = subst (λ net. IsShown (netlist_of net) c.loop-mem.mem cell prim) c.loop-mem.invariant.0.0 is in
    omega (arith, c.in_ok-word.ensures, c.width.ensures, c.word.ensures.width cell prim of_plain)
