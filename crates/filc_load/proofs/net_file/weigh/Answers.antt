use Rattle.std.proofs.Common.{◌<◌, ◌≤◌, codes, refl, ap, arith}
use Rattle.net_core.specs.Netlist.{netlist_of}
use Rattle.net_core.specs.Weight.{weight_of}
use Rattle.net_core.specs.Words.{word_total}
use Rattle.filc_stop.specs.Lines.{limit_line}
use Rattle.filc_load.specs.NetFile.{IsTooHeavy, HasTooManyWords}
use Rattle.hw_limits.specs.declared.limits.TheConstants.{MOST_WEIGHT, MOST_WORDS}
use Rattle.filc_load.proofs.net_file.weigh.Goals as goal

pub returns-then-weight-gt-MOST_WEIGHT-clause-refused : goal.returns-then-weight-gt-MOST_WEIGHT-clause-refused
returns-then-weight-gt-MOST_WEIGHT-clause-refused c text accepted =
    let n = netlist_of c.args.net.now in
    let over : MOST_WEIGHT < weight_of n = omega (arith, c.if-weight-gt-MOST_WEIGHT.true, c.net_weight-weight.ensures) in
    IsTooHeavy n accepted over refl (ap (λ count. limit_line (codes "weight") count MOST_WEIGHT) c.net_weight-weight.ensures)

pub returns-then-words-gt-MOST_WORDS-clause-refused : goal.returns-then-words-gt-MOST_WORDS-clause-refused
returns-then-words-gt-MOST_WORDS-clause-refused c text accepted =
    let n = netlist_of c.args.net.now in
    let light : weight_of n ≤ MOST_WEIGHT = omega (arith, c.if-weight-gt-MOST_WEIGHT.false, c.net_weight-weight.ensures) in
    let over : MOST_WORDS < word_total n = omega (arith, c.if-words-gt-MOST_WORDS.true, c.net_words-words.ensures) in
    HasTooManyWords n accepted light over refl (ap (λ count. limit_line (codes "words") count MOST_WORDS) c.net_words-words.ensures)
