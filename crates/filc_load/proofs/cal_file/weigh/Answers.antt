use Rattle.std.proofs.Common.{arith}
use Rattle.filc_load.proofs.CalLemmas.{heavy_refused, wordy_refused}
use Rattle.filc_load.proofs.cal_file.weigh.Goals as goal

pub returns-then-weight-gt-MOST_WEIGHT-clause-refused : goal.returns-then-weight-gt-MOST_WEIGHT-clause-refused
returns-then-weight-gt-MOST_WEIGHT-clause-refused c = heavy_refused c.args.ok.now c.in_ok-weight.weight c.in_ok-weight.ensures c.if-weight-gt-MOST_WEIGHT.true

pub returns-then-words-gt-MOST_WORDS-clause-refused : goal.returns-then-words-gt-MOST_WORDS-clause-refused
returns-then-words-gt-MOST_WORDS-clause-refused c =
    wordy_refused c.args.ok.now c.in_ok-words.words (record { weight = c.in_ok-weight.weight; weighs = c.in_ok-weight.ensures; light = omega (arith, c.if-weight-gt-MOST_WEIGHT.false) }) c.in_ok-words.ensures
    c.if-words-gt-MOST_WORDS.true

pub returns-clause-light : goal.returns-clause-light
returns-clause-light c = record { weight = c.in_ok-weight.weight; weighs = c.in_ok-weight.ensures; light = omega (arith, c.if-weight-gt-MOST_WEIGHT.false) }

pub returns-clause-few_words : goal.returns-clause-few_words
returns-clause-few_words c = record { words = c.in_ok-words.words; has = c.in_ok-words.ensures; few = omega (arith, c.if-words-gt-MOST_WORDS.false) }
