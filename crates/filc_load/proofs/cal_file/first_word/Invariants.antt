use Rattle.std.proofs.Common.{◌≡◌, length, map}
use Rattle.filc_load.specs.CalFile.{first_word}
use Rattle.filc_load.proofs.cal_file.first_word.Given as goal

-- no word before these stands there
abbrev pub invariant-loop-rest : goal.invariant-loop-rest
invariant-loop-rest l = first_word (map (λ word. word.now) l.rest) l.text ≡ first_word (map (λ word. word.now) l.words) l.text

abbrev pub decreases-loop-rest : goal.decreases-loop-rest
decreases-loop-rest l = length l.rest
