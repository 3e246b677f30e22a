use Rattle.std.proofs.Common.{◌≡◌, length}
use Rattle.net_text.specs.inside.ReadLines.{params_of_text}
use Rattle.net_text.proofs.ParamLemmas.{with_front}
use Rattle.net_text.proofs.lines.params.Given as goal

abbrev pub invariant-loop-rest : goal.invariant-loop-rest
invariant-loop-rest l = with_front l.params.items (params_of_text (length l.rest) l.rest) ≡ params_of_text (length l.text) l.text

abbrev pub decreases-loop-rest : goal.decreases-loop-rest
decreases-loop-rest l = length l.rest
