use Rattle.std.proofs.Common.{refl}
use Rattle.net_text.specs.inside.ReadLines.{value_from}
use Rattle.net_text.proofs.CompareLemmas.{no_value}
use Rattle.net_text.proofs.lines.unguarded.Goals as goal

pub returns-in-Read : goal.returns-in-Read
unfolding value_from
returns-in-Read c = λ names. rw c.deref.ensures (rw c.in-Read.is refl)

pub returns-in_default : goal.returns-in_default
returns-in_default c = λ names. no_value names c.args.guard.now c.in_default.not-Read
