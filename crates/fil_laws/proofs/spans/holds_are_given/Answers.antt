use Rattle.fil_laws.proofs.SpanLemmas.{holds_are_given}
use Rattle.fil_laws.proofs.spans.holds_are_given.Goals as goal

pub returns : goal.returns
returns c = holds_are_given
