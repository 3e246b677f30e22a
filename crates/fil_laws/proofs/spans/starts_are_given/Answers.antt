use Rattle.fil_laws.proofs.SpanLemmas.{starts_are_given}
use Rattle.fil_laws.proofs.spans.starts_are_given.Goals as goal

pub returns : goal.returns
returns c = starts_are_given
