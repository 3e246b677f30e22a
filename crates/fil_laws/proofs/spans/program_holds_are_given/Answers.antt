use Rattle.fil_laws.proofs.SpanLemmas.{program_holds_are_given}
use Rattle.fil_laws.proofs.spans.program_holds_are_given.Goals as goal

pub returns : goal.returns
returns c = program_holds_are_given
