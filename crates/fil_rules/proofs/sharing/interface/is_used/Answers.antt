use Rattle.fil_rules.proofs.SpanStartLemmas.{used_iff}
use Rattle.fil_rules.proofs.sharing.interface.is_used.Goals as goal

pub returns : goal.returns
returns c with v lists = used_iff c.args.tables.now c.args.instance with v lists c.args.number c.first_from.result c.first_from.ensures.found c.is_some.result c.is_some.ensures
