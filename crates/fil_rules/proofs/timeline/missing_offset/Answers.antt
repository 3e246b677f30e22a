use Rattle.std.proofs.Common.{map, sym, ap}
use Rattle.fil_sig.specs.Seen.{seen, seen_port}
use Rattle.fil_rules.proofs.timeline.missing_offset.Goals as goal

pub returns-clause-cases : goal.returns-clause-cases
returns-clause-cases c scope times place distinct are =
    c.missing_for.ensures.cases scope times (seen c.args.sig.now) place distinct are (ap (map seen_port) (sym c.deref.ensures.value))
