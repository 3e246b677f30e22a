use Rattle.std.proofs.Common.{None, ap, sym, ◌∙◌}
use Rattle.net_core.specs.Judging.{or_later}
use Rattle.net_core.specs.inside.Kept.{fault_of}
use Rattle.net_core.specs.Netlist.{set_of}
use Rattle.net_core.proofs.LineLemmas.{first_broken-set}
use Rattle.net_core.proofs.sets.check_set.Goals as goal

pub returns-in-Some : goal.returns-in-Some
returns-in-Some c before cells =
    first_broken-set c.args.ports.now before cells c.args.item (set_of c.args.names.now c.args.set.now)
    ∙ ap (λ rule. or_later rule c.args.item None) (ap fault_of (sym c.set_kept.ensures) ∙ sym c.fault.ensures ∙ c.in-Some.is)

pub returns-in-None : goal.returns-in-None
returns-in-None c before cells =
    first_broken-set c.args.ports.now before cells c.args.item (set_of c.args.names.now c.args.set.now)
    ∙ ap (λ rule. or_later rule c.args.item None) (ap fault_of (sym c.set_kept.ensures) ∙ sym c.fault.ensures ∙ c.in-None.is)
