use Rattle.std.proofs.Common.{subst}
use Rattle.net_core.proofs.RuleLemmas.{broken_is_not_valid}
use Rattle.net_core.specs.Judging.{IsCauseIn}
use Rattle.net_core.specs.Netlist.{netlist_of}
use Rattle.net_core.specs.declared.rules.NetEnd.{NetEnd}
use Rattle.filc_load.proofs.made.table_of.Goals as goal

pub unreachable-requires : goal.unreachable-requires
unreachable-requires c =
    let n = netlist_of c.args.net.now in
    broken_is_not_valid n c.in-Err-Refused.field-0-0 c.in-Err-Refused.field-0-1
    (subst (λ (e : NetEnd). IsCauseIn n e) c.in-Err-Refused.field-0-is c.in-Err-Refused.ensures.refused) c.requires.valid
