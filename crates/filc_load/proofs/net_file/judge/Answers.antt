use Rattle.std.proofs.Common.{subst}
use Rattle.net_core.specs.Judging.{IsCauseIn}
use Rattle.net_core.specs.Netlist.{netlist_of}
use Rattle.net_core.specs.declared.rules.NetEnd.{NetEnd}
use Rattle.filc_load.proofs.net_file.judge.Goals as goal

pub broken-requires-clause-first : goal.broken-requires-clause-first
broken-requires-clause-first c =
    subst (λ (e : NetEnd). IsCauseIn (netlist_of c.args.net.now) e) c.in-Err-Refused.field-0-is c.in-Err-Refused.ensures.refused
