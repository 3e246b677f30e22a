use Rattle.cal_group.proofs.RemovalLemmas.{no_body}
use Rattle.cal_group.proofs.remove.bare_control.Goals as goal

pub unreachable-requires : goal.unreachable-requires
unreachable-requires c = no_body c.args.control.now _ c.in-Body.is c.requires
