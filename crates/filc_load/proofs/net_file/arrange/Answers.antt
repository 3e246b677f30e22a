use Rattle.net_core.specs.Netlist.{netlist_of}
use Rattle.net_sim.proofs.NoLoopLemmas.{order_rules_loops_out}
use Rattle.filc_load.proofs.net_file.arrange.Goals as goal

pub returns-in-Ok-clause-no_loop : goal.returns-in-Ok-clause-no_loop
returns-in-Ok-clause-no_loop c =
    order_rules_loops_out (netlist_of c.args.net.now) c.requires.valid c.in-Ok.order.ports c.in-Ok.ensures.order.ports
