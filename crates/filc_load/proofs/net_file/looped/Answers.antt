use Rattle.net_core.specs.Netlist.{netlist_of}
use Rattle.filc_load.proofs.LoadLemmas.{loop_within, loop_refused}
use Rattle.filc_load.proofs.net_file.looped.Goals as goal

pub loop_names-requires-clause-within : goal.loop_names-requires-clause-within
loop_names-requires-clause-within c = loop_within (netlist_of c.args.net.now) c.args.table.now.names c.args.ports.now c.requires.table.names c.requires.cycle

pub returns-in-Ok : goal.returns-in-Ok
returns-in-Ok c text of =
    loop_refused (netlist_of c.args.net.now) c.args.table.now.names c.args.ports.now c.in-Ok.name c.in-Ok.ports.items c.requires.valid c.requires.table.names c.requires.cycle c.in-Ok.ensures.name c.in-Ok.ensures.ports text of
