use Rattle.std.proofs.Common.{◌∙◌, ap, sym, subst}
use Rattle.net_core.specs.Netlist.{netlist_of}
use Rattle.net_sim.specs.Shown.{HasWordWidth}
use Rattle.net_sim.specs.Sim.{SimValue}
use Rattle.net_row.specs.Engines.{engine_value}
use Rattle.net_row.proofs.sim.Sim.load.Goals as goal

pub load-requires-clause-width : goal.load-requires-clause-width
load-requires-clause-width c =
    subst (λ (o : SimValue). HasWordWidth (netlist_of o.net) c.args.mem c.args.word.width) (sym c.self.view_is ∙ ap engine_value c.in-Plain.is) c.requires.width

pub load-requires-in-Flat-clause-width : goal.load-requires-in-Flat-clause-width
load-requires-in-Flat-clause-width c =
    subst (λ (o : SimValue). HasWordWidth (netlist_of o.net) c.args.mem c.args.word.width) (sym c.self.view_is ∙ ap engine_value c.in-Flat.is) c.requires.width
