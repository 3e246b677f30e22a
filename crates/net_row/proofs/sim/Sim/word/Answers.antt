use Rattle.std.proofs.Common.{◌∙◌, ap, sym, subst}
use Rattle.net_core.specs.Netlist.{netlist_of}
use Rattle.net_sim.specs.Shown.{HasWordWidth}
use Rattle.net_sim.specs.Sim.{SimValue, IsWordOfSim}
use Rattle.net_row.specs.Engines.{engine_value}
use Rattle.net_row.proofs.sim.Sim.word.Goals as goal

pub returns-in-Plain-clause-value : goal.returns-in-Plain-clause-value
returns-in-Plain-clause-value c = subst (λ (o : SimValue). IsWordOfSim o c.args.mem c.args.at c.word.result.value) (sym (ap engine_value c.in-Plain.is) ∙ c.self.view_is) c.word.ensures.value

pub returns-in-Plain-clause-width : goal.returns-in-Plain-clause-width
returns-in-Plain-clause-width c = subst (λ (o : SimValue). HasWordWidth (netlist_of o.net) c.args.mem c.word.result.width) (sym (ap engine_value c.in-Plain.is) ∙ c.self.view_is) c.word.ensures.width

pub returns-in-Flat-clause-value : goal.returns-in-Flat-clause-value
returns-in-Flat-clause-value c = subst (λ (o : SimValue). IsWordOfSim o c.args.mem c.args.at c.word-in-Flat.result.value) (sym (ap engine_value c.in-Flat.is) ∙ c.self.view_is) c.word-in-Flat.ensures.value

pub returns-in-Flat-clause-width : goal.returns-in-Flat-clause-width
returns-in-Flat-clause-width c = subst (λ (o : SimValue). HasWordWidth (netlist_of o.net) c.args.mem c.word-in-Flat.result.width) (sym (ap engine_value c.in-Flat.is) ∙ c.self.view_is) c.word-in-Flat.ensures.width
