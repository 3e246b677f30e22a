use Rattle.std.proofs.Common.{◌∙◌, ap, sym, subst}
use Rattle.net_sim.specs.Sim.{SimValue, IsWordCountOfSim}
use Rattle.net_row.specs.Engines.{engine_value}
use Rattle.net_row.proofs.sim.Sim.word_count.Goals as goal

pub returns-in-Plain : goal.returns-in-Plain
returns-in-Plain c = subst (λ (o : SimValue). IsWordCountOfSim o c.args.mem c.word_count.result) (sym (ap engine_value c.in-Plain.is) ∙ c.self.view_is) c.word_count.ensures

pub returns-in-Flat : goal.returns-in-Flat
returns-in-Flat c = subst (λ (o : SimValue). IsWordCountOfSim o c.args.mem c.word_count-in-Flat.result) (sym (ap engine_value c.in-Flat.is) ∙ c.self.view_is) c.word_count-in-Flat.ensures
