use Rattle.std.proofs.Common.{refl, ap}
use Rattle.cal_wires.specs.Nodes.{AHole, PortList}
use Rattle.cal_wires.proofs.PortLemmas.{seen_grown}
use Rattle.cal_wires.proofs.ports.Ports.hole.Goals as goal

pub returns-clause-grown : goal.returns-clause-grown
returns-clause-grown c =
    seen_grown c.self.inside.texts.all _ (λ i text at. at) c.self.inside.set.keys c.self.invariant.0 c.args.self.now.keys (ap (λ (v : PortList). v.keys) c.self.view_is) c.place_of.new.set.keys _ (AHole c.args.group) refl c.place_of.ensures.grown
