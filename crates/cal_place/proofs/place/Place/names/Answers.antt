use Rattle.std.proofs.Common.{ap}
use Rattle.cal_place.specs.Around.{Around}
use Rattle.cal_place.proofs.place.Place.names.Goals as goal

pub returns : goal.returns
returns c = ap (λ (p : Around). p.design.names) c.self.view_is
