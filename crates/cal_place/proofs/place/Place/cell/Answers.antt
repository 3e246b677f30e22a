use Rattle.cal_ast.specs.Naming.{cell_names}
use Rattle.cal_place.specs.Around.{comp_at}
use Rattle.cal_place.proofs.PlaceTableLemmas.{stands}
use Rattle.cal_place.proofs.place.Place.cell.Goals as goal

pub returns : goal.returns
returns c =
    let p = c.args.self.now in
    let known = stands c.self.inside p c.self.view_is c.self.invariant in
    c.find.ensures (cell_names (comp_at p).cells) known.cells
