use Rattle.std.proofs.Common.{Some, sym, subst, ◌∙◌}
use Rattle.hw_names.specs.Name.{Text, text_of}
use Rattle.cal_ast.specs.Naming.{cell_names}
use Rattle.cal_place.specs.Around.{comp_at, names_at}
use Rattle.cal_place.specs.FirstPlaces.{TellsFirst}
use Rattle.cal_place.proofs.GuardLemmas.{both_ways}
use Rattle.cal_place.proofs.SideLemmas.{same_width}
use Rattle.cal_place.proofs.PlaceTableLemmas.{stands, told_first}
use Rattle.cal_place.proofs.place.Place.is_first_cell.Goals as goal

pub returns : goal.returns
returns c =
    let p = c.args.self.now in
    let known = stands c.self.inside p c.self.view_is c.self.invariant in
    let names = cell_names (comp_at p).cells in
    let test = same_width c.find.result (Some c.args.place) in
    let found = told_first names (text_of (names_at p) c.args.name) c.find.result c.args.place
    (subst (λ (t : Text). TellsFirst names t c.find.result) c.text.ensures (c.find.ensures names known.cells)) in
    both_ways (λ t. test.0 (sym c.eq.ensures ∙ t), λ e. c.eq.ensures ∙ test.1 e) found
