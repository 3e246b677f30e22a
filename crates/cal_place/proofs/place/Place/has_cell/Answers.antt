use Rattle.std.proofs.Common.{sym, subst, ◌∙◌}
use Rattle.hw_names.specs.Name.{Text, text_of}
use Rattle.cal_ast.specs.Naming.{cell_names}
use Rattle.cal_place.specs.Around.{comp_at, names_at}
use Rattle.cal_place.specs.FirstPlaces.{TellsFirst}
use Rattle.cal_place.proofs.PlaceLemmas.{told_named}
use Rattle.cal_place.proofs.PlaceTableLemmas.{stands}
use Rattle.cal_place.proofs.place.Place.has_cell.Goals as goal

pub returns : goal.returns
returns c =
    let p = c.args.self.now in
    let known = stands c.self.inside p c.self.view_is c.self.invariant in
    let cells = (comp_at p).cells in
    let name = text_of (names_at p) c.args.cell in
    let told : TellsFirst (cell_names cells) name c.find.result = subst (λ (t : Text). TellsFirst (cell_names cells) t c.find.result) c.text.ensures (c.find.ensures (cell_names cells) known.cells) in
    let same = c.is_some.ensures ∙ told_named cells name c.find.result told in
    (λ t. sym same ∙ t, λ t. same ∙ t)
