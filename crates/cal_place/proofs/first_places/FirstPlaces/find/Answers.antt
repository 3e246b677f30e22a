use Rattle.std.proofs.Common.{ℕ, List, slice_get, Option, subst, sym, ap, ◌∙◌}
use Rattle.cal_place.specs.FirstPlaces.{TellsFirst}
use Rattle.cal_place.proofs.FirstLemmas.{place_missing, place_told}
use Rattle.cal_place.proofs.ListLemmas.{got}
use Rattle.cal_place.proofs.first_places.FirstPlaces.find.Goals as goal

pub returns-in_err-id : goal.returns-in_err-id
returns-in_err-id c list shows =
    let T : Option _ → Type 0 = TellsFirst list c.args.name.now in
    subst T (sym c.from_residual.ensures) (place_missing c.args.self.now list c.args.name.now shows (λ there. let some = c.in_err-id.ensures.present.1 there in cc))

pub returns : goal.returns
returns c list shows =
    let f = c.args.self.now in
    let id = c.in_ok-id.id in
    place_told f list c.args.name.now id.0 shows c.in_ok-id.ensures.text c.copied.result (c.copied.ensures ∙ got c.deref.result.now id.0 c.get.result c.get.ensures.lookup ∙ ap (λ (l : List ℕ). slice_get l id.0) c.deref.ensures.value)
