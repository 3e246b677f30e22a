use Rattle.std.proofs.Common.{Bor, Some, None, option_map, option_and_then, slice_get, sym, ap, ◌∙◌}
use Rattle.hw_names.specs.Name.{Text, text_of}
use Rattle.cal_place.specs.Around.{comp_at, design_at, names_at}
use Rattle.cal_place.specs.Prototypes.{made_component}
use Rattle.cal_place.proofs.PlaceLemmas.{IsMadeIn, go_is, part_there}
use Rattle.cal_place.proofs.place.Place.go.Goals as goal

pub returns-in_err-made_in : goal.returns-in_err-made_in
returns-in_err-made_in c =
    let p = c.args.self.now in
    let name = text_of (names_at p) c.args.cell in
    let e = c.in_err-made_in.ensures in
    let is : IsMadeIn (design_at p) (comp_at p) name None = record { primitive = e.primitive; in_range = tt; part = e.part; within = tt } in
    ap (option_map (λ (go : Bor Text). go.now)) c.from_residual.ensures ∙ sym (go_is (design_at p) (comp_at p) name None is)

pub returns : goal.returns
returns c =
    let p = c.args.self.now in
    let name = text_of (names_at p) c.args.cell in
    let made = c.in_ok-made_in.field-0 in
    let e = c.in_ok-made_in.ensures in
    let is : IsMadeIn (design_at p) (comp_at p) name (Some made) = record { primitive = e.primitive; in_range = e.in_range; part = e.part; within = e.within } in
    let part = option_and_then (slice_get (design_at p)) (made_component made) in
    c.go_of.ensures part (part_there (design_at p) (made_component made) e.within) ∙ sym (go_is (design_at p) (comp_at p) name (Some made) is)
