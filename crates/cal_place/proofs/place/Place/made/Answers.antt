use Rattle.std.proofs.Common.{◌≡◌, ◌<◌, List, Option, Some, length, refl, sym, ap, subst, ◌∙◌, slice_get, arith}
use Rattle.std.specs.Slice.{IsItemAt}
use Rattle.std.proofs.lemmas.Option.{slice_get_read}
use Rattle.cal_place.specs.Around.{Around, comp_at, design_at}
use Rattle.cal_place.specs.Prototypes.{IsMadeOf}
use Rattle.cal_place.specs.declared.prototype.Prototype.{Prototype}
use Rattle.cal_place.proofs.ListLemmas.{got}
use Rattle.cal_place.proofs.PlaceTableLemmas.{in_made, made_flat, stands}
use Rattle.cal_place.proofs.place.Place.made.Goals as goal

pub index-requires : goal.index-requires
index-requires c =
    let i = c.self.inside in
    let p = c.args.self.now in
    let known = stands i p c.self.view_is c.self.invariant in
    let number : i.number ≡ p.number = ap (λ (q : Around). q.number) c.self.view_is in
    omega (arith, in_made p i.tables.now i.cells i.groups i.holders.items known, number, i.tables.now.made.ok.0)

pub returns : goal.returns
returns c cell at =
    let i = c.self.inside in
    let p = c.args.self.now in
    let known = stands i p c.self.view_is c.self.invariant in
    let number : i.number ≡ p.number = ap (λ (q : Around). q.number) c.self.view_is in
    let items = i.tables.now.made.items in
    let within : i.number < length items = omega (arith, in_made p i.tables.now i.cells i.groups i.holders.items known, number) in
    let here : slice_get items p.number ≡ Some c.index.result.now =
    ap (slice_get items) (sym number) ∙ slice_get_read items (length items) i.number c.index.result.now refl within c.index.ensures in
    let are = known.tables.made.each p.number (comp_at p) c.index.result.now known.here here in
    let mades = c.index.result.now.items in
    let I : List (Option Prototype) → Type 0 = λ ms. IsItemAt ms c.args.place c.get.result in
    let look = c.copied.ensures ∙ got mades c.args.place c.get.result (subst I c.deref.ensures.value c.get.ensures.lookup) in
    subst (IsMadeOf (design_at p) cell) (sym c.flatten.ensures) (made_flat (design_at p) (comp_at p).cells mades are c.args.place cell at c.copied.result look)
