use Rattle.std.proofs.Common.{◌≡◌, ◌<◌, length, refl, sym, ap, ◌∙◌, slice_get, arith}
use Rattle.std.proofs.lemmas.Option.{slice_get_read}
use Rattle.cal_place.specs.Around.{Around}
use Rattle.cal_place.proofs.PlaceTableLemmas.{in_tables, own_signature, stands}
use Rattle.cal_place.proofs.place.Place.signature.Goals as goal

pub index-requires : goal.index-requires
index-requires c =
    let i = c.self.inside in
    let p = c.args.self.now in
    let known = stands i p c.self.view_is c.self.invariant in
    let number : i.number ≡ p.number = ap (λ (q : Around). q.number) c.self.view_is in
    omega (arith, in_tables p i.tables.now i.cells i.groups i.holders.items known, number, i.tables.now.signatures.ok.0)

pub returns : goal.returns
returns c =
    let i = c.self.inside in
    let p = c.args.self.now in
    let known = stands i p c.self.view_is c.self.invariant in
    let number : i.number ≡ p.number = ap (λ (q : Around). q.number) c.self.view_is in
    let items = i.tables.now.signatures.items in
    let within : i.number < length items = omega (arith, in_tables p i.tables.now i.cells i.groups i.holders.items known, number) in
    own_signature p i.tables.now i.cells i.groups i.holders.items known c.index.result.now
    (ap (slice_get items) (sym number) ∙ slice_get_read items (length items) i.number c.index.result.now refl within c.index.ensures)
