use Rattle.std.proofs.Common.{◌<◌, length, refl, arith}
use Rattle.std.proofs.lemmas.Option.{slice_get_read}
use Rattle.cal_place.proofs.PlaceTableLemmas.{stands}
use Rattle.cal_place.proofs.place.Place.signature_of.Goals as goal

pub index-requires : goal.index-requires
index-requires c =
    let i = c.self.inside in
    let known = stands i c.args.self.now c.self.view_is c.self.invariant in
    omega (arith, known.tables.signatures.sized, c.requires, i.tables.now.signatures.ok.0)

pub returns : goal.returns
returns c comp at =
    let i = c.self.inside in
    let known = stands i c.args.self.now c.self.view_is c.self.invariant in
    let items = i.tables.now.signatures.items in
    let within : c.args.number < length items = omega (arith, known.tables.signatures.sized, c.requires) in
    known.tables.signatures.each c.args.number comp c.index.result.now at (slice_get_read items (length items) c.args.number c.index.result.now refl within c.index.ensures)
