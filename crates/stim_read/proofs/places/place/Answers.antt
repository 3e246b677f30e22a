use Rattle.stim_read.proofs.PlaceLemmas.{missing_by, found_by}
use Rattle.stim_read.proofs.places.place.Goals as goal

pub returns-in_err-id-clause-place : goal.returns-in_err-id-clause-place
returns-in_err-id-clause-place c = rw c.from_residual.ensures (missing_by c.find.result c.args.names.now c.args.name.now c.in_err-id.was c.find.ensures.present)

pub returns-clause-place : goal.returns-clause-place
returns-clause-place c =
    let found = found_by c.find.result c.in_ok-id.id c.args.names.now c.args.name.now c.in_ok-id.was c.find.ensures.text c.find.ensures.present c.find.ensures.distinct in
    (found.there, found.is, found.within)
