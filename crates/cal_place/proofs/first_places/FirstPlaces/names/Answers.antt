use Rattle.cal_place.proofs.first_places.FirstPlaces.names.Goals as goal

pub returns-clause-listed : goal.returns-clause-listed
returns-clause-listed c list shows distinct = shows.listed distinct
