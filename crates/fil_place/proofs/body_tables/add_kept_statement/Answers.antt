use Rattle.fil_place.proofs.body_tables.add_kept_statement.Goals as goal

pub returns : goal.returns
returns c scope place new known widths =
    c.add_statement.ensures.shown scope place new known widths (c.in_ok-made.ensures scope.comps place.shows.components) (c.in_ok-at.ensures scope place.shows.events known)
