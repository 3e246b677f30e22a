use Rattle.fil_place.proofs.BodyLemmas.{start_shown}
use Rattle.fil_place.proofs.tables.Tables.new.Goals as goal

pub returns-clause-shows : goal.returns-clause-shows
returns-clause-shows c earlier comps comp shows events ports =
    start_shown earlier comps comp _ shows events ports c.beside-instances.ensures c.new.ensures.items c.new-2.ensures.items c.new-3.ensures.items c.new-4.ensures.items
