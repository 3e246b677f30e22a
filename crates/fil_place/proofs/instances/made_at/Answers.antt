use Rattle.std.proofs.Common.{sym}
use Rattle.hw_names.proofs.NameLemmas.{text_of-slice_get}
use Rattle.fil_place.proofs.instances.made_at.Goals as goal

pub returns-in-New : goal.returns-in-New
returns-in-New c = λ comps shows.
    rw (c.in-New.is, text_of-slice_get c.args.names.now c.in-New.made c.text.result.now c.text.ensures, sym c.deref.ensures.value)
    (c.made_of.ensures comps shows)

pub returns-in-Both : goal.returns-in-Both
returns-in-Both c = λ comps shows.
    rw (c.in-Both.is, text_of-slice_get c.args.names.now c.in-Both.made c.text-in-Both.result.now c.text-in-Both.ensures, sym c.deref-in-Both.ensures.value)
    (c.made_of-in-Both.ensures comps shows)
