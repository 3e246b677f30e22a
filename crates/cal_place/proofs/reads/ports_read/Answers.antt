use Rattle.cal_place.proofs.ReadLemmas.{added_first, adds_both}
use Rattle.cal_place.proofs.reads.ports_read.Goals as goal

pub returns : goal.returns
returns c names when source =
    added_first names c.new-ports.result.items c.add_source.new.ports.items _ c.new-ports.ensures.items
    (adds_both names c.new-ports.result.items c.add_when.new.ports.items c.add_source.new.ports.items _ _ (c.in_ok-add_when.ensures names when) (c.in_ok-add_source.ensures names source))
