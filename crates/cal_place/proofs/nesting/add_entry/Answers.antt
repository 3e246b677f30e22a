use Rattle.std.proofs.Common.{refl}
use Rattle.cal_place.specs.inside.Entries.{holder_read, part_read}
use Rattle.cal_place.proofs.EntryLemmas.{no_entry, one_entry}
use Rattle.cal_place.proofs.nesting.add_entry.Goals as goal

pub returns-in_default-clause-reads : goal.returns-in_default-clause-reads
returns-in_default-clause-reads c = no_entry (part_read c.args.number) c.args.made c.component_of.result c.component_of.ensures c.args.reads.now.items c.args.reads.now.items c.in_default.is refl

pub returns-in_default-clause-holders : goal.returns-in_default-clause-holders
returns-in_default-clause-holders c = no_entry (holder_read c.args.number) c.args.made c.component_of.result c.component_of.ensures c.args.holders.now.items c.args.holders.now.items c.in_default.is refl

pub returns-clause-reads : goal.returns-clause-reads
returns-clause-reads c =
    one_entry (part_read c.args.number) c.args.made c.component_of.result c.component_of.ensures c.args.reads.now.items c.push.new.self.items c.in-Some.part c.in-Some.is c.in_ok-push.ensures.items

pub returns-clause-holders : goal.returns-clause-holders
returns-clause-holders c =
    one_entry (holder_read c.args.number) c.args.made c.component_of.result c.component_of.ensures c.args.holders.now.items c.push-2.new.self.items c.in-Some.part c.in-Some.is c.in_ok-push-2.ensures.items
