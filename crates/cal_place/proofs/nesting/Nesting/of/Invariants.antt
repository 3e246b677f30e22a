use Rattle.std.proofs.Common.{◌≡◌, take}
use Rattle.cal_place.specs.inside.Entries.{entries_from, holder_read, part_read}
use Rattle.cal_place.proofs.nesting.Nesting.of.Given as goal

abbrev pub invariant-loop-number : goal.invariant-loop-number
invariant-loop-number l = record {
  reads : l.reads.items ≡ entries_from part_read 0 (take l.number l.made);
  holders : l.holders.items ≡ entries_from holder_read 0 (take l.number l.made);
}
