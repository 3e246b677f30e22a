use Rattle.std.proofs.Common.{◌≡◌, ◌++◌, map, take}
use Rattle.cal_place.specs.inside.Entries.{holder_read, part_read, parts_in}
use Rattle.cal_place.proofs.nesting.add_entries.Given as goal

abbrev pub invariant-loop-cell : goal.invariant-loop-cell
invariant-loop-cell l = record {
  reads : l.reads.items ≡ l.fn.reads.items ++ map (part_read l.number) (parts_in (take l.cell-index l.made));
  holders : l.holders.items ≡ l.fn.holders.items ++ map (holder_read l.number) (parts_in (take l.cell-index l.made));
}
