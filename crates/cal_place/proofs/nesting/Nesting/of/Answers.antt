use Rattle.std.proofs.Common.{length, refl}
use Rattle.cal_place.specs.inside.Entries.{holder_read, part_read}
use Rattle.cal_place.proofs.EntryLemmas.{entries_all, entries_next, holders_fit, nesting_shown, parts_fit, reads_in_range}
use Rattle.cal_place.proofs.ListLemmas.{item_at}
use Rattle.cal_place.proofs.nesting.Nesting.of.Goals as goal

pub loop-number-init : goal.loop-number-init
loop-number-init c = record { reads = c.new-reads.ensures.items; holders = c.new-holders.ensures.items }

pub loop-number-preserved : goal.loop-number-preserved
loop-number-preserved c =
    let made = c.args.made.now in
    let k = c.loop-number.number in
    let cells = c.index-made-number.result in
    let at = item_at made made k cells refl c.loop-number-test.true c.index-made-number.is in
    let listed = c.deref.result.now in
    let so_far = c.loop-number.invariant in
    record {
      reads = entries_next part_read made k cells listed c.loop-number.reads.items c.add_entries.new.reads.items at c.deref.ensures.value so_far.reads c.in_ok-add_entries.ensures.reads;
      holders = entries_next holder_read made k cells listed c.loop-number.holders.items c.add_entries.new.holders.items at c.deref.ensures.value so_far.holders c.in_ok-add_entries.ensures.holders;
    }

pub gather-requires-clause-in_range : goal.gather-requires-clause-in_range
gather-requires-clause-in_range c =
    let made = c.args.made.now in
    let reads = entries_all part_read made c.loop-number.number c.loop-number.reads.items c.as_slice.result.now c.loop-number-test.false c.as_slice.ensures.value c.loop-number.invariant.reads in
    parts_fit c.requires.0 made c.requires.1 (length made) refl c.as_slice.result.now reads

pub gather-requires-2-clause-in_range : goal.gather-requires-2-clause-in_range
gather-requires-2-clause-in_range c =
    let made = c.args.made.now in
    let held = entries_all holder_read made c.loop-number.number c.loop-number.holders.items c.as_slice-2.result.now c.loop-number-test.false c.as_slice-2.ensures.value c.loop-number.invariant.holders in
    holders_fit c.requires.0 made c.requires.1 (length made) refl c.as_slice-2.result.now held

pub order_of-requires : goal.order_of-requires
order_of-requires c =
    let made = c.args.made.now in
    let reads = entries_all part_read made c.loop-number.number c.loop-number.reads.items c.as_slice.result.now c.loop-number-test.false c.as_slice.ensures.value c.loop-number.invariant.reads in
    reads_in_range c.requires.0 made c.requires.1 (length made) refl c.as_slice.result.now c.in_ok-reads.reads c.in_ok-reads.ensures reads

pub returns : goal.returns
returns c design are =
    let made = c.args.made.now in
    let k = c.loop-number.number in
    let reads = entries_all part_read made k c.loop-number.reads.items c.as_slice.result.now c.loop-number-test.false c.as_slice.ensures.value c.loop-number.invariant.reads in
    let held = entries_all holder_read made k c.loop-number.holders.items c.as_slice-2.result.now c.loop-number-test.false c.as_slice-2.ensures.value c.loop-number.invariant.holders in
    nesting_shown design made are (length made) refl c.as_slice.result.now c.in_ok-reads.reads c.in_ok-reads.ensures reads
    c.as_slice-2.result.now c.in_ok-holders.holders c.in_ok-order.order c.in_ok-holders.ensures held c.in_ok-order.ensures
