use Rattle.std.proofs.Common.{◌++◌, List, None, Option, map, get_or, sym, ap, ◌∙◌, append-nil}
use Rattle.std.proofs.lemmas.List.{get_or_default, take_all}
use Rattle.cal_place.specs.inside.Entries.{holder_read, part_read, parts_in}
use Rattle.cal_place.specs.declared.prototype.Prototype.{Prototype}
use Rattle.cal_place.proofs.GraphLemmas.{entries_step}
use Rattle.cal_place.proofs.nesting.add_entries.Goals as goal

pub loop-cell-init : goal.loop-cell-init
loop-cell-init c = record { reads = sym (append-nil c.args.reads.now.items); holders = sym (append-nil c.args.holders.now.items) }

pub loop-cell-preserved : goal.loop-cell-preserved
loop-cell-preserved c =
    let cells = c.args.made.now in
    let n = c.args.number in
    let k = c.loop-cell.cell-index in
    let cell = get_or cells k None in
    let is = get_or_default cells k None cell c.loop-cell-test.true in
    record {
      reads = entries_step (part_read n) cells k cell c.args.reads.now.items c.loop-cell.reads.items c.add_entry.new.reads.items c.loop-cell-test.true is c.loop-cell.invariant.reads c.in_ok-add_entry.ensures.reads;
      holders = entries_step (holder_read n) cells k cell c.args.holders.now.items c.loop-cell.holders.items c.add_entry.new.holders.items c.loop-cell-test.true is c.loop-cell.invariant.holders c.in_ok-add_entry.ensures.holders;
    }

pub returns : goal.returns
returns c =
    let n = c.args.number in
    let all = take_all c.loop-cell.cell-index c.args.made.now c.loop-cell-test.false in
    record {
      reads = c.loop-cell.invariant.reads ∙ ap (λ (cells : List (Option Prototype)). c.args.reads.now.items ++ map (part_read n) (parts_in cells)) all;
      holders = c.loop-cell.invariant.holders ∙ ap (λ (cells : List (Option Prototype)). c.args.holders.now.items ++ map (holder_read n) (parts_in cells)) all;
    }
