use Rattle.std.proofs.Common.{List, length, sym, subst}
use Rattle.std.specs.Prelude.{All}
use Rattle.hw_graph.specs.declared.groups.Entry.{Entry}
use Rattle.hw_cells.specs.inside.Pairs.{AddsPairs, IsWithin}
use Rattle.hw_cells.specs.declared.pairs.Start.{Start}
use Rattle.hw_cells.proofs.CondenseLemmas.{ArePairs, all_within, is_condensed, keys_below, only_pairs}
use Rattle.hw_cells.proofs.condensed.condense.Goals as goal

pub add_pairs-requires-clause-within : goal.add_pairs-requires-clause-within
add_pairs-requires-clause-within c =
    let cell = c.args.cell.now in
    let starts = c.add_starts.new.starts.items in
    subst (All (IsWithin (length cell.reads.now))) (sym c.deref-2.ensures.value) (all_within cell c.new-starts.result.items starts c.new-starts.ensures.items c.in_ok-add_starts.ensures c.args.ports c.requires.fit)

pub gather-requires-clause-in_range : goal.gather-requires-clause-in_range
gather-requires-clause-in_range c =
    let cell = c.args.cell.now in
    let starts = c.add_starts.new.starts.items in
    let new = c.add_pairs.new.entries.items in
    let adds = subst (λ (list : List Start). AddsPairs cell.reads.now list c.new-pairs.result.items new) c.deref-2.ensures.value c.in_ok-add_pairs.ensures in
    let pairs = only_pairs cell c.new-starts.result.items starts c.new-starts.ensures.items c.in_ok-add_starts.ensures c.new-pairs.result.items new c.new-pairs.ensures.items adds in
    keys_below c.args.ports cell c.as_slice.result.now c.requires.fit (subst (λ (list : List Entry). ArePairs cell list) (sym c.as_slice.ensures.value) pairs)

pub returns : goal.returns
returns c =
    let cell = c.args.cell.now in
    let starts = c.add_starts.new.starts.items in
    let new = c.add_pairs.new.entries.items in
    let adds = subst (λ (list : List Start). AddsPairs cell.reads.now list c.new-pairs.result.items new) c.deref-2.ensures.value c.in_ok-add_pairs.ensures in
    let pairs = only_pairs cell c.new-starts.result.items starts c.new-starts.ensures.items c.in_ok-add_starts.ensures c.new-pairs.result.items new c.new-pairs.ensures.items adds in
    is_condensed c.args.ports cell c.as_slice.result.now c.in_ok-reads.reads c.requires.fit c.requires.sides (subst (λ (list : List Entry). ArePairs cell list) (sym c.as_slice.ensures.value) pairs) c.in_ok-reads.ensures
