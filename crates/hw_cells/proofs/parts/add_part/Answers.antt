use Rattle.std.proofs.Common.{◌≡◌, ℕ, ◌<◌, List, [], All, refl, get_or, length, sym, subst, ◌∙◌, arith}
use Rattle.std.proofs.lemmas.Bool.Decides.{Decides-eqb}
use Rattle.std.proofs.lemmas.List.{nil_from_length}
use Rattle.std.proofs.lemmas.List.Elements.{All-append}
use Rattle.std.proofs.lemmas.Result.{on_ok_weaker}
use Rattle.hw_cells.specs.inside.Pairs.{AddsFirst, AddsPairs, IsWithin}
use Rattle.hw_cells.specs.inside.Parts.{IsAmong, Splits, cells_at}
use Rattle.hw_cells.specs.declared.cell.Cell.{Cell}
use Rattle.hw_cells.specs.declared.pairs.Start.{Start}
use Rattle.hw_cells.proofs.PartLemmas.{first_among, some_number, splits_left, splits_none, splits_pairs, splits_searched, starts_within}
use Rattle.hw_cells.proofs.PairLemmas.{pairs_again}
use Rattle.hw_cells.proofs.SearchLemmas.{all_first}
use Rattle.hw_cells.proofs.parts.add_part.Goals as goal

pub returns-then-is_empty : goal.returns-then-is_empty
returns-then-is_empty c =
    let starts = c.in_ok-starts.starts in
    let zero = (Decides-eqb starts.len 0).0 (sym c.is_empty.ensures ∙ c.if-is_empty.true) in
    let none : starts.items ≡ [] = nil_from_length starts.items (omega (arith, zero, starts.ok.0)) in
    record {
      splits = splits_none c.args.cells.now c.args.numbers.now starts.items (cells_at c.args.cells.now c.args.split.now.left.items) (cells_at c.args.cells.now c.take.new.left.items) c.in_ok-starts.ensures.takes none c.args.split.now.entries.items;
      within = c.in_ok-starts.ensures.within;
    }

pub bounds-numbers-0 : goal.bounds-numbers-0
bounds-numbers-0 c =
    let starts = c.in_ok-starts.starts in
    some_number c.args.cells.now c.args.numbers.now starts.items (cells_at c.args.cells.now c.args.split.now.left.items) (cells_at c.args.cells.now c.take.new.left.items) c.in_ok-starts.ensures.takes starts.len (omega (arith, starts.ok.0)) (sym c.is_empty.ensures ∙ c.if-is_empty.false)

pub bounds-cells-numbers : goal.bounds-cells-numbers
bounds-cells-numbers c =
    let starts = c.in_ok-starts.starts in
    let some = some_number c.args.cells.now c.args.numbers.now starts.items (cells_at c.args.cells.now c.args.split.now.left.items) (cells_at c.args.cells.now c.take.new.left.items) c.in_ok-starts.ensures.takes starts.len (omega (arith, starts.ok.0)) (sym c.is_empty.ensures ∙ c.if-is_empty.false) in
    c.requires.within 0 0 some

pub bounds-cells-numbers-else-is_empty : goal.bounds-cells-numbers-else-is_empty
bounds-cells-numbers-else-is_empty c = bounds-cells-numbers c

pub order_of-requires : goal.order_of-requires
order_of-requires c =
    let numbers = c.args.numbers.now in
    let starts = c.in_ok-starts.starts in
    let some = some_number c.args.cells.now numbers starts.items (cells_at c.args.cells.now c.args.split.now.left.items) (cells_at c.args.cells.now c.take.new.left.items) c.in_ok-starts.ensures.takes starts.len (omega (arith, starts.ok.0)) (sym c.is_empty.ensures ∙ c.if-is_empty.false) in
    let fit = c.requires.fit.1 (get_or numbers 0 0) c.index-cells-numbers.result (c.requires.within 0 0 some) in
    fit.in_range

pub add_pairs-requires-clause-in_range : goal.add_pairs-requires-clause-in_range
add_pairs-requires-clause-in_range c =
    let numbers = c.args.numbers.now in
    let starts = c.in_ok-starts.starts in
    let some = some_number c.args.cells.now numbers starts.items (cells_at c.args.cells.now c.args.split.now.left.items) (cells_at c.args.cells.now c.take.new.left.items) c.in_ok-starts.ensures.takes starts.len (omega (arith, starts.ok.0)) (sym c.is_empty.ensures ∙ c.if-is_empty.false) in
    let fit = c.requires.fit.1 (get_or numbers 0 0) c.index-cells-numbers.result (c.requires.within 0 0 some) in
    fit.in_range

pub add_pairs-requires-clause-within : goal.add_pairs-requires-clause-within
add_pairs-requires-clause-within c =
    let cells = c.args.cells.now in
    let numbers = c.args.numbers.now in
    let starts = c.in_ok-starts.starts in
    let before = cells_at c.args.cells.now c.args.split.now.left.items in
    let taken = cells_at c.args.cells.now c.take.new.left.items in
    let some = some_number cells numbers starts.items before taken c.in_ok-starts.ensures.takes starts.len (omega (arith, starts.ok.0)) (sym c.is_empty.ensures ∙ c.if-is_empty.false) in
    let first = get_or cells (get_or numbers 0 0) c.index-cells-numbers.result in
    let among = first_among cells numbers c.index-cells-numbers.result some c.requires.within in
    let within = starts_within cells numbers starts.items before taken c.in_ok-starts.ensures.takes first.reads.now (λ cell has. c.requires.same cell first has among) c.requires.fit.0 c.requires.fit.1 in
    subst (All (IsWithin (length first.reads.now))) (sym c.deref-in-Some-2.ensures.value) within

pub add_searched-requires-clause-in_range : goal.add_searched-requires-clause-in_range
add_searched-requires-clause-in_range c =
    let numbers = c.args.numbers.now in
    let starts = c.in_ok-starts.starts in
    let some = some_number c.args.cells.now numbers starts.items (cells_at c.args.cells.now c.args.split.now.left.items) (cells_at c.args.cells.now c.take.new.left.items) c.in_ok-starts.ensures.takes starts.len (omega (arith, starts.ok.0)) (sym c.is_empty.ensures ∙ c.if-is_empty.false) in
    let fit = c.requires.fit.1 (get_or numbers 0 0) c.index-cells-numbers.result (c.requires.within 0 0 some) in
    fit.in_range

pub add_searched-requires-clause-within : goal.add_searched-requires-clause-within
add_searched-requires-clause-within c =
    let cells = c.args.cells.now in
    let numbers = c.args.numbers.now in
    let starts = c.in_ok-starts.starts in
    let before = cells_at c.args.cells.now c.args.split.now.left.items in
    let taken = cells_at c.args.cells.now c.take.new.left.items in
    let some = some_number cells numbers starts.items before taken c.in_ok-starts.ensures.takes starts.len (omega (arith, starts.ok.0)) (sym c.is_empty.ensures ∙ c.if-is_empty.false) in
    let first = get_or cells (get_or numbers 0 0) c.index-cells-numbers.result in
    let among = first_among cells numbers c.index-cells-numbers.result some c.requires.within in
    let within = starts_within cells numbers starts.items before taken c.in_ok-starts.ensures.takes first.reads.now (λ cell has. c.requires.same cell first has among) c.requires.fit.0 c.requires.fit.1 in
    subst (All (IsWithin (length first.reads.now))) (sym c.deref.ensures.value) within

pub returns-then-branch-clause-splits : goal.returns-then-branch-clause-splits
returns-then-branch-clause-splits c =
    let cells = c.args.cells.now in
    let numbers = c.args.numbers.now in
    let starts = c.in_ok-starts.starts in
    let old = c.args.split.now.entries.items in
    let searched = c.add_searched.new.entries.items in
    let before = cells_at c.args.cells.now c.args.split.now.left.items in
    let taken = cells_at c.args.cells.now c.take.new.left.items in
    let some = some_number cells numbers starts.items before taken c.in_ok-starts.ensures.takes starts.len (omega (arith, starts.ok.0)) (sym c.is_empty.ensures ∙ c.if-is_empty.false) in
    let first = get_or cells (get_or numbers 0 0) c.index-cells-numbers.result in
    let among = first_among cells numbers c.index-cells-numbers.result some c.requires.within in
    let same : (cell : Cell) → IsAmong cells numbers cell → cell.reads.now ≡ first.reads.now = λ cell has. c.requires.same cell first has among in
    let begun = subst (λ (list : List Start). AddsFirst first.reads.now list old searched c.in_ok-add_searched.field-0) c.deref.ensures.value c.in_ok-add_searched.ensures in
    splits_pairs cells numbers starts.items before taken c.in_ok-starts.ensures.takes first.reads.now same old searched
    (all_first first.reads.now starts.items old searched c.in_ok-add_searched.field-0 begun c.if-branch.true)

pub returns-in-Some : goal.returns-in-Some
returns-in-Some c =
    let cells = c.args.cells.now in
    let numbers = c.args.numbers.now in
    let starts = c.in_ok-starts.starts in
    let old = c.args.split.now.entries.items in
    let searched = c.add_searched.new.entries.items in
    let new = c.add_pairs.new.entries.items in
    let before = cells_at c.args.cells.now c.args.split.now.left.items in
    let taken = cells_at c.args.cells.now c.take.new.left.items in
    let some = some_number cells numbers starts.items before taken c.in_ok-starts.ensures.takes starts.len (omega (arith, starts.ok.0)) (sym c.is_empty.ensures ∙ c.if-is_empty.false) in
    let first = get_or cells (get_or numbers 0 0) c.index-cells-numbers.result in
    let among = first_among cells numbers c.index-cells-numbers.result some c.requires.within in
    let same : (cell : Cell) → IsAmong cells numbers cell → cell.reads.now ≡ first.reads.now = λ cell has. c.requires.same cell first has among in
    let begun = subst (λ (list : List Start). AddsFirst first.reads.now list old searched c.in_ok-add_searched.field-0) c.deref.ensures.value c.in_ok-add_searched.ensures in
    record {
      splits = on_ok_weaker c.add_pairs.result
          (λ adds.
          let more = subst (λ (list : List Start). AddsPairs first.reads.now list searched new) c.deref-in-Some-2.ensures.value adds in
          splits_pairs cells numbers starts.items before taken c.in_ok-starts.ensures.takes first.reads.now same old new
          (pairs_again first.reads.now begun.count starts.items old searched new begun.adds more))
          c.add_pairs.ensures;
      within = λ within. on_ok_weaker c.add_pairs.result (λ adds. c.in_ok-starts.ensures.within within) c.add_pairs.ensures;
    }

pub returns-clause-splits : goal.returns-clause-splits
returns-clause-splits c =
    let cells = c.args.cells.now in
    let numbers = c.args.numbers.now in
    let starts = c.in_ok-starts.starts in
    let old = c.args.split.now.entries.items in
    let searched = c.add_searched.new.entries.items in
    let left = c.take.new.left.items in
    let before = cells_at c.args.cells.now c.args.split.now.left.items in
    let taken = cells_at c.args.cells.now c.take.new.left.items in
    let some = some_number cells numbers starts.items before taken c.in_ok-starts.ensures.takes starts.len (omega (arith, starts.ok.0)) (sym c.is_empty.ensures ∙ c.if-is_empty.false) in
    let first = get_or cells (get_or numbers 0 0) c.index-cells-numbers.result in
    let among = first_among cells numbers c.index-cells-numbers.result some c.requires.within in
    let same : (cell : Cell) → IsAmong cells numbers cell → cell.reads.now ≡ first.reads.now = λ cell has. c.requires.same cell first has among in
    let begun = subst (λ (list : List Start). AddsFirst first.reads.now list old searched c.in_ok-add_searched.field-0) c.deref.ensures.value c.in_ok-add_searched.ensures in
    splits_searched cells numbers starts.items before taken c.in_ok-starts.ensures.takes first.reads.now same begun.count old searched _ begun.adds
    (subst (λ (list : List ℕ). Splits cells (IsAmong cells numbers) old old before (cells_at cells list)) (sym c.in_ok-extend_from_slice-in-None.ensures.items)
    (splits_left cells numbers starts.items before taken c.in_ok-starts.ensures.takes left refl old))

pub returns-clause-within : goal.returns-clause-within
returns-clause-within c = λ within.
    let in_range = λ (number : ℕ). number < length c.args.cells.now in
    subst (All in_range) (sym c.in_ok-extend_from_slice-in-None.ensures.items) (All-append in_range c.take.new.left.items c.args.numbers.now (c.in_ok-starts.ensures.within within) c.requires.within)
