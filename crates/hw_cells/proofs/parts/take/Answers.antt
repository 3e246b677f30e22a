use Rattle.std.proofs.Common.{◌≡◌, ℕ, ◌<◌, List, [], ◌∷◌, ◌++◌, Some, get_or, length, slice_get, sym, ap, subst, ◌∙◌}
use Rattle.std.specs.Prelude.{All}
use Rattle.std.proofs.lemmas.List.{take_all}
use Rattle.std.proofs.lemmas.List.Elements.{All-push}
use Rattle.std.proofs.lemmas.Option.{slice_get-get_or}
use Rattle.hw_cells.specs.inside.Parts.{Takes, cells_at}
use Rattle.hw_cells.proofs.PartLemmas.{cells_at-push, takes_left_more, takes_none, takes_starts_more}
use Rattle.hw_cells.proofs.parts.take.Goals.{then-has_few_pins+in_ok-add_starts, else-has_few_pins+in_ok-push}
use Rattle.hw_cells.proofs.parts.take.Goals as goal

pub loop-number-init : goal.loop-number-init
loop-number-init c = record {
  takes = takes_none c.args.cells.now (cells_at c.args.cells.now c.args.left.now.items) c.new-starts.result.items c.new-starts.ensures.items;
  within = λ within. within;
}

pub loop-number-preserved : goal.loop-number-preserved
loop-number-preserved c =
    let cells = c.args.cells.now in
    let numbers = c.args.numbers.now in
    let index = c.loop-number.number-index in
    let cell = c.index-cells-number.result in
    let before = cells_at cells c.args.left.now.items in
    let left = c.loop-number.left.items in
    let starts = c.loop-number.starts.items in
    let below = c.loop-number-test.true in
    let in_cells = c.requires index 0 below in
    let at : slice_get cells (get_or numbers index 0) ≡ Some cell = slice_get-get_or cells (get_or numbers index 0) cell in_cells ∙ ap Some (sym c.index-cells-number.is) in
    elim c.if-has_few_pins.branch [
      | then-has_few_pins+in_ok-add_starts w ↦
          rw (w.left-is, w.starts-is)
          (record {
            takes = takes_starts_more cells numbers index 0 cell starts w.add_starts.new.starts.items before (cells_at cells left) below at w.in_ok-add_starts.ensures c.loop-number.invariant.takes;
            within = c.loop-number.invariant.within;
          })
      | else-has_few_pins+in_ok-push w ↦
          let pushed = w.in_ok-push.ensures.items in
          let is : cells_at cells w.push.new.self.items ≡ cells_at cells left ++ cell ∷ [] = ap (cells_at cells) pushed ∙ cells_at-push cells left (get_or numbers index 0) cell at in
          rw (w.left-is, w.starts-is)
          (record {
            takes = takes_left_more cells numbers index 0 cell starts before (cells_at cells left) (cells_at cells w.push.new.self.items) below at is c.loop-number.invariant.takes;
            within = λ within.
                let in_range = λ (number : ℕ). number < length cells in
                subst (All in_range) (sym pushed) (All-push in_range left (get_or numbers index 0) (c.loop-number.invariant.within within) in_cells);
          })
    ]

pub returns-clause-takes : goal.returns-clause-takes
returns-clause-takes c =
    let cells = c.args.cells.now in
    let so_far = λ (list : List ℕ). Takes cells list c.loop-number.starts.items (cells_at cells c.args.left.now.items) (cells_at cells c.loop-number.left.items) in
    subst so_far (take_all c.loop-number.number-index c.args.numbers.now c.loop-number-test.false) c.loop-number.invariant.takes

pub returns-clause-within : goal.returns-clause-within
returns-clause-within c = c.loop-number.invariant.within
