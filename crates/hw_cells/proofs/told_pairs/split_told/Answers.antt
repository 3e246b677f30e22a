use Rattle.std.proofs.Common.{rules, ◌≡◌, ◌∙◌, ◌<◌, ℕ, Some, ap, length, slice_get, sym, subst}
use Rattle.std.specs.Prelude.{All}
use Rattle.std.proofs.lemmas.List.Elements.{All-push}
use Rattle.std.proofs.lemmas.Option.{slice_get-get_or}
use Rattle.hw_cells.specs.inside.Parts.{cells_at}
use Rattle.hw_cells.proofs.ToldLemmas.{first_all, first_other, first_told}
use Rattle.hw_cells.proofs.told_pairs.split_told.Goals.{then-not-branch+in_ok-push, else-not-branch}
use Rattle.hw_cells.proofs.told_pairs.split_told.Goals as goal

pub loop-number-preserved : goal.loop-number-preserved
loop-number-preserved c =
    let cells = c.args.cells.now in
    let number = c.loop-number.number in
    let cell = c.index-cells-number.result in
    let at : slice_get cells number ≡ Some cell = slice_get-get_or cells number cell c.loop-number-test.true ∙ ap Some (sym c.index-cells-number.is) in
    let first = c.args.entries.now.items in
    let old = c.loop-number.entries.items in
    let new = c.add_told.new.entries.items in
    let others = c.loop-number.others.items in
    let in_cells = λ (n : ℕ). n < length cells in
    elim c.if-not-branch.branch [
      | then-not-branch+in_ok-push w ↦
          rw w.others-is
          (record {
            splits = first_other cells number cell at first old new others w.push.new.self.items (c.in_ok-add_told.ensures.untold (search rules)) w.in_ok-push.ensures.items c.loop-number.invariant.splits;
            within = subst (All in_cells) (sym w.in_ok-push.ensures.items) (All-push in_cells others number c.loop-number.invariant.within c.loop-number-test.true);
          })
      | else-not-branch w ↦
          rw w.others-is
          (record {
            splits = first_told cells number cell at first old new (cells_at cells others) (c.in_ok-add_told.ensures.told (search rules)) c.loop-number.invariant.splits;
            within = c.loop-number.invariant.within;
          })
    ]

pub returns-clause-splits : goal.returns-clause-splits
returns-clause-splits c =
    let cells = c.args.cells.now in
    first_all cells c.loop-number.number c.args.entries.now.items c.loop-number.entries.items (cells_at cells c.loop-number.others.items) c.loop-number-test.false c.loop-number.invariant.splits
