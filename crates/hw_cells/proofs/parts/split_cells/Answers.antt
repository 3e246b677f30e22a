use Rattle.std.proofs.Common.{◌≡◌, ℕ, ◌<◌, List, [], Some, arith, length, slice_get, sym, ap, subst, ◌∙◌}
use Rattle.std.specs.Prelude.{All}
use Rattle.hw_graph.specs.contracts.groups.Groups.{the_view}
use Rattle.hw_cells.specs.inside.Parts.{IsAmong, Splits, cells_at}
use Rattle.hw_cells.proofs.PartLemmas.{IsAmongFirst, numbers_within, one_graph, splits_end, splits_more, splits_start}
use Rattle.hw_cells.proofs.ToldLemmas.{splits_then}
use Rattle.hw_cells.proofs.parts.split_cells.Goals as goal

pub loop-part-init : goal.loop-part-init
loop-part-init c =
    let cells = c.args.cells.now in
    let groups = the_view c.parts.inside in
    let entries = c.split_told.new.entries.items in
    record {
      splits = subst (λ (list : List ℕ). Splits cells (IsAmongFirst cells groups 0) entries entries [] (cells_at cells list)) (sym c.new.ensures.items) (splits_start cells groups entries []);
      within = subst (All (λ (number : ℕ). number < length cells)) (sym c.new.ensures.items) (λ k d lt. absurd (omega (arith, lt)));
    }

pub add_part-requires-clause-within : goal.add_part-requires-clause-within
add_part-requires-clause-within c =
    let in_cells = λ (number : ℕ). number < length c.args.cells.now in
    let within = subst (All in_cells) (sym c.deref.ensures.value) c.in_ok-untold.ensures.within in
    numbers_within c.args.cells.now c.deref.result.now c.in_ok-parts.parts c.in_ok-parts.ensures c.loop-part.part c.get.result.now c.get.ensures within

pub add_part-requires-clause-same : goal.add_part-requires-clause-same
add_part-requires-clause-same c = one_graph c.args.cells.now c.deref.result.now c.in_ok-parts.parts c.in_ok-parts.ensures c.loop-part.part c.get.result.now c.get.ensures c.requires.parts

pub loop-part-preserved : goal.loop-part-preserved
loop-part-preserved c =
    let part = c.loop-part.part in
    let numbers = c.get.result.now in
    let groups = the_view c.parts.inside in
    let new = c.add_part.new.split in
    let at : slice_get groups part ≡ Some numbers = ap (λ (list : List (List ℕ)). slice_get list part) c.parts.view_is ∙ c.get.ensures in
    let cells = c.args.cells.now in
    record {
      splits = splits_more cells groups part numbers c.split_told.new.entries.items c.loop-part.split.entries.items new.entries.items [] (cells_at cells c.loop-part.split.left.items) (cells_at cells new.left.items) at c.loop-part.invariant.splits c.in_ok-add_part.ensures.splits;
      within = c.in_ok-add_part.ensures.within c.loop-part.invariant.within;
    }

pub returns-clause-splits : goal.returns-clause-splits
returns-clause-splits c =
    let cells = c.args.cells.now in
    let untold = c.in_ok-untold.untold.items in
    let part = c.loop-part.part in
    let parts = c.in_ok-parts.parts in
    let first = c.args.entries.items in
    let told = c.split_told.new.entries.items in
    let split = c.loop-part.split in
    let left = cells_at cells split.left.items in
    let splits = subst (λ (groups : List (List ℕ)). Splits cells (IsAmongFirst cells groups part) told split.entries.items [] left) c.parts.view_is c.loop-part.invariant.splits in
    let rest = splits_end cells c.deref.result.now parts c.in_ok-parts.ensures part told split.entries.items [] left (omega (arith, c.len-part-end.ensures, c.loop-part-test.false)) splits in
    splits_then cells untold first told split.entries.items left c.in_ok-untold.ensures.splits
    (subst (λ (list : List ℕ). Splits cells (IsAmong cells list) told split.entries.items [] left) c.deref.ensures.value rest)

pub returns-clause-within : goal.returns-clause-within
returns-clause-within c = c.loop-part.invariant.within
