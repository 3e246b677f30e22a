use Rattle.std.proofs.Common.{◌≡◌, ◌+◌, ◌<◌, ℕ, List, All, get_or, length, slice_get, take, Some, sym, ap, subst, ◌∙◌}
use Rattle.std.proofs.lemmas.Bool.Decides.{Decides-eqb}
use Rattle.std.proofs.lemmas.List.{take_all}
use Rattle.std.proofs.lemmas.Option.{slice_get-get_or}
use Rattle.std.proofs.lemmas.Result.{IfOk-weaker}
use Rattle.hw_graph.specs.Groups.{IsGathered}
use Rattle.hw_graph.specs.declared.groups.Entry.{Entry}
use Rattle.hw_cells.proofs.PartLemmas.{ArePlaced, by_part, keys_within, placed_next, placed_none}
use Rattle.hw_cells.proofs.parts.by_part.Goals as goal

pub loop-number-init : goal.loop-number-init
loop-number-init c = placed_none c.args.cells.now c.new-parts.result.keys c.new-entries.result.items c.new-entries.ensures.items

pub loop-number-preserved : goal.loop-number-preserved
loop-number-preserved c =
    let cells = c.args.cells.now in
    let numbers = c.args.numbers.now in
    let index = c.loop-number.number-index in
    let number = get_or numbers index 0 in
    let cell = get_or cells number c.index-cells-number.result in
    let after = c.insert_full.new.self.keys in
    let key = c.in_ok-key.key in
    let entries = c.loop-number.entries.items in
    let at : slice_get cells number ≡ Some cell = slice_get-get_or cells number c.index-cells-number.result (c.requires index 0 c.loop-number-test.true) in
    let stored = c.in_ok-key.ensures.stored in
    let part_is : cell.part ≡ stored.0 = (Decides-eqb cell.part stored.0).0 stored.2 in
    let placed = placed_next cells numbers index 0 cell c.loop-number.parts.keys after key entries c.loop-number-test.true at c.in_ok-key.ensures.keys (stored.1 ∙ ap Some (sym part_is)) c.loop-number.invariant in
    subst (λ (list : List Entry). ArePlaced cells (take (index + 1) numbers) after list) (sym c.in_ok-push.ensures.items) placed

pub gather-requires-clause-in_range : goal.gather-requires-clause-in_range
gather-requires-clause-in_range c =
    let cells = c.args.cells.now in
    let parts = c.loop-number.parts.keys in
    let within = keys_within cells (take c.loop-number.number-index c.args.numbers.now) parts c.loop-number.entries.items c.loop-number.invariant in
    let in_slice = subst (All (λ (entry : Entry). entry.key < length parts)) (sym c.as_slice.ensures.value) within in
    subst (λ (count : ℕ). All (λ (entry : Entry). entry.key < count) c.as_slice.result.now) (sym c.len.ensures.len) in_slice

pub returns : goal.returns
returns c =
    let cells = c.args.cells.now in
    let parts = c.loop-number.parts.keys in
    let entries = c.loop-number.entries.items in
    let whole = subst (λ (list : List ℕ). ArePlaced cells list parts entries) (take_all c.loop-number.number-index c.args.numbers.now c.loop-number-test.false) c.loop-number.invariant in
    IfOk-weaker c.gather.result _ _
    (λ groups gathered.
    let counted = subst (λ (count : ℕ). IsGathered c.as_slice.result.now count groups) c.len.ensures.len gathered in
    let all = subst (λ (list : List Entry). IsGathered list (length parts) groups) c.as_slice.ensures.value counted in
    by_part cells c.args.numbers.now parts entries groups whole all)
    c.gather.ensures
