use Rattle.std.proofs.Common.{◌≡◌, ◌++◌, ◌∷◌, [], List, All, map, flat_map, take, slice_get, Some, sym, ap, ap₂, subst, ◌∙◌, append-nil}
use Rattle.std.proofs.lemmas.List.{map-append}
use Rattle.std.proofs.lemmas.List.Elements.{All-push, All-weaker}
use Rattle.hw_names.specs.Name.{KeepsTexts}
use Rattle.cal_ast.specs.Numbers.{CellHasNumbers}
use Rattle.cal_ast.specs.Tree.{cell_tree}
use Rattle.cal_ast.specs.declared.tree.CalCell.{CalCell}
use Rattle.fil_ast.specs.Scope.{instances_at}
use Rattle.fil_ast.specs.Tree.{statement_tree}
use Rattle.fil_fsm.proofs.FreshLemmas.{KeepsTexts-trans}
use Rattle.fil_share.proofs.Lookup.{at_mapped}
use Rattle.fil_share.proofs.MakesLemmas.{flat_next}
use Rattle.fil_lower.specs.inside.Lowering.{lowered_cell}
use Rattle.fil_lower.specs.inside.Parts.{instance_shown}
use Rattle.fil_lower.proofs.KeptLemmas.{cell_numbers, cells_kept}
use Rattle.fil_lower.proofs.cells.instance_cells.Goals.{in-Some+in_ok-instance_cell+in_ok-push, in_default}
use Rattle.fil_lower.proofs.cells.instance_cells.Goals as goal

pub loop-stmt-preserved : goal.loop-stmt-preserved
loop-stmt-preserved c =
    let own = c.args.own.now in
    let body = c.args.comp.now.body.items in
    let tree = map (statement_tree own) body in
    let k = c.loop-stmt.stmt-index in
    let s = statement_tree own c.stmt-item.result in
    let at : slice_get tree k ≡ Some s = at_mapped (statement_tree own) body c.deref-stmt-items.result.now k c.stmt-item.result c.deref-stmt-items.ensures.value c.loop-stmt-test.true c.stmt-item.is in
    let before = flat_map instances_at (take k tree) in
    let next = flat_next instances_at tree k s at in
    let names = c.loop-stmt.names in
    let cells = c.loop-stmt.cells.items in
    elim c.match-made.branch [
      | in-Some+in_ok-instance_cell+in_ok-push w ↦
          let i = instance_shown own w.in-Some.instance in
          let is_i : i ∷ [] ≡ instances_at s = w.in-Some.ensures.shown own in
          let after = w.instance_cell.new.names in
          let keeps : KeepsTexts names after = w.instance_cell.ensures.kept in
          let A : List CalCell → Type 0 = All (CellHasNumbers after) in
          rw (w.names-is, w.cells-is) (record {
            kept = KeepsTexts-trans c.args.names.now names after c.loop-stmt.invariant.kept keeps;
            cells =
                ap (map (cell_tree after)) w.in_ok-push.ensures.items ∙ map-append (cell_tree after) cells _
                ∙ ap₂ (λ cs c. cs ++ c ∷ []) (cells_kept names after keeps cells c.loop-stmt.invariant.numbers ∙ c.loop-stmt.invariant.cells) w.in_ok-instance_cell.ensures.cell
                ∙ sym (ap (map lowered_cell) (next ∙ ap (λ is. before ++ is) (sym is_i)) ∙ map-append lowered_cell before (i ∷ []));
            numbers = subst A (sym w.in_ok-push.ensures.items)
                (All-push (CellHasNumbers after) cells _ (All-weaker (CellHasNumbers names) (CellHasNumbers after) (cell_numbers names after keeps) cells c.loop-stmt.invariant.numbers) w.in_ok-instance_cell.ensures.numbers);
          })
      | in_default w ↦
          rw (w.names-is, w.cells-is) (record {
            kept = c.loop-stmt.invariant.kept;
            cells = c.loop-stmt.invariant.cells ∙ ap (map lowered_cell) (sym (next ∙ ap (λ is. before ++ is) (sym (w.in_default.ensures.shown own)) ∙ append-nil before));
            numbers = c.loop-stmt.invariant.numbers;
          })
    ]
