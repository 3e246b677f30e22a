use Rattle.std.proofs.Common.{Option, length, subst}
use Rattle.std.specs.Prelude.{IfSome}
use Rattle.std.proofs.lemmas.List.Elements.{All-push}
use Rattle.hw_cells.specs.Cells.{IsAskable}
use Rattle.hw_cells.specs.declared.told.Told.{Told}
use Rattle.cal_loops.proofs.cells.reached_inputs.untold_cells.Goals.{in-Some+in_ok-add, in_default}
use Rattle.cal_loops.proofs.cells.reached_inputs.untold_cells.Goals as goal

pub loop-cell-preserved : goal.loop-cell-preserved
loop-cell-preserved c =
    let nodes = length c.args.graph.now.reads in
    let cells = c.loop-cell.untold_cells.cells.items in
    let so_far = c.loop-cell.invariant in
    elim c.match-branch-2.branch [
      | in-Some+in_ok-add w ↦
          let askable = subst (λ (o : Option Told). IfSome o (IsAskable nodes)) w.in-Some.is c.in_ok-untold.ensures in
          rw (w.untold_cells-is, w.in_ok-add.ensures) (All-push (IsAskable nodes) cells w.in-Some.untold so_far askable)
      | in_default w ↦ rw w.untold_cells-is so_far
    ]
