use Rattle.std.proofs.Common.{◌≡◌, ℕ, List, Some, length, arith, ap, subst, sym}
use Rattle.std.specs.Prelude.{All}
use Rattle.std.proofs.lemmas.List.Elements.{All-push}
use Rattle.hw_cells.specs.Cells.{IsFit}
use Rattle.hw_cells.specs.declared.cell.Cell.{Cell}
use Rattle.hw_cells.proofs.GraphLemmas.{HasGraphOf, of_parts}
use Rattle.hw_tests.specs.declared.cells.TheConstants.{PORTS}
use Rattle.hw_tests.proofs.cells.cells_of.Goals as goal

pub loop-outputs-init : goal.loop-outputs-init
loop-outputs-init c =
    let none = c.new-cells.ensures.items in
    record {
      fit = subst (All (IsFit PORTS)) (sym none) (λ k d lt. absurd (omega (arith, lt)));
      graphs = subst (All (HasGraphOf (λ (part : ℕ). Some c.args.inside.now))) (sym none) (λ k d lt. absurd (omega (arith, lt)));
    }

pub loop-outputs-preserved : goal.loop-outputs-preserved
loop-outputs-preserved c =
    let cell = c.in_ok-cell_of.field-0 in
    let cells = c.loop-outputs.cells.items in
    let pushed = c.in_ok-push.ensures.items in
    let of_graph = HasGraphOf (λ (part : ℕ). Some c.args.inside.now) in
    record {
      fit = subst (All (IsFit PORTS)) (sym pushed) (All-push (IsFit PORTS) cells cell c.loop-outputs.invariant.fit c.in_ok-cell_of.ensures.fit);
      graphs = subst (All of_graph) (sym pushed) (All-push of_graph cells cell c.loop-outputs.invariant.graphs (ap Some (sym c.in_ok-cell_of.ensures.graph)));
    }

pub returns-clause-fit : goal.returns-clause-fit
returns-clause-fit c = c.loop-outputs.invariant.fit

pub returns-clause-parts : goal.returns-clause-parts
returns-clause-parts c = of_parts (λ (part : ℕ). Some c.args.inside.now) c.loop-outputs.cells.items c.loop-outputs.invariant.graphs
