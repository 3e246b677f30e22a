use Rattle.std.proofs.Common.{ℕ, Some, arith, ap, subst, sym}
use Rattle.std.specs.Prelude.{All}
use Rattle.std.proofs.lemmas.List.Elements.{All-push}
use Rattle.hw_cells.specs.Cells.{IsFit, IsTold}
use Rattle.hw_cells.proofs.GraphLemmas.{HasGraphOf, of_parts}
use Rattle.hw_tests.proofs.CellLemmas.{lent_too}
use Rattle.hw_tests.specs.declared.cells.TheConstants.{MANY_PORTS}
use Rattle.hw_tests.proofs.cells.many_cells.Goals as goal

pub loop-number-init : goal.loop-number-init
loop-number-init c =
    let none = c.new-cells.ensures.items in
    record {
      fit = subst (All (IsFit MANY_PORTS)) (sym none) (λ k d lt. absurd (omega (arith, lt)));
      graphs = subst (All (HasGraphOf (λ (part : ℕ). Some c.args.inside.now))) (sym none) (λ k d lt. absurd (omega (arith, lt)));
    }

pub cell_of-requires-clause-told : goal.cell_of-requires-clause-told
cell_of-requires-clause-told c = lent_too (IsTold c.args.inside.now) c.args.told.now c.loop-number.number c.get.result c.requires.told c.get.ensures.lookup

pub loop-number-preserved : goal.loop-number-preserved
loop-number-preserved c =
    let cell = c.in_ok-cell_of.field-0 in
    let cells = c.loop-number.cells.items in
    let pushed = c.in_ok-push.ensures.items in
    let of_graph = HasGraphOf (λ (part : ℕ). Some c.args.inside.now) in
    record {
      fit = subst (All (IsFit MANY_PORTS)) (sym pushed) (All-push (IsFit MANY_PORTS) cells cell c.loop-number.invariant.fit c.in_ok-cell_of.ensures.fit);
      graphs = subst (All of_graph) (sym pushed) (All-push of_graph cells cell c.loop-number.invariant.graphs (ap Some (sym c.in_ok-cell_of.ensures.graph)));
    }

pub returns-clause-fit : goal.returns-clause-fit
returns-clause-fit c = c.loop-number.invariant.fit

pub returns-clause-parts : goal.returns-clause-parts
returns-clause-parts c = of_parts (λ (part : ℕ). Some c.args.inside.now) c.loop-number.cells.items c.loop-number.invariant.graphs
