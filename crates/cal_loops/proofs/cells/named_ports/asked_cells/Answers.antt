use Rattle.std.proofs.Common.{length, ap, sym, subst, arith}
use Rattle.std.proofs.lemmas.List.{length-map}
use Rattle.cal_ast.specs.Rules.{KeepsRules}
use Rattle.cal_ast.specs.Tree.{Design, component_tree}
use Rattle.cal_loops.proofs.cells.named_ports.asked_cells.Goals as goal

pub loop-number-init : goal.loop-number-init
loop-number-init c =
    let design = c.args.overview.now.design.now in
    omega (arith, c.in_ok-asked.ensures, c.len-count.ensures, design.comps.ok.0, length-map design.comps.items (component_tree design.names))

pub add_cells-requires-clause-kept : goal.add_cells-requires-clause-kept
add_cells-requires-clause-kept c =
    let K : Design → Type 0 = λ d. KeepsRules d in
    subst K (sym c.in_ok-place.ensures.design) c.requires.kept

pub add_cells-requires-clause-all : goal.add_cells-requires-clause-all
add_cells-requires-clause-all c = omega (arith, ap length c.as_mut_slice.ensures.value, c.loop-number.invariant, ap length c.in_ok-place.ensures.design)
