use Rattle.std.proofs.Common.{◌≡◌, ◌≤◌, length, slice_get, Some, ap, arith}
use Rattle.std.proofs.lemmas.List.{length-map}
use Rattle.cal_ast.specs.Tree.{component_tree, design_of}
use Rattle.cal_check.specs.Refusals.{TellsRefusal}
use Rattle.cal_check.specs.declared.refusal.CalEnd.TheVariants as design
use Rattle.cal_check.proofs.JudgeLemmas.{all_keep, component_ends, component_kept, keep_more}
use Rattle.cal_place.proofs.EndLemmas.{passed_up}
use Rattle.cal_place.proofs.ListLemmas.{at_mapped}
use Rattle.cal_check.proofs.check.judge_components.Goals as goal

pub of-requires-clause-number : goal.of-requires-clause-number
of-requires-clause-number c = omega (arith, c.loop-number-test.true, ap length c.deref-comp-items.ensures.value)

pub returns-in_err-place-clause-refused : goal.returns-in_err-place-clause-refused
returns-in_err-place-clause-refused c =
    passed_up c.from_residual.result design.Memory (TellsRefusal c.args.overview.now.design.now) c.from_residual.ensures.1 tt

pub returns-in-Err-clause-refused : goal.returns-in-Err-clause-refused
returns-in-Err-clause-refused c =
    let d = c.args.overview.now.design.now in
    let n = c.loop-number.number in
    let e = c.in_ok-place.ensures in
    let at : slice_get (design_of d) n ≡ Some (component_tree d.names c.comp-item.result) =
    at_mapped (component_tree d.names) d.comps.items c.deref-comp-items.result.now n c.comp-item.result c.deref-comp-items.ensures.value c.loop-number-test.true c.comp-item.is in
    component_ends d c.in_ok-place.place n c.comp-item.result c.in-Err.end c.in_component.result e.design e.number e.comp at c.loop-number.invariant c.in-Err.ensures.broken c.in_component.ensures

pub loop-number-preserved : goal.loop-number-preserved
loop-number-preserved c =
    let d = c.args.overview.now.design.now in
    let n = c.loop-number.number in
    let e = c.in_ok-place.ensures in
    keep_more (design_of d) n _ e.comp (component_kept c.in_ok-place.place (design_of d) n e.design e.number c.in-Ok.ensures.kept) c.loop-number.invariant

pub returns-clause-kept : goal.returns-clause-kept
returns-clause-kept c =
    let d = c.args.overview.now.design.now in
    let end : length (design_of d) ≤ c.loop-number.number =
    omega (arith, c.loop-number-test.false, ap length c.deref-comp-items.ensures.value, length-map d.comps.items (component_tree d.names)) in
    all_keep (design_of d) c.loop-number.number end c.loop-number.invariant
