use Rattle.std.proofs.Common.{IfOk, sym, subst, ◌∙◌}
use Rattle.cal_ast.specs.Numbers.{ComponentHasNumbers}
use Rattle.cal_ast.specs.Tree.{Component, component_tree}
use Rattle.cal_lower.specs.inside.Shown.{Shows}
use Rattle.cal_lower.proofs.ComponentLemmas.{bare_kept, component_numbers, lowered_bare, lowered_full}
use Rattle.cal_lower.proofs.component.lower_component.Goals as goal

pub is_bare-requires : goal.is_bare-requires
is_bare-requires c =
    let (source, can) = c.requires.comp in
    component_numbers source c.args.labels.now.names can.kept c.args.comp.now can.numbers

pub returns-then-is_bare-clause-lowered : goal.returns-then-is_bare-clause-lowered
returns-then-is_bare-clause-lowered c = λ source can.
    let names = c.args.labels.now.names in
    let comp = component_tree source c.args.comp.now in
    let bare = sym (bare_kept source names can.kept c.args.comp.now can.numbers) ∙ sym c.is_bare.ensures ∙ c.if-is_bare.true in
    let P : Component → Type 0 = λ d. IfOk c.without_control.result (Shows ComponentHasNumbers component_tree names d) in
    subst P (lowered_bare comp bare) (c.without_control.ensures source names can.kept can.numbers)

pub returns-clause-lowered : goal.returns-clause-lowered
returns-clause-lowered c = λ source can.
    let names = c.args.labels.now.names in
    let comp = component_tree source c.args.comp.now in
    let full = sym (bare_kept source names can.kept c.args.comp.now can.numbers) ∙ sym c.is_bare.ensures ∙ c.if-is_bare.false in
    let P : Component → Type 0 = λ d. IfOk c.with_registers.result (Shows ComponentHasNumbers component_tree c.with_registers.new.labels.names d) in
    subst P (lowered_full comp full) (c.with_registers.ensures.lowered source can full)
