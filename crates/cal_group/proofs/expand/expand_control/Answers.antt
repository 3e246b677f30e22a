use Rattle.std.proofs.Common.{sym, ap, subst, ◌∙◌}
use Rattle.cal_ast.specs.Items.{control_statements}
use Rattle.cal_ast.specs.Tree.{Body, Component, Design, control_tree}
use Rattle.cal_ast.specs.declared.tree.ControlPart.{ControlPart}
use Rattle.cal_group.specs.inside.Expanded.{expanded_section}
use Rattle.cal_group.specs.inside.Expansion.{AddsGroups, AreNamed, CanStart, HasCells}
use Rattle.cal_group.proofs.expand.expand_control.Goals as goal

pub returns-in_ok-expand_statement-in-Body-clause-groups : goal.returns-in_ok-expand_statement-in-Body-clause-groups
returns-in_ok-expand_statement-in-Body-clause-groups c =
    let at = c.args.cells in
    let old = c.args.made.now in
    let new = c.expand_statement.new.made in
    let P : ControlPart → Type 0 =
    λ part. (design : Design) (comp : Component) → HasCells comp at.source.now at.table.now → AreNamed old.names at.ports → CanStart design comp (control_statements (control_tree at.source.now part))
    → AddsGroups design comp at.source.now new.names old.item (control_statements (control_tree at.source.now part)) old.groups.items new.groups.items in
    subst P (sym c.in-Body.is) c.in_ok-expand_statement-in-Body.ensures.groups

pub returns-in_ok-expand_statement-in-Body-clause-control : goal.returns-in_ok-expand_statement-in-Body-clause-control
returns-in_ok-expand_statement-in-Body-clause-control c = λ later is.
    ap Body (c.in_ok-expand_statement-in-Body.ensures.statement.tree later is)
    ∙ ap (λ (part : ControlPart). expanded_section c.args.made.now.item (control_tree c.args.cells.source.now part)) (sym c.in-Body.is)

pub returns-in_ok-expand_statement-in-Body-clause-numbers : goal.returns-in_ok-expand_statement-in-Body-clause-numbers
returns-in_ok-expand_statement-in-Body-clause-numbers c = λ later is. c.in_ok-expand_statement-in-Body.ensures.statement.numbers later is
