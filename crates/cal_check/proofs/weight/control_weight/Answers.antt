use Rattle.std.proofs.Common.{sum_by, sym, ap, ◌∙◌}
use Rattle.net_core.specs.Weight.{saturated}
use Rattle.cal_ast.specs.Items.{control_statements}
use Rattle.cal_ast.specs.Tree.{control_tree}
use Rattle.cal_ast.specs.declared.tree.ControlPart.{ControlPart}
use Rattle.cal_check.specs.Weight.{statement_weight}
use Rattle.cal_check.proofs.weight.control_weight.Goals as goal

pub returns-in-Absent : goal.returns-in-Absent
returns-in-Absent c = λ names. ap (λ (part : ControlPart). saturated (sum_by statement_weight (control_statements (control_tree names part)))) (sym c.in-Absent.is)

pub returns-in-Empty : goal.returns-in-Empty
returns-in-Empty c = λ names. ap (λ (part : ControlPart). saturated (sum_by statement_weight (control_statements (control_tree names part)))) (sym c.in-Empty.is)

pub returns-in-Body : goal.returns-in-Body
returns-in-Body c = λ names.
    c.statement_weight.ensures names ∙ ap (λ (part : ControlPart). saturated (sum_by statement_weight (control_statements (control_tree names part)))) (sym c.in-Body.is)
