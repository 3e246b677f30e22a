use Rattle.cal_ast.specs.Plan.{section_plan}
use Rattle.cal_ast.specs.Tree.{control_tree}
use Rattle.cal_lower.proofs.InstanceLemmas.{over_section, plan_of_nothing}
use Rattle.cal_lower.proofs.instance.push_plan.Goals as goal

pub returns-in-Absent-clause-made : goal.returns-in-Absent-clause-made
returns-in-Absent-clause-made c = λ source item made can shows.
    let control = c.args.control.now in
    plan_of_nothing c.args.labels.now.names made (section_plan item (control_tree source control)) c.args.parts.now (over_section source item control c.in-Absent.is) shows

pub returns-in-Absent-2-clause-made : goal.returns-in-Absent-2-clause-made
returns-in-Absent-2-clause-made c = λ source item made can shows.
    let control = c.args.control.now in
    plan_of_nothing c.args.labels.now.names made (section_plan item (control_tree source control)) c.args.parts.now (over_section source item control c.in-Absent.is) shows
