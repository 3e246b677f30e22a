use Rattle.std.proofs.Common.{◌+◌, ap, arith}
use Rattle.std.proofs.lemmas.Result.{IfOk-weaker}
use Rattle.cal_ast.specs.Plan.{section_plan}
use Rattle.cal_ast.specs.Tree.{control_tree}
use Rattle.cal_ast.specs.declared.tree.ControlPart.{ControlPart}
use Rattle.cal_state.specs.inside.Threads.{lasting_states}
use Rattle.cal_state.proofs.places.last_state.Goals as goal

pub returns-in-Body : goal.returns-in-Body
returns-in-Body c = λ source item.
    let same = ap (λ (section : ControlPart). lasting_states (section_plan item (control_tree source section))) c.in-Body.is in
    IfOk-weaker c.after_states.result _ _ (λ last e. omega (arith, e, same)) (c.after_states.ensures source item)
