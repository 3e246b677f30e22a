use Rattle.std.proofs.Common.{sym, ◌∙◌}
use Rattle.std.proofs.lemmas.Result.{on_ok_weaker}
use Rattle.cal_ast.specs.Plan.{plan_at}
use Rattle.cal_ast.specs.Tree.{statement_tree}
use Rattle.cal_lower.specs.inside.Pieces.{shown, start_name}
use Rattle.cal_lower.proofs.GrownLemmas.{parts_kept}
use Rattle.cal_lower.proofs.InstanceLemmas.{plan_of_nothing, plan_of_part}
use Rattle.cal_lower.proofs.StatementLemmas.{can_later}
use Rattle.cal_lower.proofs.instance.push_whole.Goals as goal

pub returns-then-is_over-clause-made : goal.returns-then-is_over-clause-made
returns-then-is_over-clause-made c = λ source item made can shows.
    let plan = plan_at item (statement_tree source c.args.control.now) in
    plan_of_nothing c.args.labels.now.names made plan c.args.parts.now (sym (c.is_over.ensures source item) ∙ c.if-is_over.true) shows

pub returns-clause-made : goal.returns-clause-made
returns-clause-made c = λ source item made can shows.
    let old = c.args.labels.now.names in
    let mid = c.port.new.self.names in
    let kept = c.port.ensures.kept.names in
    let plan = plan_at item (statement_tree source c.args.control.now) in
    let whole = c.push_part.ensures.made source item (shown start_name) made (can_later source old mid c.args.control.now kept can) c.in_ok-start.ensures.port (parts_kept old mid made c.args.parts.now kept shows) in
    on_ok_weaker c.push_part.result (λ shown_so. plan_of_part c.push_part.new.labels.names made plan c.push_part.new.parts (sym (c.is_over.ensures source item) ∙ c.if-is_over.false) shown_so) whole
