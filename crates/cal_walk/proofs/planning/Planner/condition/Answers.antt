use Rattle.std.proofs.Common.{refl, ◌∙◌}
use Rattle.cal_walk.proofs.PlanLemmas.{condition_put}
use Rattle.cal_walk.specs.declared.planning.Planner.{Planner}
use Rattle.cal_walk.proofs.planning.Planner.condition.Goals as goal

pub returns : goal.returns
returns c = λ names comp can has tested.
    let old = c.args.self.now in
    let new : Planner = record old { conditions = c.push.new.self } in
    condition_put names comp c.args.port old new c.len-number.result can has tested refl refl refl refl c.in_ok-push.ensures.items (c.len-number.ensures ∙ old.conditions.ok.0)
