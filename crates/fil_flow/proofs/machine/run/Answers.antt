use Rattle.std.proofs.Common.{◌≡◌, length, Some, refl, sym, ap, ◌∙◌, subst}
use Rattle.std.specs.Prelude.{slice_get}
use Rattle.std.proofs.lemmas.Option.{slice_get_read, slice_get_within}
use Rattle.fil_flow.specs.inside.Frames.{RunStands, value_of_run}
use Rattle.fil_flow.proofs.FrameLemmas.{start_stands, start_value}
use Rattle.fil_flow.proofs.machine.run.Goals as goal
use Rattle.fil_flow.proofs.machine.run.Goals.{After-start-top}

is_plan : (c : After-start-top) → slice_get c.args.plans.now c.args.number ≡ Some c.index-plans-number.result
is_plan c =
    let found = c.requires.2 c.args.number c.requires.1 c.requires.3 in
    let within = slice_get_within c.args.plans.now c.args.number found.0 found.1 in
    slice_get_read c.args.plans.now (length c.args.plans.now) c.args.number c.index-plans-number.result refl within c.index-plans-number.is

pub loop-waiting-init : goal.loop-waiting-init
loop-waiting-init c =
    let start = c.start-top in
    record {
      stands = λ shapes shape fits is_shape widths. start_stands c.args.plans.now shapes c.args.number shape c.index-plans-number.result c.args.inputs.items
          c.new-waiting.result.items start.result c.new-waiting.ensures.items start.ensures.calls start.ensures.outs (ap (λ v. v.items) start.ensures.values)
          fits (is_plan c) is_shape widths;
      value = λ shapes shape flow fits is_shape widths is_flow. start_value c.args.plans.now shapes c.args.number shape c.index-plans-number.result c.args.inputs.items
          c.new-waiting.result.items start.result c.new-waiting.ensures.items start.ensures.calls start.ensures.outs (ap (λ v. v.items) start.ensures.values)
          fits (is_plan c) is_shape widths flow is_flow;
    }

pub step-requires : goal.step-requires
step-requires c = (c.requires.0, c.requires.1.outs, c.requires.2, c.loop-waiting.invariant.stands c.requires.0 c.requires.1 c.requires.2 c.requires.3 c.requires.4)

pub loop-waiting-preserved : goal.loop-waiting-preserved
loop-waiting-preserved c =
    record {
      stands = λ shapes shape fits is_shape widths. subst (λ next. RunStands shapes c.step.new.waiting.items shape.outs next) c.in-Under.is
          (c.in_ok-frame.ensures.widths shapes shape.outs fits (c.loop-waiting.invariant.stands shapes shape fits is_shape widths));
      value = λ shapes shape flow fits is_shape widths is_flow. sym (ap (value_of_run flow c.step.new.waiting.items) c.in-Under.is)
          ∙ c.in_ok-frame.ensures.values shapes shape.outs flow fits (c.loop-waiting.invariant.stands shapes shape fits is_shape widths) is_flow
          ∙ c.loop-waiting.invariant.value shapes shape flow fits is_shape widths is_flow;
    }

pub returns-in-Done-clause-values : goal.returns-in-Done-clause-values
returns-in-Done-clause-values c shapes shape flow fits is_shape widths is_flow =
    sym (ap (value_of_run flow c.step.new.waiting.items) c.in-Done.is)
    ∙ c.in_ok-frame.ensures.values shapes shape.outs flow fits (c.loop-waiting.invariant.stands shapes shape fits is_shape widths) is_flow
    ∙ c.loop-waiting.invariant.value shapes shape flow fits is_shape widths is_flow

pub returns-in-Done-clause-widths : goal.returns-in-Done-clause-widths
returns-in-Done-clause-widths c shapes shape fits is_shape widths =
    subst (λ next. RunStands shapes c.step.new.waiting.items shape.outs next) c.in-Done.is
    (c.in_ok-frame.ensures.widths shapes shape.outs fits (c.loop-waiting.invariant.stands shapes shape fits is_shape widths))
