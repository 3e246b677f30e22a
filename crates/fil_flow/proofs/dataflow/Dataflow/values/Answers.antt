use Rattle.std.proofs.Common.{◌≡◌, ℕ, List, IfOk, sym, ap, subst, ◌∙◌}
use Rattle.std.specs.Prelude.{Vec}
use Rattle.std.specs.declared.alloc.Global.{Global}
use Rattle.hw_bits.specs.Values.{values_of, widths_of}
use Rattle.hw_bits.specs.declared.bits.Bits.{Bits}
use Rattle.fil_ast.specs.Flow.{flow}
use Rattle.fil_flow.specs.Dataflow.{shapes_to}
use Rattle.fil_flow.specs.Plans.{IsFlow, PlansFit}
use Rattle.fil_flow.specs.Shown.{component_shape, flow_at}
use Rattle.fil_flow.specs.declared.plan.Plan.{Plan}
use Rattle.fil_flow.proofs.DataflowLemmas.{last_shape}
use Rattle.fil_flow.proofs.ShownLemmas.{flow_is}
use Rattle.fil_flow.proofs.dataflow.Dataflow.values.Goals as goal

pub run-requires : goal.run-requires
run-requires c =
    let (comps, comp, is, widths) = c.requires in
    let d = c.args.self.now in
    let P : List Plan → Type 0 = λ plans. PlansFit plans (shapes_to comps d.comp) in
    (shapes_to comps d.comp, component_shape comp, subst P (sym c.deref.ensures.value) is.fit, last_shape comps comp d.comp is.at, ap widths_of c.in_ok-inputs.ensures.items ∙ widths)

pub returns-clause-values : goal.returns-clause-values
returns-clause-values c = λ comps comp is widths.
    let d = c.args.self.now in
    let P : List Plan → Type 0 = λ plans. PlansFit plans (shapes_to comps d.comp) in
    let F : List Plan → Type 0 = λ plans. IsFlow plans (shapes_to comps d.comp) (flow_at comps) in
    let V : List ℕ → Type 0 = λ values. IfOk c.run.result (λ (outs : Vec Bits Global). values_of outs.items ≡ values) in
    subst V (flow_is comps d.comp comp (values_of c.in_ok-inputs.inputs.items) is.at ∙ ap (λ (xs : List Bits). flow comps comp (values_of xs)) c.in_ok-inputs.ensures.items)
    (c.run.ensures.values (shapes_to comps d.comp) (component_shape comp) (flow_at comps) (subst P (sym c.deref.ensures.value) is.fit)
    (last_shape comps comp d.comp is.at) (ap widths_of c.in_ok-inputs.ensures.items ∙ widths) (subst F (sym c.deref.ensures.value) is.flow))

pub returns-clause-widths : goal.returns-clause-widths
returns-clause-widths c = λ comps comp is widths.
    let d = c.args.self.now in
    let P : List Plan → Type 0 = λ plans. PlansFit plans (shapes_to comps d.comp) in
    c.run.ensures.widths (shapes_to comps d.comp) (component_shape comp) (subst P (sym c.deref.ensures.value) is.fit)
    (last_shape comps comp d.comp is.at) (ap widths_of c.in_ok-inputs.ensures.items ∙ widths)
