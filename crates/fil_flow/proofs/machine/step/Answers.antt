use Rattle.std.proofs.Common.{◌≡◌, ℕ, ◌-◌, ◌<◌, ◌≤◌, List, ◌∷◌, length, take, drop, reverse, refl, sym, ap, ◌∙◌, subst, arith, rules}
use Rattle.std.specs.Prelude.{IfOk}
use Rattle.std.proofs.lemmas.Option.{slice_get_read}
use Rattle.std.proofs.lemmas.Result.{IfOk-weaker}
use Rattle.hw_bits.specs.Values.{values_of, widths_of}
use Rattle.hw_bits.specs.declared.bits.Bits.{Bits}
use Rattle.hw_prims.specs.Filament.{primitive_flow}
use Rattle.fil_flow.specs.inside.Frames.{AreFrom, StandsOn, given_over, steps_left, value_of_run, waiting_cost}
use Rattle.fil_flow.specs.Plans.{PlansFit, Shape}
use Rattle.fil_flow.specs.declared.machine.Progress.{Progress}
use Rattle.fil_flow.specs.declared.machine.Progress.TheVariants.{Under}
use Rattle.fil_flow.specs.declared.plan.Call.{Call}
use Rattle.fil_flow.specs.declared.plan.Callee.TheVariants.{Component}
use Rattle.fil_flow.proofs.FrameLemmas.{Begun, NextCall, called_within, component_begins, first_and_rest, from_same, given_last, next_call, primitive_args, primitive_begins}
use Rattle.fil_flow.proofs.machine.step.Goals as goal
use Rattle.fil_flow.proofs.machine.step.Goals.{After-drop-args-in-Primitive, After-start, In_ok-args-in-len1-up}

-- the calls after the next one
abbrev later : List Call → List Call
later calls = take (length calls - 1) (drop 1 calls)

calls_are : (c : In_ok-args-in-len1-up) → c.args.top.calls.now ≡ c.call-item.result ∷ later c.args.top.calls.now
calls_are c = first_and_rest c.args.top.calls.now c.call-item.result c.in-len1-up.len_at_least c.call-item.is

args_from : (c : In_ok-args-in-len1-up) → AreFrom c.args.top.values.items c.call-item.result.args.items c.in_ok-args-in-len1-up.args.items
args_from c =
    from_same c.deref.result.now c.args.top.values.items c.deref-in-len1-up.result.now c.call-item.result.args.items c.in_ok-args-in-len1-up.args.items
    c.deref.ensures.value c.deref-in-len1-up.ensures.value c.in_ok-args-in-len1-up.ensures

called : (c : In_ok-args-in-len1-up) (shapes : List Shape) (wanted : List ℕ) → StandsOn shapes c.args.waiting.now.items wanted c.args.top →
    NextCall shapes c.args.waiting.now.items wanted c.args.top c.call-item.result (later c.args.top.calls.now)
called c shapes wanted stands = next_call shapes c.args.waiting.now.items wanted c.args.top c.call-item.result (later c.args.top.calls.now) (calls_are c) stands

-- ---- a primitive's call

pub primitive_flow-requires-clause-args : goal.primitive_flow-requires-clause-args
primitive_flow-requires-clause-args c =
    let here = (goal.at.primitive_flow-requires-clause-args c).In_ok-args-in-len1-up in
    ap widths_of c.deref-in-Primitive.ensures.value
    ∙ primitive_args c.requires.0 c.args.waiting.now.items c.requires.1 c.args.top c.call-item.result (later c.args.top.calls.now) c.in-Primitive.prim
    c.in_ok-args-in-len1-up.args.items (called here c.requires.0 c.requires.1 c.requires.3) c.in-Primitive.is (args_from here)

-- what is known once the primitive's output is kept
worked : (c : After-drop-args-in-Primitive) (shapes : List Shape) (wanted : List ℕ) → StandsOn shapes c.args.waiting.now.items wanted c.args.top →
    Begun c.args.plans.now shapes wanted c.args.waiting.now.items c.args.waiting.now.items c.args.top
    (record { calls = record { ref_ptr = c.args.top.calls.ref_ptr; now = later c.args.top.calls.now }; outs = c.args.top.outs; values = c.push.new.self })
worked c shapes wanted stands =
    let here : In_ok-args-in-len1-up = (goal.at.returns-in-Primitive-clause-nearer c).In_ok-args-in-len1-up in
    let out = c.primitive_flow.result in
    let args = c.in_ok-args-in-len1-up.args.items in
    let value : out.value ≡ primitive_flow c.in-Primitive.prim (values_of args) =
    c.primitive_flow.ensures.value ∙ ap (λ (bs : List Bits). primitive_flow c.in-Primitive.prim (values_of bs)) c.deref-in-Primitive.ensures.value in
    primitive_begins c.args.waiting.now.items c.args.top
    (record { calls = record { ref_ptr = c.args.top.calls.ref_ptr; now = later c.args.top.calls.now }; outs = c.args.top.outs; values = c.push.new.self })
    c.call-item.result c.in-Primitive.prim args out (calls_are here) refl c.in-Primitive.is (args_from here) c.in_ok-push-in-Primitive.ensures.items
    c.args.plans.now shapes wanted value c.primitive_flow.ensures.width (called here shapes wanted stands)

pub returns-in-Primitive-clause-values : goal.returns-in-Primitive-clause-values
returns-in-Primitive-clause-values c shapes wanted flow fits stands = (worked c shapes wanted stands).value flow

pub returns-in-Primitive-clause-widths : goal.returns-in-Primitive-clause-widths
returns-in-Primitive-clause-widths c shapes wanted fits stands =
    let next = (worked c shapes wanted stands).stands in
    record { outs = next.outs; top_fits = next.top_fits; waiting_fit = next.waiting_fit }

pub returns-in-Primitive-clause-nearer : goal.returns-in-Primitive-clause-nearer
returns-in-Primitive-clause-nearer c = (worked c c.requires.0 c.requires.1 c.requires.3).nearer

-- ---- a component's call

within : (c : In_ok-args-in-len1-up) (number : ℕ) → c.call-item.result.callee ≡ Component number → number < length c.args.plans.now
within c number is =
    let known = called c c.requires.0 c.requires.1 c.requires.3 in
    called_within c.args.plans.now c.requires.0 c.call-item.result.callee known.shape number c.requires.2 known.is_shape is

pub bounds-plans-number : goal.bounds-plans-number
bounds-plans-number c = within (goal.at.bounds-plans-number c).In_ok-args-in-len1-up c.in-Component.number c.in-Component.is

pub offset_bounds-plans-number : goal.offset_bounds-plans-number
offset_bounds-plans-number c =
    let less : c.in-Component.number < length c.args.plans.now = within (goal.at.offset_bounds-plans-number c).In_ok-args-in-len1-up c.in-Component.number c.in-Component.is in
    search (rules, less)

-- what is known once the component has begun
begun : (c : After-start) (shapes : List Shape) (wanted : List ℕ) → PlansFit c.args.plans.now shapes → StandsOn shapes c.args.waiting.now.items wanted c.args.top →
    Begun c.args.plans.now shapes wanted c.args.waiting.now.items c.push-in-Component.new.self.items c.args.top c.start.result
begun c shapes wanted fits stands =
    let here : In_ok-args-in-len1-up = (goal.at.returns-in-len1-up-clause-nearer c).In_ok-args-in-len1-up in
    let less : c.in-Component.number < length c.args.plans.now = within here c.in-Component.number c.in-Component.is in
    let plan = c.index-plans-number.result in
    let is_plan = slice_get_read c.args.plans.now (length c.args.plans.now) c.in-Component.number plan refl less c.index-plans-number.is in
    component_begins c.args.waiting.now.items c.push-in-Component.new.self.items c.args.top _ c.start.result c.call-item.result c.in-Component.number plan
    c.in_ok-args-in-len1-up.args.items (calls_are here) refl refl c.in_ok-push-in-Component.ensures.items c.in-Component.is (args_from here)
    c.start.ensures.calls c.start.ensures.outs (ap (λ v. v.items) c.start.ensures.values) c.args.plans.now shapes wanted fits (called here shapes wanted stands) is_plan

pub returns-in-len1-up-clause-values : goal.returns-in-len1-up-clause-values
returns-in-len1-up-clause-values c shapes wanted flow fits stands = (begun c shapes wanted fits stands).value flow

pub returns-in-len1-up-clause-widths : goal.returns-in-len1-up-clause-widths
returns-in-len1-up-clause-widths c shapes wanted fits stands = (begun c shapes wanted fits stands).stands

pub returns-in-len1-up-clause-nearer : goal.returns-in-len1-up-clause-nearer
returns-in-len1-up-clause-nearer c = (begun c c.requires.0 c.requires.1 c.requires.2 c.requires.3).nearer

-- ---- no call is left

pub returns-clause-values : goal.returns-clause-values
returns-clause-values c shapes wanted flow fits stands is_flow =
    subst (λ vs. IfOk c.finish.result (λ (next : Progress). value_of_run flow c.finish.new.waiting.items next ≡ given_over flow (reverse c.args.waiting.now.items) vs))
    (sym (given_last flow c.args.top (values_of c.args.top.values.items) c.in-empty.len_below)) (c.finish.ensures.values flow)

pub returns-clause-nearer : goal.returns-clause-nearer
returns-clause-nearer c =
    let plans = c.args.plans.now in
    let left = λ (next : Progress). steps_left plans c.finish.new.waiting.items next in
    IfOk-weaker c.finish.result (λ next. left next ≤ waiting_cost plans c.args.waiting.now.items)
    (λ next. left next < steps_left plans c.args.waiting.now.items (Under c.args.top))
    (λ next less. omega (arith, less)) (c.finish.ensures.nearer plans)
