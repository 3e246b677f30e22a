-- What a step does to the components under way.
use Rattle.std.proofs.Common.{◌≡◌, ℕ, ◌+◌, ◌-◌, ◌<◌, ◌≤◌, List, [], ◌∷◌, ◌++◌, Some, length, get_or, take, drop, map, reverse, refl, sym, ap, ap₂, ◌∙◌, subst, arith}
use Rattle.std.specs.Prelude.{slice_get}
use Rattle.std.proofs.lemmas.List.{map-append, reverse-append, length-map, nil_from_length, take_all}
use Rattle.std.proofs.lemmas.List.Sums.{sum_by-cons, sum_by_push}
use Rattle.std.proofs.lemmas.Option.{slice_get_within}
use Rattle.hw_bits.specs.Values.{values_of, widths_of}
use Rattle.hw_bits.specs.declared.bits.Bits.{Bits}
use Rattle.hw_prims.specs.Filament.{primitive_flow}
use Rattle.hw_prims.specs.declared.prim.Primitive.{Primitive}
use Rattle.fil_flow.specs.inside.Frames.{AreFrom, StandsOn, WaitFor, frame_cost, given_on, given_over, steps_left, value_of_run, waiting_cost}
use Rattle.fil_flow.specs.Plans.{Shape, Fit, HasShape, HaveWidths, PlansFit, IsFlow, callee_cost, callee_values, calls_cost, cost_of, primitive_shape, source_value, values_by}
use Rattle.fil_flow.specs.declared.machine.Frame.{Frame}
use Rattle.fil_flow.specs.declared.machine.Progress.TheVariants.{Under}
use Rattle.fil_flow.specs.declared.plan.Callee.{Callee}
use Rattle.fil_flow.specs.declared.plan.Callee.TheVariants as callee
use Rattle.fil_flow.specs.declared.plan.Call.{Call}
use Rattle.fil_flow.specs.declared.plan.Plan.{Plan}
use Rattle.fil_flow.specs.declared.plan.Source.{Source}
use Rattle.fil_flow.proofs.PlanLemmas.{fit_all, plan_cost, plan_fits}

same_widths : (xs ys : List ℕ) → map Some xs ≡ map Some ys → xs ≡ ys
same_widths [] [] is = refl
same_widths [] (y ∷ ys) is = cc
same_widths (x ∷ xs) [] is = cc
same_widths (x ∷ xs) (y ∷ ys) is =
    let first : x ≡ y = cc in
    let rest : map Some xs ≡ map Some ys = cc in
    ap₂ ◌∷◌ first (same_widths xs ys rest)

-- values from sources have the widths that the sources have
pub from_widths : (places : List Bits) (sources : List Source) (found : List Bits) (wanted : List ℕ) → AreFrom places sources found →
    HaveWidths (widths_of places) sources wanted → widths_of found ≡ wanted
from_widths places sources found wanted from have = same_widths (widths_of found) wanted (sym from.widths ∙ have)

reverse_push : {X : Type 0} (xs : List X) (x : X) → reverse (xs ++ x ∷ []) ≡ x ∷ reverse xs
reverse_push xs x = reverse-append xs (x ∷ [])

grown_values : (all places added : List Bits) → all ≡ places ++ added → values_of all ≡ values_of places ++ values_of added
grown_values all places added grown = ap values_of grown ∙ map-append (λ (b : Bits). b.value) places added

grown_widths : (all places added : List Bits) → all ≡ places ++ added → widths_of all ≡ widths_of places ++ widths_of added
grown_widths all places added grown = ap widths_of grown ∙ map-append (λ (b : Bits). b.width) places added

-- the first of a list, and the rest
pub first_and_rest : {X : Type 0} (xs : List X) (x : X) → 1 ≤ length xs → x ≡ get_or xs 0 x → xs ≡ x ∷ take (length xs - 1) (drop 1 xs)
first_and_rest [] x some is = absurd (omega arith)
first_and_rest (y ∷ xs) x some is = ap₂ ◌∷◌ (sym is) (sym (take_all (length (y ∷ xs) - 1) xs (omega arith)))

pub from_same : (places places' : List Bits) (sources sources' : List Source) (found : List Bits) → places ≡ places' → sources ≡ sources' →
    AreFrom places sources found → AreFrom places' sources' found
from_same places places' sources sources' found same same' from =
    subst (λ s. AreFrom places' s found) same' (subst (λ (p : List Bits). AreFrom p sources found) same from)

-- components with the same calls left and the same outputs give the same on the same values
same_given : (flow : ℕ → List ℕ → List ℕ) (f g : Frame) (values : List ℕ) → f.calls.now ≡ g.calls.now → f.outs.now ≡ g.outs.now →
    given_on flow f values ≡ given_on flow g values
same_given flow f g values calls outs = ap₂ (λ cs os. values_by flow cs os values) calls outs

fit_along : (shapes : List Shape) (ws ws' : List ℕ) (cs cs' : List Call) (os os' : List Source) (wanted : List ℕ) → ws ≡ ws' → cs ≡ cs' → os ≡ os' →
    Fit shapes ws cs os wanted → Fit shapes ws' cs' os' wanted
fit_along shapes ws ws' cs cs' os os' wanted widths calls outs fit =
    subst (λ o. Fit shapes ws' cs' o wanted) outs (subst (λ c. Fit shapes ws' c os wanted) calls (subst (λ w. Fit shapes w cs os wanted) widths fit))

-- ---- a component is done, and the one that waits for it goes on

module _ (old new : List Frame) (frame next : Frame) (places : List Bits) (sources : List Source) (added : List Bits)
    (popped : old ≡ new ++ frame ∷ []) (calls : next.calls ≡ frame.calls) (outs : next.outs ≡ frame.outs)
    (grown : next.values.items ≡ frame.values.items ++ added) (from : AreFrom places sources added) where
  pub goes_on_value : (flow : ℕ → List ℕ → List ℕ) → value_of_run flow new (Under next) ≡ given_over flow (reverse old) (map (source_value (values_of places)) sources)
  goes_on_value flow =
      let values = grown_values next.values.items frame.values.items added grown ∙ ap (λ vs. values_of frame.values.items ++ vs) from.values in
      ap (given_over flow (reverse new))
      (ap (given_on flow next) values
      ∙ same_given flow next frame (values_of frame.values.items ++ map (source_value (values_of places)) sources) (ap (λ c. c.now) calls) (ap (λ o. o.now) outs))
      ∙ sym (ap (λ fs. given_over flow fs (map (source_value (values_of places)) sources)) (ap reverse popped ∙ reverse_push new frame))

  pub goes_on_stands : (shapes : List Shape) (given wanted : List ℕ) → HaveWidths (widths_of places) sources given → WaitFor shapes (reverse old) given wanted →
      StandsOn shapes new wanted next
  goes_on_stands shapes given wanted have wait =
      let waits = subst (λ fs. WaitFor shapes fs given wanted) (ap reverse popped ∙ reverse_push new frame) wait in
      let widths : widths_of next.values.items ≡ widths_of frame.values.items ++ given =
      grown_widths next.values.items frame.values.items added grown ∙ ap (λ ws. widths_of frame.values.items ++ ws) (from_widths places sources added given from have) in
      record {
        outs = waits.0;
        top_fits = fit_along shapes (widths_of frame.values.items ++ given) (widths_of next.values.items) frame.calls.now next.calls.now frame.outs.now next.outs.now waits.0
            (sym widths) (sym (ap (λ c. c.now) calls)) (sym (ap (λ o. o.now) outs)) waits.1;
        waiting_fit = waits.2;
      }

-- none waits: the outputs are the first component's
pub done_widths : (shapes : List Shape) (old : List Frame) (places : List Bits) (sources : List Source) (found : List Bits) (given wanted : List ℕ) → length old ≡ 0 →
    AreFrom places sources found → HaveWidths (widths_of places) sources given → WaitFor shapes (reverse old) given wanted → widths_of found ≡ wanted
done_widths shapes [] places sources found given wanted none from have wait = from_widths places sources found given from have ∙ wait
done_widths shapes (f ∷ old) places sources found given wanted none from have wait = absurd (omega arith)

-- ---- no call is left

pub given_last : (flow : ℕ → List ℕ → List ℕ) (f : Frame) (values : List ℕ) → length f.calls.now < 1 → given_on flow f values ≡ map (source_value values) f.outs.now
given_last flow f values none = ap (λ cs. values_by flow cs f.outs.now values) (nil_from_length f.calls.now (omega arith))

-- ---- the component that is under way begins its next call

-- what is known of the component that is under way, its next call and those after it
pub record NextCall (shapes : List Shape) (waiting : List Frame) (wanted : List ℕ) (top : Frame) (call : Call) (calls : List Call) : Type 0 where
  pub shape : Shape
  pub is_shape : HasShape shapes call.callee shape
  pub args : HaveWidths (widths_of top.values.items) call.args.items shape.ins
  pub outs : List ℕ
  pub fits : Fit shapes (widths_of top.values.items ++ shape.outs) calls top.outs.now outs
  pub waiting_fit : WaitFor shapes (reverse waiting) outs wanted

-- the number of a component that is called is that of a plan
pub called_within : (plans : List Plan) (shapes : List Shape) (c : Callee) (shape : Shape) (number : ℕ) → PlansFit plans shapes → HasShape shapes c shape →
    c ≡ callee.Component number → number < length plans
called_within plans shapes c shape number fits has is =
    let found = fits number shape (subst (λ x. HasShape shapes x shape) is has) in
    slice_get_within plans number found.0 found.1

-- the arguments of a primitive's call have the widths of its inputs
pub primitive_args : (shapes : List Shape) (waiting : List Frame) (wanted : List ℕ) (top : Frame) (call : Call) (calls : List Call) (prim : Primitive) (args : List Bits) →
    NextCall shapes waiting wanted top call calls → call.callee ≡ callee.Primitive prim → AreFrom top.values.items call.args.items args →
    widths_of args ≡ (primitive_shape prim).ins
primitive_args shapes waiting wanted top call calls prim args known is from =
    let has = subst (λ c. HasShape shapes c known.shape) is known.is_shape in
    from_widths top.values.items call.args.items args known.shape.ins from known.args ∙ ap (λ (s : Shape). s.ins) has.2

pub next_call : (shapes : List Shape) (waiting : List Frame) (wanted : List ℕ) (top : Frame) (call : Call) (calls : List Call) →
    top.calls.now ≡ call ∷ calls → StandsOn shapes waiting wanted top → NextCall shapes waiting wanted top call calls
next_call shapes waiting wanted top call calls is stands =
    let fits = subst (λ cs. Fit shapes (widths_of top.values.items) cs top.outs.now stands.outs) is stands.top_fits in
    record { shape = fits.0; is_shape = fits.1; args = fits.2; outs = stands.outs; fits = fits.3; waiting_fit = stands.waiting_fit }

-- what is left of a run whose next call is this
abbrev pub cost_with : List Plan → List Frame → Call → List Call → ℕ
cost_with plans waiting call calls =
    let cost = cost_of (reverse plans) in 1 + (1 + callee_cost cost call.callee + calls_cost cost calls) + waiting_cost plans waiting

left_with : (plans : List Plan) (waiting : List Frame) (top : Frame) (call : Call) (calls : List Call) → top.calls.now ≡ call ∷ calls →
    steps_left plans waiting (Under top) ≡ cost_with plans waiting call calls
left_with plans waiting top call calls is =
    let cost = cost_of (reverse plans) in
    ap (λ n. 1 + n + waiting_cost plans waiting) (ap (calls_cost cost) is ∙ sum_by-cons (λ (c : Call). 1 + callee_cost cost c.callee) call calls)

-- the call is begun: what the run gives is as before, it still fits, and fewer steps are left
pub record Begun (plans : List Plan) (shapes : List Shape) (wanted : List ℕ) (old new : List Frame) (top next : Frame) : Type 0 where
  pub value : (flow : ℕ → List ℕ → List ℕ) → IsFlow plans shapes flow → value_of_run flow new (Under next) ≡ value_of_run flow old (Under top)
  pub stands : StandsOn shapes new wanted next
  pub nearer : steps_left plans new (Under next) < steps_left plans old (Under top)

-- a primitive's call is done at once
module _ (waiting : List Frame) (top next : Frame) (call : Call) (prim : Primitive) (args : List Bits) (out : Bits)
    (calls : top.calls.now ≡ call ∷ next.calls.now) (outs : next.outs.now ≡ top.outs.now) (is : call.callee ≡ callee.Primitive prim)
    (from : AreFrom top.values.items call.args.items args) (grown : next.values.items ≡ top.values.items ++ out ∷ []) where
  primitive_value : (flow : ℕ → List ℕ → List ℕ) → out.value ≡ primitive_flow prim (values_of args) →
      value_of_run flow waiting (Under next) ≡ value_of_run flow waiting (Under top)
  primitive_value flow value =
      let values = values_of top.values.items in
      let asked = map (source_value values) call.args.items in
      let gives : values_of (out ∷ []) ≡ callee_values flow call.callee asked =
      ap (λ v. v ∷ []) (value ∙ ap (primitive_flow prim) from.values) ∙ ap (λ c. callee_values flow c asked) (sym is) in
      let grew : values_of next.values.items ≡ values ++ callee_values flow call.callee asked =
      grown_values next.values.items top.values.items (out ∷ []) grown ∙ ap (λ vs. values ++ vs) gives in
      ap (given_over flow (reverse waiting))
      (ap₂ (λ vs os. values_by flow next.calls.now os vs) grew outs ∙ ap (λ cs. values_by flow cs top.outs.now values) (sym calls))

  primitive_stands : (shapes : List Shape) (wanted : List ℕ) → widths_of (out ∷ []) ≡ (primitive_shape prim).outs →
      NextCall shapes waiting wanted top call next.calls.now → StandsOn shapes waiting wanted next
  primitive_stands shapes wanted width known =
      let has = subst (λ c. HasShape shapes c known.shape) is known.is_shape in
      let gives : widths_of (out ∷ []) ≡ known.shape.outs = width ∙ sym (ap (λ (s : Shape). s.outs) has.2) in
      let grew : widths_of next.values.items ≡ widths_of top.values.items ++ known.shape.outs =
      grown_widths next.values.items top.values.items (out ∷ []) grown ∙ ap (λ ws. widths_of top.values.items ++ ws) gives in
      record {
        outs = known.outs;
        top_fits = fit_along shapes (widths_of top.values.items ++ known.shape.outs) (widths_of next.values.items) next.calls.now next.calls.now top.outs.now next.outs.now known.outs
            (sym grew) refl (sym outs) known.fits;
        waiting_fit = known.waiting_fit;
      }

  primitive_nearer : (plans : List Plan) → steps_left plans waiting (Under next) < steps_left plans waiting (Under top)
  primitive_nearer plans = omega (arith, left_with plans waiting top call next.calls.now calls)

  pub primitive_begins : (plans : List Plan) (shapes : List Shape) (wanted : List ℕ) → out.value ≡ primitive_flow prim (values_of args) →
      widths_of (out ∷ []) ≡ (primitive_shape prim).outs → NextCall shapes waiting wanted top call next.calls.now → Begun plans shapes wanted waiting waiting top next
  primitive_begins plans shapes wanted value width known =
      record { value = λ flow is_flow. primitive_value flow value; stands = primitive_stands shapes wanted width known; nearer = primitive_nearer plans }

-- a component begins, and its caller waits
module _ (old new : List Frame) (top below next : Frame) (call : Call) (number : ℕ) (plan : Plan) (args : List Bits)
    (calls : top.calls.now ≡ call ∷ below.calls.now) (outs : below.outs.now ≡ top.outs.now) (same : below.values.items ≡ top.values.items)
    (pushed : new ≡ old ++ below ∷ []) (is : call.callee ≡ callee.Component number) (from : AreFrom top.values.items call.args.items args)
    (next_calls : next.calls.now ≡ plan.calls.items) (next_outs : next.outs.now ≡ plan.outs.items) (next_values : next.values.items ≡ args)
    (plans : List Plan) (shapes : List Shape) (wanted : List ℕ) (fits : PlansFit plans shapes)
    (known : NextCall shapes old wanted top call below.calls.now) (is_plan : slice_get plans number ≡ Some plan) where
  is_shape : slice_get shapes number ≡ Some known.shape
  is_shape = subst (λ c. HasShape shapes c known.shape) is known.is_shape

  args_widths : widths_of args ≡ known.shape.ins
  args_widths = from_widths top.values.items call.args.items args known.shape.ins from known.args

  component_value : (flow : ℕ → List ℕ → List ℕ) → IsFlow plans shapes flow → value_of_run flow new (Under next) ≡ value_of_run flow old (Under top)
  component_value flow is_flow =
      let values = values_of top.values.items in
      let asked = map (source_value values) call.args.items in
      let many : length (values_of args) ≡ length known.shape.ins =
      length-map args (λ (b : Bits). b.value) ∙ sym (length-map args (λ (b : Bits). b.width)) ∙ ap length args_widths in
      let gives : given_on flow next (values_of next.values.items) ≡ callee_values flow call.callee asked =
      ap₂ (λ cs os. values_by flow cs os (values_of next.values.items)) next_calls next_outs
      ∙ ap (λ (bs : List Bits). values_by flow plan.calls.items plan.outs.items (values_of bs)) next_values
      ∙ sym (is_flow number plan known.shape is_plan is_shape (values_of args) many) ∙ ap (flow number) from.values
      ∙ ap (λ c. callee_values flow c asked) (sym is) in
      ap (λ fs. given_over flow fs (given_on flow next (values_of next.values.items))) (ap reverse pushed ∙ reverse_push old below)
      ∙ ap (given_over flow (reverse old))
      (ap₂ (λ (bs : List Bits) vs. given_on flow below (values_of bs ++ vs)) same gives
      ∙ ap (λ os. values_by flow below.calls.now os (values ++ callee_values flow call.callee asked)) outs
      ∙ ap (λ cs. values_by flow cs top.outs.now values) (sym calls))

  component_stands : StandsOn shapes new wanted next
  component_stands =
      let fit = fit_all number shapes known.shape.ins plan.calls.items plan.outs.items known.shape.outs
      (plan_fits plans shapes number known.shape plan fits is_shape is_plan) in
      let waits = fit_along shapes (widths_of top.values.items ++ known.shape.outs) (widths_of below.values.items ++ known.shape.outs)
      below.calls.now below.calls.now top.outs.now below.outs.now known.outs
      (ap (λ (bs : List Bits). widths_of bs ++ known.shape.outs) (sym same)) refl (sym outs) known.fits in
      record {
        outs = known.shape.outs;
        top_fits = fit_along shapes known.shape.ins (widths_of next.values.items) plan.calls.items next.calls.now plan.outs.items next.outs.now known.shape.outs
            (sym (ap widths_of next_values ∙ args_widths)) (sym next_calls) (sym next_outs) fit;
        waiting_fit = subst (λ fs. WaitFor shapes fs known.shape.outs wanted) (sym (ap reverse pushed ∙ reverse_push old below)) (known.outs, waits, known.waiting_fit);
      }

  component_nearer : steps_left plans new (Under next) < steps_left plans old (Under top)
  component_nearer =
      let cost = cost_of (reverse plans) in
      let waits : waiting_cost plans new ≡ waiting_cost plans old + frame_cost cost below = ap (waiting_cost plans) pushed ∙ sum_by_push (frame_cost cost) old below in
      let begins : calls_cost cost next.calls.now ≡ calls_cost cost plan.calls.items = ap (calls_cost cost) next_calls in
      let called : callee_cost cost call.callee ≡ 1 + calls_cost cost plan.calls.items =
      ap (callee_cost cost) is ∙ plan_cost plans shapes number known.shape plan fits is_shape is_plan in
      omega (arith, left_with plans old top call below.calls.now calls, waits, begins, called)

  pub component_begins : Begun plans shapes wanted old new top next
  component_begins = record { value = component_value; stands = component_stands; nearer = component_nearer }

-- ---- the first component is under way, and nothing of it is done

module _ (plans : List Plan) (shapes : List Shape) (number : ℕ) (shape : Shape) (plan : Plan) (inputs : List Bits) (waiting : List Frame) (top : Frame)
    (none : waiting ≡ []) (calls : top.calls.now ≡ plan.calls.items) (outs : top.outs.now ≡ plan.outs.items) (values : top.values.items ≡ inputs)
    (fits : PlansFit plans shapes) (is_plan : slice_get plans number ≡ Some plan) (is_shape : slice_get shapes number ≡ Some shape)
    (widths : widths_of inputs ≡ shape.ins) where
  pub start_stands : StandsOn shapes waiting shape.outs top
  start_stands =
      let fit = fit_all number shapes shape.ins plan.calls.items plan.outs.items shape.outs (plan_fits plans shapes number shape plan fits is_shape is_plan) in
      record {
        outs = shape.outs;
        top_fits = fit_along shapes shape.ins (widths_of top.values.items) plan.calls.items top.calls.now plan.outs.items top.outs.now shape.outs
            (sym (ap widths_of values ∙ widths)) (sym calls) (sym outs) fit;
        waiting_fit = subst (λ fs. WaitFor shapes (reverse fs) shape.outs shape.outs) (sym none) refl;
      }

  pub start_value : (flow : ℕ → List ℕ → List ℕ) → IsFlow plans shapes flow → value_of_run flow waiting (Under top) ≡ flow number (values_of inputs)
  start_value flow is_flow =
      let many : length (values_of inputs) ≡ length shape.ins =
      length-map inputs (λ (b : Bits). b.value) ∙ sym (length-map inputs (λ (b : Bits). b.width)) ∙ ap length widths in
      ap (λ fs. given_over flow (reverse fs) (given_on flow top (values_of top.values.items))) none
      ∙ ap₂ (λ cs os. values_by flow cs os (values_of top.values.items)) calls outs
      ∙ ap (λ (bs : List Bits). values_by flow plan.calls.items plan.outs.items (values_of bs)) values
      ∙ sym (is_flow number plan shape is_plan is_shape (values_of inputs) many)
