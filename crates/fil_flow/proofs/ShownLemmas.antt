-- Plans that show components show one more, and give the flow of the whole design.
use Rattle.std.proofs.Common.{◌≡◌, ℕ, zero, suc, ◌+◌, ◌-◌, ◌≤◌, ◌<◌, ◌⊎◌, get_or, List, [], ◌∷◌, ◌++◌, length, map, take, slice_get, Contains, Option, Some, inl, inr, refl, sym, ap, subst, ◌∙◌, arith}
use Rattle.std.specs.Option.{option_map_or}
use Rattle.std.proofs.Math.Seq.{take-append_seam}
use Rattle.std.proofs.lemmas.List.{length-append, length-map, length-take, map-append, take-append-le, take_all, take_more}
use Rattle.std.proofs.lemmas.Option.{none-some, same_Some, slice_get-get_or, slice_get_within}
use Rattle.fil_ast.specs.Flow.{flow}
use Rattle.fil_ast.specs.Naming.{component_names}
use Rattle.fil_ast.specs.Rules.{KeepsRules, all_rules}
use Rattle.fil_ast.specs.Tree.{DataPort, Component, Design}
use Rattle.fil_flow.specs.Plans.{Shape, Fit, HasShape, IsFlow, PlansFit, callee_values, source_value, values_after, values_by}
use Rattle.fil_flow.specs.Shown.{ShowsPlan, ShowPlans, component_shape, flow_at, port_widths}
use Rattle.fil_flow.specs.declared.plan.Call.{Call}
use Rattle.fil_flow.specs.declared.plan.Callee.{Callee}
use Rattle.fil_flow.specs.declared.plan.Callee.TheVariants as callee
use Rattle.fil_flow.specs.declared.plan.Plan.{Plan}
use Rattle.fil_flow.specs.declared.plan.Source.{Source}
use Rattle.fil_flow.proofs.FlowLemmas.{flow_last, flow_more, named_at, new_name}
use Rattle.fil_flow.proofs.PlaceLemmas.{first_or_last, from-taken, get-first, get-next, get-taken, unmapped}

-- two flows are the same on the components that have these shapes
abbrev pub Agree : List Shape → (f g : ℕ → List ℕ → List ℕ) → Type 0
Agree shapes f g = (number : ℕ) (shape : Shape) → slice_get shapes number ≡ Some shape → (args : List ℕ) → f number args ≡ g number args

-- calls of such components give the same by both
module _ (shapes : List Shape) (f g : ℕ → List ℕ → List ℕ) (agree : Agree shapes f g) where
  same_callee : (c : Callee) (shape : Shape) (args : List ℕ) → HasShape shapes c shape → callee_values f c args ≡ callee_values g c args
  same_callee (callee.Primitive prim) shape args has = refl
  same_callee (callee.Component number) shape args has = agree number shape has args

  same_after : (calls : List Call) (outs : List Source) (widths wanted values : List ℕ) → Fit shapes widths calls outs wanted → values_after f calls values ≡ values_after g calls values
  same_after [] outs widths wanted values fit = refl
  same_after (call ∷ calls) outs widths wanted values (shape, has, given, rest) =
      let args = map (source_value values) call.args.items in
      ap (λ (more : List ℕ). values_after f calls (values ++ more)) (same_callee call.callee shape args has)
      ∙ same_after calls outs (widths ++ shape.outs) wanted (values ++ callee_values g call.callee args) rest

  pub same_by : (calls : List Call) (outs : List Source) (widths wanted values : List ℕ) → Fit shapes widths calls outs wanted → values_by f calls outs values ≡ values_by g calls outs values
  same_by calls outs widths wanted values fit = ap (λ (vs : List ℕ). map (source_value vs) outs) (same_after calls outs widths wanted values fit)

-- a flow of plans that fit is given by each flow that is the same on their components
pub same_flow : (plans : List Plan) (shapes : List Shape) (f g : ℕ → List ℕ → List ℕ) → Agree shapes f g → PlansFit plans shapes → IsFlow plans shapes f → IsFlow plans shapes g
same_flow plans shapes f g agree fit is number plan shape here at args count =
    let (found, there, fits) = fit number shape at in
    let F : Plan → Type 0 = λ p. Fit (take number shapes) shape.ins p.calls.items p.outs.items shape.outs in
    let earlier : Agree (take number shapes) f g = λ k s below. agree k s (from-taken number shapes k s below) in
    sym (agree number shape at args) ∙ is number plan shape here at args count
    ∙ same_by (take number shapes) f g earlier plan.calls.items plan.outs.items shape.ins shape.outs args (subst F (same_Some found plan (sym there ∙ here)) fits)

-- the flow at the number of a component
pub flow_is : (comps : Design) (number : ℕ) (c : Component) (args : List ℕ) → slice_get comps number ≡ Some c → flow_at comps number args ≡ flow comps c args
flow_is comps number c args at = ap (λ (o : Option Component). option_map_or (λ (d : Component). flow comps d args) o []) at

-- plans that fit, with one more that calls them
module _ (plans : List Plan) (shapes : List Shape) (plan : Plan) (last : Shape) (as_long : length plans ≡ length shapes) where
  last_plan : (number : ℕ) → number ≡ length shapes → slice_get (plans ++ plan ∷ []) number ≡ Some plan
  last_plan number is = ap (slice_get (plans ++ plan ∷ [])) (is ∙ sym as_long) ∙ get-next plans plan

  pub plans_fit_more : PlansFit plans shapes → Fit shapes last.ins plan.calls.items plan.outs.items last.outs → PlansFit (plans ++ plan ∷ []) (shapes ++ last ∷ [])
  plans_fit_more fit plan_fits number shape at = by (first_or_last shapes last shape number at)
    where
      by : (slice_get shapes number ≡ Some shape) ⊎ ((number ≡ length shapes) × (last ≡ shape))
          → (p : Plan) × (slice_get (plans ++ plan ∷ []) number ≡ Some p) × Fit (take number (shapes ++ last ∷ [])) shape.ins p.calls.items p.outs.items shape.outs
      by (inl here) =
          let (p, there, fits) = fit number shape here in
          let F : List Shape → Type 0 = λ ss. Fit ss shape.ins p.calls.items p.outs.items shape.outs in
          let within = slice_get_within shapes number shape here in (
            p,
            get-first plans (plan ∷ []) number (slice_get_within plans number p there) ∙ there,
            subst F (sym (take-append-le number shapes (last ∷ []) (omega arith))) fits,
          )
      by (inr (is, same)) =
          let F : List Shape → Type 0 = λ ss. Fit ss last.ins plan.calls.items plan.outs.items last.outs in
          let S : Shape → Type 0 = λ s. Fit (take number (shapes ++ last ∷ [])) s.ins plan.calls.items plan.outs.items s.outs in (
            plan,
            last_plan number is,
            subst S same (subst F (sym (ap (λ n. take n (shapes ++ last ∷ [])) is ∙ take-append_seam shapes (last ∷ []))) plan_fits),
          )

-- one more component, of a new name, with its plan
module _ (before : Design) (c : Component) (plans : List Plan) (plan : Plan) (new : Contains (component_names before) c.name → ⊥)
    (shown : ShowPlans before plans) (shows : ShowsPlan before c plan) where
  abbrev shapes : List Shape
  shapes = map component_shape before

  as_long : length plans ≡ length shapes
  as_long = shown.each ∙ sym (length-map before component_shape)

  agree : Agree shapes (flow_at before) (flow_at (before ++ c ∷ []))
  agree number shape at args =
      let (d, here, is) = unmapped component_shape before number shape at in
      let still : slice_get (before ++ c ∷ []) number ≡ Some d = get-first before (c ∷ []) number (slice_get_within before number d here) ∙ here in
      let apart : c.name ≡ d.name → ⊥ = λ same. new (subst (Contains (component_names before)) (sym same) (named_at before number d here)) in
      flow_is before number d args here ∙ sym (flow_more before c d args apart) ∙ sym (flow_is (before ++ c ∷ []) number d args still)

  flows : IsFlow (plans ++ plan ∷ []) (shapes ++ component_shape c ∷ []) (flow_at (before ++ c ∷ []))
  flows number p shape there at args count = by (first_or_last shapes (component_shape c) shape number at) where
    by : (slice_get shapes number ≡ Some shape) ⊎ ((number ≡ length shapes) × (component_shape c ≡ shape))
        → flow_at (before ++ c ∷ []) number args ≡ values_by (flow_at (before ++ c ∷ [])) p.calls.items p.outs.items args
    by (inl here) =
        let within = slice_get_within shapes number shape here in
        same_flow plans shapes (flow_at before) (flow_at (before ++ c ∷ [])) agree shown.fit shown.flow number p shape
        (sym (get-first plans (plan ∷ []) number (omega (arith, as_long))) ∙ there) here args count
    by (inr (last, same)) =
        let is : plan ≡ p = same_Some plan p (sym (last_plan plans shapes plan (component_shape c) as_long number last) ∙ there) in
        let V : Plan → Type 0 = λ q. flow_at (before ++ c ∷ []) number args ≡ values_by (flow_at (before ++ c ∷ [])) q.calls.items q.outs.items args in
        let here : slice_get (before ++ c ∷ []) number ≡ Some c = ap (slice_get (before ++ c ∷ [])) (last ∙ length-map before component_shape) ∙ get-next before c in
        let enough : length args ≡ length c.ins = count ∙ sym (ap (λ (s : Shape). length s.ins) same) ∙ length-map c.ins (λ (q : DataPort). q.width) in
        subst V is (flow_is (before ++ c ∷ []) number c args here ∙ flow_last before c args ∙ sym (shows.flow args enough)
        ∙ same_by shapes (flow_at before) (flow_at (before ++ c ∷ [])) agree plan.calls.items plan.outs.items (port_widths c.ins) (port_widths c.outs) args shows.fit)

  pub show_more : ShowPlans (before ++ c ∷ []) (plans ++ plan ∷ [])
  show_more =
      let more : shapes ++ component_shape c ∷ [] ≡ map component_shape (before ++ c ∷ []) = sym (map-append component_shape before (c ∷ [])) in
      let P : List Shape → Type 0 = PlansFit (plans ++ plan ∷ []) in
      let F : List Shape → Type 0 = λ ss. IsFlow (plans ++ plan ∷ []) ss (flow_at (before ++ c ∷ [])) in
      record {
        each = simp length-append (omega (arith, shown.each));
        fit = subst P more (plans_fit_more plans shapes plan (component_shape c) as_long shown.fit shows.fit);
        flow = subst F more flows;
      }

-- no plans show no components
pub show_none : ShowPlans [] []
show_none = record {
  each = refl;
  fit = λ number shape at. absurd (none-some shape at);
  flow = λ number plan shape here at args count. absurd (none-some plan here);
}

-- the flow of a component goes by the components up to it
module _ (comps : Design) (keeps : KeepsRules all_rules comps) where
  apart : (n k : ℕ) (c later : Component) → n < k → slice_get comps n ≡ Some c → slice_get comps k ≡ Some later → later.name ≡ c.name → ⊥
  apart n k c later after at there same =
      new_name (take k comps) later (keeps k later there)
      (subst (Contains (component_names (take k comps))) (sym same) (named_at (take k comps) n c (get-taken k comps n after ∙ at)))

  one_more : (n k : ℕ) (c : Component) (args : List ℕ) → n < k → k < length comps → slice_get comps n ≡ Some c → flow (take (k + 1) comps) c args ≡ flow (take k comps) c args
  one_more n k c args after within at =
      let later = get_or comps k c in
      let there : slice_get comps k ≡ Some later = slice_get-get_or comps k c within in
      ap (λ (cs : Design). flow cs c args) (take_more comps k c within) ∙ flow_more (take k comps) later c args (apart n k c later after at there)

  so_far : (n m k : ℕ) (c : Component) (args : List ℕ) → n < m → m + k ≤ length comps → slice_get comps n ≡ Some c → flow (take (m + k) comps) c args ≡ flow (take m comps) c args
  so_far n m zero c args after within at =
      let e : m + zero ≡ m = omega arith in
      ap (λ i. flow (take i comps) c args) e
  so_far n m (suc k) c args after within at =
      let e : m + suc k ≡ m + k + 1 = omega arith in
      ap (λ i. flow (take i comps) c args) e ∙ one_more n (m + k) c args (omega arith) (omega arith) at ∙ so_far n m k c args after (omega arith) at

  flow_first : (n m : ℕ) (c : Component) (args : List ℕ) → n < m → m ≤ length comps → slice_get comps n ≡ Some c → flow (take m comps) c args ≡ flow comps c args
  flow_first n m c args after within at =
      let k = length comps - m in
      let e : m + k ≡ length comps = omega arith in
      sym (so_far n m k c args after (omega arith) at) ∙ ap (λ (cs : Design). flow cs c args) (take_all (m + k) comps (omega arith))

  pub agree_first : (m : ℕ) → m ≤ length comps → Agree (map component_shape (take m comps)) (flow_at (take m comps)) (flow_at comps)
  agree_first m within number shape at args =
      let (c, here, is) = unmapped component_shape (take m comps) number shape at in
      let below = slice_get_within (take m comps) number c here in
      let there = from-taken m comps number c here in
      flow_is (take m comps) number c args here ∙ flow_first number m c args (omega (arith, length-take m comps)) within there ∙ sym (flow_is comps number c args there)
