-- What plans that fit say of the plan with a number: its widths, and how many steps it takes.
use Rattle.std.proofs.Common.{◌≡◌, ℕ, zero, suc, ◌+◌, ◌<◌, List, [], ◌∷◌, ◌++◌, Bool, true, false, Some, length, take, reverse, refl, sym, ap, ap₂, ◌∙◌, subst, arith, append_assoc, length-append}
use Rattle.std.specs.Prelude.{◌==◌, if◌then◌else◌, slice_get}
use Rattle.std.proofs.lemmas.Bool.Decides.{nat_tests}
use Rattle.std.proofs.lemmas.List.{reverse-append, length-reverse, length-take}
use Rattle.std.proofs.lemmas.List.Sums.{sum_by-cons}
use Rattle.std.proofs.lemmas.Option.{same_Some, slice_get_within}
use Rattle.fil_flow.specs.Plans.{Shape, Fit, HasShape, PlansFit, callee_cost, calls_cost, cost_of}
use Rattle.fil_flow.specs.declared.plan.Callee.{Callee}
use Rattle.fil_flow.specs.declared.plan.Callee.TheVariants.{Primitive, Component}
use Rattle.fil_flow.specs.declared.plan.Call.{Call}
use Rattle.fil_flow.specs.declared.plan.Plan.{Plan}
use Rattle.fil_flow.specs.declared.plan.Source.{Source}

-- ---- what fits the first components fits all

slice_get-take : {X : Type 0} (n : ℕ) (xs : List X) (k : ℕ) (x : X) → slice_get (take n xs) k ≡ Some x → slice_get xs k ≡ Some x
slice_get-take zero xs k x at = cc
slice_get-take (suc n) [] k x at = at
slice_get-take (suc n) (y ∷ xs) zero x at = at
slice_get-take (suc n) (y ∷ xs) (suc k) x at = slice_get-take n xs k x at

shape_of_all : (n : ℕ) (shapes : List Shape) (callee : Callee) (shape : Shape) → HasShape (take n shapes) callee shape → HasShape shapes callee shape
shape_of_all n shapes (Primitive prim) shape has = has
shape_of_all n shapes (Component number) shape has = slice_get-take n shapes number shape has

pub fit_all : (n : ℕ) (shapes : List Shape) (widths : List ℕ) (calls : List Call) (outs : List Source) (wanted : List ℕ) →
    Fit (take n shapes) widths calls outs wanted → Fit shapes widths calls outs wanted
fit_all n shapes widths [] outs wanted fit = fit
fit_all n shapes widths (call ∷ calls) outs wanted fit =
    (fit.0, shape_of_all n shapes call.callee fit.0 fit.1, fit.2, fit_all n shapes (widths ++ fit.0.outs) calls outs wanted fit.3)

-- the plan with a number fits the shape with the number
pub plan_fits : (plans : List Plan) (shapes : List Shape) (number : ℕ) (shape : Shape) (plan : Plan) → PlansFit plans shapes →
    slice_get shapes number ≡ Some shape → slice_get plans number ≡ Some plan → Fit (take number shapes) shape.ins plan.calls.items plan.outs.items shape.outs
plan_fits plans shapes number shape plan fits is_shape is_plan =
    let found = fits number shape is_shape in
    subst (λ (p : Plan). Fit (take number shapes) shape.ins p.calls.items p.outs.items shape.outs) (same_Some found.0 plan (sym found.1 ∙ is_plan)) found.2

-- ---- how many steps a plan takes

apart : (m n : ℕ) → m < n → (m == n) ≡ false
apart m n less = grind (arith, nat_tests)

-- later plans change nothing
cost_before : (after before : List Plan) (m : ℕ) → m < length before → cost_of (after ++ before) m ≡ cost_of before m
cost_before [] before m less = refl
cost_before (plan ∷ after) before m less =
    ap (λ (b : Bool). if b then 1 + calls_cost (cost_of (after ++ before)) plan.calls.items else cost_of (after ++ before) m)
    (apart m (length (after ++ before)) (omega (arith, length-append after before)))
    ∙ cost_before after before m less

cost_at : (after before : List Plan) (plan : Plan) → cost_of (after ++ plan ∷ before) (length before) ≡ 1 + calls_cost (cost_of before) plan.calls.items
cost_at after before plan =
    let same : (length before == length before) ≡ true = grind (arith, nat_tests) in
    cost_before after (plan ∷ before) (length before) (omega arith)
    ∙ ap (λ (b : Bool). if b then 1 + calls_cost (cost_of before) plan.calls.items else cost_of before (length before)) same

-- where the components before this number cost the same, so do calls that fit them
calls_cost_same : (f g : ℕ → ℕ) (number : ℕ) (shapes : List Shape) (widths : List ℕ) (calls : List Call) (outs : List Source) (wanted : List ℕ) →
    ((m : ℕ) → m < number → f m ≡ g m) → Fit (take number shapes) widths calls outs wanted → calls_cost f calls ≡ calls_cost g calls
calls_cost_same f g number shapes widths [] outs wanted same fit = refl
calls_cost_same f g number shapes widths (call ∷ calls) outs wanted same fit =
    sum_by-cons (λ (c : Call). 1 + callee_cost f c.callee) call calls
    ∙ ap₂ (λ a b. 1 + a + b) (by call.callee fit.1) (calls_cost_same f g number shapes (widths ++ fit.0.outs) calls outs wanted same fit.3)
    ∙ sym (sum_by-cons (λ (c : Call). 1 + callee_cost g c.callee) call calls)
  where
    by : (callee : Callee) → HasShape (take number shapes) callee fit.0 → callee_cost f callee ≡ callee_cost g callee
    by (Primitive prim) has = refl
    by (Component m) has = same m (omega (arith, slice_get_within (take number shapes) m fit.0 has, length-take number shapes))

-- a list with an element at an index has something before it and something after it
parts : {X : Type 0} (xs : List X) (k : ℕ) (x : X) → slice_get xs k ≡ Some x → (front : List X) × (back : List X) × (xs ≡ front ++ x ∷ back) × (length front ≡ k)
parts [] k x at = cc
parts (y ∷ xs) zero x at = ([], xs, ap (λ z. z ∷ xs) (same_Some y x at), refl)
parts (y ∷ xs) (suc k) x at = let p = parts xs k x at in (y ∷ p.0, p.1, ap (λ l. y ∷ l) p.2, ap suc p.3)

reverse_parts : {X : Type 0} (front back : List X) (x : X) → reverse (front ++ x ∷ back) ≡ reverse back ++ x ∷ reverse front
reverse_parts front back x =
    reverse-append front (x ∷ back) ∙ ap (λ l. l ++ reverse front) (reverse-append (x ∷ []) back) ∙ append_assoc (reverse back) (x ∷ []) (reverse front)

-- a component takes a step more than its calls
pub plan_cost : (plans : List Plan) (shapes : List Shape) (number : ℕ) (shape : Shape) (plan : Plan) → PlansFit plans shapes →
    slice_get shapes number ≡ Some shape → slice_get plans number ≡ Some plan → cost_of (reverse plans) number ≡ 1 + calls_cost (cost_of (reverse plans)) plan.calls.items
plan_cost plans shapes number shape plan fits is_shape is_plan =
    let p = parts plans number plan is_plan in
    let front = reverse p.0 in
    let back = reverse p.1 in
    let is : reverse plans ≡ back ++ plan ∷ front = ap reverse p.2 ∙ reverse_parts p.0 p.1 plan in
    let count : length front ≡ number = length-reverse p.0 ∙ p.3 in
    let same : (m : ℕ) → m < number → cost_of front m ≡ cost_of (reverse plans) m = λ m less.
    sym (ap (λ ps. cost_of ps m) (is ∙ sym (append_assoc back (plan ∷ []) front)) ∙ cost_before (back ++ plan ∷ []) front m (omega arith)) in
    ap (λ ps. cost_of ps number) is ∙ ap (cost_of (back ++ plan ∷ front)) (sym count) ∙ cost_at back front plan
    ∙ ap (λ n. 1 + n) (calls_cost_same (cost_of front) (cost_of (reverse plans)) number shapes shape.ins plan.calls.items plan.outs.items shape.outs same
    (plan_fits plans shapes number shape plan fits is_shape is_plan))
