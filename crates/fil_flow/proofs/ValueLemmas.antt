-- The values of what is held, and what calls give, with one more at the end.
use Rattle.std.proofs.Common.{◌≡◌, ℕ, Bool, cond, List, [], ◌∷◌, ◌++◌, map, reverse, Option, Some, refl, sym, ap, ap₂, subst, ◌∙◌}
use Rattle.std.specs.List.{AllZip}
use Rattle.std.specs.Option.{option_map_or}
use Rattle.std.specs.Str.{bytes_eq}
use Rattle.std.proofs.lemmas.List.{reverse-append}
use Rattle.hw_names.specs.Name.{Text}
use Rattle.fil_ast.specs.Flow.{Named, instance_flow, made_flow, value_in, value_named}
use Rattle.fil_ast.specs.Scope.{Instance, Invocation, instance_named}
use Rattle.fil_ast.specs.Tree.{ValueTree, InputValue, OutputValue, Literal}
use Rattle.fil_flow.specs.inside.Body.{Calls}
use Rattle.fil_flow.specs.inside.Planning.{CallsFit}
use Rattle.fil_flow.specs.Plans.{Fit, HasShape, HaveWidths, Shape, callee_values, source_value, values_after}
use Rattle.fil_flow.specs.declared.body.Invoked.{Invoked}
use Rattle.fil_flow.specs.declared.earlier.Earlier.{Earlier}
use Rattle.fil_flow.specs.declared.plan.Call.{Call}
use Rattle.fil_flow.specs.declared.plan.Source.{Source}
use Rattle.fil_flow.proofs.Lookups.{same_name, other_name}

module _ (flow : Text → List ℕ → List Named) (instances : List Instance) (inputs : List Named) where
  -- an output of the latest invocation
  pub value_here : (v : Invocation) (before : List Invocation) (port : Text)
      → value_in flow instances inputs (v ∷ before) (OutputValue v.name port) ≡ value_named (instance_flow flow instances v.inst (map (value_in flow instances inputs before) v.gives.args)) port
  value_here v before port =
      ap (λ (b : Bool). cond b (value_named (instance_flow flow instances v.inst (map (value_in flow instances inputs before) v.gives.args)) port) (value_in flow instances inputs before (OutputValue v.name port)))
      (same_name v.name v.name refl)

  -- an output of an invocation of another name
  pub value_before : (v : Invocation) (before : List Invocation) (name port : Text) → (v.name ≡ name → ⊥)
      → value_in flow instances inputs (v ∷ before) (OutputValue name port) ≡ value_in flow instances inputs before (OutputValue name port)
  value_before v before name port apart =
      ap (λ (b : Bool). cond b (value_named (instance_flow flow instances v.inst (map (value_in flow instances inputs before) v.gives.args)) port) (value_in flow instances inputs before (OutputValue name port)))
      (other_name v.name name apart)

-- each of these invocations has its instance among these
abbrev pub HaveInstances : List Instance → List Invocation → Type 0
HaveInstances instances [] = Unit {0}
HaveInstances instances (v ∷ vs) = ((i : Instance) × (instance_named instances v.inst ≡ Some i)) × HaveInstances instances vs

have_last : (instances : List Instance) (vs : List Invocation) (v : Invocation) → HaveInstances instances vs → (i : Instance) × (instance_named instances v.inst ≡ Some i) → HaveInstances instances (vs ++ v ∷ [])
have_last instances [] v have one = (one, tt)
have_last instances (w ∷ vs) v have one = (have.0, have_last instances vs v have.1 one)

-- what is called is there, whatever the order
pub have_called : (earlier : Earlier) (instances : List Instance) (vs : List Invocation) (invoked : List Invoked) → AllZip (Calls earlier instances) vs invoked → HaveInstances instances (reverse vs)
have_called earlier instances [] invoked all = tt
have_called earlier instances (v ∷ vs) [] all = absurd all
have_called earlier instances (v ∷ vs) (w ∷ invoked) all =
    subst (HaveInstances instances) (sym (reverse-append (v ∷ []) vs))
    (have_last instances (reverse vs) v (have_called earlier instances vs invoked all.1) (all.0.0, all.0.1))

-- with more instances the values are the same
module _ (flow : Text → List ℕ → List Named) (inputs : List Named) (instances more : List Instance)
    (keep : (name : Text) (i : Instance) → instance_named instances name ≡ Some i → instance_named more name ≡ Some i) where
  value_next : (v : Invocation) (before : List Invocation) → (i : Instance) × (instance_named instances v.inst ≡ Some i) → value_in flow more inputs before ≡ value_in flow instances inputs before
      → (value : ValueTree) → value_in flow more inputs (v ∷ before) value ≡ value_in flow instances inputs (v ∷ before) value
  value_next v before (i, found) later (InputValue name) = refl
  value_next v before (i, found) later (Literal width n) = refl
  value_next v before (i, found) later (OutputValue name port) =
      ap₂ (λ (o : Option Instance) (value : ValueTree → ℕ).
      cond (bytes_eq v.name name) (value_named (option_map_or (λ (i : Instance). made_flow flow i (map value v.gives.args)) o []) port) (value (OutputValue name port)))
      (keep v.inst i found ∙ sym found) later

  value_none : (value : ValueTree) → value_in flow more inputs [] value ≡ value_in flow instances inputs [] value
  value_none (InputValue name) = refl
  value_none (Literal width n) = refl
  value_none (OutputValue name port) = refl

  pub value_kept : (vs : List Invocation) → HaveInstances instances vs → value_in flow more inputs vs ≡ value_in flow instances inputs vs
  value_kept [] have = λ j value. value_none value j
  value_kept (v ∷ before) have = let later = value_kept before have.1 in λ j value. value_next v before have.0 later value j

-- one more call
pub values_push : (flow : ℕ → List ℕ → List ℕ) (calls : List Call) (call : Call) (values : List ℕ)
    → values_after flow (calls ++ call ∷ []) values ≡ values_after flow calls values ++ callee_values flow call.callee (map (source_value (values_after flow calls values)) call.args.items)
values_push flow [] call values = refl
values_push flow (c ∷ calls) call values =
    values_push flow calls call (values ++ callee_values flow c.callee (map (source_value values) c.args.items))

pub fit_push : (shapes : List Shape) (widths : List ℕ) (calls : List Call) (then : List ℕ) (call : Call) (shape : Shape) → CallsFit shapes widths calls then
    → HasShape shapes call.callee shape → HaveWidths then call.args.items shape.ins
    → CallsFit shapes widths (calls ++ call ∷ []) (then ++ shape.outs)
fit_push shapes widths [] then call shape same has args =
    let H : List ℕ → Type 0 = λ ws. HaveWidths ws call.args.items shape.ins in
    (shape, has, subst H (sym same) args, ap (λ (ws : List ℕ). ws ++ shape.outs) same)
fit_push shapes widths (c ∷ calls) then call shape (s, is, given, rest) has args =
    (s, is, given, fit_push shapes (widths ++ s.outs) calls then call shape rest has args)

-- calls that fit, and sources of the widths that are wanted
pub fits : (shapes : List Shape) (widths : List ℕ) (calls : List Call) (then : List ℕ) (outs : List Source) (wanted : List ℕ) → CallsFit shapes widths calls then
    → HaveWidths then outs wanted → Fit shapes widths calls outs wanted
fits shapes widths [] then outs wanted same have = let H : List ℕ → Type 0 = λ ws. HaveWidths ws outs wanted in subst H (sym same) have
fits shapes widths (c ∷ calls) then outs wanted (s, is, given, rest) have =
    (s, is, given, fits shapes (widths ++ s.outs) calls then outs wanted rest have)
