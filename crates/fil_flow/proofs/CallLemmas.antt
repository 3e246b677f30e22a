-- That the places hold, after these calls, the values of what they stand for, and in their widths.
use Rattle.std.proofs.Common.{◌≡◌, ℕ, List, [], ◌∷◌, ◌++◌, length, map, reverse, slice_get, Contains, Option, Some, None, option_map, refl, sym, ap, ap₂, subst, ◌∙◌, arith}
use Rattle.std.specs.List.{AllZip}
use Rattle.std.specs.Option.{option_and_then, option_map_or}
use Rattle.std.specs.Str.{bytes_eq}
use Rattle.std.proofs.lemmas.List.{map-append, reverse-append}
use Rattle.std.proofs.lemmas.Option.{none-some, same_Some, slice_get-map, get_or_from_slice_get}
use Rattle.std.proofs.lemmas.Simd.{map-map}
use Rattle.hw_names.specs.Name.{Text, AreDistinct}
use Rattle.fil_ast.specs.Flow.{Named, flow_of, made_flow, value_in, value_named, with_values}
use Rattle.fil_ast.specs.Items.{scope_after}
use Rattle.fil_ast.specs.Naming.{invocation_names}
use Rattle.fil_ast.specs.Scope.{Instance, Invocation, Result, Scope, instance_named, invocation_named, result_at, signature_in, sig_port_named}
use Rattle.fil_ast.specs.Signature.{SigPort, Signature, sig_port}
use Rattle.fil_ast.specs.Tree.{Component, DataPort, Design, ValueTree, InputValue, OutputValue, Literal}
use Rattle.fil_ast.specs.Typing.{value_width}
use Rattle.fil_flow.specs.inside.Body.{Calls, IsEarlier, IsCalleeOf, IsSourceOf, data_names, outputs_from, outputs_of, plus_instance, plus_invocation}
use Rattle.fil_flow.specs.inside.Planning.{CanInvoke, ShowsCalls, value_so_far}
use Rattle.fil_flow.specs.Plans.{HaveWidths, callee_values, source_value, source_width, values_after}
use Rattle.fil_flow.specs.Shown.{component_shape, flow_at, port_widths}
use Rattle.fil_flow.specs.declared.body.Invoked.{Invoked}
use Rattle.fil_flow.specs.declared.earlier.Earlier.{Earlier}
use Rattle.fil_flow.specs.declared.plan.Call.{Call}
use Rattle.fil_flow.specs.declared.plan.Source.{Source}
use Rattle.fil_flow.specs.declared.plan.Source.TheVariants as source
use Rattle.fil_flow.proofs.BodyLemmas.{get_kept}
use Rattle.fil_flow.proofs.CalleeLemmas.{Gives, gives, named_names, named_values, sig_names, sig_shape, sig_widths}
use Rattle.fil_flow.proofs.Lookups.{each_found, find_last, find_named, find_nowhere, map_agree, same_name}
use Rattle.fil_flow.proofs.ValueLemmas.{fit_push, have_called, value_before, value_here, value_kept, values_push}
use Rattle.fil_flow.proofs.PairLemmas.{zip_maps}
use Rattle.fil_flow.proofs.ScopeLemmas.{keep_instance, width_output, widths_instance, widths_invocation}

-- ---- what a source gives

whole : (o p : Option ℕ) → ◌≡◌ {A = Option (Option ℕ)} (option_map Some o) (Some p) → o ≡ p
whole None p e = absurd (none-some p e)
whole (Some x) p e = same_Some (Some x) p e

pub source_width_is : (scope : Scope) (held : List ValueTree) (widths : List ℕ) (value : ValueTree) (s : Source) → map (value_width scope) held ≡ map Some widths
    → IsSourceOf held value s → source_width widths s ≡ value_width scope value
source_width_is scope held widths value (source.Place place) same at =
    whole (slice_get widths place) (value_width scope value)
    (sym (slice_get-map Some widths place) ∙ ap (λ (ws : List (Option ℕ)). slice_get ws place) (sym same)
    ∙ slice_get-map (value_width scope) held place ∙ ap (option_map (value_width scope)) at)
source_width_is scope held widths value (source.Literal bits) same is = sym (ap (value_width scope) is)

pub source_value_is : (scope : Scope) (inputs : List Named) (held : List ValueTree) (values : List ℕ) (value : ValueTree) (s : Source)
    → values ≡ map (value_so_far scope inputs) held → IsSourceOf held value s → source_value values s ≡ value_so_far scope inputs value
source_value_is scope inputs held values value (source.Place place) are at =
    get_or_from_slice_get values place (value_so_far scope inputs value) 0
    (ap (λ (vs : List ℕ). slice_get vs place) are ∙ slice_get-map (value_so_far scope inputs) held place ∙ ap (option_map (value_so_far scope inputs)) at)
source_value_is scope inputs held values value (source.Literal bits) are is = sym (ap (value_so_far scope inputs) is)

-- where places are added, a source gives the same
pub source_kept : (held more : List ValueTree) (value : ValueTree) (s : Source) → IsSourceOf held value s → IsSourceOf (held ++ more) value s
source_kept held more value (source.Place place) at = get_kept held more place value at
source_kept held more value (source.Literal bits) is = is

-- ---- before any statement

with_names : (ports : List DataPort) (args : List ℕ) → length args ≡ length ports → named_names (with_values ports args) ≡ data_names ports
with_names [] [] long = refl
with_names [] (a ∷ args) long = absurd (omega arith)
with_names (p ∷ ports) [] long = absurd (omega arith)
with_names (p ∷ ports) (a ∷ args) long = ap (λ (ts : List Text). p.name ∷ ts) (with_names ports args (omega arith))

with_args : (ports : List DataPort) (args : List ℕ) → length args ≡ length ports → named_values (with_values ports args) ≡ args
with_args [] [] long = refl
with_args [] (a ∷ args) long = absurd (omega arith)
with_args (p ∷ ports) [] long = absurd (omega arith)
with_args (p ∷ ports) (a ∷ args) long = ap (λ (vs : List ℕ). a ∷ vs) (with_args ports args (omega arith))

-- each port is found by its name
ports_found : (ports : List SigPort) → AreDistinct (sig_names ports)
    → map (λ (t : Text). option_map (λ (p : SigPort). p.width) (sig_port_named ports t)) (sig_names ports) ≡ map Some (sig_widths ports)
ports_found ports distinct =
    sym (map-map (option_map (λ (p : SigPort). p.width)) (sig_port_named ports) (sig_names ports))
    ∙ ap (map (option_map (λ (p : SigPort). p.width))) (each_found (λ (p : SigPort). p.name) sig_port_named Some (λ p ports name. refl) ports distinct)
    ∙ map-map (option_map (λ (p : SigPort). p.width)) Some ports ∙ sym (map-map Some (λ (p : SigPort). p.width) ports)

-- each value is found by its name
values_found : (ports : List Named) → AreDistinct (named_names ports) → map (value_named ports) (named_names ports) ≡ named_values ports
values_found ports distinct = each_found (λ (p : Named). p.name) value_named (λ (p : Named). p.value) (λ p ports name. refl) ports distinct

module _ (before : Design) (c : Component) (distinct : AreDistinct (data_names c.ins)) where
  abbrev ports : List SigPort
  ports = map (sig_port c.events) c.ins

  names_are : sig_names ports ≡ data_names c.ins
  names_are = map-map (λ (p : SigPort). p.name) (sig_port c.events) c.ins

  input_widths : map (value_width (scope_after before c [])) (map InputValue (data_names c.ins)) ≡ map Some (port_widths c.ins)
  input_widths =
      let D : List Text → Type 0 = AreDistinct in
      map-map (value_width (scope_after before c [])) InputValue (data_names c.ins)
      ∙ ap (map (λ (t : Text). option_map (λ (p : SigPort). p.width) (sig_port_named ports t))) (sym names_are)
      ∙ ports_found ports (subst D (sym names_are) distinct)
      ∙ ap (map Some) (map-map (λ (p : SigPort). p.width) (sig_port c.events) c.ins)

  input_values : (args : List ℕ) → length args ≡ length c.ins → args ≡ map (value_so_far (scope_after before c []) (with_values c.ins args)) (map InputValue (data_names c.ins))
  input_values args long =
      let D : List Text → Type 0 = AreDistinct in
      let names = with_names c.ins args long in
      sym (map-map (value_so_far (scope_after before c []) (with_values c.ins args)) InputValue (data_names c.ins)
      ∙ ap (map (value_named (with_values c.ins args))) (sym names)
      ∙ values_found (with_values c.ins args) (subst D (sym names) distinct)
      ∙ with_args c.ins args long)

  pub calls_start : ShowsCalls (scope_after before c []) (map InputValue (data_names c.ins)) []
  calls_start = record {
    widths = port_widths c.ins;
    fit = refl;
    held_widths = input_widths;
    held_values = input_values;
  }

module _ (earlier : Earlier) (scope : Scope) (held : List ValueTree) (calls : List Call) (shown : ShowsCalls scope held calls) where
  -- ---- one more instance

  pub calls_instance : (i : Instance) (invoked : List Invoked) → AllZip (Calls earlier scope.instances) scope.invocations invoked → ShowsCalls (plus_instance scope i) held calls
  calls_instance i invoked all =
      let more = scope.instances ++ i ∷ [] in
      record {
        widths = shown.widths;
        fit = shown.fit;
        held_widths = widths_instance scope i held shown.widths shown.held_widths;
        held_values = λ args long.
            let inputs = with_values scope.comp.ins args in
            shown.held_values args long
            ∙ ap (λ (value : ValueTree → ℕ). map value held)
            (sym (value_kept (flow_of (reverse scope.comps)) inputs scope.instances more (keep_instance scope i) (reverse scope.invocations)
            (have_called earlier scope.instances scope.invocations invoked all)));
      }

  -- ---- one more invocation

  module _ (v : Invocation) (i : Instance) (call : Call) (known : IsEarlier scope.comps earlier) (found : instance_named scope.instances v.inst ≡ Some i)
      (made : IsCalleeOf earlier i call.callee) (can : CanInvoke scope v) (all : AllZip (IsSourceOf held) v.gives.args call.args.items) where
    abbrev outs : List Text
    outs = outputs_of earlier call.callee

    abbrev after : Scope
    after = plus_invocation scope v

    it : Gives scope.comps earlier call.callee i can.sig
    it = gives scope.comps earlier call.callee i can.sig known made (sym (ap (option_and_then (λ (i : Instance). signature_in scope.comps i.made i.params)) found) ∙ can.signed)

    args_fit : HaveWidths shown.widths call.args.items (sig_widths can.sig.ins)
    args_fit =
        sym (zip_maps (IsSourceOf held) (value_width scope) (source_width shown.widths)
        (λ value s is. sym (source_width_is scope held shown.widths value s shown.held_widths is)) v.gives.args call.args.items all)
        ∙ can.widths ∙ sym (map-map Some (λ (p : SigPort). p.width) can.sig.ins)

    -- the invocation is found by its name
    named : invocation_named (scope.invocations ++ v ∷ []) v.name ≡ Some v
    named =
        find_last (λ (w : Invocation). bytes_eq w.name v.name) scope.invocations v (find_nowhere (λ (w : Invocation). w.name) scope.invocations v.name can.new) (same_name v.name v.name refl)

    port_width : (o : Option SigPort) → option_map (λ (r : Result). r.port.width) (option_map (λ (p : SigPort). record { invocation = v; port = p }) o) ≡ option_map (λ (p : SigPort). p.width) o
    port_width None = refl
    port_width (Some p) = refl

    output_width_is : (port : Text) → value_width after (OutputValue v.name port) ≡ option_map (λ (p : SigPort). p.width) (sig_port_named can.sig.outs port)
    output_width_is port =
        ap (λ o. option_map (λ (r : Result). r.port.width) (option_and_then (λ (w : Invocation). result_at after w port) o)) named
        ∙ ap (λ o. option_map (λ (r : Result). r.port.width)
        (option_map (λ (p : SigPort). record { invocation = v; port = p }) (option_and_then (λ (s : Signature). sig_port_named s.outs port) o))) can.signed
        ∙ port_width (sig_port_named can.sig.outs port)

    new_widths : map (value_width after) (outputs_from v.name outs) ≡ map Some (sig_widths can.sig.outs)
    new_widths =
        map-map (value_width after) (OutputValue v.name) outs
        ∙ map_agree _ (λ (t : Text). option_map (λ (p : SigPort). p.width) (sig_port_named can.sig.outs t)) outs (λ t there. output_width_is t)
        ∙ ap (map (λ (t : Text). option_map (λ (p : SigPort). p.width) (sig_port_named can.sig.outs t))) it.outputs
        ∙ ports_found can.sig.outs it.distinct

    old_widths : map (value_width after) held ≡ map Some shown.widths
    old_widths =
        widths_invocation scope v held shown.widths shown.held_widths

    module _ (args : List ℕ) (long : length args ≡ length scope.comp.ins) where
      abbrev flow : Text → List ℕ → List Named
      flow = flow_of (reverse scope.comps)

      abbrev inputs : List Named
      inputs = with_values scope.comp.ins args

      abbrev before : List Invocation
      before = reverse scope.invocations

      abbrev given : List ℕ
      given = map (value_so_far scope inputs) v.gives.args

      abbrev values : List ℕ
      values = values_after (flow_at scope.comps) calls args

      -- the value with the new invocation
      abbrev value_now : ValueTree → ℕ
      value_now = value_in flow scope.instances inputs (v ∷ before)

      args_are : map (source_value values) call.args.items ≡ given
      args_are =
          sym (zip_maps (IsSourceOf held) (value_so_far scope inputs) (source_value values)
          (λ value s is. sym (source_value_is scope inputs held values value s (shown.held_values args long) is)) v.gives.args call.args.items all)

      is_now : value_so_far after inputs ≡ value_now
      is_now = ap (value_in flow scope.instances inputs) (reverse-append scope.invocations (v ∷ []))

      old_value : (value : ValueTree) (w : ℕ) → value_width scope value ≡ Some w → value_now value ≡ value_so_far scope inputs value
      old_value (InputValue name) w is = refl
      old_value (Literal width n) w is = refl
      old_value (OutputValue invocation port) w is =
          let (p, o, width) = width_output scope invocation port w is in
          let there : Contains (invocation_names scope.invocations) invocation = find_named (λ (x : Invocation). x.name) scope.invocations invocation o.v o.named in
          value_before flow scope.instances inputs v before invocation port (λ same. can.new (subst (λ (t : Text). Contains (invocation_names scope.invocations) t) (sym same) there))

      old_values : (old : List ValueTree) (widths : List ℕ) → map (value_width scope) old ≡ map Some widths → map value_now old ≡ map (value_so_far scope inputs) old
      old_values [] widths same = refl
      old_values (value ∷ old) [] same = absurd (cc)
      old_values (value ∷ old) (w ∷ widths) same =
          let head : value_width scope value ≡ Some w = cc in
          let tail : map (value_width scope) old ≡ map Some widths = cc in
          ap₂ ◌∷◌ (old_value value w head) (old_values old widths tail)

      new_value : (port : Text) → value_now (OutputValue v.name port) ≡ value_named (made_flow flow i given) port
      new_value port =
          value_here flow scope.instances inputs v before port
          ∙ ap (λ o. value_named (option_map_or (λ (j : Instance). made_flow flow j given) o []) port) found

      new_values : map value_now (outputs_from v.name outs) ≡ named_values (made_flow flow i given)
      new_values =
          let D : List Text → Type 0 = AreDistinct in
          map-map value_now (OutputValue v.name) outs
          ∙ map_agree (λ (t : Text). value_now (OutputValue v.name t)) (value_named (made_flow flow i given)) outs (λ t there. new_value t)
          ∙ ap (map (value_named (made_flow flow i given))) (it.outputs ∙ sym (it.names given))
          ∙ values_found (made_flow flow i given) (subst D (sym (it.names given)) it.distinct)

      all_values : values_after (flow_at scope.comps) (calls ++ call ∷ []) args ≡ map (value_so_far after inputs) (held ++ outputs_from v.name outs)
      all_values =
          values_push (flow_at scope.comps) calls call args
          ∙ ap (λ (xs : List ℕ). values ++ callee_values (flow_at scope.comps) call.callee xs) args_are
          ∙ ap₂ ◌++◌ (shown.held_values args long ∙ sym (old_values held shown.widths shown.held_widths)) (sym (new_values ∙ it.values given))
          ∙ sym (map-append value_now held (outputs_from v.name outs))
          ∙ ap (λ (value : ValueTree → ℕ). map value (held ++ outputs_from v.name outs)) (sym is_now)

    pub calls_invocation : ShowsCalls after (held ++ outputs_from v.name outs) (calls ++ call ∷ [])
    calls_invocation = record {
      widths = shown.widths ++ sig_widths can.sig.outs;
      fit = fit_push (map component_shape scope.comps) (port_widths scope.comp.ins) calls shown.widths call (sig_shape can.sig) shown.fit it.shape args_fit;
      held_widths = map-append (value_width after) held (outputs_from v.name outs) ∙ ap₂ ◌++◌ old_widths new_widths ∙ sym (map-append Some shown.widths (sig_widths can.sig.outs));
      held_values = all_values;
    }
