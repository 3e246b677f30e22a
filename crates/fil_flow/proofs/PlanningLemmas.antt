-- That a component is planned further with each statement.
use Rattle.std.proofs.Common.{◌≡◌, ℕ, zero, suc, ◌+◌, ◌<◌, Bool, true, false, cond, List, [], ◌∷◌, ◌++◌, length, map, flat_map, set, take, slice_get, Contains, Option, Some, None, Vec, Global, option_map, is_some, inl, refl, sym, ap, ap₂, subst, ◌∙◌, arith}
use Rattle.std.specs.List.{All, AllZip}
use Rattle.std.specs.Option.{IfSome, IsSome, option_and_then, option_map_or, option_or, unwrap_or}
use Rattle.std.specs.Str.{bytes_eq}
use Rattle.std.proofs.lemmas.Bool.{false≢true}
use Rattle.std.proofs.lemmas.List.{append-nil, length-map, take_more}
use Rattle.std.proofs.lemmas.List.Concat.{flat_map-append}
use Rattle.std.proofs.lemmas.List.Elements.{All-contains, Contains-append_right}
use Rattle.std.proofs.lemmas.Option.{get_or_from_slice_get, option_and_then_some, same_Some, slice_get-map, slice_get_within}
use Rattle.std.proofs.lemmas.Simd.{map-map}
use Rattle.hw_names.specs.Name.{Text, AreDistinct}
use Rattle.fil_ast.specs.Connections.{connected_at}
use Rattle.fil_ast.specs.Flow.{Named, connected_to, with_values}
use Rattle.fil_ast.specs.Items.{TheStatement, scope_after}
use Rattle.fil_ast.specs.Naming.{IsKnownValue, instance_names, invocation_names, port_names}
use Rattle.fil_ast.specs.Rules.{F1, KeepsComponent, all_rules}
use Rattle.fil_ast.specs.Scope.{Instance, Invocation, Result, Scope, input_of, instance_named, instance_signature, instances_at, invocations_at, output_of, result_of, signature_in}
use Rattle.fil_ast.specs.Signature.{SigPort, Signature, sig_port}
use Rattle.fil_ast.specs.Tree.{Component, DataPort, Design, Giving, Statement, New, Call, Both, Connect, ValueTree, InputValue, OutputValue, Literal}
use Rattle.fil_ast.specs.Typing.{GivesEach, GivesWidths, value_width}
use Rattle.fil_flow.specs.inside.Body.{IsBody, IsCalleeOf, IsSourceOf, data_names, outputs_from, outputs_of, plus_instance, plus_invocation}
use Rattle.fil_flow.specs.inside.Planning.{CanInvoke, IsPlanning, KeepsStatement, ShowsCalls, ShowsOutput, connected_or_zero, grown, value_so_far}
use Rattle.fil_flow.specs.Plans.{HaveWidths, source_value, source_width, values_after}
use Rattle.fil_flow.specs.Shown.{ShowsPlan, component_shape, flow_at, port_widths}
use Rattle.fil_flow.specs.declared.body.Body.{Body}
use Rattle.fil_flow.specs.declared.earlier.Earlier.{Earlier}
use Rattle.fil_flow.specs.declared.plan.Plan.{Plan}
use Rattle.fil_flow.specs.declared.plan.Source.{Source}
use Rattle.fil_flow.specs.declared.planning.Planning.{Planning}
use Rattle.fil_flow.specs.declared.plan.Call as calling
use Rattle.fil_flow.proofs.CallLemmas.{calls_instance, calls_invocation, source_kept, source_value_is, source_width_is}
use Rattle.fil_flow.proofs.Lookups.{find_at_place, find_contains, find_last, find_nowhere, map_agree, other_name, same_name}
use Rattle.fil_flow.proofs.ValueLemmas.{fits}
use Rattle.fil_flow.proofs.PairLemmas.{zip_length, zip_maps, zip_set, zip_weaker}
use Rattle.fil_flow.proofs.ScopeLemmas.{option_map_some, some_of, width_instance, width_invocation, widths_instance}

-- ---- what an output is connected to

connected_append : (done rest : List Statement) (name : Text) → connected_to (done ++ rest) name ≡ option_or (connected_to done name) (connected_to rest name)
connected_append [] rest name = refl
connected_append (Connect output value ∷ done) rest name = by (bytes_eq output name) (connected_append done rest name)
  where
    by : (b : Bool) → connected_to (done ++ rest) name ≡ option_or (connected_to done name) (connected_to rest name)
        → cond b (Some value) (connected_to (done ++ rest) name) ≡ option_or (cond b (Some value) (connected_to done name)) (connected_to rest name)
    by true later = refl
    by false later = later
connected_append (New n made params ∷ done) rest name = connected_append done rest name
connected_append (Call n inst given ∷ done) rest name = connected_append done rest name
connected_append (Both n made params given ∷ done) rest name = connected_append done rest name

connected_absent : (done : List Statement) (name : Text) → (Contains (flat_map connected_at done) name → ⊥) → connected_to done name ≡ None
connected_absent [] name absent = refl
connected_absent (Connect output value ∷ done) name absent =
    ap (λ (b : Bool). cond b (Some value) (connected_to done name)) (other_name output name (λ same. absent (zero, omega arith, same)))
    ∙ connected_absent done name (λ (k, within, at). absent (suc k, omega arith, at))
connected_absent (New n made params ∷ done) name absent = connected_absent done name absent
connected_absent (Call n inst given ∷ done) name absent = connected_absent done name absent
connected_absent (Both n made params given ∷ done) name absent = connected_absent done name absent

or_none : {X : Type 0} (o : Option X) → option_or o None ≡ o
or_none None = refl
or_none (Some x) = refl

connected_same : (done : List Statement) (s : Statement) (name : Text) → connected_to (s ∷ []) name ≡ None → connected_to (done ++ s ∷ []) name ≡ connected_to done name
connected_same done s name none = connected_append done (s ∷ []) name ∙ ap (option_or (connected_to done name)) none ∙ or_none (connected_to done name)

connected_other : (done : List Statement) (output : Text) (value : ValueTree) (name : Text) → (output ≡ name → ⊥) → connected_to (done ++ Connect output value ∷ []) name ≡ connected_to done name
connected_other done output value name apart =
    connected_same done (Connect output value) name (ap (λ (b : Bool). cond b (Some value) None) (other_name output name apart))

connected_new : (done : List Statement) (output : Text) (value : ValueTree) → (Contains (flat_map connected_at done) output → ⊥) → connected_to (done ++ Connect output value ∷ []) output ≡ Some value
connected_new done output value absent =
    connected_append done (Connect output value ∷ []) output
    ∙ ap (λ (o : Option ValueTree). option_or o (connected_to (Connect output value ∷ []) output)) (connected_absent done output absent)
    ∙ ap (λ (b : Bool). cond b (Some value) None) (same_name output output refl)

-- ---- what an invocation needs

same_widths : (scope : Scope) (args : List ValueTree) (ports : List SigPort) → length args ≡ length ports
    → ((k : ℕ) (arg : ValueTree) (port : SigPort) → slice_get args k ≡ Some arg → slice_get ports k ≡ Some port → value_width scope arg ≡ Some port.width)
    → map (value_width scope) args ≡ map (λ (p : SigPort). Some p.width) ports
same_widths scope [] [] long each = refl
same_widths scope [] (p ∷ ports) long each = absurd (omega arith)
same_widths scope (a ∷ args) [] long each = absurd (omega arith)
same_widths scope (a ∷ args) (p ∷ ports) long each =
    ap₂ ◌∷◌ (each zero a p refl refl) (same_widths scope args ports (omega arith) (λ k arg port at_arg at_port. each (suc k) arg port at_arg at_port))

known_width : (scope : Scope) (value : ValueTree) (w : ℕ) → value_width scope value ≡ Some w → IsKnownValue scope value
known_width scope (InputValue name) w is = option_map_some (λ (p : SigPort). p.width) (input_of scope name) w is (λ p found width. ap is_some found)
known_width scope (OutputValue invocation port) w is = option_map_some (λ (r : Result). r.port.width) (result_of scope invocation port) w is (λ r found width. ap is_some found)
known_width scope (Literal width n) w is = tt

-- values that have widths are known
pub known_values : (scope : Scope) (args : List ValueTree) (ports : List SigPort) → map (value_width scope) args ≡ map (λ (p : SigPort). Some p.width) ports → All (IsKnownValue scope) args
known_values scope [] ports same k d within = absurd (omega arith)
known_values scope (a ∷ args) [] same k d within = absurd (cc)
known_values scope (a ∷ args) (p ∷ ports) same zero d within = let head : value_width scope a ≡ Some p.width = cc in known_width scope a p.width head
known_values scope (a ∷ args) (p ∷ ports) same (suc k) d within =
    let tail : map (value_width scope) args ≡ map (λ (p : SigPort). Some p.width) ports = cc in
    known_values scope args ports tail k d (omega arith)

module _ (scope : Scope) (done : List Statement) (name : Text) (gives : Giving) where
  among_all : Contains (invocation_names scope.invocations) name → Contains (port_names scope.comp ++ invocation_names scope.invocations) name
  among_all there = Contains-append_right (port_names scope.comp) (invocation_names scope.invocations) name there

  pub call_can : (inst : Text) → All (λ (i : Instance). IsSome (signature_in scope.comps i.made i.params)) scope.instances → KeepsStatement scope done (Call name inst gives)
      → CanInvoke scope (record { name = name; inst = inst; gives = gives })
  call_can inst signed kept =
      let (i, found) = some_of (instance_named scope.instances inst) kept.known.0 in
      let there = find_contains (λ (i : Instance). bytes_eq i.name inst) scope.instances i found in
      let has = All-contains (λ (i : Instance). IsSome (signature_in scope.comps i.made i.params)) scope.instances i signed there in
      let (sig, is_sig) = some_of (signature_in scope.comps i.made i.params) has in
      let of_inst : instance_signature scope inst ≡ Some sig = ap (option_and_then (λ (i : Instance). signature_in scope.comps i.made i.params)) found ∙ is_sig in
      let W : Option Signature → Type 0 = λ o. IfSome o (λ sig. GivesWidths scope sig gives) in
      let E : Option Signature → Type 0 = λ o. IfSome o (λ sig. GivesEach sig gives) in
      let widths : GivesWidths scope sig gives = subst W of_inst kept.widths in
      let each : GivesEach sig gives = subst E of_inst kept.numbers in
      record {
        new = λ there.
            kept.new.invocations 0 (record { name = name; inst = inst; gives = gives }) (omega arith) (among_all there);
        sig = sig;
        signed = of_inst;
        literals = widths.literals;
        widths = same_widths scope gives.args sig.ins each.args widths.widths;
      }

  module _ (made : Text) (params : List ℕ) (kept : KeepsStatement scope done (Both name made params gives)) where
    abbrev i : Instance
    i = record { name = name; made = made; params = params }

    pub both_new : Contains (instance_names scope.instances) name → ⊥
    both_new there = kept.new.instances 0 i (omega arith) there

    pub both_can : CanInvoke (plus_instance scope i) (record { name = name; inst = name; gives = gives })
    both_can =
        let (sig, is_sig) = some_of (signature_in scope.comps made params) kept.widths.0 in
        let W : Option Signature → Type 0 = λ o. IfSome o (λ sig. GivesWidths scope sig gives) in
        let E : Option Signature → Type 0 = λ o. IfSome o (λ sig. GivesEach sig gives) in
        let widths : GivesWidths scope sig gives = subst W is_sig kept.widths.1 in
        let each : GivesEach sig gives = subst E is_sig kept.numbers in
        let here = same_widths scope gives.args sig.ins each.args widths.widths in
        let found : instance_named (scope.instances ++ i ∷ []) name ≡ Some i =
        find_last (λ (j : Instance). bytes_eq j.name name) scope.instances i (find_nowhere (λ (j : Instance). j.name) scope.instances name both_new) (same_name name name refl) in
        let widths_of = map (λ (p : SigPort). p.width) sig.ins in
        record {
          new = λ there. kept.new.invocations 0 (record { name = name; inst = name; gives = gives }) (omega arith) (among_all there);
          sig = sig;
          signed = ap (option_and_then (λ (i : Instance). signature_in scope.comps i.made i.params)) found ∙ is_sig;
          literals = widths.literals;
          widths =
              widths_instance scope i gives.args widths_of (here ∙ sym (map-map Some (λ (p : SigPort). p.width) sig.ins))
              ∙ map-map Some (λ (p : SigPort). p.width) sig.ins;
        }

-- ---- one more instance, one more invocation, one more connection

module _ (earlier : Earlier) (scope : Scope) (done : List Statement) (old : Planning) (known : IsPlanning earlier scope done old) where
  pub planning_instance : (i : Instance) (body : Body) → IsBody earlier (plus_instance scope i) known.held body → IsPlanning earlier (plus_instance scope i) done (record old { body = body })
  planning_instance i body is_body = record {
    held = known.held;
    body = is_body;
    calls = calls_instance earlier scope known.held old.calls.items known.calls i old.body.invoked.items known.body.invoked;
    out_names = known.out_names;
    outs =
        zip_weaker (ShowsOutput scope known.held done) (ShowsOutput (plus_instance scope i) known.held done)
        (λ p s shows. record {
          is_source = shows.is_source;
          width = width_instance scope i (connected_or_zero done p) p.width shows.width;
        })
        scope.comp.outs old.outs.items known.outs;
  }

  pub planning_invocation : (v : Invocation) (i : Instance) (call : calling.Call) (body : Body) (calls : Vec calling.Call Global) → instance_named scope.instances v.inst ≡ Some i
      → IsCalleeOf earlier i call.callee → CanInvoke scope v → AllZip (IsSourceOf known.held) v.gives.args call.args.items
      → IsBody earlier (plus_invocation scope v) (known.held ++ outputs_from v.name (outputs_of earlier call.callee)) body → calls.items ≡ old.calls.items ++ call ∷ []
      → IsPlanning earlier (plus_invocation scope v) done (record old { body = body; calls = calls })
  planning_invocation v i call body calls found made can all is_body put =
      let more = outputs_from v.name (outputs_of earlier call.callee) in
      let S : List calling.Call → Type 0 = ShowsCalls (plus_invocation scope v) (known.held ++ more) in
      record {
        held = known.held ++ more;
        body = is_body;
        calls = subst S (sym put) (calls_invocation earlier scope known.held old.calls.items known.calls v i call known.body.components found made can all);
        out_names = known.out_names;
        outs =
            zip_weaker (ShowsOutput scope known.held done) (ShowsOutput (plus_invocation scope v) (known.held ++ more) done)
            (λ p s shows. record {
              is_source = source_kept known.held more (connected_or_zero done p) s shows.is_source;
              width = width_invocation scope v (connected_or_zero done p) p.width shows.width;
            })
            scope.comp.outs old.outs.items known.outs;
      }

  -- an output keeps its source where what it is connected to stays
  shows_kept : (more : List Statement) (p : DataPort) (s : Source) → connected_to more p.name ≡ connected_to done p.name → ShowsOutput scope known.held done p s → ShowsOutput scope known.held more p s
  shows_kept more p s same shows =
      let value : connected_or_zero done p ≡ connected_or_zero more p = ap (λ (o : Option ValueTree). unwrap_or o (Literal p.width 0)) (sym same) in
      let I : ValueTree → Type 0 = λ x. IsSourceOf known.held x s in
      record { is_source = subst I value shows.is_source; width = ap (value_width scope) (sym value) ∙ shows.width }

  -- a statement that connects nothing
  pub planning_done : (s : Statement) → ((name : Text) → connected_to (s ∷ []) name ≡ None) → IsPlanning earlier scope (done ++ s ∷ []) old
  planning_done s none = record {
    held = known.held;
    body = known.body;
    calls = known.calls;
    out_names = known.out_names;
    outs =
        zip_weaker (ShowsOutput scope known.held done) (ShowsOutput scope known.held (done ++ s ∷ []))
        (λ p source shows. shows_kept (done ++ s ∷ []) p source (connected_same done s p.name (none p.name)) shows)
        scope.comp.outs old.outs.items known.outs;
  }

  pub planning_connect : (output : Text) (value : ValueTree) (n : ℕ) (s : Source) (outs : Vec Source Global) → KeepsStatement scope done (Connect output value)
      → AreDistinct old.out_names → slice_get old.out_names n ≡ Some output → IsSourceOf known.held value s
      → outs.items ≡ set old.outs.items n s → IsPlanning earlier scope (done ++ Connect output value ∷ []) (record old { outs = outs })
  planning_connect output value n s outs kept distinct at is put =
      let D : List Text → Type 0 = AreDistinct in
      let more = done ++ Connect output value ∷ [] in
      let differ = subst D known.out_names distinct in
      let at_n = ap (λ (ts : List Text). slice_get ts n) (sym known.out_names) ∙ at in
      let Z : List Source → Type 0 = AllZip (ShowsOutput scope known.held more) scope.comp.outs in
      record {
        held = known.held;
        body = known.body;
        calls = known.calls;
        out_names = known.out_names;
        outs = subst Z (sym put)
            (zip_set (ShowsOutput scope known.held done) (ShowsOutput scope known.held more) (λ (p : DataPort). p.name) output
            (λ p source apart shows. shows_kept more p source (connected_other done output value p.name (λ same. apart (sym same))) shows)
            scope.comp.outs old.outs.items n s differ at_n known.outs (λ p at_p. here p at_p));
      }
    where
      here : (p : DataPort) → slice_get scope.comp.outs n ≡ Some p → ShowsOutput scope known.held (done ++ Connect output value ∷ []) p s
      here p at_p =
          let D : List Text → Type 0 = AreDistinct in
          let ports = map (sig_port scope.comp.events) scope.comp.outs in
          let names : map (λ (q : SigPort). q.name) ports ≡ data_names scope.comp.outs = map-map (λ (q : SigPort). q.name) (sig_port scope.comp.events) scope.comp.outs in
          let at_n : slice_get (data_names scope.comp.outs) n ≡ Some output = ap (λ (ts : List Text). slice_get ts n) (sym known.out_names) ∙ at in
          let named : p.name ≡ output = same_Some p.name output (sym (slice_get-map (λ (q : DataPort). q.name) scope.comp.outs n ∙ ap (option_map (λ (q : DataPort). q.name)) at_p) ∙ at_n) in
          let found : output_of scope output ≡ Some (sig_port scope.comp.events p) =
          find_at_place (λ (q : SigPort). q.name) ports output n (subst D (sym names) (subst D known.out_names distinct)) (ap (λ (ts : List Text). slice_get ts n) names ∙ at_n)
          ∙ slice_get-map (sig_port scope.comp.events) scope.comp.outs n ∙ ap (option_map (sig_port scope.comp.events)) at_p in
          let W : Option SigPort → Type 0 = λ o. IfSome o (λ port. value_width scope value ≡ Some port.width) in
          let width : value_width scope value ≡ Some p.width = subst W found kept.widths.1 in
          let connected : connected_to (done ++ Connect output value ∷ []) p.name ≡ Some value =
          ap (connected_to (done ++ Connect output value ∷ [])) named ∙ connected_new done output value kept.once.0 in
          let is_value : connected_or_zero (done ++ Connect output value ∷ []) p ≡ value = ap (λ (o : Option ValueTree). unwrap_or o (Literal p.width 0)) connected in
          let I : ValueTree → Type 0 = λ x. IsSourceOf known.held x s in
          record { is_source = subst I (sym is_value) is; width = ap (value_width scope) is_value ∙ width }

-- ---- from statement to statement, and the end

pub scope_more : (before : Design) (c : Component) (done : List Statement) (s : Statement) → grown (scope_after before c done) s ≡ scope_after before c (done ++ s ∷ [])
scope_more before c done s =
    ap₂ (λ (is : List Instance) (vs : List Invocation). record { comps = before; comp = c; instances = is; invocations = vs })
    (sym (flat_map-append instances_at done (s ∷ []) ∙ ap (λ (is : List Instance). flat_map instances_at done ++ is) (append-nil (instances_at s))))
    (sym (flat_map-append invocations_at done (s ∷ []) ∙ ap (λ (vs : List Invocation). flat_map invocations_at done ++ vs) (append-nil (invocations_at s))))

pub kept_at : (before : Design) (c : Component) (k : ℕ) (s : Statement) → KeepsComponent all_rules before c → slice_get c.body k ≡ Some s
    → KeepsStatement (scope_after before c (take k c.body)) (take k c.body) s
kept_at before c k s keeps at =
    let all = keeps (suc k) (TheStatement (take k c.body) s) (inl (s, at, refl)) in
    record { new = all 0 F1 (omega arith); known = all 1 F1 (omega arith); widths = all 2 F1 (omega arith); numbers = all 3 F1 (omega arith); once = all 8 F1 (omega arith) }

value_or_zero : (scope : Scope) (inputs : List Named) (o : Option ValueTree) (w : ℕ) → value_so_far scope inputs (unwrap_or o (Literal w 0)) ≡ option_map_or (value_so_far scope inputs) o 0
value_or_zero scope inputs None w = refl
value_or_zero scope inputs (Some value) w = refl

-- a component that is planned to its end has its plan
pub planned : (earlier : Earlier) (before : Design) (c : Component) (planning : Planning) (plan : Plan) → IsPlanning earlier (scope_after before c c.body) c.body planning
    → plan.calls ≡ planning.calls → plan.outs ≡ planning.outs → ShowsPlan before c plan
planned earlier before c planning plan known calls outs =
    let scope = scope_after before c c.body in
    let S : Plan → Type 0 = ShowsPlan before c in
    let whole : record { calls = planning.calls; outs = planning.outs } ≡ plan = ap₂ (λ x y. record { calls = x; outs = y }) (sym calls) (sym outs) in
    let have : HaveWidths known.calls.widths planning.outs.items (port_widths c.outs) =
    sym (zip_maps (ShowsOutput scope known.held c.body) (λ (p : DataPort). Some p.width) (source_width known.calls.widths)
    (λ p s shows. sym (source_width_is scope known.held known.calls.widths (connected_or_zero c.body p) s known.calls.held_widths shows.is_source ∙ shows.width))
    c.outs planning.outs.items known.outs)
    ∙ sym (map-map Some (λ (p : DataPort). p.width) c.outs) in
    subst S whole
    (record {
      fit = fits (map component_shape before) (port_widths c.ins) planning.calls.items known.calls.widths planning.outs.items (port_widths c.outs) known.calls.fit have;
      flow = λ args long.
          let inputs = with_values c.ins args in
          let value = value_so_far scope inputs in
          let values = values_after (flow_at before) planning.calls.items args in
          sym (zip_maps (ShowsOutput scope known.held c.body) (λ (p : DataPort). value (connected_or_zero c.body p)) (source_value values)
          (λ p s shows. sym (source_value_is scope inputs known.held values (connected_or_zero c.body p) s (known.calls.held_values args long) shows.is_source))
          c.outs planning.outs.items known.outs)
          ∙ map_agree (λ (p : DataPort). value (connected_or_zero c.body p)) (λ (p : DataPort). option_map_or value (connected_to c.body p.name) 0) c.outs
          (λ p there. value_or_zero scope inputs (connected_to c.body p.name) p.width)
          ∙ sym (map-map (λ (p : Named). p.value) _ c.outs);
    })

-- ---- each kind of statement

module _ (earlier : Earlier) (scope : Scope) (done : List Statement) (p : Planning) where
  abbrev scope_of : List Instance → List Invocation → Scope
  scope_of is vs = record { comps = scope.comps; comp = scope.comp; instances = is; invocations = vs }

  pub planning_new : (name made : Text) (params : List ℕ) → IsPlanning earlier (plus_instance scope (record { name = name; made = made; params = params })) done p
      → IsPlanning earlier (grown scope (New name made params)) (done ++ New name made params ∷ []) p
  planning_new name made params known =
      let i : Instance = record { name = name; made = made; params = params } in
      let s = New name made params in
      let P : List Invocation → Type 0 = λ vs. IsPlanning earlier (scope_of (scope.instances ++ i ∷ []) vs) (done ++ s ∷ []) p in
      subst P (sym (append-nil scope.invocations)) (planning_done earlier (plus_instance scope i) done p known s (λ name. refl))

  pub planning_call : (name inst : Text) (gives : Giving) → IsPlanning earlier (plus_invocation scope (record { name = name; inst = inst; gives = gives })) done p
      → IsPlanning earlier (grown scope (Call name inst gives)) (done ++ Call name inst gives ∷ []) p
  planning_call name inst gives known =
      let v : Invocation = record { name = name; inst = inst; gives = gives } in
      let s = Call name inst gives in
      let P : List Instance → Type 0 = λ is. IsPlanning earlier (scope_of is (scope.invocations ++ v ∷ [])) (done ++ s ∷ []) p in
      subst P (sym (append-nil scope.instances)) (planning_done earlier (plus_invocation scope v) done p known s (λ name. refl))

  abbrev with_both : (name made : Text) (params : List ℕ) (gives : Giving) → Scope
  with_both name made params gives =
      plus_invocation (plus_instance scope (record { name = name; made = made; params = params })) (record { name = name; inst = name; gives = gives })

  pub planning_both : (name made : Text) (params : List ℕ) (gives : Giving) → IsPlanning earlier (with_both name made params gives) done p
      → IsPlanning earlier (grown scope (Both name made params gives)) (done ++ Both name made params gives ∷ []) p
  planning_both name made params gives known = planning_done earlier (with_both name made params gives) done p known (Both name made params gives) (λ name. refl)

  pub planning_set : (output : Text) (value : ValueTree) → IsPlanning earlier scope (done ++ Connect output value ∷ []) p
      → IsPlanning earlier (grown scope (Connect output value)) (done ++ Connect output value ∷ []) p
  planning_set output value known =
      let P : Scope → Type 0 = λ s. IsPlanning earlier s (done ++ Connect output value ∷ []) p in
      subst P (ap₂ scope_of (sym (append-nil scope.instances)) (sym (append-nil scope.invocations))) known

  -- what is connected is an output
  pub output_unknown : (name : Text) → IsPlanning earlier scope done p → (Contains p.out_names name → ⊥) → IsSome (output_of scope name) → ⊥
  output_unknown name known absent is =
      let ports = map (sig_port scope.comp.events) scope.comp.outs in
      let names : map (λ (q : SigPort). q.name) ports ≡ p.out_names = map-map (λ (q : SigPort). q.name) (sig_port scope.comp.events) scope.comp.outs ∙ sym known.out_names in
      let none = find_nowhere (λ (q : SigPort). q.name) ports name (λ there. absent (subst (λ (ts : List Text). Contains ts name) names there)) in
      absurd (false≢true (sym (ap is_some none) ∙ is))

  pub output_within : (n : ℕ) (name : Text) → IsPlanning earlier scope done p → slice_get p.out_names n ≡ Some name → n < length p.outs.items
  output_within n name known at =
      let long : length p.outs.items ≡ length p.out_names =
      zip_length (ShowsOutput scope known.held done) scope.comp.outs p.outs.items known.outs
      ∙ sym (length-map scope.comp.outs (λ (q : DataPort). q.name)) ∙ ap (length {A = Text}) (sym known.out_names) in
      omega (arith, slice_get_within p.out_names n name at, long)

-- the instance of an invocation
pub can_instance : (scope : Scope) (v : Invocation) → CanInvoke scope v → (i : Instance) × (instance_named scope.instances v.inst ≡ Some i)
can_instance scope v can =
    option_and_then_some (λ (i : Instance). signature_in scope.comps i.made i.params) (instance_named scope.instances v.inst) can.sig can.signed (λ i found signed. (i, found))

-- one statement on
pub planning_step : (earlier : Earlier) (before : Design) (c : Component) (p : Planning) (k : ℕ) (s : Statement) → slice_get c.body k ≡ Some s
    → IsPlanning earlier (grown (scope_after before c (take k c.body)) s) (take k c.body ++ s ∷ []) p
    → IsPlanning earlier (scope_after before c (take (k + 1) c.body)) (take (k + 1) c.body) p
planning_step earlier before c p k s at known =
    let P : Scope → Type 0 = λ scope. IsPlanning earlier scope (take k c.body ++ s ∷ []) p in
    let Q : List Statement → Type 0 = λ done. IsPlanning earlier (scope_after before c done) done p in
    let more : take k c.body ++ s ∷ [] ≡ take (k + 1) c.body =
    ap (λ (x : Statement). take k c.body ++ x ∷ []) (sym (get_or_from_slice_get c.body k s s at)) ∙ sym (take_more c.body k s (slice_get_within c.body k s at)) in
    subst Q more (subst P (scope_more before c (take k c.body) s) known)
