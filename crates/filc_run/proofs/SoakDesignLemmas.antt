-- The design of the soak keeps F1 to F13. This project's.
use Rattle.std.proofs.Common.{◌≡◌, ℕ, zero, suc, ◌+◌, ◌-◌, ◌*◌, ◌<◌, ◌≤◌, ◌^◌, true, false, List, [], ◌∷◌, ◌++◌, map, take, codes, Option, None, Some, refl, sym, ap, ap₂, subst, ◌∙◌, arith, inr, All}
use Rattle.std.specs.Prelude.{bytes_eq, flat_map, Contains, is_some, option_and_then, option_map, slice_get}
use Rattle.std.specs.List.{list_any}
use Rattle.std.proofs.lemmas.List.Elements.{All-cons, All-map, All-nil}
use Rattle.std.proofs.lemmas.Option.{same_Some}
use Rattle.hw_names.specs.Name.{Text}
use Rattle.hw_prims.specs.Table.{inputs_of, is_made, is_primitive, outputs_of, prim_names, prim_of, with_params}
use Rattle.fil_ast.specs.Connections.{connected_at}
use Rattle.fil_ast.specs.Items.{scope_after}
use Rattle.fil_ast.specs.Naming.{NamesEvent, component_names, event_names, instance_names, invocation_names, port_names}
use Rattle.fil_ast.specs.Primitives.{after_start, event, is_any_primitive, is_filament_primitive}
use Rattle.fil_ast.specs.Rules.{AtEnd, AtSignature, F1, F2, F3, F4, F5, F6, F7, F8, F9, F10, F11, F12, F13, Rule, KeepsComponent, KeepsRules, all_rules}
use Rattle.fil_ast.specs.Scope.{Invocation, Result, Scope, input_of, instance_signature, invocation_named, output_of, result_at, result_of, sig_port_named, signature_in}
use Rattle.fil_ast.specs.Signature.{Fixed, SigPort, Signature, component_signature}
use Rattle.fil_ast.specs.Timeline.{Covers, Interval, IsShort, interval_at, own_interval}
use Rattle.fil_ast.specs.Tree.{Call, Component, Connect, DataPort, Design, Event, InputValue, Interface, Literal, New, Statement, ValueTree}
use Rattle.fil_ast.specs.Typing.{HasParameters, IsInterval, IsWidth, value_width}
use Rattle.filc_run.specs.Soaked.{after, given_in, out_of, pipeline, soak, soak_design, stage, step, word_in}
use Rattle.filc_run.proofs.SoakRuleLemmas.{IsArgument, IsSimple, Kept, absent, Differ, both_kept, called_kept, component_kept, connected_kept, differ_so, made_kept, some_so}

-- ---- the callees

-- a port of 32 bits of a primitive, in the row that comes so many after the start
abbrev pub port_after : ℕ → Text → SigPort
port_after rows name = record { name = name; from = after_start rows; to = after_start (rows + 1); width = 32 }

abbrev pub primitive_sig : List Text → ℕ → Signature
primitive_sig inputs latency =
    record { events = event (codes "G") (Fixed 1) None ∷ []; ins = map (port_after 0) inputs; outs = port_after latency (codes "out") ∷ [] }

pub mult_means : (comps : Design) → signature_in comps (codes "FastMult") (32 ∷ []) ≡ Some (primitive_sig (codes "left" ∷ codes "right" ∷ []) 2)
unfolding prim_of prim_names with_params is_made inputs_of outputs_of
mult_means comps = refl

pub delay_means : (comps : Design) → signature_in comps (codes "Delay") (32 ∷ []) ≡ Some (primitive_sig (codes "in" ∷ []) 1)
unfolding prim_of prim_names with_params is_made inputs_of outputs_of
delay_means comps = refl

pub add_means : (comps : Design) → signature_in comps (codes "Add") (32 ∷ []) ≡ Some (primitive_sig (codes "left" ∷ codes "right" ∷ []) 0)
unfolding prim_of prim_names with_params is_made inputs_of outputs_of
add_means comps = refl

simple_primitive : (inputs : List Text) (latency : ℕ) → IsSimple (primitive_sig inputs latency)
simple_primitive inputs latency = record { event = event (codes "G") (Fixed 1) None; events = refl; each = refl }

-- ---- arguments

-- the row in which a value is there, and in which it is needed
abbrev in_row : ℕ → Interval
in_row row = record { event = codes "G"; from = row; to = row + 1 }

in_argument : (scope : Scope) (name : Text) (row : ℕ) (port p : SigPort) → input_of scope name ≡ Some p → p.width ≡ port.width → interval_at (after row ∷ []) port ≡ Some (in_row row) → own_interval scope (input_of scope name) ≡ Some (in_row row)
    → IsArgument scope (after row ∷ []) (InputValue name) port
in_argument scope name row port p there wide needed has = record {
  known = ap is_some there;
  literal = tt;
  width = ap (option_map (λ (q : SigPort). q.width)) there ∙ ap Some wide;
  available = some_so (Covers scope (InputValue name)) (interval_at (after row ∷ []) port) (in_row row) needed (λ offset low high. (in_row row, has, (refl, low, high)));
}

literal_argument : (scope : Scope) (row value : ℕ) (port : SigPort) → value < 2 ^ 32 → port.width ≡ 32 → interval_at (after row ∷ []) port ≡ Some (in_row row) → IsArgument scope (after row ∷ []) (Literal 32 value) port
literal_argument scope row value port small wide needed = record {
  known = tt;
  literal = ((omega arith, omega arith), small);
  width = ap Some (sym wide);
  available = some_so (Covers scope (Literal 32 value)) (interval_at (after row ∷ []) port) (in_row row) needed (λ offset low high. tt);
}

-- the output of an invocation in the scope, whose callee means this
module _ (scope : Scope) (label : Text) (v : Invocation) (sig : Signature) (p : SigPort) (named : invocation_named scope.invocations label ≡ Some v) (means : instance_signature scope v.inst ≡ Some sig) (out : sig_port_named sig.outs (codes "out") ≡ Some p) where
  result_is : result_of scope label (codes "out") ≡ Some (record { invocation = v; port = p })
  result_is =
      ap (option_and_then (λ (w : Invocation). result_at scope w (codes "out"))) named
      ∙ ap (λ (o : Option Signature). option_map (λ (q : SigPort). record { invocation = v; port = q }) (option_and_then (λ (s : Signature). sig_port_named s.outs (codes "out")) o)) means
      ∙ ap (option_map (λ (q : SigPort). record { invocation = v; port = q })) out

  out_width : value_width scope (out_of label) ≡ Some p.width
  out_width = ap (option_map (λ (r : Result). r.port.width)) result_is

  out_covers : (row : ℕ) → interval_at v.gives.times p ≡ Some (in_row row) → Covers scope (out_of label) (in_row row)
  out_covers row has = λ offset low high. (record { invocation = v; port = p }, result_is, in_row row, has, (refl, low, high))

  out_argument : (row : ℕ) (port : SigPort) → p.width ≡ port.width → interval_at (after row ∷ []) port ≡ Some (in_row row) → interval_at v.gives.times p ≡ Some (in_row row) → IsArgument scope (after row ∷ []) (out_of label) port
  out_argument row port wide needed has = record {
    known = ap is_some result_is;
    literal = tt;
    width = out_width ∙ ap Some wide;
    available = some_so (Covers scope (out_of label)) (interval_at (after row ∷ []) port) (in_row row) needed (out_covers row has);
  }

-- ---- signatures

-- a component of this kind, with inputs in the row of the start and outputs in a later one
module _ (comps : Design) (name : Text) (inputs outputs : List Text) (row : ℕ) (body : List Statement) where
  abbrev whole : Component
  whole = pipeline name (map (word_in 0) inputs) (map (word_in row) outputs) body

  words_named : (r : ℕ) (names : List Text) → All (λ (p : DataPort). NamesEvent whole p.from.event × NamesEvent whole p.to.event) (map (word_in r) names)
  words_named r names =
      All-map (λ (p : DataPort). NamesEvent whole p.from.event × NamesEvent whole p.to.event) (word_in r) names (λ k d within. ((0, omega arith, refl), (0, omega arith, refl)))

  words_wide : (r : ℕ) (names : List Text) → All (λ (p : DataPort). IsWidth p.width) (map (word_in r) names)
  words_wide r names = All-map (λ (p : DataPort). IsWidth p.width) (word_in r) names (λ k d within. (omega arith, omega arith))

  words_in_order : (r : ℕ) (names : List Text) → All IsInterval (map (word_in r) names)
  words_in_order r names = All-map IsInterval (word_in r) names (λ k d within. (refl, omega arith))

  words_short : (r : ℕ) (names : List Text) → All (IsShort whole) (map (word_in r) names)
  words_short r names = All-map (IsShort whole) (word_in r) names (λ k d within e has named. by e has)
    where
      by : (e : Event) → Contains whole.events e → r + 1 - r ≤ e.delay
      by e (zero, within, is) = let delay : 1 ≡ e.delay = ap (λ (v : Event). v.delay) is in omega (arith, delay)
      by e (suc k, within, is) = absurd (omega arith)

  signature_kept : is_any_primitive name ≡ false → list_any (bytes_eq name) (component_names comps) ≡ false → Differ (port_names whole) → (rule : Rule) → AtSignature rule comps whole
  signature_kept no_primitive new differ F1 = record { no_primitive = no_primitive; new = absent name (component_names comps) new; events = differ_so (event_names whole) (refl, tt); ports = differ_so (port_names whole) differ }
  signature_kept no_primitive new differ F2 = record {
    interfaces = All-cons (λ (g : Interface). NamesEvent whole g.event) (record { event = codes "G"; name = codes "go"; width = 1 }) [] (0, omega arith, refl) (All-nil (λ (g : Interface). NamesEvent whole g.event));
    ins = words_named 0 inputs;
    outs = words_named row outputs;
  }
  signature_kept no_primitive new differ F3 = record { ins = words_wide 0 inputs; outs = words_wide row outputs }
  signature_kept no_primitive new differ F4 = tt
  signature_kept no_primitive new differ F5 = record {
    few = omega arith;
    delays = All-cons (λ (e : Event). 1 ≤ e.delay) (record { name = codes "G"; delay = 1 }) [] (omega arith) (All-nil (λ (e : Event). 1 ≤ e.delay));
    one_interface = differ_so (codes "G" ∷ []) (refl, tt);
    one_bit = All-cons (λ (g : Interface). g.width ≡ 1) (record { event = codes "G"; name = codes "go"; width = 1 }) [] refl (All-nil (λ (g : Interface). g.width ≡ 1));
    ins = words_in_order 0 inputs;
    outs = words_in_order row outputs;
  }
  signature_kept no_primitive new differ F6 = record { ins = words_short 0 inputs; outs = words_short row outputs }
  signature_kept no_primitive new differ F7 = tt
  signature_kept no_primitive new differ F8 = tt
  signature_kept no_primitive new differ F9 = tt
  signature_kept no_primitive new differ F10 = tt
  signature_kept no_primitive new differ F11 = tt
  signature_kept no_primitive new differ F12 = tt
  signature_kept no_primitive new differ F13 = tt

-- its one output is connected
end_kept : (c : Component) (output : DataPort) → c.outs ≡ output ∷ [] → Contains (flat_map connected_at c.body) output.name → (rule : Rule) → AtEnd rule c
end_kept c output one has F9 = subst (All (λ (p : DataPort). Contains (flat_map connected_at c.body) p.name)) (sym one) (All-cons (λ (p : DataPort). Contains (flat_map connected_at c.body) p.name) output [] has (All-nil (λ (p : DataPort). Contains (flat_map connected_at c.body) p.name)))
end_kept c output one has F1 = tt
end_kept c output one has F2 = tt
end_kept c output one has F3 = tt
end_kept c output one has F4 = tt
end_kept c output one has F5 = tt
end_kept c output one has F6 = tt
end_kept c output one has F7 = tt
end_kept c output one has F8 = tt
end_kept c output one has F10 = tt
end_kept c output one has F11 = tt
end_kept c output one has F12 = tt
end_kept c output one has F13 = tt

-- ---- the first component

abbrev StepKept : List Statement → Statement → Type 0
StepKept = Kept [] (codes "Step") step.ins step.outs step.body

abbrev step_scope : ℕ → Scope
step_scope k = scope_after [] step (take k step.body)

abbrev pub invoked : Text → Text → ℕ → List ValueTree → Invocation
invoked name inst row args = record { name = name; inst = inst; gives = given_in row args }

abbrev pub mult_sig : Signature
mult_sig = primitive_sig (codes "left" ∷ codes "right" ∷ []) 2

abbrev pub delay_sig : Signature
delay_sig = primitive_sig (codes "in" ∷ []) 1

abbrev pub add_sig : Signature
add_sig = primitive_sig (codes "left" ∷ codes "right" ∷ []) 0

-- instances are made
step_made : (k : ℕ) (name made : Text) → list_any (bytes_eq name) (instance_names (step_scope k).instances) ≡ false → is_filament_primitive made ≡ true → HasParameters (step_scope k) made (32 ∷ []) → StepKept (take k step.body) (New name made (32 ∷ []))
step_made k name made new known has = made_kept [] (codes "Step") step.ins step.outs step.body (take k step.body) name made (32 ∷ []) new known has

abbrev pub mult_args : List ValueTree
mult_args = InputValue (codes "a") ∷ InputValue (codes "b") ∷ []

abbrev pub mult_at : Invocation
mult_at = invoked (codes "p") (codes "M") 0 mult_args

step_mult : StepKept (take 4 step.body) (Call (codes "p") (codes "M") (given_in 0 mult_args))
step_mult =
    called_kept [] (codes "Step") step.ins step.outs step.body (take 4 step.body) (codes "p") (codes "M") 0 mult_args mult_sig refl refl (simple_primitive (codes "left" ∷ codes "right" ∷ []) 2) (
      in_argument (step_scope 4) (codes "a") 0 (port_after 0 (codes "left")) (port_after 0 (codes "a")) refl refl refl refl,
      (in_argument (step_scope 4) (codes "b") 0 (port_after 0 (codes "right")) (port_after 0 (codes "b")) refl refl refl refl, tt),
    ) refl (mult_means [])

abbrev pub first_args : List ValueTree
first_args = InputValue (codes "c") ∷ []

abbrev pub first_at : Invocation
first_at = invoked (codes "c1") (codes "D1") 0 first_args

step_first : StepKept (take 5 step.body) (Call (codes "c1") (codes "D1") (given_in 0 first_args))
step_first =
    called_kept [] (codes "Step") step.ins step.outs step.body (take 5 step.body) (codes "c1") (codes "D1") 0 first_args delay_sig refl refl (simple_primitive (codes "in" ∷ []) 1)
    (in_argument (step_scope 5) (codes "c") 0 (port_after 0 (codes "in")) (port_after 0 (codes "c")) refl refl refl refl, tt) refl (delay_means [])

abbrev pub second_args : List ValueTree
second_args = out_of (codes "c1") ∷ []

abbrev pub second_at : Invocation
second_at = invoked (codes "c2") (codes "D2") 1 second_args

step_second : StepKept (take 6 step.body) (Call (codes "c2") (codes "D2") (given_in 1 second_args))
step_second =
    called_kept [] (codes "Step") step.ins step.outs step.body (take 6 step.body) (codes "c2") (codes "D2") 1 second_args delay_sig refl refl (simple_primitive (codes "in" ∷ []) 1)
    (out_argument (step_scope 6) (codes "c1") first_at delay_sig (port_after 1 (codes "out")) refl (delay_means []) refl 1 (port_after 0 (codes "in")) refl refl refl, tt) refl (delay_means [])

abbrev pub sum_args : List ValueTree
sum_args = out_of (codes "p") ∷ out_of (codes "c2") ∷ []

abbrev pub sum_at : Invocation
sum_at = invoked (codes "s") (codes "A") 2 sum_args

step_sum : StepKept (take 7 step.body) (Call (codes "s") (codes "A") (given_in 2 sum_args))
step_sum =
    called_kept [] (codes "Step") step.ins step.outs step.body (take 7 step.body) (codes "s") (codes "A") 2 sum_args add_sig refl refl (simple_primitive (codes "left" ∷ codes "right" ∷ []) 0) (
      out_argument (step_scope 7) (codes "p") mult_at mult_sig (port_after 2 (codes "out")) refl (mult_means []) refl 2 (port_after 0 (codes "left")) refl refl refl,
      (out_argument (step_scope 7) (codes "c2") second_at delay_sig (port_after 1 (codes "out")) refl (delay_means []) refl 2 (port_after 0 (codes "right")) refl refl refl, tt),
    ) refl (add_means [])

step_connected : StepKept (take 8 step.body) (Connect (codes "out") (out_of (codes "s")))
step_connected =
    let scope = step_scope 8 in
    let value = out_of (codes "s") in
    let port = port_after 0 (codes "out") in
    connected_kept [] (codes "Step") step.ins step.outs step.body (take 8 step.body) (codes "out") value (port_after 2 (codes "out")) refl
    (ap is_some (result_is scope (codes "s") sum_at add_sig port refl (add_means []) refl)) tt (out_width scope (codes "s") sum_at add_sig port refl (add_means []) refl)
    (absent (codes "out") [] refl, some_so (Covers scope value) (own_interval scope (output_of scope (codes "out"))) (in_row 2) refl (out_covers scope (codes "s") sum_at add_sig port refl (add_means []) refl 2 refl))

step_statement : (k : ℕ) (s : Statement) → slice_get step.body k ≡ Some s → StepKept (take k step.body) s
step_statement zero s at = subst (StepKept []) (same_Some (New (codes "M") (codes "FastMult") (32 ∷ [])) s at) (step_made 0 (codes "M") (codes "FastMult") refl refl (ap is_some (mult_means [])))
step_statement (suc zero) s at = subst (StepKept (take 1 step.body)) (same_Some (New (codes "D1") (codes "Delay") (32 ∷ [])) s at) (step_made 1 (codes "D1") (codes "Delay") refl refl (ap is_some (delay_means [])))
step_statement (suc (suc zero)) s at = subst (StepKept (take 2 step.body)) (same_Some (New (codes "D2") (codes "Delay") (32 ∷ [])) s at) (step_made 2 (codes "D2") (codes "Delay") refl refl (ap is_some (delay_means [])))
step_statement (suc (suc (suc zero))) s at = subst (StepKept (take 3 step.body)) (same_Some (New (codes "A") (codes "Add") (32 ∷ [])) s at) (step_made 3 (codes "A") (codes "Add") refl refl (ap is_some (add_means [])))
step_statement (suc (suc (suc (suc zero)))) s at = subst (StepKept (take 4 step.body)) (same_Some (Call (codes "p") (codes "M") (given_in 0 mult_args)) s at) step_mult
step_statement (suc (suc (suc (suc (suc zero))))) s at = subst (StepKept (take 5 step.body)) (same_Some (Call (codes "c1") (codes "D1") (given_in 0 first_args)) s at) step_first
step_statement (suc (suc (suc (suc (suc (suc zero)))))) s at = subst (StepKept (take 6 step.body)) (same_Some (Call (codes "c2") (codes "D2") (given_in 1 second_args)) s at) step_second
step_statement (suc (suc (suc (suc (suc (suc (suc zero))))))) s at = subst (StepKept (take 7 step.body)) (same_Some (Call (codes "s") (codes "A") (given_in 2 sum_args)) s at) step_sum
step_statement (suc (suc (suc (suc (suc (suc (suc (suc zero)))))))) s at = subst (StepKept (take 8 step.body)) (same_Some (Connect (codes "out") (out_of (codes "s"))) s at) step_connected
step_statement (suc (suc (suc (suc (suc (suc (suc (suc (suc k))))))))) s at = absurd (let none : ◌≡◌ {A = Option Statement} None (Some s) = at in cc none)

step_keeps : KeepsComponent all_rules [] step
unfolding is_primitive prim_names
step_keeps =
    component_kept [] (codes "Step") step.ins step.outs step.body
    (signature_kept [] (codes "Step") (codes "a" ∷ codes "b" ∷ codes "c" ∷ []) (codes "out" ∷ []) 2 step.body refl refl (refl, (refl, (refl, (refl, (refl, tt)))))) step_statement
    (end_kept step (word_in 2 (codes "out")) refl (0, omega arith, refl))

-- ---- the second component

abbrev SoakKept : List Statement → Statement → Type 0
SoakKept = Kept (step ∷ []) (codes "Soak") soak.ins soak.outs soak.body

abbrev soak_scope : ℕ → Scope
soak_scope k = scope_after (step ∷ []) soak (take k soak.body)

abbrev pub step_sig : Signature
step_sig = component_signature step

step_simple : IsSimple step_sig
step_simple = record { event = event (codes "G") (Fixed 1) (Some (codes "go")); events = refl; each = refl }

-- the row of stage j
abbrev pub stage_args : ℕ → ValueTree → List ValueTree
stage_args j value = value ∷ Literal 32 (2 * j + 3) ∷ Literal 32 j ∷ []

abbrev pub stage_at : Text → ℕ → ValueTree → Invocation
stage_at name j value = invoked name name (2 * j) (stage_args j value)

needed_at : (row : ℕ) (name : Text) → interval_at (after row ∷ []) (port_after 0 name) ≡ Some (in_row row)
needed_at row name = let same : row + 0 ≡ row = omega arith in ap (λ (from : ℕ). Some (record { event = codes "G"; from = from; to = row + 1 })) same

stage_kept : (k : ℕ) (name : Text) (j : ℕ) (value : ValueTree) → list_any (bytes_eq name) (instance_names (soak_scope k).instances) ≡ false → list_any (bytes_eq name) (port_names soak ++ invocation_names (soak_scope k).invocations) ≡ false
    → list_any (bytes_eq name) (map (λ (v : Invocation). v.inst) (soak_scope k).invocations) ≡ false → j < 8 → IsArgument (soak_scope k) (after (2 * j) ∷ []) value (port_after 0 (codes "a")) → SoakKept (take k soak.body) (stage name j value)
stage_kept k name j value new new_name unused few first =
    both_kept (step ∷ []) (codes "Soak") soak.ins soak.outs soak.body (take k soak.body) name (codes "Step") (2 * j) (stage_args j value) step_sig new new_name unused step_simple (
      first,
      (
        literal_argument (soak_scope k) (2 * j) (2 * j + 3) (port_after 0 (codes "b")) (omega arith) refl (needed_at (2 * j) (codes "b")),
        (literal_argument (soak_scope k) (2 * j) j (port_after 0 (codes "c")) (omega arith) refl (needed_at (2 * j) (codes "c")), tt),
      ),
    ) (inr (0, omega arith, refl)) refl

-- the value that stage j gives in a later scope
stage_out : (k : ℕ) (name : Text) (j : ℕ) (value : ValueTree) → invocation_named (soak_scope k).invocations name ≡ Some (stage_at name j value) → instance_signature (soak_scope k) name ≡ Some step_sig
    → IsArgument (soak_scope k) (after (2 * (j + 1)) ∷ []) (out_of name) (port_after 0 (codes "a"))
stage_out k name j value named means =
    out_argument (soak_scope k) name (stage_at name j value) step_sig (port_after 2 (codes "out")) named means refl (2 * (j + 1)) (port_after 0 (codes "a")) refl (needed_at (2 * (j + 1)) (codes "a")) has
  where
    has : interval_at (after (2 * j) ∷ []) (port_after 2 (codes "out")) ≡ Some (in_row (2 * (j + 1)))
    has =
        let from : 2 * j + 2 ≡ 2 * (j + 1) = omega arith in
        let to : 2 * j + 3 ≡ 2 * (j + 1) + 1 = omega arith in
        ap₂ (λ (low high : ℕ). Some (record { event = codes "G"; from = low; to = high })) from to

soak_first : SoakKept [] (stage (codes "s0") 0 (InputValue (codes "a")))
soak_first = stage_kept 0 (codes "s0") 0 (InputValue (codes "a")) refl refl refl (omega arith) (in_argument (soak_scope 0) (codes "a") 0 (port_after 0 (codes "a")) (port_after 0 (codes "a")) refl refl refl refl)

soak_connected : SoakKept (take 8 soak.body) (Connect (codes "out") (out_of (codes "s7")))
soak_connected =
    let scope = soak_scope 8 in
    let value = out_of (codes "s7") in
    let last = stage_at (codes "s7") 7 (out_of (codes "s6")) in
    let port = port_after 2 (codes "out") in
    connected_kept (step ∷ []) (codes "Soak") soak.ins soak.outs soak.body (take 8 soak.body) (codes "out") value (port_after 16 (codes "out")) refl
    (ap is_some (result_is scope (codes "s7") last step_sig port refl refl refl)) tt (out_width scope (codes "s7") last step_sig port refl refl refl)
    (absent (codes "out") [] refl, some_so (Covers scope value) (own_interval scope (output_of scope (codes "out"))) (in_row 16) refl (out_covers scope (codes "s7") last step_sig port refl refl refl 16 refl))

soak_statement : (k : ℕ) (s : Statement) → slice_get soak.body k ≡ Some s → SoakKept (take k soak.body) s
soak_statement zero s at = subst (SoakKept []) (same_Some (stage (codes "s0") 0 (InputValue (codes "a"))) s at) soak_first
soak_statement (suc zero) s at =
    subst (SoakKept (take 1 soak.body)) (same_Some (stage (codes "s1") 1 (out_of (codes "s0"))) s at)
    (stage_kept 1 (codes "s1") 1 (out_of (codes "s0")) refl refl refl (omega arith) (stage_out 1 (codes "s0") 0 (InputValue (codes "a")) refl refl))
soak_statement (suc (suc zero)) s at =
    subst (SoakKept (take 2 soak.body)) (same_Some (stage (codes "s2") 2 (out_of (codes "s1"))) s at)
    (stage_kept 2 (codes "s2") 2 (out_of (codes "s1")) refl refl refl (omega arith) (stage_out 2 (codes "s1") 1 (out_of (codes "s0")) refl refl))
soak_statement (suc (suc (suc zero))) s at =
    subst (SoakKept (take 3 soak.body)) (same_Some (stage (codes "s3") 3 (out_of (codes "s2"))) s at)
    (stage_kept 3 (codes "s3") 3 (out_of (codes "s2")) refl refl refl (omega arith) (stage_out 3 (codes "s2") 2 (out_of (codes "s1")) refl refl))
soak_statement (suc (suc (suc (suc zero)))) s at =
    subst (SoakKept (take 4 soak.body)) (same_Some (stage (codes "s4") 4 (out_of (codes "s3"))) s at)
    (stage_kept 4 (codes "s4") 4 (out_of (codes "s3")) refl refl refl (omega arith) (stage_out 4 (codes "s3") 3 (out_of (codes "s2")) refl refl))
soak_statement (suc (suc (suc (suc (suc zero))))) s at =
    subst (SoakKept (take 5 soak.body)) (same_Some (stage (codes "s5") 5 (out_of (codes "s4"))) s at)
    (stage_kept 5 (codes "s5") 5 (out_of (codes "s4")) refl refl refl (omega arith) (stage_out 5 (codes "s4") 4 (out_of (codes "s3")) refl refl))
soak_statement (suc (suc (suc (suc (suc (suc zero)))))) s at =
    subst (SoakKept (take 6 soak.body)) (same_Some (stage (codes "s6") 6 (out_of (codes "s5"))) s at)
    (stage_kept 6 (codes "s6") 6 (out_of (codes "s5")) refl refl refl (omega arith) (stage_out 6 (codes "s5") 5 (out_of (codes "s4")) refl refl))
soak_statement (suc (suc (suc (suc (suc (suc (suc zero))))))) s at =
    subst (SoakKept (take 7 soak.body)) (same_Some (stage (codes "s7") 7 (out_of (codes "s6"))) s at)
    (stage_kept 7 (codes "s7") 7 (out_of (codes "s6")) refl refl refl (omega arith) (stage_out 7 (codes "s6") 6 (out_of (codes "s5")) refl refl))
soak_statement (suc (suc (suc (suc (suc (suc (suc (suc zero)))))))) s at = subst (SoakKept (take 8 soak.body)) (same_Some (Connect (codes "out") (out_of (codes "s7"))) s at) soak_connected
soak_statement (suc (suc (suc (suc (suc (suc (suc (suc (suc k))))))))) s at = absurd (let none : ◌≡◌ {A = Option Statement} None (Some s) = at in cc none)

soak_keeps : KeepsComponent all_rules (step ∷ []) soak
unfolding is_primitive prim_names
soak_keeps =
    component_kept (step ∷ []) (codes "Soak") soak.ins soak.outs soak.body
    (signature_kept (step ∷ []) (codes "Soak") (codes "a" ∷ []) (codes "out" ∷ []) 16 soak.body refl refl (refl, (refl, (refl, tt)))) soak_statement
    (end_kept soak (word_in 16 (codes "out")) refl (0, omega arith, refl))

-- ---- the design

pub soak_design_keeps : KeepsRules all_rules soak_design
soak_design_keeps zero c at = subst (KeepsComponent all_rules []) (same_Some step c at) step_keeps
soak_design_keeps (suc zero) c at = subst (KeepsComponent all_rules (step ∷ [])) (same_Some soak c at) soak_keeps
soak_design_keeps (suc (suc n)) c at = absurd (let none : ◌≡◌ {A = Option Component} None (Some c) = at in cc none)
