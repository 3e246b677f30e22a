-- What is known in a scope, and that it stays known in one with more instances or invocations.
use Rattle.std.proofs.Common.{◌≡◌, ℕ, List, [], ◌∷◌, ◌++◌, map, Option, Some, None, option_map, refl, ap, ap₂, ◌∙◌}
use Rattle.std.specs.Option.{option_and_then, IsSome}
use Rattle.std.proofs.lemmas.Option.{none-some, same_Some, option_and_then_some}
use Rattle.hw_names.specs.Name.{Text}
use Rattle.fil_ast.specs.Scope.{Instance, Invocation, Result, Scope, instance_named, instance_signature, invocation_named, result_at, result_of, signature_in, sig_port_named}
use Rattle.fil_ast.specs.Signature.{SigPort, Signature}
use Rattle.fil_ast.specs.Tree.{Component, Design, ValueTree, InputValue, OutputValue, Literal}
use Rattle.fil_ast.specs.Typing.{value_width}
use Rattle.fil_flow.specs.inside.Body.{plus_instance, plus_invocation}
use Rattle.fil_flow.proofs.Lookups.{find_kept}

pub some_of : {X : Type 0} (o : Option X) → IsSome o → (x : X) × (o ≡ Some x)
some_of None is = absurd (cc)
some_of (Some x) is = (x, refl)

pub option_map_some : {X Y P : Type 0} (f : X → Y) (o : Option X) (y : Y) → option_map f o ≡ Some y → ((x : X) → o ≡ Some x → f x ≡ y → P) → P
option_map_some f None y e go = absurd (none-some y e)
option_map_some f (Some x) y e go = go x refl (same_Some (f x) y e)

-- an output of an invocation: what is invoked, its signature and the port
pub record IsOutput (scope : Scope) (invocation port : Text) (p : SigPort) : Type 0 where
  pub v : Invocation
  pub sig : Signature
  pub named : invocation_named scope.invocations invocation ≡ Some v
  pub signed : instance_signature scope v.inst ≡ Some sig
  pub found : sig_port_named sig.outs port ≡ Some p

module _ (scope : Scope) (invocation port : Text) where
  pub output_result : (r : Result) → result_of scope invocation port ≡ Some r → IsOutput scope invocation port r.port
  output_result r is =
      option_and_then_some (λ (v : Invocation). result_at scope v port) (invocation_named scope.invocations invocation) r is (λ v named at.
      option_map_some (λ p. record { invocation = v; port = p }) (option_and_then (λ (s : Signature). sig_port_named s.outs port) (instance_signature scope v.inst)) r at (λ p is_p made.
      option_and_then_some (λ (s : Signature). sig_port_named s.outs port) (instance_signature scope v.inst) p is_p (λ s signed found.
      record { v = v; sig = s; named = named; signed = signed; found = found ∙ ap Some (ap (λ (x : Result). x.port) made) })))

  pub result_output : (p : SigPort) → (o : IsOutput scope invocation port p) → result_of scope invocation port ≡ Some (record { invocation = o.v; port = p })
  result_output p o =
      ap (option_and_then (λ (v : Invocation). result_at scope v port)) o.named
      ∙ ap (option_map (λ p. record { invocation = o.v; port = p })) (ap (option_and_then (λ (s : Signature). sig_port_named s.outs port)) o.signed ∙ o.found)

  -- its width
  pub output_width : (p : SigPort) → IsOutput scope invocation port p → value_width scope (OutputValue invocation port) ≡ Some p.width
  output_width p o = ap (option_map (λ (r : Result). r.port.width)) (result_output p o)

  pub width_output : (w : ℕ) → value_width scope (OutputValue invocation port) ≡ Some w → (p : SigPort) × IsOutput scope invocation port p × (p.width ≡ w)
  width_output w is =
      option_map_some (λ (r : Result). r.port.width) (result_of scope invocation port) w is (λ r is_r width. (r.port, output_result r is_r, width))

-- what is named there is named here
abbrev pub KeepsInstances : List Instance → List Instance → Type 0
KeepsInstances is is' = (name : Text) (i : Instance) → instance_named is name ≡ Some i → instance_named is' name ≡ Some i

abbrev pub KeepsInvocations : List Invocation → List Invocation → Type 0
KeepsInvocations vs vs' = (name : Text) (v : Invocation) → invocation_named vs name ≡ Some v → invocation_named vs' name ≡ Some v

-- a scope with more instances and invocations
module _ (comps : Design) (comp : Component) (is is' : List Instance) (vs vs' : List Invocation) (keeps : KeepsInstances is is') (keeps_invocations : KeepsInvocations vs vs') where
  abbrev before : Scope
  before = record { comps = comps; comp = comp; instances = is; invocations = vs }

  abbrev after : Scope
  after = record { comps = comps; comp = comp; instances = is'; invocations = vs' }

  signature_kept : (inst : Text) (s : Signature) → instance_signature before inst ≡ Some s → instance_signature after inst ≡ Some s
  signature_kept inst s is_s =
      option_and_then_some (λ (i : Instance). signature_in comps i.made i.params) (instance_named is inst) s is_s (λ i named signed.
      ap (option_and_then (λ (i : Instance). signature_in comps i.made i.params)) (keeps inst i named) ∙ signed)

  width_kept : (value : ValueTree) (w : ℕ) → value_width before value ≡ Some w → value_width after value ≡ Some w
  width_kept (InputValue name) w is_w = is_w
  width_kept (Literal width n) w is_w = is_w
  width_kept (OutputValue invocation port) w is_w =
      let (p, o, width) = width_output before invocation port w is_w in
      let still : IsOutput after invocation port p = record { v = o.v; sig = o.sig; named = keeps_invocations invocation o.v o.named; signed = signature_kept o.v.inst o.sig o.signed; found = o.found } in
      output_width after invocation port p still ∙ ap Some width

  widths_kept : (values : List ValueTree) (widths : List ℕ) → map (value_width before) values ≡ map Some widths → map (value_width after) values ≡ map Some widths
  widths_kept [] [] same = refl
  widths_kept [] (w ∷ widths) same = absurd (cc)
  widths_kept (v ∷ values) [] same = absurd (cc)
  widths_kept (v ∷ values) (w ∷ widths) same =
      let head : value_width before v ≡ Some w = cc in
      let tail : map (value_width before) values ≡ map Some widths = cc in
      ap₂ ◌∷◌ (width_kept v w head) (widths_kept values widths tail)

-- with one more instance
module _ (scope : Scope) (i : Instance) where
  pub keep_instance : KeepsInstances scope.instances (scope.instances ++ i ∷ [])
  keep_instance name j found = find_kept _ scope.instances (i ∷ []) j found

  pub width_instance : (value : ValueTree) (w : ℕ) → value_width scope value ≡ Some w → value_width (plus_instance scope i) value ≡ Some w
  width_instance = width_kept scope.comps scope.comp scope.instances (scope.instances ++ i ∷ []) scope.invocations scope.invocations keep_instance (λ name v found. found)

  pub widths_instance : (values : List ValueTree) (widths : List ℕ) → map (value_width scope) values ≡ map Some widths → map (value_width (plus_instance scope i)) values ≡ map Some widths
  widths_instance = widths_kept scope.comps scope.comp scope.instances (scope.instances ++ i ∷ []) scope.invocations scope.invocations keep_instance (λ name v found. found)

-- with one more invocation
module _ (scope : Scope) (v : Invocation) where
  keep_invocation : KeepsInvocations scope.invocations (scope.invocations ++ v ∷ [])
  keep_invocation name w found = find_kept _ scope.invocations (v ∷ []) w found

  pub width_invocation : (value : ValueTree) (w : ℕ) → value_width scope value ≡ Some w → value_width (plus_invocation scope v) value ≡ Some w
  width_invocation = width_kept scope.comps scope.comp scope.instances scope.instances scope.invocations (scope.invocations ++ v ∷ []) (λ name i found. found) keep_invocation

  pub widths_invocation : (values : List ValueTree) (widths : List ℕ) → map (value_width scope) values ≡ map Some widths → map (value_width (plus_invocation scope v)) values ≡ map Some widths
  widths_invocation = widths_kept scope.comps scope.comp scope.instances scope.instances scope.invocations (scope.invocations ++ v ∷ []) (λ name i found. found) keep_invocation
