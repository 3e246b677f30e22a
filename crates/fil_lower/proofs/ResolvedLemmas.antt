-- Invocation by invocation: the resolved form has the value that the text means.
use Rattle.std.proofs.Common.{◌≡◌, ℕ, zero, suc, ◌+◌, ◌<◌, ◌≤◌, Bool, true, false, cond, List, [], ◌∷◌, ◌++◌, length, map, flat_map, reverse, take, drop, get_or, slice_get, All, Option, Some, None, refl, sym, ap, subst, ◌∙◌, add-one, append_assoc, arith}
use Rattle.std.specs.List.{AllZip, find}
use Rattle.std.specs.Option.{IsSome, IfSome, is_some, option_and_then, option_map, option_map_or}
use Rattle.std.specs.Prelude.{Contains, bytes_eq, if◌then◌else◌}
use Rattle.std.proofs.lemmas.List.{append-nil, length-map, map-append, take-append-drop}
use Rattle.std.proofs.lemmas.List.Concat.{flat_map-append}
use Rattle.std.proofs.lemmas.List.Elements.{All-contains, All-head, All-tail, All-weaker, Contains-append_right}
use Rattle.std.proofs.lemmas.Option.{none-some, option_and_then_some, same_Some, slice_get-get_or}
use Rattle.std.proofs.lemmas.Slice.Eq.{bytes_eq-Decides}
use Rattle.std.proofs.lemmas.Slice.Zip.{all_zipped_more}
use Rattle.std.proofs.Math.Seq.{take-length}
use Rattle.hw_names.specs.Name.{Text, AreDistinct}
use Rattle.hw_prims.specs.Timed.{Values}
use Rattle.fil_ast.specs.Behaviours.{inputs_of_callee, inputs_with}
use Rattle.fil_ast.specs.Flow.{Named, flow_of, instance_flow, made_flow, value_in_body, value_named}
use Rattle.fil_ast.specs.Holds.{uses_of}
use Rattle.fil_ast.specs.Items.{scope_after}
use Rattle.fil_ast.specs.Naming.{IsKnownValue, component_names, instance_names, invocation_names}
use Rattle.fil_ast.specs.Scope.{Instance, Invocation, input_of, instance_named, instance_signature, instances_at, invocation_named, invocations_at, result_at, result_of, sig_port_named, signature_in}
use Rattle.fil_ast.specs.Signature.{SigPort, Signature, sig_port}
use Rattle.fil_ast.specs.Tree as tree
use Rattle.fil_ast.specs.Tree.{Component, DataPort, Design, Event, Statement, New, Call, Both, Connect, ValueTree, InputValue, OutputValue}
use Rattle.fil_ast.specs.Typing.{GivesEach, KeepsNumbers}
use Rattle.fil_ast.specs.Wires.{whole_scope}
use Rattle.fil_share.specs.Instances.{signature_of}
use Rattle.fil_share.proofs.MakesLemmas.{flat_next}
use Rattle.fil_share.proofs.OwnLemmas.{KeepsNames, cut_before, cut_with, find_last, same_meaning, some_there}
use Rattle.fil_lower.specs.inside.Plan.{Source, Use, value_of}
use Rattle.fil_lower.specs.inside.PlanOf.{Resolved, args_of, behaviour_made, call_named, callee_of, nothing_promised, output_of_call, resolved, resolved_after, slot_of, source_of}
use Rattle.fil_lower.proofs.CalleeLemmas.{data_names, promised}
use Rattle.fil_lower.proofs.ExpressionLemmas.{value_after, value_last, value_still}
use Rattle.fil_lower.proofs.NameLemmas.{apart_joined, given_to, map_agree}
use Rattle.fil_lower.proofs.NewNameLemmas.{invocations_distinct}

pub find_more : {X : Type 0} (test : X → Bool) (xs ys : List X) (x : X) → find test xs ≡ Some x → find test (xs ++ ys) ≡ Some x
find_more test [] ys x is = absurd (none-some x is)
find_more test (y ∷ xs) ys x is = by (test y) (λ e. find_more test xs ys x e) is
  where
    by : (b : Bool) → (find test xs ≡ Some x → find test (xs ++ ys) ≡ Some x) → cond b (Some y) (find test xs) ≡ Some x → cond b (Some y) (find test (xs ++ ys)) ≡ Some x
    by true later e = e
    by false later e = later e

-- a port of a name has the value of the name
pub value_of_name : (events : List Event) (ports : List DataPort) (values : Values) (name : Text) → IsSome (sig_port_named (map (sig_port events) ports) name) →
    value_named (map (λ (p : DataPort). record { name = p.name; value = values p.name }) ports) name ≡ values name
value_of_name events [] values name some = absurd (cc)
value_of_name events (p ∷ ports) values name some = by (bytes_eq p.name name) refl some (value_of_name events ports values name)
  where
    by : (b : Bool) → bytes_eq p.name name ≡ b → IsSome (cond b (Some (sig_port events p)) (sig_port_named (map (sig_port events) ports) name))
        → (IsSome (sig_port_named (map (sig_port events) ports) name) → value_named (map (λ (p : DataPort). record { name = p.name; value = values p.name }) ports) name ≡ values name)
        → (if b then values p.name else value_named (map (λ (p : DataPort). record { name = p.name; value = values p.name }) ports) name) ≡ values name
    by true same is later = ap values ((bytes_eq-Decides p.name name).0 same)
    by false same is later = later is

no_statement : Statement
no_statement = New [] [] []

-- what is found by a name has it
name_there : (vs : List Invocation) (name : Text) (v : Invocation) → invocation_named vs name ≡ Some v → Contains (invocation_names vs) name
name_there [] name v is = absurd (none-some v is)
name_there (w ∷ vs) name v is = by (bytes_eq w.name name) refl is (name_there vs name v)
  where
    by : (b : Bool) → bytes_eq w.name name ≡ b → cond b (Some w) (invocation_named vs name) ≡ Some v → (invocation_named vs name ≡ Some v → Contains (invocation_names vs) name) → Contains (invocation_names (w ∷ vs)) name
    by true same e later = (zero, omega arith, (bytes_eq-Decides w.name name).0 same)
    by false same e later = let (k, within, at) = later e in (suc k, omega (arith, within), at)

some_mapped : {X Y : Type 0} (f : X → Y) (o : Option X) → IsSome (option_map f o) → IsSome o
some_mapped f None some = some
some_mapped f (Some x) some = refl

module _ (earlier : Design) (c : Component) (values : Values) where
  abbrev pub flows : Text → List ℕ → List Named
  flows = flow_of (reverse earlier)

  abbrev pub inputs : List Named
  inputs = inputs_with c values

  abbrev pub made : List Instance
  made = flat_map instances_at c.body

  abbrev invocations : List Invocation
  invocations = (whole_scope earlier c).invocations

  -- the value of an argument, or of what is connected, in the body
  abbrev pub whole : ValueTree → ℕ
  whole = value_in_body flows c.body inputs

  abbrev pub value : Source → ℕ
  value source = value_of (callee_of earlier c) values source

  -- an output of the instance's signature
  abbrev pub IsOutput : Text → Text → Type 0
  IsOutput inst port = (sig : Signature) × (instance_signature (whole_scope earlier c) inst ≡ Some sig) × IsSome (sig_port_named sig.outs port)

  -- an invocation and its resolved form agree on arguments and on outputs
  pub record IsResolved (v : Invocation) (r : Resolved) : Type 0 where
    pub name : r.name ≡ v.name
    pub inst : r.call.inst ≡ v.inst
    pub slots : r.call.slots ≡ map (slot_of c) (uses_of (whole_scope earlier c) v)
    pub args : (port : Text) → value (r.call.args port) ≡ given_to (inputs_of_callee earlier c v.inst) (map whole v.gives.args) port
    pub outputs : (port : Text) → IsOutput v.inst port → whole (OutputValue v.name port) ≡ (callee_of earlier c v.inst).flow (λ p. value (r.call.args p)) port

  -- the resolved form that is found by a name
  record IsFound (rs : List Resolved) (name : Text) (v : Invocation) : Type 0 where
    resolved : Resolved
    known : call_named rs name ≡ Some resolved.call
    named : v.name ≡ name
    is : IsResolved v resolved

  find_resolved : (vs : List Invocation) (rs : List Resolved) (name : Text) (v : Invocation) → AllZip IsResolved vs rs → invocation_named vs name ≡ Some v → IsFound rs name v
  find_resolved [] rs name v all is = absurd (none-some v is)
  find_resolved (w ∷ vs) [] name v all is = absurd all
  find_resolved (w ∷ vs) (r ∷ rs) name v all is = by (bytes_eq w.name name) refl is (find_resolved vs rs name v all.1)
    where
      by : (b : Bool) → bytes_eq w.name name ≡ b → cond b (Some w) (invocation_named vs name) ≡ Some v → (invocation_named vs name ≡ Some v → IsFound rs name v) → IsFound (r ∷ rs) name v
      by true here e later =
          let is_r : bytes_eq r.name name ≡ true = ap (λ n. bytes_eq n name) all.0.name ∙ here in
          let same = same_Some w v e in
          record {
            resolved = r;
            known = ap (λ (b : Bool). if b then Some r.call else call_named rs name) is_r;
            named = ap (λ (u : Invocation). u.name) (sym same) ∙ (bytes_eq-Decides w.name name).0 here;
            is = subst (λ (u : Invocation). IsResolved u r) same all.0;
          }
      by false there e later =
          let m = later e in
          let is_r : bytes_eq r.name name ≡ false = ap (λ n. bytes_eq n name) all.0.name ∙ there in
          record { resolved = m.resolved; known = ap (λ (b : Bool). if b then Some r.call else call_named rs name) is_r ∙ m.known; named = m.named; is = m.is }

  -- the value means something after these invocations
  abbrev pub IsThere : List Invocation → ValueTree → Type 0
  IsThere vs (InputValue name) = IsSome (input_of (whole_scope earlier c) name)
  IsThere vs (tree.Literal width n) = Unit {0}
  IsThere vs (OutputValue invocation port) = (v : Invocation) × (invocation_named vs invocation ≡ Some v) × IsOutput v.inst port

  pub there_still : (vs more : List Invocation) (arg : ValueTree) → IsThere vs arg → IsThere (vs ++ more) arg
  there_still vs more (InputValue name) is = is
  there_still vs more (tree.Literal width n) is = is
  there_still vs more (OutputValue invocation port) (v, named, output) = (v, find_more (λ (w : Invocation). bytes_eq w.name invocation) vs more v named, output)

  module _ (vs : List Invocation) (rs : List Resolved) (all : AllZip IsResolved vs rs) where
    pub value_is : (arg : ValueTree) → IsThere vs arg → value (source_of rs arg) ≡ whole arg
    value_is (InputValue name) is = sym (value_of_name c.events c.ins values name is)
    value_is (tree.Literal width n) is = refl
    value_is (OutputValue invocation port) (v, named, output) =
        let f = find_resolved vs rs invocation v all named in
        ap (λ (o : Option Use). value (output_of_call o port)) f.known
        ∙ ap (λ (n : Text). (callee_of earlier c n).flow (λ p. value (f.resolved.call.args p)) port) f.is.inst
        ∙ sym (f.is.outputs port output)
        ∙ ap (λ (n : Text). whole (OutputValue n port)) f.named

    args_are : (ports : List SigPort) (args : List ValueTree) (name : Text) → All (IsThere vs) args → value (args_of rs ports args name) ≡ given_to ports (map whole args) name
    args_are [] args name there = refl
    args_are (p ∷ ports) [] name there = refl
    args_are (p ∷ ports) (a ∷ args) name there =
        by (bytes_eq p.name name) (value_is a (All-head (IsThere vs) a args there)) (args_are ports args name (All-tail (IsThere vs) a args there))
      where
        by : (b : Bool) → value (source_of rs a) ≡ whole a → value (args_of rs ports args name) ≡ given_to ports (map whole args) name
            → value (if b then source_of rs a else args_of rs ports args name) ≡ (if b then whole a else given_to ports (map whole args) name)
        by true here rest = here
        by false here rest = rest

  resolved_split : (rs : List Resolved) (vs ws : List Invocation) → resolved_after earlier c rs (vs ++ ws) ≡ resolved_after earlier c (resolved_after earlier c rs vs) ws
  resolved_split rs [] ws = refl
  resolved_split rs (v ∷ vs) ws = resolved_split (rs ++ resolved earlier c rs v ∷ []) vs ws

  abbrev pub knowns : List Invocation → List Resolved
  knowns vs = resolved_after earlier c [] vs

  abbrev pub AreResolved : List Invocation → Type 0
  AreResolved vs = AllZip IsResolved vs (knowns vs)

  module _ (named : KeepsNames earlier c) (vs ws : List Invocation) (cut : vs ++ ws ≡ invocations) where
    -- no later invocation has the name of one of the first
    not_later : (name : Text) → Contains (invocation_names vs) name → ¬ Contains (invocation_names ws) name
    not_later name first later =
        let D : List Text → Type 0 = AreDistinct in
        let same : invocation_names invocations ≡ invocation_names vs ++ invocation_names ws =
        ap invocation_names (sym cut) ∙ map-append (λ (v : Invocation). v.name) vs ws in
        apart_joined (invocation_names vs) (invocation_names ws) (subst D same (invocations_distinct earlier c named)) name first later

    -- what means something after the first invocations has its value of them
    first_value : (arg : ValueTree) → IsThere vs arg → value_after flows made inputs vs arg ≡ whole arg
    first_value (InputValue name) is = refl
    first_value (tree.Literal width n) is = refl
    first_value (OutputValue invocation port) (v, called, output) =
        sym (value_still flows made inputs vs ws invocation port (not_later invocation (name_there vs invocation v called)))
        ∙ ap (λ (us : List Invocation). value_after flows made inputs us (OutputValue invocation port)) cut

  -- an output of an invocation is its instance's, on the values of its arguments
  output_is : KeepsNames earlier c → (vs ws : List Invocation) (v : Invocation) → (vs ++ v ∷ []) ++ ws ≡ invocations → All (IsThere vs) v.gives.args → (port : Text) →
      whole (OutputValue v.name port) ≡ value_named (instance_flow flows made v.inst (map whole v.gives.args)) port
  output_is named vs ws v cut there port =
      let at_once : vs ++ (v ∷ ws) ≡ invocations = sym (append_assoc vs (v ∷ []) ws) ∙ cut in
      let last : Contains (invocation_names (vs ++ v ∷ [])) v.name =
      subst (λ (names : List Text). Contains names v.name) (sym (map-append (λ (u : Invocation). u.name) vs (v ∷ []))) (Contains-append_right (invocation_names vs) (v.name ∷ []) v.name (0, omega arith, refl)) in
      ap (λ (us : List Invocation). value_after flows made inputs us (OutputValue v.name port)) (sym cut)
      ∙ value_still flows made inputs (vs ++ v ∷ []) ws v.name port (not_later named (vs ++ v ∷ []) ws cut v.name last)
      ∙ value_last flows made inputs vs v port
      ∙ ap (λ (xs : List ℕ). value_named (instance_flow flows made v.inst xs) port)
      (map_agree (value_after flows made inputs vs) whole v.gives.args (λ arg has. first_value named vs (v ∷ ws) at_once arg (All-contains (IsThere vs) v.gives.args arg there has)))

  module _ (distinct : AreDistinct (component_names earlier)) (ports : All (λ (d : Component). AreDistinct (data_names d.ins)) earlier) (named : KeepsNames earlier c) where
    -- with one invocation more
    next_resolved : (vs ws : List Invocation) (v : Invocation) → (vs ++ v ∷ []) ++ ws ≡ invocations → AreResolved vs → All (IsThere vs) v.gives.args →
        ((sig : Signature) → instance_signature (whole_scope earlier c) v.inst ≡ Some sig → length v.gives.args ≡ length sig.ins) → AreResolved (vs ++ v ∷ [])
    next_resolved vs ws v cut all there count =
        let r = resolved earlier c (knowns vs) v in
        let xs = map whole v.gives.args in
        let args = λ (port : Text). args_are vs (knowns vs) all (inputs_of_callee earlier c v.inst) v.gives.args port there in
        let one : IsResolved v r = record {
          name = refl;
          inst = refl;
          slots = refl;
          args = args;
          outputs = λ port output.
              option_and_then_some (λ (i : Instance). signature_in earlier i.made i.params) (instance_named made v.inst) output.0 output.1 (λ i is_i signed.
              let given = λ (p : Text). value (r.call.args p) in
              output_is named vs ws v cut there port
              ∙ ap (λ (x : Option Instance). value_named (option_map_or (λ (j : Instance). made_flow flows j xs) x []) port) is_i
              ∙ (promised earlier distinct ports i output.0 signed).flow xs (length-map v.gives.args whole ∙ count output.0 output.1) given
              (λ name. args name ∙ ap (λ (x : Option Signature). given_to (option_map_or (λ (s : Signature). s.ins) x []) xs name) output.1)
              port output.2
              ∙ sym (ap (λ (x : Option Instance). (option_map_or (behaviour_made earlier) x nothing_promised).flow given port) is_i));
        } in
        subst (AllZip IsResolved (vs ++ v ∷ [])) (sym (resolved_split [] vs (v ∷ []))) (all_zipped_more IsResolved vs (knowns vs) v r all one)

    module _ (numbers : (k : ℕ) (s : Statement) → slice_get c.body k ≡ Some s → KeepsNumbers (scope_after earlier c (take k c.body)) s) where
      abbrev pub called : ℕ → List Invocation
      called k = flat_map invocations_at (take k c.body)

      -- a value that is known at statement k means something after the invocations before it
      pub known_there : (k : ℕ) (s : Statement) → slice_get c.body k ≡ Some s → (arg : ValueTree) → IsKnownValue (scope_after earlier c (take k c.body)) arg → IsThere (called k) arg
      known_there k s at (InputValue name) is = is
      known_there k s at (tree.Literal width n) is = tt
      known_there k s at (OutputValue invocation port) is =
          let scope = scope_after earlier c (take k c.body) in
          let r = some_there (result_of scope invocation port) is in
          option_and_then_some (λ (v : Invocation). result_at scope v port) (invocation_named (called k) invocation) r.0 r.1 (λ v named_v at_v.
          let some : IsSome (option_and_then (λ (s : Signature). sig_port_named s.outs port) (instance_signature scope v.inst)) =
          some_mapped (λ (p : SigPort). record { invocation = v; port = p }) (option_and_then (λ (s : Signature). sig_port_named s.outs port) (instance_signature scope v.inst)) (ap is_some at_v) in
          let p = some_there (option_and_then (λ (s : Signature). sig_port_named s.outs port) (instance_signature scope v.inst)) some in
          option_and_then_some (λ (s : Signature). sig_port_named s.outs port) (instance_signature scope v.inst) p.0 p.1 (λ sig signed found.
          option_and_then_some (signature_of earlier) (instance_named (flat_map instances_at (take k c.body)) v.inst) sig signed (λ i is_i signed_i.
          (v, named_v, (sig, sym (same_meaning earlier c named (flat_map instances_at (take k c.body)) (flat_map instances_at (drop k c.body)) v.inst (cut_before earlier c named k s at) (i, is_i)) ∙ signed, ap is_some found)))))

      cut_calls : (k : ℕ) (s : Statement) → slice_get c.body k ≡ Some s → (called k ++ invocations_at s) ++ flat_map invocations_at (drop (k + 1) c.body) ≡ (whole_scope earlier c).invocations
      cut_calls k s at =
          ap (λ (vs : List Invocation). vs ++ flat_map invocations_at (drop (k + 1) c.body)) (sym (flat_next invocations_at c.body k s at))
          ∙ sym (flat_map-append invocations_at (take (k + 1) c.body) (drop (k + 1) c.body)) ∙ ap (flat_map invocations_at) (take-append-drop (k + 1) c.body)

      step : (k : ℕ) (s : Statement) → slice_get c.body k ≡ Some s → AreResolved (called k) → AreResolved (called k ++ invocations_at s)
      step k (New name made' params) at all = subst AreResolved (sym (append-nil (called k))) all
      step k (Connect output arg) at all = subst AreResolved (sym (append-nil (called k))) all
      step k (Call name inst gives) at all =
          let s = Call name inst gives in
          let v : Invocation = record { name = name; inst = inst; gives = gives } in
          let known = named.known_names k s at in
          let found = some_there (instance_named (flat_map instances_at (take k c.body)) inst) known.0 in
          let meaning = same_meaning earlier c named (flat_map instances_at (take k c.body)) (flat_map instances_at (drop k c.body)) inst (cut_before earlier c named k s at) found in
          next_resolved (called k) (flat_map invocations_at (drop (k + 1) c.body)) v (cut_calls k s at) all
          (All-weaker (IsKnownValue (scope_after earlier c (take k c.body))) (IsThere (called k)) (known_there k s at) gives.args known.1.args)
          (λ sig signed. let each : GivesEach sig gives = subst (λ (o : Option Signature). IfSome o (λ (sig : Signature). GivesEach sig gives)) (meaning ∙ signed) (numbers k s at) in each.args)
      step k (Both name made' params gives) at all =
          let s = Both name made' params gives in
          let v : Invocation = record { name = name; inst = name; gives = gives } in
          let i : Instance = record { name = name; made = made'; params = params } in
          let known = named.known_names k s at in
          let found = find_last (flat_map instances_at (take k c.body)) i (All-head (λ (i : Instance). ¬ Contains (instance_names (flat_map instances_at (take k c.body))) i.name) i [] (named.new_names k s at).instances) in
          let meaning = same_meaning earlier c named (flat_map instances_at (take k c.body) ++ i ∷ []) (flat_map instances_at (drop (k + 1) c.body)) name (cut_with earlier c named k s at) (i, found) in
          next_resolved (called k) (flat_map invocations_at (drop (k + 1) c.body)) v (cut_calls k s at) all
          (All-weaker (IsKnownValue (scope_after earlier c (take k c.body))) (IsThere (called k)) (known_there k s at) gives.args known.1.args)
          (λ sig signed. let each : GivesEach sig gives = subst (λ (o : Option Signature). IfSome o (λ (sig : Signature). GivesEach sig gives)) (sym (ap (option_and_then (signature_of earlier)) found) ∙ meaning ∙ signed) (numbers k s at) in each.args)

      pub resolved_to : (k : ℕ) → k ≤ length c.body → AreResolved (called k)
      resolved_to zero within = tt
      resolved_to (suc k) within =
          let s = get_or c.body k no_statement in
          let below : k < length c.body = omega (arith, within) in
          let at : slice_get c.body k ≡ Some s = slice_get-get_or c.body k no_statement below in
          let calls : called k ++ invocations_at s ≡ called (suc k) = sym (flat_next invocations_at c.body k s at) ∙ ap called (add-one k) in
          subst AreResolved calls (step k s at (resolved_to k (omega (arith, within))))

      pub all_resolved : AreResolved (whole_scope earlier c).invocations
      all_resolved = subst AreResolved (ap (flat_map invocations_at) (take-length c.body)) (resolved_to (length c.body) (omega arith))
