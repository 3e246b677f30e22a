-- The plan of a component promises what the component does, and gives its instances the same.
use Rattle.std.proofs.Common.{◌≡◌, ℕ, suc, Bool, true, false, cond, List, [], ◌∷◌, ◌++◌, map, filter, flat_map, take, drop, get_or, slice_get, All, Option, Some, None, refl, sym, ap, subst, ◌∙◌, arith}
use Rattle.std.specs.List.{AllZip}
use Rattle.std.specs.Option.{option_map_or}
use Rattle.std.specs.Prelude.{◌≢◌, ◌==◌, ◌&&◌, Contains, bytes_eq, if◌then◌else◌}
use Rattle.std.proofs.lemmas.Bool.Decides.{Decides-eqb}
use Rattle.std.proofs.lemmas.List.{take-append-drop}
use Rattle.std.proofs.lemmas.List.Concat.{flat_map-append}
use Rattle.std.proofs.lemmas.List.Elements.{All-head, All-nil, All-tail, All-take, All-weaker}
use Rattle.std.proofs.lemmas.Option.{none-some, option_and_then_some, same_Some, slice_get-get_or, slice_get_within}
use Rattle.std.proofs.lemmas.Slice.Eq.{bytes_eq-Decides}
use Rattle.hw_names.specs.Name.{Text, AreDistinct}
use Rattle.hw_prims.specs.Timed.{Behaviour, TimedPort, Transaction, Values}
use Rattle.fil_ast.specs.Behaviours.{argument_named, arguments_in, component_behaviour, inner_by, inner_of, inner_transactions, inputs_of_callee, timed_signature}
use Rattle.fil_ast.specs.Flow.{Named, connected_to, value_in_body, value_named, with_values}
use Rattle.fil_ast.specs.Holds.{uses_of}
use Rattle.fil_ast.specs.Items.{TheSignature, scope_after}
use Rattle.fil_ast.specs.Naming.{HasNewNames, component_names}
use Rattle.fil_ast.specs.Rules.{F1, FilRules}
use Rattle.fil_ast.specs.Scope.{Instance, Invocation, instance_named, instance_signature, invocations_at, signature_in}
use Rattle.fil_ast.specs.Signature.{SigPort, Signature, component_signature, event_number}
use Rattle.fil_ast.specs.Timeline as timeline
use Rattle.fil_ast.specs.Tree.{Component, DataPort, Design, Interface, Statement, New, Call, Both, Connect, ValueTree}
use Rattle.fil_ast.specs.Typing.{KeepsNumbers}
use Rattle.fil_ast.specs.Wires.{whole_scope}
use Rattle.fil_share.proofs.MakesLemmas.{at_statement, names_differ}
use Rattle.fil_share.proofs.OwnLemmas.{KeepsNames, names_of}
use Rattle.fil_share.proofs.ListLemmas.{AllPairs-left}
use Rattle.fil_lower.specs.Separate.{AreAlike}
use Rattle.fil_lower.specs.inside.Plan.{Literal, Slot, behaviour_of_plan, value_of}
use Rattle.fil_lower.specs.inside.PlanLaws.{PlansGiveTheSame, PlansPromiseTheSame}
use Rattle.fil_lower.specs.inside.PlanOf.{Resolved, behaviour_made, callee_of, nothing_promised, plan_of, resolved_calls, slot_of, source_of}
use Rattle.fil_lower.specs.inside.PlanRules.{given_by, given_by_slot, given_by_use, given_transactions}
use Rattle.fil_lower.proofs.CalleeLemmas.{data_names, promised}
use Rattle.fil_lower.proofs.NameLemmas.{distinct_rest, given_to}
use Rattle.fil_lower.proofs.ResolvedLemmas.{AreResolved, IsResolved, IsThere, all_resolved, called, flows, inputs, known_there, knowns, there_still, value_is, value_of_name, whole}

-- ---- two lists that agree place by place, joined

module _ {X Y : Type 0} (R : X → Y → Type 0) where
  pub zip_append : (xs : List X) (ys : List Y) (us : List X) (vs : List Y) → AllZip R xs ys → AllZip R us vs → AllZip R (xs ++ us) (ys ++ vs)
  zip_append [] [] us vs first later = later
  zip_append [] (y ∷ ys) us vs first later = absurd first
  zip_append (x ∷ xs) [] us vs first later = absurd first
  zip_append (x ∷ xs) (y ∷ ys) us vs first later = (first.0, zip_append xs ys us vs first.1 later)

  zip_flat : {Z : Type 0} (f : Z → List X) (g : Z → List Y) (zs : List Z) → ((z : Z) → AllZip R (f z) (g z)) → AllZip R (flat_map f zs) (flat_map g zs)
  zip_flat f g [] each = tt
  zip_flat f g (z ∷ zs) each = zip_append (f z) (g z) (flat_map f zs) (flat_map g zs) (each z) (zip_flat f g zs each)

-- ---- inputs and outputs by name

with_values_are : (ports : List DataPort) (values : Values) → with_values ports (map (λ (p : DataPort). values p.name) ports) ≡ map (λ (p : DataPort). record { name = p.name; value = values p.name }) ports
with_values_are [] values = refl
with_values_are (p ∷ ports) values = ap (λ (rest : List Named). record { name = p.name; value = values p.name } ∷ rest) (with_values_are ports values)

-- an output of no value has the value 0
hidden : (ports : List DataPort) (values : Values) (name : Text) → values name ≡ 0 → value_named (map (λ (p : DataPort). record { name = p.name; value = values p.name }) ports) name ≡ 0
hidden [] values name is = refl
hidden (p ∷ ports) values name is = by (bytes_eq p.name name) refl (hidden ports values name is)
  where
    by : (b : Bool) → bytes_eq p.name name ≡ b → value_named (map (λ (p : DataPort). record { name = p.name; value = values p.name }) ports) name ≡ 0
        → (if b then values p.name else value_named (map (λ (p : DataPort). record { name = p.name; value = values p.name }) ports) name) ≡ 0
    by true same rest = ap values ((bytes_eq-Decides p.name name).0 same) ∙ is
    by false same rest = rest

-- where an output is connected
pub record IsConnected (body : List Statement) (output : Text) (arg : ValueTree) : Type 0 where
  pub k : ℕ
  pub at : slice_get body k ≡ Some (Connect output arg)

connected_later : (s : Statement) (body : List Statement) (output : Text) (arg : ValueTree) → IsConnected body output arg → IsConnected (s ∷ body) output arg
connected_later s body output arg is = record { k = suc is.k; at = is.at }

pub connected_where : (body : List Statement) (output : Text) (arg : ValueTree) → connected_to body output ≡ Some arg → IsConnected body output arg
connected_where [] output arg is = absurd (none-some arg is)
connected_where (New name made params ∷ body) output arg is = connected_later _ body output arg (connected_where body output arg is)
connected_where (Call name inst gives ∷ body) output arg is = connected_later _ body output arg (connected_where body output arg is)
connected_where (Both name made params gives ∷ body) output arg is = connected_later _ body output arg (connected_where body output arg is)
connected_where (Connect name value ∷ body) output arg is = by (bytes_eq name output) refl is (connected_where body output arg)
  where
    by : (b : Bool) → bytes_eq name output ≡ b → (if b then Some value else connected_to body output) ≡ Some arg → (connected_to body output ≡ Some arg → IsConnected body output arg) → IsConnected (Connect name value ∷ body) output arg
    by true same e later =
        record { k = 0; at = ap Some (ap (λ (n : Text). Connect n value) ((bytes_eq-Decides name output).0 same) ∙ ap (Connect output) (same_Some value arg e)) }
    by false other e later = connected_later (Connect name value) body output arg (later e)

-- the value by name is the argument on the event, where each port of the name goes by that event
on_event : (event : ℕ) (ports : List SigPort) (xs : List ℕ) (name : Text) → All (λ (q : SigPort). q.name ≡ name → q.from.event ≡ event) ports → given_to ports xs name ≡ argument_named event ports xs name
on_event event [] xs name all = refl
on_event event (q ∷ ports) [] name all = refl
on_event event (q ∷ ports) (x ∷ xs) name all =
    by (bytes_eq q.name name) refl (on_event event ports xs name (All-tail (λ (q : SigPort). q.name ≡ name → q.from.event ≡ event) q ports all))
  where
    by : (b : Bool) → bytes_eq q.name name ≡ b → given_to ports xs name ≡ argument_named event ports xs name
        → (if b then x else given_to ports xs name) ≡ (if b && (q.from.event == event) then x else argument_named event ports xs name)
    by true same rest =
        let on : (q.from.event == event) ≡ true = (Decides-eqb q.from.event event).1 (All-head (λ (q : SigPort). q.name ≡ name → q.from.event ≡ event) q ports all ((bytes_eq-Decides q.name name).0 same)) in
        sym (ap (λ (b : Bool). if b then x else argument_named event ports xs name) on)
    by false other rest = rest

-- ---- components of designs that keep the rules

-- the inputs of each component have distinct names
pub inputs_differ : (comps : Design) → FilRules comps → All (λ (d : Component). AreDistinct (data_names d.ins)) comps
inputs_differ comps rules k d within =
    let x = get_or comps k d in
    let names : HasNewNames (take k comps) x = rules.keeps k x (slice_get-get_or comps k d within) 0 TheSignature refl 0 F1 (omega arith) in
    let interfaces = map (λ (g : Interface). g.name) x.interfaces in
    distinct_rest interfaces (data_names x.ins) (AllPairs-left (λ (a b : Text). a ≢ b) (interfaces ++ data_names x.ins) (data_names x.outs) names.ports)

pub outputs_differ : (comps : Design) → FilRules comps → (n : ℕ) (c : Component) → slice_get comps n ≡ Some c → AreDistinct (data_names c.outs)
outputs_differ comps rules n c here =
    let names : HasNewNames (take n comps) c = rules.keeps n c here 0 TheSignature refl 0 F1 (omega arith) in
    distinct_rest (map (λ (g : Interface). g.name) c.interfaces ++ data_names c.ins) (data_names c.outs) names.ports

module _ (comps : Design) (rules : FilRules comps) (n : ℕ) (c : Component) (here : slice_get comps n ≡ Some c) where
  abbrev earlier : Design
  earlier = take n comps

  abbrev invocations : List Invocation
  invocations = (whole_scope earlier c).invocations

  distinct : AreDistinct (component_names earlier)
  distinct = names_differ comps rules n (let below = slice_get_within comps n c here in omega (arith, below))

  ports : All (λ (d : Component). AreDistinct (data_names d.ins)) earlier
  ports = All-take (λ (d : Component). AreDistinct (data_names d.ins)) n comps (inputs_differ comps rules)

  named : KeepsNames earlier c
  named = names_of comps rules n c here

  numbers : (k : ℕ) (s : Statement) → slice_get c.body k ≡ Some s → KeepsNumbers (scope_after earlier c (take k c.body)) s
  numbers k s at = at_statement comps rules n c here k s at 3 F1 (omega arith)

  all : (values : Values) → AreResolved earlier c values invocations
  all values = all_resolved earlier c values distinct ports named numbers

  -- an output has the same value
  module _ (values : Values) where
    abbrev shown : Values
    shown name = option_map_or (whole earlier c values) (connected_to c.body name) 0

    abbrev outputs_with : List Named → List Named
    outputs_with ins =
        map (λ (p : DataPort). record { name = p.name; value = option_map_or (value_in_body (flows earlier c values) c.body ins) (connected_to c.body p.name) 0 }) c.outs

    connected_value : (output : Text) (arg : ValueTree) → connected_to c.body output ≡ Some arg → value_of (callee_of earlier c) values (source_of (resolved_calls earlier c) arg) ≡ value_named (outputs_with (inputs earlier c values)) output
    connected_value output arg is =
        let w = connected_where c.body output arg is in
        let known = named.known_names w.k (Connect output arg) w.at in
        let there = there_still earlier c values (called earlier c values distinct ports named numbers w.k) (flat_map invocations_at (drop w.k c.body)) arg
        (known_there earlier c values distinct ports named numbers w.k (Connect output arg) w.at arg known.1) in
        let cut : flat_map invocations_at (take w.k c.body) ++ flat_map invocations_at (drop w.k c.body) ≡ invocations =
        sym (flat_map-append invocations_at (take w.k c.body) (drop w.k c.body)) ∙ ap (flat_map invocations_at) (take-append-drop w.k c.body) in
        value_is earlier c values invocations (knowns earlier c values invocations) (all values) arg
        (subst (λ (vs : List Invocation). IsThere earlier c values vs arg) cut there)
        ∙ sym (ap (λ (o : Option ValueTree). option_map_or (whole earlier c values) o 0) is)
        ∙ sym (value_of_name c.events c.outs shown output known.0)

    flow_is : (output : Text) → (behaviour_of_plan (plan_of earlier c)).flow values output ≡ (component_behaviour earlier c).flow values output
    flow_is output =
        by (connected_to c.body output) refl
        ∙ sym (ap (λ (ins : List Named). value_named (outputs_with ins) output) (with_values_are c.ins values))
      where
        by : (o : Option ValueTree) → connected_to c.body output ≡ o → value_of (callee_of earlier c) values (option_map_or (source_of (resolved_calls earlier c)) o (Literal 0)) ≡ value_named (outputs_with (inputs earlier c values)) output
        by None none = sym (hidden c.outs shown output (ap (λ (o : Option ValueTree). option_map_or (whole earlier c values) o 0) none))
        by (Some arg) some = connected_value output arg some

  -- an instance is given the same
  module _ (inst : Text) where
    abbrev Alike : Transaction → Transaction → Type 0
    Alike a b = AreAlike (callee_of earlier c inst).sig a b

    -- the callee's inputs of one name go by one event
    one_event : (p : TimedPort) → Contains (callee_of earlier c inst).sig.ins p → All (λ (q : SigPort). q.name ≡ p.name → q.from.event ≡ p.event) (inputs_of_callee earlier c inst)
    one_event p has = by (instance_signature (whole_scope earlier c) inst) refl
      where
        by : (o : Option Signature) → instance_signature (whole_scope earlier c) inst ≡ o → All (λ (q : SigPort). q.name ≡ p.name → q.from.event ≡ p.event) (option_map_or (λ (s : Signature). s.ins) o [])
        by None none = All-nil (λ (q : SigPort). q.name ≡ p.name → q.from.event ≡ p.event)
        by (Some sig) signed =
            option_and_then_some (λ (i : Instance). signature_in earlier i.made i.params) (instance_named (whole_scope earlier c).instances inst) sig signed (λ i is_i signed_i.
            (promised earlier distinct ports i sig signed_i).ins p
            (subst (λ (o : Option Instance). Contains (option_map_or (behaviour_made earlier) o nothing_promised).sig.ins p) is_i has))

    module _ (tx : Transaction) where
      alike : (v : Invocation) (r : Resolved) → IsResolved earlier c tx.values v r → v.inst ≡ inst → (u : timeline.Use) → Alike (given_by (plan_of earlier c) tx r.call (slot_of c u)) (inner_by earlier c tx v u)
      alike v r is of_inst u = record {
        event = refl;
        start = refl;
        hold = refl;
        values = λ p has on.
            is.args p.name
            ∙ on_event u.event (inputs_of_callee earlier c v.inst) (arguments_in earlier c tx.values v) p.name
            (subst (λ (name : Text). All (λ (q : SigPort). q.name ≡ p.name → q.from.event ≡ u.event) (inputs_of_callee earlier c name)) (sym of_inst)
            (All-weaker (λ (q : SigPort). q.name ≡ p.name → q.from.event ≡ p.event) (λ (q : SigPort). q.name ≡ p.name → q.from.event ≡ u.event) (λ q goes same. goes same ∙ on) (inputs_of_callee earlier c inst) (one_event p has)));
      }

      each_slot : (v : Invocation) (r : Resolved) → IsResolved earlier c tx.values v r → v.inst ≡ inst → (us : List timeline.Use) →
          AllZip Alike (flat_map (given_by_slot (plan_of earlier c) tx r.call) (map (slot_of c) us)) (map (inner_by earlier c tx v) (filter (λ (u : timeline.Use). event_number c.events u.at.event == tx.event) us))
      each_slot v r is of_inst [] = tt
      each_slot v r is of_inst (u ∷ us) = by (event_number c.events u.at.event == tx.event) (each_slot v r is of_inst us)
        where
          by : (b : Bool) → AllZip Alike (flat_map (given_by_slot (plan_of earlier c) tx r.call) (map (slot_of c) us)) (map (inner_by earlier c tx v) (filter (λ (u : timeline.Use). event_number c.events u.at.event == tx.event) us))
              → AllZip Alike ((if b then given_by (plan_of earlier c) tx r.call (slot_of c u) ∷ [] else []) ++ flat_map (given_by_slot (plan_of earlier c) tx r.call) (map (slot_of c) us))
              (map (inner_by earlier c tx v) (cond b (u ∷ filter (λ (u : timeline.Use). event_number c.events u.at.event == tx.event) us) (filter (λ (u : timeline.Use). event_number c.events u.at.event == tx.event) us)))
          by true rest = (alike v r is of_inst u, rest)
          by false rest = rest

      one_call : (v : Invocation) (r : Resolved) → IsResolved earlier c tx.values v r → AllZip Alike (given_by_use (plan_of earlier c) inst tx r.call) (inner_of earlier c inst tx v)
      one_call v r is =
          subst (λ (name : Text). AllZip Alike (if bytes_eq name inst then flat_map (given_by_slot (plan_of earlier c) tx r.call) r.call.slots else []) (inner_of earlier c inst tx v)) (sym is.inst)
          (by (bytes_eq v.inst inst) refl)
        where
          by : (b : Bool) → bytes_eq v.inst inst ≡ b → AllZip Alike (if b then flat_map (given_by_slot (plan_of earlier c) tx r.call) r.call.slots else [])
              (if b then map (inner_by earlier c tx v) (filter (λ (u : timeline.Use). event_number c.events u.at.event == tx.event) (uses_of (whole_scope earlier c) v)) else [])
          by true same =
              subst (λ (slots : List Slot). AllZip Alike (flat_map (given_by_slot (plan_of earlier c) tx r.call) slots) (map (inner_by earlier c tx v) (filter (λ (u : timeline.Use). event_number c.events u.at.event == tx.event) (uses_of (whole_scope earlier c) v)))) (sym is.slots)
              (each_slot v r is ((bytes_eq-Decides v.inst inst).0 same) (uses_of (whole_scope earlier c) v))
          by false other = tt

      each_call : (vs : List Invocation) (rs : List Resolved) → AllZip (IsResolved earlier c tx.values) vs rs →
          AllZip Alike (flat_map (given_by_use (plan_of earlier c) inst tx) (map (λ (r : Resolved). r.call) rs)) (flat_map (inner_of earlier c inst tx) vs)
      each_call [] [] is = tt
      each_call [] (r ∷ rs) is = absurd is
      each_call (v ∷ vs) [] is = absurd is
      each_call (v ∷ vs) (r ∷ rs) is =
          zip_append Alike (given_by_use (plan_of earlier c) inst tx r.call) (inner_of earlier c inst tx v) (flat_map (given_by_use (plan_of earlier c) inst tx) (map (λ (r : Resolved). r.call) rs)) (flat_map (inner_of earlier c inst tx) vs)
          (one_call v r is.0) (each_call vs rs is.1)

    gives_same : (txs : List Transaction) → AllZip Alike (given_transactions (plan_of earlier c) txs inst) (inner_transactions earlier c txs inst)
    gives_same txs =
        zip_flat Alike (λ (tx : Transaction). flat_map (given_by_use (plan_of earlier c) inst tx) (plan_of earlier c).uses) (λ (tx : Transaction). flat_map (inner_of earlier c inst tx) invocations) txs
        (λ tx. each_call tx invocations (knowns earlier c tx.values invocations) (all tx.values))

pub plans_promise : PlansPromiseTheSame
plans_promise comps rules n c here =
    let promising : (Values → Values) → Behaviour = λ f. record { sig = timed_signature (component_signature c); flow = f } in
    let same : (behaviour_of_plan (plan_of (take n comps) c)).flow ≡ (component_behaviour (take n comps) c).flow = λ j values output. flow_is comps rules n c here values output j in
    ap promising same

pub plans_give : PlansGiveTheSame
plans_give comps rules n c here txs inst = gives_same comps rules n c here inst txs
