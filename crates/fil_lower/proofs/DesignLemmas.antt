-- Lowered designs: component after component, and path after path, every instance carries what it is given.
use Rattle.std.proofs.Common.{◌≡◌, ◌⊎◌, ℕ, zero, suc, ◌<◌, ◌≤◌, Bool, true, false, List, [], ◌∷◌, ◌++◌, length, map, reverse, take, slice_get, Option, Some, None, option_map, refl, sym, ap, subst, ◌∙◌, inl, inr, is_some, add-one, append_assoc, arith}
use Rattle.std.specs.Option.{option_and_then, option_map_or}
use Rattle.std.specs.Prelude.{Contains, bytes_eq, if◌then◌else◌}
use Rattle.std.proofs.lemmas.Bool.{cases_lt, false≢true}
use Rattle.std.proofs.lemmas.List.{append-nil, length-take, reverse-append, reverse-reverse}
use Rattle.std.proofs.lemmas.List.Elements.{All-contains}
use Rattle.std.proofs.lemmas.Option.{none-some, option_and_then_some, same_Some, slice_get-map, slice_get_within}
use Rattle.std.proofs.lemmas.Slice.Eq.{bytes_eq-Decides}
use Rattle.std.proofs.Math.Seq.{take-length}
use Rattle.hw_names.specs.Name.{Path, Text, AreDistinct, full_name}
use Rattle.hw_names.proofs.NameLemmas.{same_number}
use Rattle.hw_prims.specs.Filament.{behaviour_of, data_inputs, data_outputs, given, needed}
use Rattle.hw_prims.specs.Filament as filament
use Rattle.hw_prims.specs.Row.{Trace}
use Rattle.hw_prims.specs.Table.{Pin, pin_names, prim_of}
use Rattle.hw_prims.specs.Timed.{Behaviour, CarriesInputs, AreLegalTransactions, IsTimed, TimedPort, Transaction}
use Rattle.hw_prims.specs.declared.prim.Primitive.{Primitive}
use Rattle.hw_prims.specs.declared.prim.Primitive.TheVariants.{StdReg}
use Rattle.hw_prims.proofs.FilamentLemmas as primitives
use Rattle.fil_ast.specs.Behaviours.{IsGiven, Itself, OfPrimitive, Below, component_behaviour, inner_transactions, timed_port}
use Rattle.fil_ast.specs.Naming.{component_names}
use Rattle.fil_ast.specs.Primitives.{filament_primitive, is_filament_primitive, primitive_signature, signature_by, table_name, timing_of}
use Rattle.fil_ast.specs.Rules.{FilRules}
use Rattle.fil_ast.specs.Scope.{Instance, bare_signature, component_named, instance_named, signature_in}
use Rattle.fil_ast.specs.Signature.{Signature, sig_port}
use Rattle.fil_ast.specs.Tree.{Component, Design}
use Rattle.fil_ast.specs.Typing.{IsInterval}
use Rattle.fil_ast.specs.Wires.{whole_scope}
use Rattle.fil_share.proofs.CalleeLemmas.{named_among}
use Rattle.fil_share.proofs.ListLemmas.{slice_get-take}
use Rattle.fil_share.proofs.MakesLemmas.{names_differ, take_next}
use Rattle.fil_lower.specs.Separate.{ComponentsStaySeparate, IsSeparate}
use Rattle.fil_lower.specs.Wires.{Stands, AtTop, Within}
use Rattle.fil_lower.specs.inside.Laws.{IsNeeded}
use Rattle.fil_lower.specs.inside.LoweredDesign.{CarriesAll, ComponentsAreTimed, EveryPathCarries, IsLoweredDesign, run_at}
use Rattle.fil_lower.specs.inside.Plan.{Use}
use Rattle.fil_lower.specs.inside.PlanOf.{behaviour_made, behaviour_named, callee_of, nothing_promised, plan_of}
use Rattle.fil_lower.specs.inside.PlanRules.{given_transactions}
use Rattle.fil_lower.proofs.AlikeLemmas.{alike_inputs, alike_legal, alike_outputs}
use Rattle.fil_lower.proofs.AvailableLemmas.{found_passes}
use Rattle.fil_lower.proofs.CallLemmas.{sound_at, sound_before, timed_as}
use Rattle.fil_lower.proofs.GivenLemmas.{given_legal}
use Rattle.fil_lower.proofs.NameLemmas.{from_map, map_agree, other_name, same_name}
use Rattle.fil_lower.proofs.OverlapLemmas.{instances_carry_all, lowered_is_timed}
use Rattle.fil_lower.proofs.PlanLemmas.{plans_give, plans_promise}
use Rattle.fil_lower.proofs.SeparateLemmas.{values_separate}
use Rattle.fil_lower.proofs.TimedAsLemmas.{contains_map, place_of}
use Rattle.fil_lower.proofs.TimingLemmas.{filament_is_timed}
use Rattle.fil_lower.proofs.UseLemmas.{some_at}
use Rattle.fil_lower.proofs.WellLemmas.{call_of, plans_well_timed}

-- ---- components by their numbers

-- component m promises the same among more components
pub names_distinct : (comps : Design) → FilRules comps → AreDistinct (component_names comps)
names_distinct comps rules =
    let D : Design → Type 0 = λ cs. AreDistinct (component_names cs) in
    subst D (take-length comps) (names_differ comps rules (length comps) (omega arith))

-- components of one name are one
pub same_place : (comps : Design) → FilRules comps → (n m : ℕ) (c d : Component) → slice_get comps n ≡ Some c → slice_get comps m ≡ Some d → c.name ≡ d.name → n ≡ m
same_place comps rules n m c d at_n at_m same =
    let name_of : Component → Text = λ c. c.name in
    same_number (component_names comps) n m d.name (names_distinct comps rules)
    (slice_get-map name_of comps n ∙ ap (option_map name_of) at_n ∙ ap Some same) (slice_get-map name_of comps m ∙ ap (option_map name_of) at_m)

pub turned : (comps : Design) (n : ℕ) (x : Component) → slice_get comps n ≡ Some x → reverse (take (suc n) comps) ≡ x ∷ reverse (take n comps)
turned comps n x at = ap (λ (k : ℕ). reverse (take k comps)) (sym (add-one n)) ∙ ap reverse (take_next comps n x at) ∙ reverse-append (take n comps) (x ∷ [])

behaviour_at : (comps : Design) → FilRules comps → (n m : ℕ) (d : Component) → n ≤ length comps → m < n → slice_get comps m ≡ Some d → behaviour_named (reverse (take n comps)) d.name ≡ component_behaviour (take m comps) d
behaviour_at comps rules zero m d within below at = absurd (omega (arith, below))
behaviour_at comps rules (suc n) m d within below at =
    let x = some_at comps n (omega (arith, within)) in
    let named : Bool → Behaviour = λ b. if b then component_behaviour (reverse (reverse (take n comps))) x.0 else behaviour_named (reverse (take n comps)) d.name in
    ap (λ (cs : List Component). behaviour_named cs d.name) (turned comps n x.0 x.1)
    ∙ elim (cases_lt m n) [
      | inl less ↦
          ap named (other_name x.0.name d.name (λ same. let number = same_place comps rules n m x.0 d x.1 at same in omega (arith, number, less)))
          ∙ behaviour_at comps rules n m d (omega (arith, within)) less at
      | inr ge ↦
          let number : n ≡ m = omega (arith, ge, below) in
          let same : x.0 ≡ d = same_Some x.0 d (sym x.1 ∙ ap (slice_get comps) number ∙ at) in
          ap named (same_name x.0.name d.name (ap (λ (c : Component). c.name) same))
          ∙ ap (λ (cs : Design). component_behaviour cs x.0) (reverse-reverse (take n comps))
          ∙ ap (component_behaviour (take n comps)) same
          ∙ ap (λ (k : ℕ). component_behaviour (take k comps) d) number
    ]

no_primitive : (i : Instance) → is_filament_primitive i.made ≡ false → filament_primitive i.made i.params ≡ None
no_primitive i none = by (table_name i.made) none
  where
    by : (o : Option Text) → is_some o ≡ false → option_and_then (λ (t : Text). prim_of t i.params) o ≡ None
    by None is = refl
    by (Some t) is = absurd (false≢true (sym is))

module _ (comps : Design) (rules : FilRules comps) (n : ℕ) (c : Component) (here : slice_get comps n ≡ Some c) where
  abbrev earlier : Design
  earlier = take n comps

  abbrev instances : List Instance
  instances = (whole_scope earlier c).instances

  distinct_before : AreDistinct (component_names earlier)
  distinct_before = names_differ comps rules n (let below = slice_get_within comps n c here in omega (arith, below))

  -- an instance of a primitive, or of component m
  pub record OfPrimitiveHere (inst : Text) : Type 0 where
    pub i : Instance
    pub found : instance_named instances inst ≡ Some i
    pub prim : Primitive
    pub is : filament_primitive i.made i.params ≡ Some prim
    pub promises : callee_of earlier c inst ≡ behaviour_of prim

  pub record OfComponentHere (inst : Text) : Type 0 where
    pub i : Instance
    pub found : instance_named instances inst ≡ Some i
    pub none : is_filament_primitive i.made ≡ false
    pub m : ℕ
    pub below : m < n
    pub d : Component
    pub at : slice_get comps m ≡ Some d
    pub is_named : d.name ≡ i.made
    pub promises : callee_of earlier c inst ≡ component_behaviour (take m comps) d

  pub primitive_promises : (inst : Text) (i : Instance) (prim : Primitive) → instance_named instances inst ≡ Some i → filament_primitive i.made i.params ≡ Some prim → callee_of earlier c inst ≡ behaviour_of prim
  primitive_promises inst i prim found is =
      ap (λ (o : Option Instance). option_map_or (behaviour_made earlier) o nothing_promised) found
      ∙ ap (λ (o : Option Primitive). option_map_or behaviour_of o (behaviour_named (reverse earlier) i.made)) is

  pub component_promises : (inst : Text) (i : Instance) (m : ℕ) (d : Component) → instance_named instances inst ≡ Some i → is_filament_primitive i.made ≡ false → m < n → slice_get comps m ≡ Some d → d.name ≡ i.made →
      callee_of earlier c inst ≡ component_behaviour (take m comps) d
  component_promises inst i m d found none below at is_named =
      ap (λ (o : Option Instance). option_map_or (behaviour_made earlier) o nothing_promised) found
      ∙ ap (λ (o : Option Primitive). option_map_or behaviour_of o (behaviour_named (reverse earlier) i.made)) (no_primitive i none)
      ∙ ap (behaviour_named (reverse earlier)) (sym is_named)
      ∙ behaviour_at comps rules n m d (let inside = slice_get_within comps n c here in omega (arith, inside)) below at

  -- what an instance with a signature is made of
  kind_of : (inst : Text) (i : Instance) (sig : Signature) → instance_named instances inst ≡ Some i → signature_in earlier i.made i.params ≡ Some sig → OfPrimitiveHere inst ⊎ OfComponentHere inst
  kind_of inst i sig found signed = by (is_filament_primitive i.made) refl
    where
      chosen : (b : Bool) → is_filament_primitive i.made ≡ b → (if b then primitive_signature i.made i.params else option_and_then (bare_signature i.params) (component_named earlier i.made)) ≡ Some sig
      chosen b is = sym (ap (λ (b : Bool). if b then primitive_signature i.made i.params else option_and_then (bare_signature i.params) (component_named earlier i.made)) is) ∙ signed

      primitive : (o : Option Primitive) → filament_primitive i.made i.params ≡ o → option_map (signature_by (timing_of i.made)) o ≡ Some sig → OfPrimitiveHere inst
      primitive None is made = absurd (none-some sig made)
      primitive (Some prim) is made = record { i = i; found = found; prim = prim; is = is; promises = primitive_promises inst i prim found is }

      by : (b : Bool) → is_filament_primitive i.made ≡ b → OfPrimitiveHere inst ⊎ OfComponentHere inst
      by true is = inl (primitive (filament_primitive i.made i.params) refl (chosen true is))
      by false is =
          option_and_then_some (bare_signature i.params) (component_named earlier i.made) sig (chosen false is) (λ d found_d bare.
          let place = place_of earlier d (named_among i.made earlier d found_d) in
          let at : slice_get comps place.0 ≡ Some d = slice_get-take n comps place.0 d place.1 in
          let inside = slice_get_within earlier place.0 d place.1 in
          let below : place.0 < n = omega (arith, inside, length-take n comps) in
          let is_named : d.name ≡ i.made = (bytes_eq-Decides d.name i.made).0 (found_passes (λ (e : Component). bytes_eq e.name i.made) earlier d found_d) in
          inr (record { i = i; found = found; none = is; m = place.0; below = below; d = d; at = at; is_named = is_named; promises = component_promises inst i place.0 d found is below at is_named }))

  -- each invocation's instance is of one kind, and its inputs are needed
  pub call_kind : (call : Use) → Contains (plan_of earlier c).uses call → (OfPrimitiveHere call.inst ⊎ OfComponentHere call.inst) × IsNeeded (callee_of earlier c call.inst).sig
  call_kind call has =
      let a = call_of comps rules n c here call has in
      let f = a.is_called in
      subst (λ (u : Use). (OfPrimitiveHere u.inst ⊎ OfComponentHere u.inst) × IsNeeded (callee_of earlier c u.inst).sig) a.is
      (option_and_then_some (λ (i : Instance). signature_in earlier i.made i.params) (instance_named instances a.v.inst) f.sig f.signed (λ i found signed. (
        kind_of a.v.inst i f.sig found signed,
        subst (λ (o : Option Instance). IsNeeded (option_map_or (behaviour_made earlier) o nothing_promised).sig) (sym found) (timed_as earlier distinct_before (sound_before comps rules n) i f.sig signed).needed,
      )))

-- ---- values of one event feed no other

given_event : (prim : Primitive) (p : Pin) → (given prim p).event ≡ 0
unfolding given
given_event (StdReg w) p = refl
given_event prim p = refl

pub primitive_separate : (prim : Primitive) → IsSeparate (behaviour_of prim)
primitive_separate prim o has v w same =
    let m = from_map (given prim) (data_outputs prim) o has in
    let event : 0 ≡ o.event = sym (given_event prim m.0) ∙ ap (λ (x : TimedPort). x.event) m.2 in
    ap (filament.primitive_flow prim) (map_agree v w (pin_names (data_inputs prim)) (λ name there.
    let n = from_map (λ (p : Pin). p.name) (data_inputs prim) name there in
    subst (λ (x : Text). v x ≡ w x) n.2 (same (needed n.0) (contains_map needed (data_inputs prim) n.0 n.1) event)))

separate_below : (comps : Design) → FilRules comps → (bound n : ℕ) (c : Component) → n < bound → slice_get comps n ≡ Some c → IsSeparate (component_behaviour (take n comps) c)
separate_below comps rules zero n c below here = absurd (omega (arith, below))
separate_below comps rules (suc bound) n c below here =
    subst IsSeparate (plans_promise comps rules n c here)
    (values_separate (plan_of (take n comps) c) (plans_well_timed comps rules n c here)
    (λ call has.
    let k = call_kind comps rules n c here call has in (
      elim k.0 [
        | inl p ↦ subst IsSeparate (sym p.promises) (primitive_separate p.prim)
        | inr d ↦ subst IsSeparate (sym d.promises) (separate_below comps rules bound d.m d.d (let less = d.below in omega (arith, below, less)) d.at)
      ],
      k.1,
    ))
    (λ p has.
    let m = from_map timed_port (map (sig_port c.events) c.outs) p has in
    let d = from_map (sig_port c.events) c.outs m.0 m.1 in
    let shape = All-contains IsInterval c.outs d.0 (sound_at comps rules n c here).shape.outs d.1 in
    subst (λ (x : TimedPort). x.from < x.to) (ap timed_port d.2 ∙ m.2) shape.1))

pub components_separate : ComponentsStaySeparate
components_separate comps rules n c here = separate_below comps rules (suc n) n c (omega arith) here

-- ---- every component is timed

module _ (comps : Design) (rules : FilRules comps) (top height : ℕ) (trace : Trace) (low : IsLoweredDesign comps top height trace) where
  abbrev TimedAt : ℕ → Path → Component → Type 0
  TimedAt n path c = IsTimed (component_behaviour (take n comps) c) (full_name path) height trace

  -- an instance is timed, where components before this one are
  instance_timed : (n : ℕ) (path : Path) (c : Component) → Stands comps top n path → (here : slice_get comps n ≡ Some c) → ((m : ℕ) (deeper : Path) (d : Component) → m < n → Stands comps top m deeper → slice_get comps m ≡ Some d → TimedAt m deeper d) →
      (call : Use) → Contains (plan_of (take n comps) c).uses call → IsTimed (callee_of (take n comps) c call.inst) (full_name (path ++ call.inst ∷ [])) height trace
  instance_timed n path c stands here before call has =
      elim (call_kind comps rules n c here call has).0 [
        | inl p ↦
            subst (λ (b : Behaviour). IsTimed b (full_name (path ++ call.inst ∷ [])) height trace) (sym p.promises)
            (primitives.timed p.prim (filament_is_timed p.i.made p.i.params p.prim p.is) (full_name (path ++ call.inst ∷ [])) height trace
            (low.primitives n path c call.inst p.i p.prim stands here p.found p.is))
        | inr d ↦
            subst (λ (b : Behaviour). IsTimed b (full_name (path ++ call.inst ∷ [])) height trace) (sym d.promises)
            (before d.m (path ++ call.inst ∷ []) d.d d.below (Within n d.m path c d.d call.inst d.i stands here d.found d.none d.below d.at d.is_named) d.at)
      ]

  timed_below : (bound n : ℕ) (path : Path) (c : Component) → n < bound → Stands comps top n path → slice_get comps n ≡ Some c → TimedAt n path c
  timed_below zero n path c below stands here = absurd (omega (arith, below))
  timed_below (suc bound) n path c below stands here =
      let l = low.components n path c stands here in
      subst (λ (b : Behaviour). IsTimed b (full_name path) height trace) (plans_promise comps rules n c here)
      (lowered_is_timed (plan_of (take n comps) c) (plans_well_timed comps rules n c here) (run_at path l.0 height trace) l.1
      (instance_timed n path c stands here (λ m deeper d less. timed_below bound m deeper d (omega (arith, below, less)))))

  timed_here : (n : ℕ) (path : Path) (c : Component) → Stands comps top n path → slice_get comps n ≡ Some c → TimedAt n path c
  timed_here n path c = timed_below (suc n) n path c (omega arith)

  -- ---- every path carries

  abbrev CarriesIn : ℕ → Path → Component → List Transaction → Type 0
  CarriesIn n path c txs =
      AreLegalTransactions (component_behaviour (take n comps) c).sig txs × ((r : ℕ) → r < height → CarriesInputs (component_behaviour (take n comps) c).sig (full_name path) (trace r) txs r)

  -- a component itself
  itself_carries : (n : ℕ) (path : Path) (c : Component) → Stands comps top n path → slice_get comps n ≡ Some c → (txs : List Transaction) → CarriesIn n path c txs →
      CarriesAll (component_behaviour (take n comps) c) (full_name path) height trace txs
  itself_carries n path c stands here txs (legal, ins) = record {
    legal = legal;
    inputs = ins;
    outputs = λ r below tx has.
        timed_here n path c stands here txs legal r below (λ s less. ins s (omega (arith, less, below))) (ins r below).starts tx has ((ins r below).values tx has);
  }

  -- an instance in it
  instance_carries : (n : ℕ) (path : Path) (c : Component) → Stands comps top n path → (here : slice_get comps n ≡ Some c) → (txs : List Transaction) → CarriesIn n path c txs → (inst : Text) → IsSeparate (callee_of (take n comps) c inst) →
      CarriesAll (callee_of (take n comps) c inst) (full_name (path ++ inst ∷ [])) height trace (inner_transactions (take n comps) c txs inst)
  instance_carries n path c stands here txs (legal, ins) inst separate =
      let plan = plan_of (take n comps) c in
      let b = callee_of (take n comps) c inst in
      let l = low.components n path c stands here in
      let well = plans_well_timed comps rules n c here in
      let carry = instances_carry_all plan well (run_at path l.0 height trace) l.1 (instance_timed n path c stands here (λ m deeper d less. timed_here m deeper d)) txs legal ins inst in
      let zip = plans_give comps rules n c here txs inst in
      record {
        legal = alike_legal b (given_transactions plan txs inst) (inner_transactions (take n comps) c txs inst) zip (given_legal plan well txs legal inst);
        inputs = λ r below. alike_inputs b (given_transactions plan txs inst) (inner_transactions (take n comps) c txs inst) zip (full_name (path ++ inst ∷ [])) (trace r) r (carry r below).0;
        outputs = λ r below. alike_outputs b (given_transactions plan txs inst) (inner_transactions (take n comps) c txs inst) zip separate (full_name (path ++ inst ∷ [])) (trace r) r (carry r below).1;
      }

  path_carries : (b : Behaviour) (given : List Transaction) (n : ℕ) (txs : List Transaction) (path : Path) → IsGiven comps b given n txs path →
      (at : Path) → Stands comps top n at → (c : Component) → slice_get comps n ≡ Some c → CarriesIn n at c txs → CarriesAll b (full_name (at ++ path)) height trace given
  path_carries b given n txs path (Itself k c' here' is) at stands c here carried =
      let same : c' ≡ c = same_Some c' c (sym here' ∙ here) in
      subst (λ (x : Path). CarriesAll b (full_name x) height trace given) (sym (append-nil at))
      (subst (λ (x : Behaviour). CarriesAll x (full_name at) height trace given) (sym (is ∙ ap (component_behaviour (take k comps)) same))
      (itself_carries k at c stands here given carried))
  path_carries b given n txs path (OfPrimitive k us c' inst i prim here' found is b_is given_is) at stands c here carried =
      let same : c' ≡ c = same_Some c' c (sym here' ∙ here) in
      let carried' = subst (λ (x : Component). CarriesIn k at x us) (sym same) carried in
      let promises = primitive_promises comps rules k c' here' inst i prim found is in
      let all = instance_carries k at c' stands here' us carried' inst (subst IsSeparate (sym promises) (primitive_separate prim)) in
      subst (λ (x : Behaviour). CarriesAll x (full_name (at ++ inst ∷ [])) height trace given) (promises ∙ sym b_is)
      (subst (λ (x : List Transaction). CarriesAll (callee_of (take k comps) c' inst) (full_name (at ++ inst ∷ [])) height trace x) (sym given_is) all)
  path_carries b given n txs path (Below k m us c' d inst i deeper here' found none below at_m named rest) at stands c here carried =
      let same : c' ≡ c = same_Some c' c (sym here' ∙ here) in
      let carried' = subst (λ (x : Component). CarriesIn k at x us) (sym same) carried in
      let promises = component_promises comps rules k c' here' inst i m d found none below at_m named in
      let all = instance_carries k at c' stands here' us carried' inst (subst IsSeparate (sym promises) (components_separate comps rules m d at_m)) in
      let within = subst (λ (x : Behaviour). CarriesAll x (full_name (at ++ inst ∷ [])) height trace (inner_transactions (take k comps) c' us inst)) promises all in
      subst (λ (x : Path). CarriesAll b (full_name x) height trace given) (append_assoc at (inst ∷ []) deeper)
      (path_carries b given m (inner_transactions (take k comps) c' us inst) deeper rest (at ++ inst ∷ []) (Within k m at c' d inst i stands here' found none below at_m named) d at_m (within.legal, within.inputs))

pub components_timed : ComponentsAreTimed
components_timed comps rules top height trace low n path c stands here = timed_here comps rules top height trace low n path c stands here

pub every_path : EveryPathCarries
every_path comps rules top height trace low c here txs legal ins b given path is =
    path_carries comps rules top height trace low b given top txs path is [] AtTop c here (legal, ins)
