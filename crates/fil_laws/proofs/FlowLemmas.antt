-- By plain dataflow an output goes by the inputs of its own event.
use Rattle.std.proofs.Common.{◌≡◌, ℕ, zero, suc, Bool, true, false, cond, List, [], ◌∷◌, length, map, drop, reverse, take, get_or, slice_get, Contains, Some, option_map, refl, sym, ap, ap₂, subst, ◌∙◌, arith}
use Rattle.std.specs.Option.{option_map_or}
use Rattle.std.proofs.lemmas.Bool.{false≢true}
use Rattle.std.proofs.lemmas.List.{length-map}
use Rattle.std.proofs.lemmas.List.Elements.{All-contains}
use Rattle.std.proofs.lemmas.Option.{none-some, same_Some, slice_get-map}
use Rattle.std.proofs.lemmas.Simd.{map-map}
use Rattle.std.proofs.lemmas.Slice.Eq.{bytes_eq-Decides}
use Rattle.hw_names.specs.Name.{Text, AreDistinct}
use Rattle.hw_prims.specs.Timed.{Behaviour, TimedPort, Values}
use Rattle.fil_ast.specs.Behaviours.{component_behaviour, timed_port}
use Rattle.fil_ast.specs.Flow.{Named, component_flow, connected_to, flow, flow_of, value_in_body, value_named, with_values}
use Rattle.fil_ast.specs.Items.{TheSignature}
use Rattle.fil_ast.specs.Naming.{NamesEvent, NamesEvents}
use Rattle.fil_ast.specs.Rules.{F1, FilRules}
use Rattle.fil_ast.specs.Signature.{event_number, sig_port}
use Rattle.fil_ast.specs.Transactions.{inputs_given, is_of_event, outputs_shown}
use Rattle.fil_ast.specs.Tree.{Component, DataPort, Design, Event}
use Rattle.fil_share.proofs.CarriedLemmas.{each_found, flow_is, given_back, long_given}
use Rattle.fil_share.proofs.ListLemmas.{Contains-at}
use Rattle.fil_lower.proofs.CalleeLemmas.{data_names}
use Rattle.fil_lower.proofs.DesignLemmas.{components_separate}
use Rattle.fil_lower.proofs.NameLemmas.{from_map}
use Rattle.fil_lower.proofs.PlanLemmas.{inputs_differ, outputs_differ}
use Rattle.fil_lower.proofs.TimedAsLemmas.{contains_map, number_of}
use Rattle.fil_laws.proofs.EventLemmas.{is_name}
use Rattle.fil_laws.proofs.PlaceLemmas.{place_of}
use Rattle.fil_laws.specs.Events.{AgreeOn, EventsStayApart, OtherInputsAreFree, values_at}

module _ (comps : Design) (rules : FilRules comps) (n : ℕ) (c : Component) (here : slice_get comps n ≡ Some c) where
  abbrev promise : Behaviour
  promise = component_behaviour (take n comps) c

  abbrev before : Text → List ℕ → List Named
  before = flow_of (reverse (take n comps))

  named : NamesEvents c
  named = rules.keeps n c here 0 TheSignature refl 1 F1 (omega arith)

  -- times of one event's number name one event
  one_event : (a b : Text) → NamesEvent c a → NamesEvent c b → event_number c.events a ≡ event_number c.events b → a ≡ b
  one_event a b has_a has_b same =
      let e = number_of c.events a has_a in
      let f = number_of c.events b has_b in
      sym e.2 ∙ ap (λ (x : Event). x.name) (same_Some e.0 f.0 (sym e.1 ∙ ap (slice_get c.events) same ∙ f.1)) ∙ f.2

  -- ---- values by names

  abbrev by_name : List ℕ → Values
  by_name args name = value_named (with_values c.ins args) name

  ins_differ : AreDistinct (data_names c.ins)
  ins_differ = All-contains (λ (d : Component). AreDistinct (data_names d.ins)) comps c (inputs_differ comps rules) (Contains-at comps n c here)

  module _ (args : List ℕ) (long : length args ≡ length c.ins) where
    ins_back : map (λ (p : DataPort). by_name args p.name) c.ins ≡ args
    ins_back = given_back c.ins args long ins_differ

    input_at : (k : ℕ) (p : DataPort) → slice_get c.ins k ≡ Some p → slice_get args k ≡ Some (by_name args p.name)
    input_at k p at =
        let value : DataPort → ℕ = λ p. by_name args p.name in
        ap (λ (xs : List ℕ). slice_get xs k) (sym ins_back) ∙ slice_get-map value c.ins k ∙ ap (option_map value) at

    -- an output, with its value
    abbrev output_value : DataPort → ℕ
    output_value p = option_map_or (value_in_body before c.body (with_values c.ins args)) (connected_to c.body p.name) 0

    abbrev output_named : DataPort → Named
    output_named p = record { name = p.name; value = output_value p }

    told : (k : ℕ) (p : DataPort) → slice_get c.outs k ≡ Some p → promise.flow (by_name args) p.name ≡ output_value p
    told k p at =
        let D : List Text → Type 0 = AreDistinct in
        let differ = subst D (sym (map-map (λ (q : Named). q.name) output_named c.outs)) (outputs_differ comps rules n c here) in
        ap (λ (xs : List ℕ). value_named (component_flow before c xs) p.name) ins_back
        ∙ All-contains (λ (q : Named). value_named (map output_named c.outs) q.name ≡ q.value) (map output_named c.outs) (output_named p) (each_found (map output_named c.outs) differ)
        (contains_map output_named c.outs p (Contains-at c.outs k p at))

    flow_values : flow comps c args ≡ map output_value c.outs
    flow_values = ap (map (λ (q : Named). q.value)) (flow_is comps rules n c here args) ∙ map-map (λ (q : Named). q.value) output_named c.outs

    output_at : (k : ℕ) (p : DataPort) → slice_get c.outs k ≡ Some p → slice_get (flow comps c args) k ≡ Some (promise.flow (by_name args) p.name)
    output_at k p at =
        ap (λ (xs : List ℕ). slice_get xs k) flow_values ∙ slice_get-map output_value c.outs k ∙ ap (option_map output_value) at ∙ ap Some (sym (told k p at))

    long_flow : length (flow comps c args) ≡ length c.outs
    long_flow = ap (length {A = ℕ}) flow_values ∙ length-map c.outs output_value

  -- ---- outputs of one event

  pub stay_apart : (event : Text) (values others : List ℕ) → length values ≡ length c.ins → length others ≡ length c.ins → AgreeOn event c.ins values others → AgreeOn event c.outs (flow comps c values) (flow comps c others)
  stay_apart event values others long also agree k p at on =
      let o = timed_port (sig_port c.events p) in
      let has_p = Contains-at c.outs k p at in
      let has_o : Contains promise.sig.outs o = contains_map timed_port (map (sig_port c.events) c.outs) (sig_port c.events p) (contains_map (sig_port c.events) c.outs p has_p) in
      let is_out : NamesEvent c p.from.event = (All-contains (λ (q : DataPort). NamesEvent c q.from.event × NamesEvent c q.to.event) c.outs p named.outs has_p).0 in
      output_at values long k p at
      ∙ ap Some (components_separate comps rules n c here o has_o (by_name values) (by_name others) (λ q has_q same.
      let m = from_map timed_port (map (sig_port c.events) c.ins) q has_q in
      let d = from_map (sig_port c.events) c.ins m.0 m.1 in
      let is : timed_port (sig_port c.events d.0) ≡ q = ap timed_port d.2 ∙ m.2 in
      let is_in : NamesEvent c d.0.from.event = (All-contains (λ (x : DataPort). NamesEvent c x.from.event × NamesEvent c x.to.event) c.ins d.0 named.ins d.1).0 in
      let event_is : d.0.from.event ≡ event = one_event d.0.from.event p.from.event is_in is_out (ap (λ (x : TimedPort). x.event) is ∙ same) ∙ on in
      let j = place_of c.ins d.0 d.1 in
      subst (λ (x : TimedPort). by_name values x.name ≡ by_name others x.name) is
      (same_Some (by_name values d.0.name) (by_name others d.0.name) (sym (input_at values long j.0 d.0 j.1) ∙ agree j.0 d.0 j.1 event_is ∙ input_at others also j.0 d.0 j.1))))
      ∙ sym (output_at others also k p at)

pub events_stay_apart : EventsStayApart
events_stay_apart comps n c rules here event values others long also agree = stay_apart comps rules n c here event values others long also agree

-- ---- whatever stands at inputs of other events

no_event : (event : Text) (p : DataPort) → is_of_event event p ≡ false → p.from.event ≡ event → ⊥
no_event event p other on = false≢true (sym other ∙ (bytes_eq-Decides p.from.event event).1 on)

-- the values of the event's inputs, put back in their places
given_agree : (event : Text) (ports : List DataPort) (values : List ℕ) → length values ≡ length ports → AgreeOn event ports (inputs_given event ports (values_at event ports values)) values
given_agree event [] values long = λ k p at on. absurd (none-some p at)
given_agree event (q ∷ ports) [] long = absurd (omega (arith, long))
given_agree event (q ∷ ports) (v ∷ values) long = by (is_of_event event q) refl (given_agree event ports values (omega (arith, long)))
  where
    by : (b : Bool) → is_of_event event q ≡ b → AgreeOn event ports (inputs_given event ports (values_at event ports values)) values →
        (k : ℕ) (p : DataPort) → slice_get (q ∷ ports) k ≡ Some p → p.from.event ≡ event →
        slice_get (cond b (get_or (cond b (v ∷ values_at event ports values) (values_at event ports values)) 0 0 ∷ inputs_given event ports (drop 1 (cond b (v ∷ values_at event ports values) (values_at event ports values))))
        (0 ∷ inputs_given event ports (cond b (v ∷ values_at event ports values) (values_at event ports values)))) k
        ≡ slice_get (v ∷ values) k
    by true is rest zero p at on = refl
    by true is rest (suc k) p at on = rest k p at on
    by false is rest zero p at on = absurd (no_event event p (subst (λ (x : DataPort). is_of_event event x ≡ false) (same_Some q p at) is) on)
    by false is rest (suc k) p at on = rest k p at on

-- outputs that agree on the event are shown alike
shown_alike : (event : Text) (ports : List DataPort) (xs ys : List ℕ) → length xs ≡ length ports → length ys ≡ length ports → AgreeOn event ports xs ys → outputs_shown event ports xs ≡ outputs_shown event ports ys
shown_alike event [] xs ys long also agree = refl
shown_alike event (p ∷ ports) [] ys long also agree = absurd (omega (arith, long))
shown_alike event (p ∷ ports) (x ∷ xs) [] long also agree = absurd (omega (arith, also))
shown_alike event (p ∷ ports) (x ∷ xs) (y ∷ ys) long also agree =
    by (is_of_event event p) refl (shown_alike event ports xs ys (omega (arith, long)) (omega (arith, also)) (λ k q at on. agree (suc k) q at on))
  where
    by : (b : Bool) → is_of_event event p ≡ b → outputs_shown event ports xs ≡ outputs_shown event ports ys →
        cond b (record { name = p.name; value = x } ∷ outputs_shown event ports xs) (outputs_shown event ports xs)
        ≡ cond b (record { name = p.name; value = y } ∷ outputs_shown event ports ys) (outputs_shown event ports ys)
    by true is rest =
        let same : x ≡ y = same_Some x y (agree 0 p refl (is_name p.from.event event is)) in
        ap₂ (λ (z : ℕ) (shown : List Named). record { name = p.name; value = z } ∷ shown) same rest
    by false is rest = rest

pub other_inputs_are_free : OtherInputsAreFree
other_inputs_are_free comps n c rules here event values long =
    let given = inputs_given event c.ins (values_at event c.ins values) in
    let also : length given ≡ length c.ins = long_given event c.ins (values_at event c.ins values) in
    shown_alike event c.outs (flow comps c given) (flow comps c values) (long_flow comps rules n c here given also) (long_flow comps rules n c here values long)
    (stay_apart comps rules n c here event given values also long (given_agree event c.ins values long))
