-- A program's transactions at the ports of their component: they are legal, have values for their own event alone, and keep the flow.
use Rattle.std.proofs.Common.{◌≡◌, ◌≢◌, ℕ, zero, suc, ◌+◌, ◌-◌, ◌<◌, ◌≤◌, Bool, true, false, cond, List, [], ◌∷◌, ◌++◌, length, map, filter, take, drop, reverse, get_or, slice_get, All, Contains, Some, option_map, inl, refl, sym, ap, ap₂, subst, ◌∙◌, arith}
use Rattle.std.specs.Option.{option_map_or}
use Rattle.std.specs.Prelude.{AllPairs}
use Rattle.std.specs.Str.{bytes_eq}
use Rattle.std.proofs.lemmas.List.{reverse-append, take_all}
use Rattle.std.proofs.lemmas.List.Elements.{All-contains, All-cons, All-head, All-map, All-nil, All-tail}
use Rattle.std.proofs.lemmas.List.Kept.{AllPairs-cons}
use Rattle.std.proofs.lemmas.Option.{same_Some, slice_get-get_or, slice_get-map, slice_get_within}
use Rattle.std.proofs.lemmas.Simd.{map-map}
use Rattle.hw_bits.specs.Values.{values_of}
use Rattle.hw_names.specs.Name.{Text, AreDistinct}
use Rattle.hw_prims.specs.Timed as timed
use Rattle.hw_prims.specs.Timed.{TimedEvent, TimedPort, TimedSignature, HasDelay, Transaction}
use Rattle.fil_ast.specs.Behaviours.{component_behaviour, delay_of, event_named, timed_event, timed_port, timed_signature, transaction_on}
use Rattle.fil_ast.specs.Flow.{Named, component_flow, connected_to, flow_of, value_in_body, value_named, with_values}
use Rattle.fil_ast.specs.Holds.{Start, Follows, start_of}
use Rattle.fil_ast.specs.Items.{TheSignature}
use Rattle.fil_ast.specs.Naming.{HasNewNames, component_names}
use Rattle.fil_ast.specs.Rules.{F1, FilRules}
use Rattle.fil_ast.specs.Signature.{component_signature, event_number, sig_event, sig_port}
use Rattle.fil_ast.specs.Transactions.{inputs_given, is_of_event, outputs_shown}
use Rattle.fil_ast.specs.Tree.{DataPort, Event, Interface, Component, Design}
use Rattle.fil_ast.specs.declared.tx.Tx.{Tx}
use Rattle.fil_sig.proofs.ListLemmas.{All-unmap}
use Rattle.fil_share.specs.Carried.{IsOfEvent, TransactionsAreLegal, TransactionsHaveOwnValues, TransactionsKeepFlow}
use Rattle.fil_share.specs.Uses.{listed_start, starts_of}
use Rattle.fil_share.proofs.ListLemmas.{AllPairs-head, AllPairs-left, AllPairs-right, AllPairs-tail, Contains-at, take_next}
use Rattle.fil_share.proofs.Lookup.{later_distinct, other_name, same_name}
use Rattle.fil_share.proofs.OwnLemmas.{no_event}

-- ---- starts

name_is : (c : Component) (k : ℕ) (e : Event) → slice_get c.events k ≡ Some e → event_named c k ≡ e.name
name_is c k e at = ap (λ o. option_map_or (λ (e : Event). e.name) o []) at

delay_is : (c : Component) (k : ℕ) (e : Event) → slice_get c.events k ≡ Some e → delay_of c k ≡ e.delay
delay_is c k e at = ap (λ o. option_map_or (λ (e : Event). e.delay) o 0) at

event_at : (c : Component) (tx : Tx) → IsOfEvent c tx → slice_get c.events tx.event ≡ Some (get_or c.events tx.event no_event)
event_at c tx within = slice_get-get_or c.events tx.event no_event within

-- when the transaction starts
abbrev start_on : Component → Tx → Start
start_on c tx = record { event = event_named c tx.event; row = tx.start }

start_is : (c : Component) (tx : Tx) → IsOfEvent c tx → start_of c tx ≡ Some (start_on c tx)
start_is c tx within =
    let at = event_at c tx within in
    let named = name_is c tx.event (get_or c.events tx.event no_event) at in
    let started : Text → Start = λ name. record { event = name; row = tx.start } in
    ap (option_map (λ (e : Event). started e.name)) at ∙ ap (λ name. Some (started name)) (sym named)

starts_are : (c : Component) (txs : List Tx) → All (IsOfEvent c) txs → starts_of c txs ≡ map (start_on c) txs
starts_are c [] all = refl
starts_are c (tx ∷ txs) all =
    ap (λ o. listed_start o ++ starts_of c txs) (start_is c tx (All-head (IsOfEvent c) tx txs all))
    ∙ ap (λ ss. start_on c tx ∷ ss) (starts_are c txs (All-tail (IsOfEvent c) tx txs all))

-- ---- legal transactions

apart_two : (c : Component) (a b : Tx) → IsOfEvent c a → Follows c (start_on c a) (start_on c b) → timed.NeverOverlap (transaction_on c a) (transaction_on c b)
apart_two c a b within follows same =
    let e = get_or c.events a.event no_event in
    let at = event_at c a within in
    let rows = (follows (ap (event_named c) same)).1 e (Contains-at c.events a.event e at) (sym (name_is c a.event e at)) in
    let held = delay_is c a.event e at in
    inl (omega (arith, rows, held))

apart_pairs : (c : Component) (txs : List Tx) → All (IsOfEvent c) txs → AllPairs (Follows c) (map (start_on c) txs) → AllPairs timed.NeverOverlap (map (transaction_on c) txs)
apart_pairs c [] all pairs = λ i j d less within. absurd (omega arith)
apart_pairs c (tx ∷ txs) all pairs =
    let here = transaction_on c tx in
    let follow = All-unmap (Follows c (start_on c tx)) (start_on c) txs (AllPairs-head (Follows c) (start_on c tx) (map (start_on c) txs) pairs) in
    AllPairs-cons timed.NeverOverlap here (map (transaction_on c) txs)
    (All-map (timed.NeverOverlap here) (transaction_on c) txs
    (λ k d within. apart_two c tx (get_or txs k d) (All-head (IsOfEvent c) tx txs all) (follow k d within)))
    (apart_pairs c txs (All-tail (IsOfEvent c) tx txs all) (AllPairs-tail (Follows c) (start_on c tx) (map (start_on c) txs) pairs))

-- the transaction holds its event for as long as it must
abbrev IsHeld : TimedSignature → Transaction → Type 0
IsHeld sig tx = (e : TimedEvent) × (slice_get sig.events tx.event ≡ Some e) × HasDelay e.delay tx.hold

held_on : (c : Component) (tx : Tx) → IsOfEvent c tx → IsHeld (timed_signature (component_signature c)) (transaction_on c tx)
held_on c tx within =
    let e = get_or c.events tx.event no_event in
    let at = event_at c tx within in
    let signed = slice_get-map (sig_event c.interfaces) c.events tx.event ∙ ap (option_map (sig_event c.interfaces)) at in (
      timed_event (sig_event c.interfaces e),
      slice_get-map timed_event (map (sig_event c.interfaces) c.events) tx.event ∙ ap (option_map timed_event) signed,
      delay_is c tx.event e at,
    )

pub transactions_are_legal : TransactionsAreLegal
transactions_are_legal earlier c txs all legal =
    let sig = timed_signature (component_signature c) in
    let P : List Start → Type 0 = AllPairs (Follows c) in
    let held : All (IsHeld sig) (map (transaction_on c) txs) =
    All-map (IsHeld sig) (transaction_on c) txs (λ k d within. held_on c (get_or txs k d) (all k d within)) in
    record {
      held = λ tx has. All-contains (IsHeld sig) (map (transaction_on c) txs) tx held has;
      apart = apart_pairs c txs all (subst P (starts_are c txs all) legal);
    }

-- ---- values of other events

-- no input of the name is of the event
abbrev IsOther : Text → Text → DataPort → Type 0
IsOther event name p = p.name ≡ name → is_of_event event p ≡ false

none_given : (event name : Text) (ports : List DataPort) (values : List ℕ) → All (IsOther event name) ports → value_named (with_values ports (inputs_given event ports values)) name ≡ 0
none_given event name [] values others = refl
none_given event name (p ∷ ports) values others = by (is_of_event event p) refl (λ vs. none_given event name ports vs (All-tail (IsOther event name) p ports others))
  where
    first : (b : Bool) (rest : ℕ) → rest ≡ 0 → cond b 0 rest ≡ 0
    first true rest none = refl
    first false rest none = none

    by : (b : Bool) → is_of_event event p ≡ b → ((vs : List ℕ) → value_named (with_values ports (inputs_given event ports vs)) name ≡ 0)
        → value_named (with_values (p ∷ ports) (cond b (get_or values 0 0 ∷ inputs_given event ports (drop 1 values)) (0 ∷ inputs_given event ports values))) name ≡ 0
    by false is later = first (bytes_eq p.name name) _ (later values)
    by true is later =
        let apart : p.name ≡ name → ⊥ = λ same. (let none = All-head (IsOther event name) p ports others same in let bad : true ≡ false = sym is ∙ none in absurd (cc)) in
        ap (λ b. cond b (get_or values 0 0) (value_named (with_values ports (inputs_given event ports (drop 1 values))) name)) (other_name p.name name apart) ∙ later (drop 1 values)

-- an event has its own number
number_at : (events : List Event) (k : ℕ) (e : Event) → AreDistinct (map (λ (e : Event). e.name) events) → slice_get events k ≡ Some e → event_number events e.name ≡ k
number_at [] k e distinct at = absurd (cc)
number_at (f ∷ events) zero e distinct at =
    ap (λ b. cond b 0 (suc (event_number events e.name))) (same_name f.name e.name (ap (λ (e : Event). e.name) (same_Some f e at)))
number_at (f ∷ events) (suc k) e distinct at =
    let names = map (λ (e : Event). e.name) events in
    let there : Contains names e.name = Contains-at names k e.name (slice_get-map (λ (e : Event). e.name) events k ∙ ap (option_map (λ (e : Event). e.name)) at) in
    let apart : f.name ≡ e.name → ⊥ = λ same. distinct 0 (suc there.0) e.name (omega arith) (omega (arith, there.1)) (same ∙ sym there.2) in
    ap (λ b. cond b 0 (suc (event_number events e.name))) (other_name f.name e.name apart) ∙ ap suc (number_at events k e (later_distinct f.name names distinct) at)

input_there : (c : Component) (k : ℕ) (d : DataPort) → k < length c.ins → Contains (map timed_port (map (sig_port c.events) c.ins)) (timed_port (sig_port c.events (get_or c.ins k d)))
input_there c k d within =
    let p = get_or c.ins k d in
    Contains-at (map timed_port (map (sig_port c.events) c.ins)) k (timed_port (sig_port c.events p))
    (slice_get-map timed_port (map (sig_port c.events) c.ins) k
    ∙ ap (option_map timed_port) (slice_get-map (sig_port c.events) c.ins k ∙ ap (option_map (sig_port c.events)) (slice_get-get_or c.ins k d within)))

new_names : (comps : Design) (n : ℕ) (c : Component) → FilRules comps → slice_get comps n ≡ Some c → HasNewNames (take n comps) c
new_names comps n c rules there = rules.keeps n c there 0 TheSignature refl 0 F1 (omega arith)

pub transactions_have_own_values : TransactionsHaveOwnValues
transactions_have_own_values comps n c tx rules there within name no_port =
    let e = get_or c.events tx.event no_event in
    let at = event_at c tx within in
    let event = event_named c tx.event in
    let number : event_number c.events event ≡ tx.event =
    ap (event_number c.events) (name_is c tx.event e at) ∙ number_at c.events tx.event e (new_names comps n c rules there).events at in
    none_given event name c.ins (values_of tx.values.items)
    (λ k d inside same.
    let p = get_or c.ins k d in
    other_name p.from.event event
    (λ on. no_port (timed_port (sig_port c.events p)) (input_there c k d inside) same (ap (event_number c.events) on ∙ number)))

-- ---- flow

flow_here : (before : List Component) (c : Component) (args : List ℕ) → flow_of (c ∷ before) c.name args ≡ component_flow (flow_of before) c args
flow_here before c args = ap (λ b. cond b (component_flow (flow_of before) c args) (flow_of before c.name args)) (same_name c.name c.name refl)

flow_later : (d : Component) (before : List Component) (name : Text) (args : List ℕ) → (d.name ≡ name → ⊥) → flow_of (d ∷ before) name args ≡ flow_of before name args
flow_later d before name args apart = ap (λ b. cond b (component_flow (flow_of before) d args) (flow_of before name args)) (other_name d.name name apart)

get-taken : {X : Type 0} (n : ℕ) (xs : List X) (k : ℕ) → k < n → slice_get (take n xs) k ≡ slice_get xs k
get-taken zero xs k below = absurd (omega arith)
get-taken (suc n) [] k below = refl
get-taken (suc n) (x ∷ xs) zero below = refl
get-taken (suc n) (x ∷ xs) (suc k) below = get-taken n xs k (omega arith)

module _ (comps : Design) (rules : FilRules comps) (n : ℕ) (c : Component) (at : slice_get comps n ≡ Some c) (args : List ℕ) where
  -- a later component has another name
  apart : (k : ℕ) (later : Component) → n < k → slice_get comps k ≡ Some later → later.name ≡ c.name → ⊥
  apart k later after there same =
      let names = component_names (take k comps) in
      let named : slice_get names n ≡ Some c.name =
      slice_get-map (λ (d : Component). d.name) (take k comps) n ∙ ap (option_map (λ (d : Component). d.name)) (get-taken k comps n after ∙ at) in
      (new_names comps k later rules there).new (subst (Contains names) (sym same) (Contains-at names n c.name named))

  -- one more component after it leaves its flow the same
  one_more : (k : ℕ) → n < k → k < length comps → flow_of (reverse (take (k + 1) comps)) c.name args ≡ flow_of (reverse (take k comps)) c.name args
  one_more k after within =
      let later = get_or comps k c in
      let there : slice_get comps k ≡ Some later = slice_get-get_or comps k c within in
      ap (λ (cs : Design). flow_of (reverse cs) c.name args) (take_next comps k later there)
      ∙ ap (λ (cs : Design). flow_of cs c.name args) (reverse-append (take k comps) (later ∷ []))
      ∙ flow_later later (reverse (take k comps)) c.name args (apart k later after there)

  so_far : (k : ℕ) → n + k + 1 ≤ length comps → flow_of (reverse (take (n + k + 1) comps)) c.name args ≡ flow_of (reverse (take (n + 1) comps)) c.name args
  so_far zero within =
      let e : n + zero + 1 ≡ n + 1 = omega arith in
      ap (λ m. flow_of (reverse (take m comps)) c.name args) e
  so_far (suc k) within =
      let e : n + suc k + 1 ≡ n + k + 1 + 1 = omega arith in
      ap (λ m. flow_of (reverse (take m comps)) c.name args) e ∙ one_more (n + k + 1) (omega arith) (omega arith) ∙ so_far k (omega arith)

  -- its flow in the whole design is its body's, over the components before it
  pub flow_is : flow_of (reverse comps) c.name args ≡ component_flow (flow_of (reverse (take n comps))) c args
  flow_is =
      let within = slice_get_within comps n c at in
      let k = length comps - suc n in
      let e : n + k + 1 ≡ length comps = omega arith in
      ap (λ (cs : Design). flow_of (reverse cs) c.name args) (sym (take_all (n + k + 1) comps (omega arith))) ∙ so_far k (omega arith)
      ∙ ap (λ (cs : Design). flow_of (reverse cs) c.name args) (take_next comps n c at)
      ∙ ap (λ (cs : Design). flow_of cs c.name args) (reverse-append (take n comps) (c ∷ [])) ∙ flow_here (reverse (take n comps)) c args

-- each port of different names has its value
pub each_found : (ports : List Named) → AreDistinct (map (λ (p : Named). p.name) ports) → All (λ (p : Named). value_named ports p.name ≡ p.value) ports
each_found [] distinct = All-nil _
each_found (p ∷ ports) distinct =
    let names = map (λ (p : Named). p.name) ports in
    All-cons (λ (q : Named). value_named (p ∷ ports) q.name ≡ q.value) p ports
    (ap (λ b. cond b p.value (value_named ports p.name)) (same_name p.name p.name refl))
    (λ k d within.
    let q = get_or ports k d in
    let there : Contains names q.name =
    Contains-at names k q.name (slice_get-map (λ (p : Named). p.name) ports k ∙ ap (option_map (λ (p : Named). p.name)) (slice_get-get_or ports k d within)) in
    let differs : p.name ≡ q.name → ⊥ = λ same. distinct 0 (suc there.0) q.name (omega arith) (omega (arith, there.1)) (same ∙ sym there.2) in
    ap (λ b. cond b p.value (value_named ports q.name)) (other_name p.name q.name differs) ∙ each_found ports (later_distinct p.name names distinct) k d within)

map_agree : {X Y : Type 0} (f g : X → Y) (xs : List X) → All (λ x. f x ≡ g x) xs → map f xs ≡ map g xs
map_agree f g [] all = refl
map_agree {X} f g (x ∷ xs) all =
    let P : X → Type 0 = λ x. f x ≡ g x in ap₂ ◌∷◌ (All-head P x xs all) (map_agree f g xs (All-tail P x xs all))

pub long_given : (event : Text) (ports : List DataPort) (values : List ℕ) → length (inputs_given event ports values) ≡ length ports
long_given event [] values = refl
long_given event (p ∷ ports) values = by (is_of_event event p) (long_given event ports)
  where
    by : (b : Bool) → ((vs : List ℕ) → length (inputs_given event ports vs) ≡ length ports) → length (cond b (get_or values 0 0 ∷ inputs_given event ports (drop 1 values)) (0 ∷ inputs_given event ports values)) ≡ suc (length ports)
    by true later = ap suc (later (drop 1 values))
    by false later = ap suc (later values)

with_names : (ports : List DataPort) (args : List ℕ) → length args ≡ length ports → map (λ (p : Named). p.name) (with_values ports args) ≡ map (λ (p : DataPort). p.name) ports
with_names [] [] long = refl
with_names [] (a ∷ args) long = absurd (omega arith)
with_names (p ∷ ports) [] long = absurd (omega arith)
with_names (p ∷ ports) (a ∷ args) long = ap (λ (ts : List Text). p.name ∷ ts) (with_names ports args (omega arith))

with_args : (ports : List DataPort) (args : List ℕ) → length args ≡ length ports → map (λ (p : Named). p.value) (with_values ports args) ≡ args
with_args [] [] long = refl
with_args [] (a ∷ args) long = absurd (omega arith)
with_args (p ∷ ports) [] long = absurd (omega arith)
with_args (p ∷ ports) (a ∷ args) long = ap (λ (vs : List ℕ). a ∷ vs) (with_args ports args (omega arith))

-- the values of ports of different names, by their names
pub given_back : (ports : List DataPort) (args : List ℕ) → length args ≡ length ports → AreDistinct (map (λ (p : DataPort). p.name) ports) → map (λ (p : DataPort). value_named (with_values ports args) p.name) ports ≡ args
given_back ports args long distinct =
    let D : List Text → Type 0 = AreDistinct in
    let all = with_values ports args in
    let names = with_names ports args long in
    sym (map-map (value_named all) (λ (p : DataPort). p.name) ports) ∙ ap (map (value_named all)) (sym names) ∙ map-map (value_named all) (λ (p : Named). p.name) all
    ∙ map_agree (λ (p : Named). value_named all p.name) (λ (p : Named). p.value) all (each_found all (subst D (sym names) distinct)) ∙ with_args ports args long

-- the outputs of the event, with their values
shown_by : (event : Text) (value : DataPort → ℕ) (told : Text → ℕ) (outs : List DataPort) → All (λ (p : DataPort). value p ≡ told p.name) outs
    → outputs_shown event outs (map value outs) ≡ map (λ (p : DataPort). record { name = p.name; value = told p.name }) (filter (is_of_event event) outs)
shown_by event value told [] all = refl
shown_by event value told (p ∷ outs) all =
    by (is_of_event event p) (All-head (λ (p : DataPort). value p ≡ told p.name) p outs all) (shown_by event value told outs (All-tail (λ (p : DataPort). value p ≡ told p.name) p outs all))
  where
    by : (b : Bool) → value p ≡ told p.name → outputs_shown event outs (map value outs) ≡ map (λ (p : DataPort). record { name = p.name; value = told p.name }) (filter (is_of_event event) outs)
        → cond b (record { name = p.name; value = value p } ∷ outputs_shown event outs (map value outs)) (outputs_shown event outs (map value outs))
        ≡ map (λ (p : DataPort). record { name = p.name; value = told p.name }) (cond b (p ∷ filter (is_of_event event) outs) (filter (is_of_event event) outs))
    by true here rest = ap₂ (λ (v : ℕ) (ps : List Named). record { name = p.name; value = v } ∷ ps) here rest
    by false here rest = rest

pub transactions_keep_flow : TransactionsKeepFlow
transactions_keep_flow comps n c tx e rules there at =
    let values = values_of tx.values.items in
    let args = inputs_given e.name c.ins values in
    let inner = flow_of (reverse (take n comps)) in
    let names = (new_names comps n c rules there).ports in
    let interfaces = map (λ (g : Interface). g.name) c.interfaces in
    let in_names = map (λ (p : DataPort). p.name) c.ins in
    let out_names = map (λ (p : DataPort). p.name) c.outs in
    let R : Text → Text → Type 0 = λ a b. a ≢ b in
    let ins_differ : AreDistinct in_names = AllPairs-right R interfaces in_names (AllPairs-left R (interfaces ++ in_names) out_names names) in
    let outs_differ : AreDistinct out_names = AllPairs-right R (interfaces ++ in_names) out_names names in
    let value : DataPort → ℕ = λ p. option_map_or (value_in_body inner c.body (with_values c.ins args)) (connected_to c.body p.name) 0 in
    let named : DataPort → Named = λ p. record { name = p.name; value = value p } in
    let told : Text → ℕ = (component_behaviour (take n comps) c).flow (transaction_on c tx).values in
    let carried : map (λ (p : DataPort). (transaction_on c tx).values p.name) c.ins ≡ args =
    ap (λ (name : Text). map (λ (p : DataPort). value_named (with_values c.ins (inputs_given name c.ins values)) p.name) c.ins) (name_is c tx.event e at)
    ∙ given_back c.ins args (long_given e.name c.ins values) ins_differ in
    let D : List Text → Type 0 = AreDistinct in
    let found = each_found (map named c.outs) (subst D (sym (map-map (λ (p : Named). p.name) named c.outs)) outs_differ) in
    let each : All (λ (p : DataPort). value_named (map named c.outs) p.name ≡ value p) c.outs =
    All-unmap (λ (p : Named). value_named (map named c.outs) p.name ≡ p.value) named c.outs found in
    let is_told : All (λ (p : DataPort). value p ≡ told p.name) c.outs = λ k d within.
    (let p = get_or c.outs k d in sym (each k d within) ∙ sym (ap (λ (vs : List ℕ). value_named (component_flow inner c vs) p.name) carried)) in
    ap (λ (ps : List Named). outputs_shown e.name c.outs (map (λ (p : Named). p.value) ps)) (flow_is comps rules n c there args)
    ∙ ap (outputs_shown e.name c.outs) (map-map (λ (p : Named). p.value) named c.outs)
    ∙ shown_by e.name value told c.outs is_told
