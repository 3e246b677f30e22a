-- A component's events by their names and by their numbers, and what its rules say of its ports.
use Rattle.std.proofs.Common.{◌≡◌, ◌≢◌, ℕ, zero, suc, ◌==◌, Bool, true, false, cond, List, [], ◌∷◌, ◌++◌, map, get_or, slice_get, take, Contains, Some, option_map, refl, sym, ap, ◌∙◌, eq-eqb, eqb-true, arith}
use Rattle.std.specs.Option.{option_map_or}
use Rattle.std.specs.Str.{bytes_eq}
use Rattle.std.proofs.lemmas.Bool.{false_from_ne_true, false≢true}
use Rattle.std.proofs.lemmas.Option.{none-some, same_Some, slice_get-get_or, slice_get-map}
use Rattle.std.proofs.lemmas.Slice.Eq.{bytes_eq-Decides}
use Rattle.hw_names.specs.Name.{Text, AreDistinct}
use Rattle.fil_ast.specs.Behaviours.{event_named, delay_of}
use Rattle.fil_ast.specs.Items.{TheSignature}
use Rattle.fil_ast.specs.Naming.{HasNewNames, NamesEvents}
use Rattle.fil_ast.specs.Rules.{F1, FilRules}
use Rattle.fil_ast.specs.Signature.{event_number}
use Rattle.fil_ast.specs.Timeline.{HasShortPorts}
use Rattle.fil_ast.specs.Tree.{Event, Interface, DataPort, Component, Design}
use Rattle.fil_ast.specs.Typing.{HasShape}
use Rattle.fil_ast.specs.declared.tx.Tx.{Tx}
use Rattle.fil_share.specs.Carried.{IsOfEvent}
use Rattle.fil_share.proofs.ListLemmas.{AllPairs-left, AllPairs-right, Contains-at}
use Rattle.fil_share.proofs.Lookup.{later_distinct, other_name, same_name}
use Rattle.fil_share.proofs.OwnLemmas.{no_event}
use Rattle.fil_driven.proofs.ListLemmas.{first_differs}

pub is_name : (a b : Text) → bytes_eq a b ≡ true → a ≡ b
is_name a b is = (bytes_eq-Decides a b).0 is

-- ---- names and numbers

-- an event has its own number
number_at : (events : List Event) (k : ℕ) (e : Event) → AreDistinct (map (λ (e : Event). e.name) events) → slice_get events k ≡ Some e → event_number events e.name ≡ k
number_at [] k e distinct at = absurd (none-some e at)
number_at (f ∷ events) zero e distinct at =
    ap (λ b. cond b 0 (suc (event_number events e.name))) (same_name f.name e.name (ap (λ (e : Event). e.name) (same_Some f e at)))
number_at (f ∷ events) (suc k) e distinct at =
    let names = map (λ (e : Event). e.name) events in
    let there : Contains names e.name = Contains-at names k e.name (slice_get-map (λ (e : Event). e.name) events k ∙ ap (option_map (λ (e : Event). e.name)) at) in
    ap (λ b. cond b 0 (suc (event_number events e.name))) (other_name f.name e.name (first_differs f.name names e.name distinct there))
    ∙ ap suc (number_at events k e (later_distinct f.name names distinct) at)

-- what stands at the number of a name has the name
pub named_at_number : (events : List Event) (name : Text) (e : Event) → slice_get events (event_number events name) ≡ Some e → e.name ≡ name
named_at_number [] name e at = absurd (none-some e at)
named_at_number (f ∷ events) name e at = by (bytes_eq f.name name) refl at (named_at_number events name e)
  where
    by : (b : Bool) → bytes_eq f.name name ≡ b → slice_get (f ∷ events) (cond b 0 (suc (event_number events name))) ≡ Some e → (slice_get events (event_number events name) ≡ Some e → e.name ≡ name) → e.name ≡ name
    by true is at rest = sym (ap (λ (e : Event). e.name) (same_Some f e at)) ∙ is_name f.name name is
    by false is at rest = rest at

-- where names differ, the number and the name tell the same event
same_event : (events : List Event) (k : ℕ) (e : Event) → AreDistinct (map (λ (e : Event). e.name) events) → slice_get events k ≡ Some e → (name : Text) → (event_number events name == k) ≡ bytes_eq name e.name
same_event events k e distinct at name = by (bytes_eq name e.name) refl
  where
    by : (b : Bool) → bytes_eq name e.name ≡ b → (event_number events name == k) ≡ b
    by true is = eq-eqb (event_number events name) k (ap (event_number events) (is_name name e.name is) ∙ number_at events k e distinct at)
    by false is =
        false_from_ne_true (event_number events name == k)
        (λ same. (let found = named_at_number events name e (ap (slice_get events) (eqb-true (event_number events name) k same) ∙ at) in
        false≢true (sym is ∙ same_name name e.name (sym found))))

-- ---- the events of transactions

pub event_at : (c : Component) (tx : Tx) → IsOfEvent c tx → slice_get c.events tx.event ≡ Some (get_or c.events tx.event no_event)
event_at c tx within = slice_get-get_or c.events tx.event no_event within

pub name_is : (c : Component) (k : ℕ) (e : Event) → slice_get c.events k ≡ Some e → event_named c k ≡ e.name
name_is c k e at = ap (λ o. option_map_or (λ (e : Event). e.name) o []) at

pub delay_is : (c : Component) (k : ℕ) (e : Event) → slice_get c.events k ≡ Some e → delay_of c k ≡ e.delay
delay_is c k e at = ap (λ o. option_map_or (λ (e : Event). e.delay) o 0) at

-- ---- what the rules say of the component at its place

module _ (comps : Design) (n : ℕ) (c : Component) (rules : FilRules comps) (there : slice_get comps n ≡ Some c) where
  pub new_names : HasNewNames (take n comps) c
  new_names = rules.keeps n c there 0 TheSignature refl 0 F1 (omega arith)

  pub names_events : NamesEvents c
  names_events = rules.keeps n c there 0 TheSignature refl 1 F1 (omega arith)

  pub has_shape : HasShape c
  has_shape = rules.keeps n c there 0 TheSignature refl 4 F1 (omega arith)

  pub short_ports : HasShortPorts c
  short_ports = rules.keeps n c there 0 TheSignature refl 5 F1 (omega arith)

  abbrev interface_names : List Text
  interface_names = map (λ (g : Interface). g.name) c.interfaces

  abbrev input_names : List Text
  input_names = map (λ (p : DataPort). p.name) c.ins

  pub distinct_ins : AreDistinct (interface_names ++ input_names)
  distinct_ins = AllPairs-left (λ (a b : Text). a ≢ b) (interface_names ++ input_names) (map (λ (p : DataPort). p.name) c.outs) new_names.ports

  pub distinct_interfaces : AreDistinct interface_names
  distinct_interfaces = AllPairs-left (λ (a b : Text). a ≢ b) interface_names input_names distinct_ins

  pub distinct_inputs : AreDistinct input_names
  distinct_inputs = AllPairs-right (λ (a b : Text). a ≢ b) interface_names input_names distinct_ins

  -- a name is that of the transaction's event exactly where it has its number
  pub own_event : (tx : Tx) → IsOfEvent c tx → (name : Text) → (event_number c.events name == tx.event) ≡ bytes_eq name (event_named c tx.event)
  own_event tx within name =
      let e = get_or c.events tx.event no_event in
      let at = event_at c tx within in
      same_event c.events tx.event e new_names.events at name ∙ ap (bytes_eq name) (sym (name_is c tx.event e at))
