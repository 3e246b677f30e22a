-- A component's events by their names and by their numbers.
use Rattle.std.proofs.Common.{◌≡◌, ℕ, zero, suc, ◌<◌, ◌==◌, Bool, true, false, cond, List, [], ◌∷◌, length, map, get_or, slice_get, Contains, Some, option_map, refl, sym, ap, ◌∙◌, eq-eqb, eqb-true, arith}
use Rattle.std.specs.Option.{option_map_or}
use Rattle.std.specs.Str.{bytes_eq}
use Rattle.std.proofs.lemmas.Bool.{false_from_ne_true, false≢true}
use Rattle.std.proofs.lemmas.Option.{none-some, same_Some, slice_get-get_or, slice_get-map}
use Rattle.std.proofs.lemmas.Slice.Eq.{bytes_eq-Decides}
use Rattle.hw_names.specs.Name.{Text, AreDistinct}
use Rattle.fil_ast.specs.Behaviours.{event_named}
use Rattle.fil_ast.specs.Naming.{event_names}
use Rattle.fil_ast.specs.Signature.{event_number}
use Rattle.fil_ast.specs.Tree.{Component, Event}
use Rattle.fil_share.proofs.ListLemmas.{Contains-at}
use Rattle.fil_share.proofs.Lookup.{later_distinct, other_name, same_name}
use Rattle.fil_share.proofs.OwnLemmas.{no_event}

pub is_name : (a b : Text) → bytes_eq a b ≡ true → a ≡ b
is_name a b is = (bytes_eq-Decides a b).0 is

-- an event has its own number
number_at : (events : List Event) (k : ℕ) (e : Event) → AreDistinct (map (λ (e : Event). e.name) events) → slice_get events k ≡ Some e → event_number events e.name ≡ k
number_at [] k e distinct at = absurd (none-some e at)
number_at (f ∷ events) zero e distinct at =
    ap (λ b. cond b 0 (suc (event_number events e.name))) (same_name f.name e.name (ap (λ (e : Event). e.name) (same_Some f e at)))
number_at (f ∷ events) (suc k) e distinct at =
    let names = map (λ (e : Event). e.name) events in
    let there : Contains names e.name = Contains-at names k e.name (slice_get-map (λ (e : Event). e.name) events k ∙ ap (option_map (λ (e : Event). e.name)) at) in
    let apart : f.name ≡ e.name → ⊥ = λ same. distinct 0 (suc there.0) e.name (omega arith) (omega (arith, there.1)) (same ∙ sym there.2) in
    ap (λ b. cond b 0 (suc (event_number events e.name))) (other_name f.name e.name apart) ∙ ap suc (number_at events k e (later_distinct f.name names distinct) at)

-- what stands at the number of a name has the name
named_at : (events : List Event) (name : Text) (e : Event) → slice_get events (event_number events name) ≡ Some e → e.name ≡ name
named_at [] name e at = absurd (none-some e at)
named_at (f ∷ events) name e at = by (bytes_eq f.name name) refl at (named_at events name e)
  where
    by : (b : Bool) → bytes_eq f.name name ≡ b → slice_get (f ∷ events) (cond b 0 (suc (event_number events name))) ≡ Some e → (slice_get events (event_number events name) ≡ Some e → e.name ≡ name) → e.name ≡ name
    by true is at rest = sym (ap (λ (e : Event). e.name) (same_Some f e at)) ∙ is_name f.name name is
    by false is at rest = rest at

pub name_is : (c : Component) (k : ℕ) (e : Event) → slice_get c.events k ≡ Some e → event_named c k ≡ e.name
name_is c k e at = ap (λ o. option_map_or (λ (e : Event). e.name) o []) at

-- a name is that of event k exactly where k is its number
pub same_event : (c : Component) (k : ℕ) → AreDistinct (event_names c) → k < length c.events → (name : Text) → bytes_eq name (event_named c k) ≡ (event_number c.events name == k)
same_event c k distinct within name =
    let e = get_or c.events k no_event in
    let at = slice_get-get_or c.events k no_event within in
    ap (bytes_eq name) (name_is c k e at) ∙ by e at (bytes_eq name e.name) refl
  where
    by : (e : Event) → slice_get c.events k ≡ Some e → (b : Bool) → bytes_eq name e.name ≡ b → b ≡ (event_number c.events name == k)
    by e at true is = sym (eq-eqb (event_number c.events name) k (ap (event_number c.events) (is_name name e.name is) ∙ number_at c.events k e distinct at))
    by e at false is =
        sym (false_from_ne_true (event_number c.events name == k)
        (λ same. (let found = named_at c.events name e (ap (slice_get c.events) (eqb-true (event_number c.events name) k same) ∙ at) in
        false≢true (sym is ∙ same_name name e.name (sym found)))))
