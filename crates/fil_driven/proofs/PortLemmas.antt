-- The ports of a component's netlist: interface ports by their events, and data ports, whose names differ from those.
use Rattle.std.proofs.Common.{◌≡◌, ℕ, zero, suc, ◌+◌, Bool, true, false, cond, List, [], ◌∷◌, ◌++◌, map, get_or, slice_get, Contains, Option, Some, None, IsSome, option_map, refl, sym, ap, subst, ◌∙◌, inl, inr, arith}
use Rattle.std.specs.Option.{option_map_or}
use Rattle.std.specs.Str.{bytes_eq}
use Rattle.std.proofs.lemmas.Bool.{false_from_ne_true, false≢true}
use Rattle.std.proofs.lemmas.List.Elements.{All-contains, All-map, Contains-get_or}
use Rattle.std.proofs.lemmas.Option.{none-some, same_Some, slice_get-map}
use Rattle.std.proofs.lemmas.Simd.{map-map}
use Rattle.hw_names.specs.Name.{Text, AreDistinct}
use Rattle.hw_names.proofs.NameLemmas.{same_number}
use Rattle.hw_prims.specs.Table.{Pin, pin}
use Rattle.fil_ast.specs.Rules.{FilRules}
use Rattle.fil_ast.specs.Signature.{SigEvent, SigPort, Signature, component_signature, event_number, interface_of, sig_event, sig_port}
use Rattle.fil_ast.specs.Tree.{Event, Interface, DataPort, Component, Design}
use Rattle.fil_share.proofs.ListLemmas.{Contains-here, Contains-there}
use Rattle.fil_share.proofs.Lookup.{later_distinct, other_name, same_name}
use Rattle.fil_driven.specs.Laws.{KeepersHavePorts}
use Rattle.fil_driven.specs.TxDrive.{event_with, port_pin}
use Rattle.fil_driven.proofs.EventLemmas.{distinct_ins, distinct_interfaces, has_shape, is_name, names_events, new_names}
use Rattle.fil_driven.proofs.ListLemmas.{apart_joined, contains_map, first_differs, first_or_later, from_map, same_element}

-- ---- the event with an interface port

has_port : (name : Text) (go : Option Text) → option_map_or (bytes_eq name) go false ≡ true → go ≡ Some name
has_port name None is = absurd (false≢true is)
has_port name (Some go) is = ap Some (sym (is_name name go is))

is_port : (name : Text) (go : Option Text) → go ≡ Some name → option_map_or (bytes_eq name) go false ≡ true
is_port name go is = ap (λ o. option_map_or (bytes_eq name) o false) is ∙ same_name name name refl

event_none : (first : ℕ) (events : List SigEvent) (name : Text) → ((e : SigEvent) → Contains events e → e.go ≡ Some name → ⊥) → event_with first events name ≡ None
event_none first [] name none = refl
event_none first (e ∷ events) name none =
    ap (λ b. cond b (Some first) (event_with (suc first) events name)) (false_from_ne_true (option_map_or (bytes_eq name) e.go false) (λ is. none e (Contains-here e events) (has_port name e.go is)))
    ∙ event_none (suc first) events name (λ f has. none f (Contains-there e events f has))

event_one : (first total : ℕ) (events : List SigEvent) (n : ℕ) (e : SigEvent) (name : Text) → first + n ≡ total → slice_get events n ≡ Some e → e.go ≡ Some name
    → ((m : ℕ) (f : SigEvent) → slice_get events m ≡ Some f → f.go ≡ Some name → m ≡ n) → event_with first events name ≡ Some total
event_one first total [] n e name sum at go only = absurd (none-some e at)
event_one first total (d ∷ events) zero e name sum at go only =
    let same : first ≡ total = omega arith in
    ap (λ b. cond b (Some first) (event_with (suc first) events name)) (is_port name d.go (ap (λ (x : SigEvent). x.go) (same_Some d e at) ∙ go)) ∙ ap Some same
event_one first total (d ∷ events) (suc n) e name sum at go only =
    ap (λ b. cond b (Some first) (event_with (suc first) events name))
    (false_from_ne_true (option_map_or (bytes_eq name) d.go false) (λ is. (let bad : 0 ≡ suc n = only 0 d refl (has_port name d.go is) in omega (arith, bad))))
    ∙ event_one (suc first) total events n e name (omega (arith, sum)) at go (λ m f at_f is. (let same : suc m ≡ suc n = only (suc m) f at_f is in omega (arith, same)))

-- ---- interface ports

interface_there : (gs : List Interface) (event go : Text) → interface_of gs event ≡ Some go → (g : Interface) × Contains gs g × (g.event ≡ event) × (g.name ≡ go)
interface_there [] event go is = absurd (none-some go is)
interface_there (g ∷ gs) event go is = by (bytes_eq g.event event) refl is (interface_there gs event go)
  where
    by : (b : Bool) → bytes_eq g.event event ≡ b → cond b (Some g.name) (interface_of gs event) ≡ Some go → (interface_of gs event ≡ Some go → (h : Interface) × Contains gs h × (h.event ≡ event) × (h.name ≡ go))
        → (h : Interface) × Contains (g ∷ gs) h × (h.event ≡ event) × (h.name ≡ go)
    by true same e later = (g, Contains-here g gs, is_name g.event event same, same_Some g.name go e)
    by false other e later = let m = later e in (m.0, Contains-there g gs m.0 m.1, m.2, m.3)

interface_found : (gs : List Interface) (g : Interface) → AreDistinct (map (λ (g : Interface). g.event) gs) → Contains gs g → interface_of gs g.event ≡ Some g.name
interface_found [] g distinct has = absurd (omega (arith, has.1))
interface_found (h ∷ gs) g distinct has =
    let event_of : Interface → Text = λ x. x.event in
    elim (first_or_later h gs g has) [
      | inl same ↦ ap (λ b. cond b (Some h.name) (interface_of gs g.event)) (same_name h.event g.event (ap event_of same)) ∙ ap (λ (x : Interface). Some x.name) same
      | inr later ↦
          ap (λ b. cond b (Some h.name) (interface_of gs g.event)) (other_name h.event g.event (first_differs h.event (map event_of gs) g.event distinct (contains_map event_of gs g later)))
          ∙ interface_found gs g (later_distinct h.event (map event_of gs) distinct) later
    ]

-- a name among those of events has an event at its number
number_of : (events : List Event) (name : Text) → Contains (map (λ (e : Event). e.name) events) name → (e : Event) × (slice_get events (event_number events name) ≡ Some e) × (e.name ≡ name)
number_of [] name has = absurd (omega (arith, has.1))
number_of (d ∷ events) name has = by (bytes_eq d.name name) refl (number_of events name)
  where
    by : (b : Bool) → bytes_eq d.name name ≡ b → (Contains (map (λ (e : Event). e.name) events) name → (e : Event) × (slice_get events (event_number events name) ≡ Some e) × (e.name ≡ name))
        → (e : Event) × (slice_get (d ∷ events) (cond b 0 (suc (event_number events name))) ≡ Some e) × (e.name ≡ name)
    by true same rest = (d, refl, is_name d.name name same)
    by false other rest =
        rest (elim (first_or_later d.name (map (λ (e : Event). e.name) events) name has) [ inl same ↦ absurd (false≢true (sym other ∙ same_name d.name name same)) | inr later ↦ later ])

pub mapped_from : {X Y P : Type 0} (f : X → Y) (o : Option X) (y : Y) → option_map f o ≡ Some y → ((x : X) → o ≡ Some x → f x ≡ y → P) → P
mapped_from f None y is go = absurd (none-some y is)
mapped_from f (Some x) y is go = go x refl (same_Some (f x) y is)

is_there : {X : Type 0} (o : Option X) (x : X) → o ≡ Some x → IsSome o
is_there None x is = absurd (none-some x is)
is_there (Some y) x is = refl

module _ (comps : Design) (n : ℕ) (c : Component) (rules : FilRules comps) (there : slice_get comps n ≡ Some c) where
  abbrev sig : Signature
  sig = component_signature c

  -- an interface port, by its event
  port_of : (k : ℕ) (e : SigEvent) (go : Text) → slice_get sig.events k ≡ Some e → e.go ≡ Some go → (f : Event) × (slice_get c.events k ≡ Some f) × (g : Interface) × Contains c.interfaces g × (g.event ≡ f.name) × (g.name ≡ go)
  port_of k e go at is =
      mapped_from (sig_event c.interfaces) (slice_get c.events k) e (sym (slice_get-map (sig_event c.interfaces) c.events k) ∙ at)
      (λ f at_f same. (let g = interface_there c.interfaces f.name go (ap (λ (x : SigEvent). x.go) same ∙ is) in (f, at_f, g.0, g.1, g.2, g.3)))

  -- it is that of one event
  one_event : (k j : ℕ) (e f : SigEvent) (go : Text) → slice_get sig.events k ≡ Some e → e.go ≡ Some go → slice_get sig.events j ≡ Some f → f.go ≡ Some go → k ≡ j
  one_event k j e f go at_k is_k at_j is_j =
      let a = port_of k e go at_k is_k in
      let b = port_of j f go at_j is_j in
      let one : a.2 ≡ b.2 = same_element (λ (g : Interface). g.name) c.interfaces a.2 b.2 (distinct_interfaces comps n c rules there) a.3 b.3 (a.5 ∙ sym b.5) in
      let name_of : Event → Text = λ x. x.name in
      let same : b.0.name ≡ a.0.name = sym b.4 ∙ ap (λ (g : Interface). g.event) (sym one) ∙ a.4 in
      same_number (map name_of c.events) k j a.0.name (new_names comps n c rules there).events
      (slice_get-map name_of c.events k ∙ ap (option_map name_of) a.1) (slice_get-map name_of c.events j ∙ ap (option_map name_of) b.1 ∙ ap Some same)

  -- the event with the interface port of event k is k
  pub event_is : (k : ℕ) (e : SigEvent) (go : Text) → slice_get sig.events k ≡ Some e → e.go ≡ Some go → event_with 0 sig.events go ≡ Some k
  event_is k e go at is = event_one 0 k sig.events k e go (omega arith) at is (λ m f at_f is_f. one_event m k f e go at_f is_f at is)

  -- no data input is an interface port
  pub no_event_with : (p : DataPort) → Contains c.ins p → event_with 0 sig.events p.name ≡ None
  no_event_with p has =
      event_none 0 sig.events p.name
      (λ e (k, within, at) is.
      (let m = from_map (sig_event c.interfaces) c.events e (k, within, at) in
      let g = interface_there c.interfaces m.0.name p.name (ap (λ (x : SigEvent). x.go) m.2 ∙ is) in
      let interface_names = map (λ (g : Interface). g.name) c.interfaces in
      let input_names = map (λ (p : DataPort). p.name) c.ins in
      let among : Contains interface_names p.name = subst (λ (name : Text). Contains interface_names name) g.3 (contains_map (λ (g : Interface). g.name) c.interfaces g.0 g.1) in
      apart_joined interface_names input_names p.name (distinct_ins comps n c rules there) among (contains_map (λ (p : DataPort). p.name) c.ins p has)))

  triggers : (g : Interface) → Contains c.interfaces g → IsSome (event_with 0 sig.events g.name)
  triggers g has =
      let e = number_of c.events g.event (All-contains (λ (g : Interface). Contains (map (λ (x : Event). x.name) c.events) g.event) c.interfaces g (names_events comps n c rules there).interfaces has) in
      let k = event_number c.events g.event in
      is_there (event_with 0 sig.events g.name) k
      (event_is k (sig_event c.interfaces e.0) g.name
      (slice_get-map (sig_event c.interfaces) c.events k ∙ ap (option_map (sig_event c.interfaces)) e.1)
      (ap (interface_of c.interfaces) e.2 ∙ interface_found c.interfaces g (has_shape comps n c rules there).one_interface has))

pub keepers_have_ports : KeepersHavePorts
keepers_have_ports comps n refines rules =
    let c = refines.c in
    let port : Interface → Pin = λ g. pin g.name g.width in
    let sig = component_signature c in
    let pins : (ports : List DataPort) → map (λ (p : DataPort). pin p.name p.width) ports ≡ map port_pin (map (sig_port c.events) ports) = λ ports. sym (map-map port_pin (sig_port c.events) ports) in
    record {
      interfaces = map port c.interfaces;
      ins = refines.ins ∙ ap (λ (ps : List Pin). map port c.interfaces ++ ps) (pins c.ins);
      triggers = All-map (λ (p : Pin). IsSome (event_with 0 sig.events p.name)) port c.interfaces
          (λ k d within. triggers comps refines.number c rules refines.at (get_or c.interfaces k d) (Contains-get_or c.interfaces k d within));
      others = All-map (λ (p : SigPort). event_with 0 sig.events p.name ≡ None) (sig_port c.events) c.ins
          (λ k d within. no_event_with comps refines.number c rules refines.at (get_or c.ins k d) (Contains-get_or c.ins k d within));
      outs = refines.outs ∙ pins c.outs;
    }
