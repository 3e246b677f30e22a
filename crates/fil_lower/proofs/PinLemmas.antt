-- The input pins of what an instance is made of: its data inputs, and the interface ports of its events.
use Rattle.std.proofs.Common.{◌≡◌, ◌⊎◌, ℕ, zero, suc, Bool, true, false, List, [], ◌∷◌, ◌++◌, map, filter, slice_get, All, Option, Some, None, option_map, refl, sym, ap, ap₂, subst, ◌∙◌, inl, inr, arith}
use Rattle.std.specs.List.{list_all, list_any}
use Rattle.std.specs.Option.{option_map_or}
use Rattle.std.specs.Prelude.{◌≢◌, ◌==◌, ◌&&◌, ◌||◌, not, Contains, bytes_eq, if◌then◌else◌}
use Rattle.std.proofs.lemmas.Bool.{and_parts, false≢true, or_cases}
use Rattle.std.proofs.lemmas.List.{map-append}
use Rattle.std.proofs.lemmas.List.Elements.{All-contains, All-contains_itself, All-filter, All-map, Contains-append_cases, Contains-append_left, Contains-append_right, filter_passes}
use Rattle.std.proofs.lemmas.List.Sums.{AllPass-from_list_all}
use Rattle.std.proofs.lemmas.Option.{none-some, same_Some, slice_get-map}
use Rattle.std.proofs.lemmas.Simd.{map-map}
use Rattle.std.proofs.lemmas.Slice.Eq.{bytes_eq-Decides}
use Rattle.hw_names.specs.Name.{Text, AreDistinct, IsPlain, dot}
use Rattle.hw_names.proofs.NameLemmas.{HasNoDot-from_test, same_number}
use Rattle.hw_prims.specs.Filament.{data_inputs, delay_of, go_of, is_data_pin, is_timed, needed}
use Rattle.hw_prims.specs.Filament as filament
use Rattle.hw_prims.specs.Memory.{keeps_words}
use Rattle.hw_prims.specs.Table.{Pin, inputs_of, pin, pin_names}
use Rattle.hw_prims.specs.Timed.{TimedEvent, TimedPort, TimedSignature}
use Rattle.hw_prims.specs.declared.prim.Primitive.{Primitive}
use Rattle.hw_prims.specs.declared.prim.Primitive.TheVariants.{StdMemD1, StdMemD2, StdMultPipe, StdReg}
use Rattle.fil_ast.specs.Behaviours.{timed_event, timed_port, timed_signature}
use Rattle.fil_ast.specs.Naming.{HasNewNames, NamesEvents}
use Rattle.fil_ast.specs.Primitives.{Timing, register_timing, signature_by, timing}
use Rattle.fil_ast.specs.Signature.{SigEvent, SigPort, Signature, component_signature, event_number, interface_of, sig_event, sig_port}
use Rattle.fil_ast.specs.Tree.{Component, DataPort, Design, Event, Interface}
use Rattle.fil_ast.specs.Typing.{HasShape}
use Rattle.fil_promise.specs.Refines as calyx_ports
use Rattle.fil_share.proofs.ListLemmas.{AllPairs-left, Contains-here, Contains-there}
use Rattle.fil_lower.proofs.AvailableLemmas.{mapped_from}
use Rattle.fil_lower.proofs.GuardLemmas.{filtered_has}
use Rattle.fil_lower.proofs.ListLemmas.{contains_none, first_or_later}
use Rattle.fil_lower.proofs.NameLemmas.{apart_joined, first_differs, from_map, later_distinct, other_name, same_element, same_name}
use Rattle.fil_lower.proofs.TimedAsLemmas.{contains_map, number_of}
use Rattle.fil_lower.proofs.TimingLemmas.{IsTiming, Plain, Register}

-- what an instance promises, its signature, and the names of its input pins
pub record HasPins (b : TimedSignature) (sig : Signature) (pins : List Text) : Type 0 where
  pub data_pin : (p : TimedPort) → Contains b.ins p → Contains pins p.name
  pub go_pin : (k : ℕ) (event : TimedEvent) (go : Text) → slice_get b.events k ≡ Some event → event.go ≡ Some go → Contains pins go
  pub pin_is : (name : Text) → Contains pins name → ((p : TimedPort) × Contains b.ins p × (p.name ≡ name)) ⊎ ((k : ℕ) × (event : TimedEvent) × (slice_get b.events k ≡ Some event) × (event.go ≡ Some name))
  -- no data input is an interface port, and an interface port is that of one event
  pub apart : (p : TimedPort) → Contains b.ins p → (k : ℕ) (event : TimedEvent) (go : Text) → slice_get b.events k ≡ Some event → event.go ≡ Some go → p.name ≡ go → ⊥
  pub one_go : (k j : ℕ) (e f : SigEvent) (go : Text) → slice_get sig.events k ≡ Some e → e.go ≡ Some go → slice_get sig.events j ≡ Some f → f.go ≡ Some go → k ≡ j
  pub plain : All IsPlain pins

-- ---- primitives

abbrev is_go : Option Text → Text → Bool
is_go None name = false
is_go (Some go) name = bytes_eq go name

go_named : (go : Option Text) (name : Text) → is_go go name ≡ true → go ≡ Some name
go_named None name is = absurd (false≢true is)
go_named (Some go) name is = ap Some ((bytes_eq-Decides go name).0 is)

pins_known : (prim : Primitive) → is_timed prim ≡ true → list_all (λ (p : Pin). is_data_pin p || is_go (go_of prim) p.name) (inputs_of prim) ≡ true
unfolding inputs_of is_timed keeps_words go_of
pins_known (StdMemD1 w size idx) known = absurd (false≢true known)
pins_known (StdMemD2 w size0 size1 idx0 idx1) known = absurd (false≢true known)
pins_known (StdMultPipe w) known = absurd (false≢true known)
pins_known prim known = refl

-- an interface port is an input, and no data pin
go_known : (prim : Primitive) → option_map_or (λ (go : Text). list_any (λ (p : Pin). bytes_eq p.name go) (inputs_of prim) && not (is_data_pin (pin go 1))) (go_of prim) true ≡ true
unfolding inputs_of go_of
go_known (StdReg w) = refl
go_known prim = refl

abbrev is_plain : Text → Bool
is_plain [] = false
is_plain (byte ∷ bytes) = list_all (λ b. not (b == dot)) (byte ∷ bytes)

plain_from : (name : Text) → is_plain name ≡ true → IsPlain name
plain_from [] is = absurd (false≢true is)
plain_from (byte ∷ bytes) is = (λ same. absurd (cc), HasNoDot-from_test (byte ∷ bytes) is)

pins_plain : (prim : Primitive) → list_all (λ (p : Pin). is_plain p.name) (inputs_of prim) ≡ true
unfolding inputs_of
pins_plain (StdReg w) = refl
pins_plain prim = refl

primitive_names_plain : (prim : Primitive) → All IsPlain (pin_names (inputs_of prim))
primitive_names_plain prim =
    All-map IsPlain (λ (x : Pin). x.name) (inputs_of prim) (λ k d within. plain_from _ (AllPass-from_list_all (λ (p : Pin). is_plain p.name) (inputs_of prim) (pins_plain prim) k d within))

any_named : (pins : List Pin) (name : Text) → list_any (λ (p : Pin). bytes_eq p.name name) pins ≡ true → Contains (pin_names pins) name
any_named [] name is = absurd (false≢true is)
any_named (p ∷ pins) name is =
    elim (or_cases (bytes_eq p.name name) (list_any (λ (p : Pin). bytes_eq p.name name) pins) is) [
      | inl here ↦ (0, omega arith, (bytes_eq-Decides p.name name).0 here)
      | inr there ↦ Contains-there p.name (pin_names pins) name (any_named pins name there)
    ]

pub from_filter : {X : Type 0} (test : X → Bool) (xs : List X) (x : X) → Contains (filter test xs) x → Contains xs x × (test x ≡ true)
from_filter test xs x has =
    (All-contains (Contains xs) (filter test xs) x (All-filter test (Contains xs) xs (All-contains_itself xs)) has, All-contains (λ x. test x ≡ true) (filter test xs) x (filter_passes test xs) has)

module _ (prim : Primitive) where
  go_there : (go : Text) → go_of prim ≡ Some go → (list_any (λ (p : Pin). bytes_eq p.name go) (inputs_of prim) ≡ true) × (not (is_data_pin (pin go 1)) ≡ true)
  go_there go is =
      and_parts (list_any (λ (p : Pin). bytes_eq p.name go) (inputs_of prim)) (not (is_data_pin (pin go 1)))
      (sym (ap (λ (o : Option Text). option_map_or (λ (go : Text). list_any (λ (p : Pin). bytes_eq p.name go) (inputs_of prim) && not (is_data_pin (pin go 1))) o true) is) ∙ go_known prim)

  first_go : (k : ℕ) (event : TimedEvent) → slice_get (filament.timed_signature prim).events k ≡ Some event → (k ≡ 0) × (go_of prim ≡ event.go)
  first_go zero event at = (refl, ap (λ (e : TimedEvent). e.go) (same_Some (record { delay = delay_of prim; go = go_of prim }) event at))
  first_go (suc k) event at = absurd (none-some event at)

  not_both : (b : Bool) → b ≡ true → not b ≡ true → ⊥
  not_both true is fails = false≢true fails
  not_both false is fails = false≢true is

  -- the first event alone has an interface port
  abbrev HasOneGo : Signature → Type 0
  HasOneGo sig = (k : ℕ) (e : SigEvent) (go : Text) → slice_get sig.events k ≡ Some e → e.go ≡ Some go → k ≡ 0

  primitive_pins_by : (sig : Signature) → is_timed prim ≡ true → HasOneGo sig → HasPins (filament.timed_signature prim) sig (pin_names (inputs_of prim))
  primitive_pins_by sig timed only = record {
    data_pin = λ p has_p.
        let m = from_map needed (data_inputs prim) p has_p in
        subst (λ (name : Text). Contains (pin_names (inputs_of prim)) name) (ap (λ (x : TimedPort). x.name) m.2)
        (contains_map (λ (x : Pin). x.name) (inputs_of prim) m.0 (from_filter is_data_pin (inputs_of prim) m.0 m.1).0);
    go_pin = λ k event go at is. any_named (inputs_of prim) go (go_there go ((first_go k event at).1 ∙ is)).0;
    pin_is = λ name has_pin.
        let m = from_map (λ (x : Pin). x.name) (inputs_of prim) name has_pin in
        let passes = All-contains (λ (p : Pin). (is_data_pin p || is_go (go_of prim) p.name) ≡ true) (inputs_of prim) m.0
        (AllPass-from_list_all (λ (p : Pin). is_data_pin p || is_go (go_of prim) p.name) (inputs_of prim) (pins_known prim timed)) m.1 in
        elim (or_cases (is_data_pin m.0) (is_go (go_of prim) m.0.name) passes) [
          | inl is ↦ inl (needed m.0, contains_map needed (data_inputs prim) m.0 (filtered_has is_data_pin (inputs_of prim) m.0 m.1 is), m.2)
          | inr is ↦ inr (0, record { delay = delay_of prim; go = go_of prim }, refl, go_named (go_of prim) m.0.name is ∙ ap Some m.2)
        ];
    apart = λ p has_p k event go at is same.
        let m = from_map needed (data_inputs prim) p has_p in
        let passes = (from_filter is_data_pin (inputs_of prim) m.0 m.1).1 in
        let name : m.0.name ≡ go = ap (λ (x : TimedPort). x.name) m.2 ∙ same in
        not_both (is_data_pin (pin go 1)) (sym (ap (λ (x : Text). is_data_pin (pin x 1)) name) ∙ passes) (go_there go ((first_go k event at).1 ∙ is)).1;
    one_go = λ k j e f go at_k is_k at_j is_j. only k e go at_k is_k ∙ sym (only j f go at_j is_j);
    plain = primitive_names_plain prim;
  }

one_event_only : (events : List SigEvent) (e : SigEvent) → events ≡ e ∷ [] → (k : ℕ) (f : SigEvent) → slice_get events k ≡ Some f → k ≡ 0
one_event_only events e is zero f at = refl
one_event_only events e is (suc k) f at = absurd (none-some f (sym (ap (λ (es : List SigEvent). slice_get es (suc k)) is) ∙ at))

go_by_timing : (t : Timing) (prim : Primitive) → IsTiming t prim → HasOneGo prim (signature_by t prim)
go_by_timing t prim (Plain rows latency go prim' some timed fixed is_go port) = λ k e g at is. one_event_only (timing rows go latency).events _ refl k e at
go_by_timing t prim (Register w) = register_go
  where
    register_go : (k : ℕ) (e : SigEvent) (g : Text) → slice_get register_timing.events k ≡ Some e → e.go ≡ Some g → k ≡ 0
    register_go zero e g at is = refl
    register_go (suc zero) e g at is = absurd (none-some g (ap (λ (x : SigEvent). x.go) (same_Some _ e at) ∙ is))
    register_go (suc (suc k)) e g at is = absurd (none-some e at)

pub primitive_pins : (t : Timing) (prim : Primitive) → is_timed prim ≡ true → IsTiming t prim → HasPins (filament.timed_signature prim) (signature_by t prim) (pin_names (inputs_of prim))
primitive_pins t prim timed is = primitive_pins_by prim (signature_by t prim) timed (go_by_timing t prim is)

-- ---- components

interface_there : (gs : List Interface) (event go : Text) → interface_of gs event ≡ Some go → (g : Interface) × Contains gs g × (g.event ≡ event) × (g.name ≡ go)
interface_there [] event go is = absurd (none-some go is)
interface_there (g ∷ gs) event go is = by (bytes_eq g.event event) refl is (interface_there gs event go)
  where
    by : (b : Bool) → bytes_eq g.event event ≡ b → (if b then Some g.name else interface_of gs event) ≡ Some go → (interface_of gs event ≡ Some go → (h : Interface) × Contains gs h × (h.event ≡ event) × (h.name ≡ go))
        → (h : Interface) × Contains (g ∷ gs) h × (h.event ≡ event) × (h.name ≡ go)
    by true same e later = (g, Contains-here g gs, (bytes_eq-Decides g.event event).0 same, same_Some g.name go e)
    by false other e later = let m = later e in (m.0, Contains-there g gs m.0 m.1, m.2, m.3)

interface_found : (gs : List Interface) (g : Interface) → AreDistinct (map (λ (g : Interface). g.event) gs) → Contains gs g → interface_of gs g.event ≡ Some g.name
interface_found [] g distinct has = absurd (contains_none g has)
interface_found (h ∷ gs) g distinct has =
    let event_of : Interface → Text = λ x. x.event in
    elim (first_or_later h gs g has) [
      | inl same ↦ ap (λ (b : Bool). if b then Some h.name else interface_of gs g.event) (same_name h.event g.event (ap event_of same)) ∙ ap (λ (x : Interface). Some x.name) same
      | inr later ↦
          ap (λ (b : Bool). if b then Some h.name else interface_of gs g.event) (other_name h.event g.event (first_differs h.event (map event_of gs) g.event distinct (contains_map event_of gs g later)))
          ∙ interface_found gs g (later_distinct h.event (map event_of gs) distinct) later
    ]

module _ (earlier : Design) (d : Component) (names : HasNewNames earlier d) (events : NamesEvents d) (shape : HasShape d) (plain : All IsPlain (pin_names (calyx_ports.inputs_of d))) where
  abbrev sig : Signature
  sig = component_signature d

  abbrev interface_names : List Text
  interface_names = map (λ (g : Interface). g.name) d.interfaces

  abbrev input_names : List Text
  input_names = map (λ (p : DataPort). p.name) d.ins

  pins_are : pin_names (calyx_ports.inputs_of d) ≡ interface_names ++ input_names
  pins_are =
      let name_of : Pin → Text = λ x. x.name in
      let first : Interface → Pin = λ g. pin g.name g.width in
      let second : DataPort → Pin = λ p. pin p.name p.width in
      map-append name_of (map first d.interfaces) (map second d.ins) ∙ ap₂ ◌++◌ (map-map name_of first d.interfaces) (map-map name_of second d.ins)

  distinct_ins : AreDistinct (interface_names ++ input_names)
  distinct_ins = AllPairs-left (λ (a b : Text). a ≢ b) (interface_names ++ input_names) (map (λ (p : DataPort). p.name) d.outs) names.ports

  -- event k of the component's own
  event_at : (k : ℕ) (e : SigEvent) → slice_get sig.events k ≡ Some e → (f : Event) × (slice_get d.events k ≡ Some f) × (sig_event d.interfaces f ≡ e)
  event_at k e at = mapped_from (sig_event d.interfaces) (slice_get d.events k) e (sym (slice_get-map (sig_event d.interfaces) d.events k) ∙ at) (λ f at_f is. (f, at_f, is))

  timed_at : (k : ℕ) (event : TimedEvent) → slice_get (timed_signature sig).events k ≡ Some event → (e : SigEvent) × (slice_get sig.events k ≡ Some e) × (timed_event e ≡ event)
  timed_at k event at = mapped_from timed_event (slice_get sig.events k) event (sym (slice_get-map timed_event sig.events k) ∙ at) (λ e at_e is. (e, at_e, is))

  -- an interface port, by its event
  go_at : (k : ℕ) (e : SigEvent) (go : Text) → slice_get sig.events k ≡ Some e → e.go ≡ Some go → (f : Event) × (slice_get d.events k ≡ Some f) × (g : Interface) × Contains d.interfaces g × (g.event ≡ f.name) × (g.name ≡ go)
  go_at k e go at is =
      let f = event_at k e at in
      let g = interface_there d.interfaces f.0.name go (ap (λ (x : SigEvent). x.go) f.2 ∙ is) in
      (f.0, f.1, g.0, g.1, g.2, g.3)

  go_among : (k : ℕ) (event : TimedEvent) (go : Text) → slice_get (timed_signature sig).events k ≡ Some event → event.go ≡ Some go → Contains interface_names go
  go_among k event go at is =
      let e = timed_at k event at in
      let g = go_at k e.0 go e.1 (ap (λ (x : TimedEvent). x.go) e.2 ∙ is) in
      subst (λ (name : Text). Contains interface_names name) g.5 (contains_map (λ (x : Interface). x.name) d.interfaces g.2 g.3)

  data_among : (p : TimedPort) → Contains (timed_signature sig).ins p → Contains input_names p.name
  data_among p has =
      let m = from_map timed_port sig.ins p has in
      let o = from_map (sig_port d.events) d.ins m.0 m.1 in
      subst (λ (name : Text). Contains input_names name) (ap (λ (x : SigPort). x.name) o.2 ∙ ap (λ (x : TimedPort). x.name) m.2) (contains_map (λ (x : DataPort). x.name) d.ins o.0 o.1)

  in_pins : (name : Text) → Contains (interface_names ++ input_names) name → Contains (pin_names (calyx_ports.inputs_of d)) name
  in_pins name has = subst (λ (ns : List Text). Contains ns name) (sym pins_are) has

  -- which input it is
  pin_kind : (name : Text) → Contains (interface_names ++ input_names) name →
      ((p : TimedPort) × Contains (timed_signature sig).ins p × (p.name ≡ name)) ⊎ ((k : ℕ) × (event : TimedEvent) × (slice_get (timed_signature sig).events k ≡ Some event) × (event.go ≡ Some name))
  pin_kind name has =
      elim (Contains-append_cases interface_names input_names name has) [
        | inl is ↦
            let m = from_map (λ (g : Interface). g.name) d.interfaces name is in
            let e = number_of d.events m.0.event (All-contains (λ (g : Interface). Contains (map (λ (x : Event). x.name) d.events) g.event) d.interfaces m.0 events.interfaces m.1) in
            let k = event_number d.events m.0.event in
            inr (
              k,
              timed_event (sig_event d.interfaces e.0),
              slice_get-map timed_event sig.events k ∙ ap (option_map timed_event) (slice_get-map (sig_event d.interfaces) d.events k ∙ ap (option_map (sig_event d.interfaces)) e.1),
              ap (interface_of d.interfaces) e.2 ∙ interface_found d.interfaces m.0 shape.one_interface m.1 ∙ ap Some m.2,
            )
        | inr is ↦
            let m = from_map (λ (p : DataPort). p.name) d.ins name is in
            inl (timed_port (sig_port d.events m.0), contains_map timed_port sig.ins (sig_port d.events m.0) (contains_map (sig_port d.events) d.ins m.0 m.1), m.2)
      ]

  pub component_pins : HasPins (timed_signature sig) sig (pin_names (calyx_ports.inputs_of d))
  component_pins = record {
    data_pin = λ p has. in_pins p.name (Contains-append_right interface_names input_names p.name (data_among p has));
    go_pin = λ k event go at is. in_pins go (Contains-append_left interface_names input_names go (go_among k event go at is));
    pin_is = λ name has. pin_kind name (subst (λ (ns : List Text). Contains ns name) pins_are has);
    apart = λ p has k event go at is same.
        apart_joined interface_names input_names distinct_ins go (go_among k event go at is) (subst (λ (name : Text). Contains input_names name) same (data_among p has));
    one_go = λ k j e f go at_k is_k at_j is_j.
        let a = go_at k e go at_k is_k in
        let b = go_at j f go at_j is_j in
        let one : a.2 ≡ b.2 = same_element (λ (g : Interface). g.name) d.interfaces a.2 b.2 (AllPairs-left (λ (x y : Text). x ≢ y) interface_names input_names distinct_ins) a.3 b.3 (a.5 ∙ sym b.5) in
        let name_of : Event → Text = λ x. x.name in
        let same : b.0.name ≡ a.0.name = sym b.4 ∙ ap (λ (g : Interface). g.event) (sym one) ∙ a.4 in
        same_number (map name_of d.events) k j a.0.name names.events
        (slice_get-map name_of d.events k ∙ ap (option_map name_of) a.1) (slice_get-map name_of d.events j ∙ ap (option_map name_of) b.1 ∙ ap Some same);
    plain = plain;
  }
