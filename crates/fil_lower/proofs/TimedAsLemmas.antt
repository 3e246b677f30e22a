-- When the ports of what an instance promises are valid is what its signature says.
use Rattle.std.proofs.Common.{◌≡◌, ◌≢◌, ℕ, zero, suc, ◌+◌, ◌-◌, ◌<◌, ◌≤◌, Bool, true, false, List, [], ◌∷◌, length, map, slice_get, Option, Some, None, option_map, refl, sym, ap, ap₂, subst, ◌∙◌, inl, inr, arith}
use Rattle.std.specs.Option.{option_and_then}
use Rattle.std.specs.Prelude.{Contains, bytes_eq, codes, if◌then◌else◌}
use Rattle.std.proofs.lemmas.Bool.{false≢true}
use Rattle.std.proofs.lemmas.List.Elements.{All-contains}
use Rattle.std.proofs.lemmas.Option.{get_or_from_slice_get, none-some, same_Some, slice_get-get_or, slice_get-map, slice_get_within}
use Rattle.std.proofs.lemmas.Simd.{map-map}
use Rattle.std.proofs.lemmas.Slice.Eq.{bytes_eq-Decides}
use Rattle.hw_names.specs.Name.{Text, AreDistinct}
use Rattle.hw_prims.specs.Filament.{behaviour_of, data_inputs, data_outputs, delay_of, given, go_of, needed}
use Rattle.hw_prims.specs.Filament as filament
use Rattle.hw_prims.specs.Table.{Pin}
use Rattle.hw_prims.specs.Timed.{Delay, Fixed, HasDelay, TimedEvent, TimedPort, TimedSignature, end_of}
use Rattle.hw_prims.specs.declared.prim.Primitive.{Primitive}
use Rattle.hw_prims.specs.declared.prim.Primitive.TheVariants.{StdReg}
use Rattle.fil_ast.proofs.UseLemmas.{by_parts}
use Rattle.fil_ast.specs.Behaviours.{timed_event, timed_port, timed_signature}
use Rattle.fil_ast.specs.Naming.{NamesEvents, event_names}
use Rattle.fil_ast.specs.Primitives.{Timing, input_port, output_port, register_timing, signature_by, timing}
use Rattle.fil_ast.specs.Signature as signature
use Rattle.fil_ast.specs.Signature.{SigEvent, SigPort, Signature, component_signature, event_number, sig_event, sig_port}
use Rattle.fil_ast.specs.Timeline as timeline
use Rattle.fil_ast.specs.Timeline.{HasShortPorts, HoldsSome, Interval, IsUse, Use, interval_at, interval_between, until}
use Rattle.fil_ast.specs.Tree.{Component, DataPort, Event, TimeAt}
use Rattle.fil_ast.specs.Typing.{HasShape, IsInterval}
use Rattle.fil_lower.specs.inside.Laws.{IsNeeded}
use Rattle.fil_lower.specs.inside.PlanRules.{IsShort}
use Rattle.fil_lower.proofs.ListLemmas.{contains_none, first_or_later}
use Rattle.fil_lower.proofs.CalleeLemmas.{data_names}
use Rattle.fil_lower.proofs.NameLemmas.{from_map, sig_names}
use Rattle.fil_lower.proofs.PrimitiveLemmas.{inputs_distinct}
use Rattle.fil_lower.proofs.TimingLemmas.{IsTiming, Plain, Register}
use Rattle.fil_lower.proofs.UseLemmas.{fixed_use, some_at}

pub contains_map : {X Y : Type 0} (f : X → Y) (xs : List X) (x : X) → Contains xs x → Contains (map f xs) (f x)
contains_map f [] x has = absurd (contains_none x has)
contains_map f (y ∷ xs) x has =
    elim (first_or_later y xs x has) [
      | inl same ↦ (zero, omega arith, ap f same)
      | inr later ↦ let m = contains_map f xs x later in (suc m.0, omega (arith, m.1), m.2)
    ]

pub place_of : {X : Type 0} (xs : List X) (x : X) → Contains xs x → (k : ℕ) × (slice_get xs k ≡ Some x)
place_of xs x (k, within, is) = (k, slice_get-get_or xs k x within ∙ ap Some is)

-- ---- events by their numbers

pub number_of : (events : List Event) (name : Text) → Contains (map (λ (e : Event). e.name) events) name → (e : Event) × (slice_get events (event_number events name) ≡ Some e) × (e.name ≡ name)
number_of [] name has = absurd (contains_none name has)
number_of (d ∷ events) name has = by (bytes_eq d.name name) refl (number_of events name)
  where
    by : (b : Bool) → bytes_eq d.name name ≡ b → (Contains (map (λ (e : Event). e.name) events) name → (e : Event) × (slice_get events (event_number events name) ≡ Some e) × (e.name ≡ name))
        → (e : Event) × (slice_get (d ∷ events) (if b then 0 else suc (event_number events name)) ≡ Some e) × (e.name ≡ name)
    by true same rest = (d, refl, (bytes_eq-Decides d.name name).0 same)
    by false other rest =
        rest (elim (first_or_later d.name (map (λ (e : Event). e.name) events) name has) [ inl same ↦ absurd (false≢true (sym other ∙ (bytes_eq-Decides d.name name).1 same)) | inr later ↦ later ])

-- what stands at the number of a name has the name
pub named_at_number : (events : List Event) (name : Text) (e : Event) → slice_get events (event_number events name) ≡ Some e → e.name ≡ name
named_at_number [] name e at = absurd (none-some e at)
named_at_number (d ∷ events) name e at = by (bytes_eq d.name name) refl at (named_at_number events name e)
  where
    by : (b : Bool) → bytes_eq d.name name ≡ b → slice_get (d ∷ events) (if b then 0 else suc (event_number events name)) ≡ Some e → (slice_get events (event_number events name) ≡ Some e → e.name ≡ name) → e.name ≡ name
    by true same is rest = ap (λ (x : Event). x.name) (sym (same_Some d e is)) ∙ (bytes_eq-Decides d.name name).0 same
    by false other is rest = rest is

-- ---- what a promised signature keeps of a signature

-- an output's interval in an invocation starts and ends as the use of its event says
abbrev pub IsOutputBy : Signature → SigPort → TimedPort → Type 0
IsOutputBy sig q p =
    (inst : Text) (times : List TimeAt) (i : Interval) → HoldsSome sig times → length times ≡ length sig.events → interval_at times q ≡ Some i →
    (u : Use) × IsUse sig inst times u × (u.event ≡ p.event) × (i.event ≡ u.at.event) × (i.from ≡ u.at.plus + p.from) × (i.to ≡ u.at.plus + end_of p u.hold)

pub record IsTimedAs (b : TimedSignature) (sig : Signature) : Type 0 where
  pub short : IsShort b
  pub needed : IsNeeded b
  pub events : (k : ℕ) (e : SigEvent) → slice_get sig.events k ≡ Some e → e.delay ≢ signature.End → slice_get b.events k ≡ Some (timed_event e)
  pub ins : (p : TimedPort) → Contains b.ins p → (k : ℕ) × (q : SigPort) × (slice_get sig.ins k ≡ Some q) × (timed_port q ≡ p) × (q.to.event ≡ q.from.event)
  pub starts : (p : TimedPort) → Contains b.ins p → (inst : Text) (times : List TimeAt) → length times ≡ length sig.events → (u : Use) × IsUse sig inst times u × (u.event ≡ p.event)
  pub distinct : AreDistinct (sig_names sig.ins)
  pub ins_are : b.ins ≡ map timed_port sig.ins
  -- both have the same interface ports
  pub event_is : (k : ℕ) (event : TimedEvent) → slice_get b.events k ≡ Some event → (e : SigEvent) × (slice_get sig.events k ≡ Some e) × (e.go ≡ event.go)
  pub go_is : (k : ℕ) (e : SigEvent) (go : Text) → slice_get sig.events k ≡ Some e → e.go ≡ Some go → (event : TimedEvent) × (slice_get b.events k ≡ Some event) × (event.go ≡ Some go)
  pub outs : (q : SigPort) → Contains sig.outs q → (p : TimedPort) × Contains b.outs p × (p.name ≡ q.name) × IsOutputBy sig q p

-- a port whose interval goes by one event at number k, of fixed delay, is valid as the use of that event says
fixed_output : (sig : Signature) (q : SigPort) (p : TimedPort) (e : SigEvent) (rows : ℕ) → slice_get sig.events q.from.event ≡ Some e → e.delay ≡ signature.Fixed rows → q.to.event ≡ q.from.event →
    p.event ≡ q.from.event → p.from ≡ q.from.plus → p.to ≡ q.to.plus → p.stays ≡ false → IsOutputBy sig q p
fixed_output sig q p e rows at fixed one event from to stays inst times i holds long is =
    let within = slice_get_within sig.events q.from.event e at in
    let s = some_at times q.from.event (omega (arith, within, long)) in
    let between : interval_at times q ≡ Some (interval_between s.0 s.0 q) =
    ap (option_and_then (λ s. option_map (λ t. interval_between s t q) (slice_get times q.to.event))) s.1
    ∙ ap (option_map (λ t. interval_between s.0 t q)) (ap (slice_get times) one ∙ s.1) in
    let same : interval_between s.0 s.0 q ≡ i = same_Some (interval_between s.0 s.0 q) i (sym between ∙ is) in
    let begins : s.0.plus + q.from.plus ≡ i.from = ap (λ (x : Interval). x.from) same in
    let ends : s.0.plus + q.to.plus ≡ i.to = ap (λ (x : Interval). x.to) same in
    let last : end_of p rows ≡ p.to = ap (λ b. p.to + (if b then rows else 0)) stays ∙ omega arith in (
      record { inst = inst; event = q.from.event; go = e.go; at = s.0; hold = rows },
      fixed_use sig inst times q.from.event e rows s.0 at fixed s.1,
      sym event,
      sym (ap (λ (x : Interval). x.event) same),
      omega (arith, begins, from),
      omega (arith, ends, to, last),
    )

-- ---- primitives

one_only : (first e : SigEvent) (k : ℕ) → slice_get (first ∷ []) k ≡ Some e → (k ≡ 0) × (first ≡ e)
one_only first e zero at = (refl, same_Some first e at)
one_only first e (suc k) at = absurd (none-some e at)

input_place : (t : Timing) (prim : Primitive) (p : TimedPort) → Contains (map needed (data_inputs prim)) p →
    (k : ℕ) × (q : SigPort) × (slice_get (signature_by t prim).ins k ≡ Some q) × (timed_port q ≡ p) × (q.to.event ≡ q.from.event)
input_place t prim p has =
    let m = from_map needed (data_inputs prim) p has in
    let place = place_of (data_inputs prim) m.0 m.1 in
    (place.0, input_port m.0, slice_get-map input_port (data_inputs prim) place.0 ∙ ap (option_map input_port) place.1, m.2, refl)

input_names_differ : (t : Timing) (prim : Primitive) → AreDistinct (sig_names (signature_by t prim).ins)
input_names_differ t prim =
    let D : List Text → Type 0 = AreDistinct in
    subst D (sym (map-map (λ (p : SigPort). p.name) input_port (data_inputs prim))) (inputs_distinct prim)

-- an input is needed in the row of the start alone
needed_short : (prim : Primitive) (p : TimedPort) (hold : ℕ) → Contains (map needed (data_inputs prim)) p → 1 ≤ hold → end_of p hold ≤ p.from + hold
needed_short prim p hold has some =
    let m = from_map needed (data_inputs prim) p has in
    subst (λ (x : TimedPort). end_of x hold ≤ x.from + hold) m.2 (omega (arith, some))

needed_once : (prim : Primitive) (p : TimedPort) (hold : ℕ) → Contains (map needed (data_inputs prim)) p → p.from < end_of p hold
needed_once prim p hold has =
    let m = from_map needed (data_inputs prim) p has in
    subst (λ (x : TimedPort). x.from < end_of x hold) m.2 (omega arith)

held_once : (delay : Delay) (rows hold : ℕ) → delay ≡ Fixed rows → 1 ≤ rows → HasDelay delay hold → 1 ≤ hold
held_once delay rows hold fixed some held = let is : hold ≡ rows = subst (λ (d : Delay). HasDelay d hold) fixed held in omega (arith, is, some)

primitive_event : (prim : Primitive) (n : ℕ) (event : TimedEvent) → slice_get (filament.timed_signature prim).events n ≡ Some event → event.delay ≡ delay_of prim
primitive_event prim zero event at = sym (ap (λ (e : TimedEvent). e.delay) (same_Some (record { delay = delay_of prim; go = go_of prim }) event at))
primitive_event prim (suc n) event at = absurd (none-some event at)

first_go : (prim : Primitive) (k : ℕ) (event : TimedEvent) → slice_get (filament.timed_signature prim).events k ≡ Some event → (k ≡ 0) × (go_of prim ≡ event.go)
first_go prim zero event at = (refl, ap (λ (e : TimedEvent). e.go) (same_Some (record { delay = delay_of prim; go = go_of prim }) event at))
first_go prim (suc k) event at = absurd (none-some event at)

inputs_are : (t : Timing) (prim : Primitive) → (filament.timed_signature prim).ins ≡ map timed_port (signature_by t prim).ins
inputs_are t prim = sym (map-map timed_port input_port (data_inputs prim))

abbrev first_event : ℕ → Option Text → SigEvent
first_event rows go = record { name = codes "G"; delay = signature.Fixed rows; go = go }

plain_timed : (rows latency : ℕ) (go : Option Text) (prim : Primitive) → 1 ≤ rows → delay_of prim ≡ Fixed rows → go_of prim ≡ go →
    ((p : Pin) → given prim p ≡ record { name = p.name; event = 0; from = latency; to = latency + 1; stays = false }) → IsTimedAs (filament.timed_signature prim) (signature_by (timing rows go latency) prim)
plain_timed rows latency go prim some fixed is_go port = record {
  short = λ p has event at hold held. needed_short prim p hold has (held_once event.delay rows hold (primitive_event prim p.event event at ∙ fixed) some held);
  needed = λ p has event at hold held. needed_once prim p hold has;
  events = λ k e at ends.
      let only = one_only (first_event rows go) e k at in
      ap (slice_get (filament.timed_signature prim).events) only.0
      ∙ ap₂ (λ (d : Delay) (g : Option Text). Some (record { delay = d; go = g })) fixed is_go
      ∙ ap (λ (x : SigEvent). Some (timed_event x)) only.1;
  ins = input_place (timing rows go latency) prim;
  starts = λ p has inst times long.
      let m = from_map needed (data_inputs prim) p has in
      let s = some_at times 0 (omega (arith, long)) in
      (record { inst = inst; event = 0; go = go; at = s.0; hold = rows }, fixed_use (signature_by (timing rows go latency) prim) inst times 0 (first_event rows go) rows s.0 refl refl s.1, ap (λ (x : TimedPort). x.event) m.2);
  distinct = input_names_differ (timing rows go latency) prim;
  ins_are = inputs_are (timing rows go latency) prim;
  event_is = λ k event at.
      let f = first_go prim k event at in
      (first_event rows go, ap (slice_get (signature_by (timing rows go latency) prim).events) f.0, sym is_go ∙ f.1);
  go_is = λ k e port_go at is.
      let only = one_only (first_event rows go) e k at in
      (record { delay = delay_of prim; go = go_of prim }, ap (slice_get (filament.timed_signature prim).events) only.0, is_go ∙ ap (λ (x : SigEvent). x.go) only.1 ∙ is);
  outs = λ q has.
      let m = from_map (output_port (timing rows go latency)) (data_outputs prim) q has in
      let p : TimedPort = record { name = m.0.name; event = 0; from = latency; to = latency + 1; stays = false } in
      let in_outs : Contains (map (given prim) (data_outputs prim)) p = subst (λ (x : TimedPort). Contains (map (given prim) (data_outputs prim)) x) (port m.0) (contains_map (given prim) (data_outputs prim) m.0 m.1) in (
        p,
        in_outs,
        ap (λ (x : SigPort). x.name) m.2,
        subst (λ (x : SigPort). IsOutputBy (signature_by (timing rows go latency) prim) x p) m.2 (fixed_output (signature_by (timing rows go latency) prim) (output_port (timing rows go latency) m.0) p (first_event rows go) rows refl refl refl refl refl refl refl),
      );
}

register_event : (w k : ℕ) (e : SigEvent) → slice_get register_timing.events k ≡ Some e → e.delay ≢ signature.End → slice_get (filament.timed_signature (StdReg w)).events k ≡ Some (timed_event e)
unfolding delay_of go_of
register_event w zero e at ends = ap (λ (x : SigEvent). Some (timed_event x)) (same_Some (record { name = codes "G"; delay = signature.Gap; go = Some (codes "write_en") }) e at)
register_event w (suc zero) e at ends = absurd (ends (sym (ap (λ (x : SigEvent). x.delay) (same_Some (record { name = codes "L"; delay = signature.End; go = None }) e at))))
register_event w (suc (suc k)) e at ends = absurd (none-some e at)

register_go : (w k : ℕ) (e : SigEvent) (go : Text) → slice_get register_timing.events k ≡ Some e → e.go ≡ Some go →
    (event : TimedEvent) × (slice_get (filament.timed_signature (StdReg w)).events k ≡ Some event) × (event.go ≡ Some go)
unfolding delay_of go_of
register_go w zero e go at is =
    let same = same_Some (record { name = codes "G"; delay = signature.Gap; go = Some (codes "write_en") }) e at in
    (record { delay = delay_of (StdReg w); go = go_of (StdReg w) }, refl, ap (λ (x : SigEvent). x.go) same ∙ is)
register_go w (suc zero) e go at is = absurd (none-some go (ap (λ (x : SigEvent). x.go) (same_Some (record { name = codes "L"; delay = signature.End; go = None }) e at) ∙ is))
register_go w (suc (suc k)) e go at is = absurd (none-some e at)

register_output : (w : ℕ) (pin : Pin) → IsOutputBy (signature_by register_timing (StdReg w)) (output_port register_timing pin) (given (StdReg w) pin)
unfolding given
register_output w pin inst times i holds long is =
    let s = some_at times 0 (omega (arith, long)) in
    let t = some_at times 1 (omega (arith, long)) in
    let q : SigPort = output_port register_timing pin in
    let between : interval_at times q ≡ Some (interval_between s.0 t.0 q) =
    ap (option_and_then (λ s. option_map (λ t. interval_between s t q) (slice_get times 1))) s.1
    ∙ ap (option_map (λ t. interval_between s.0 t q)) t.1 in
    let same : interval_between s.0 t.0 q ≡ i = same_Some (interval_between s.0 t.0 q) i (sym between ∙ is) in
    let begins : s.0.plus + 1 ≡ i.from = ap (λ (x : Interval). x.from) same in
    let ends : t.0.plus + 0 ≡ i.to = ap (λ (x : Interval). x.to) same in
    let gap : s.0.plus + 1 < t.0.plus = holds 0 (record { name = codes "G"; delay = signature.Gap; go = Some (codes "write_en") }) refl refl s.0 t.0 s.1 t.1 in (
      record { inst = inst; event = 0; go = Some (codes "write_en"); at = s.0; hold = until s.0 t.0 },
      by_parts (record { name = codes "G"; delay = signature.Gap; go = Some (codes "write_en") }) refl (record { named = refl; go = refl; time = s.1; held = ap (option_map (until s.0)) t.1 }),
      refl,
      sym (ap (λ (x : Interval). x.event) same),
      omega (arith, begins),
      omega (arith, ends, gap),
    )

register_timed : (w : ℕ) → IsTimedAs (filament.timed_signature (StdReg w)) (signature_by register_timing (StdReg w))
unfolding delay_of go_of given
register_timed w = record {
  short = λ p has event at hold held. needed_short (StdReg w) p hold has (subst (λ (d : Delay). HasDelay d hold) (primitive_event (StdReg w) p.event event at) held);
  needed = λ p has event at hold held. needed_once (StdReg w) p hold has;
  events = register_event w;
  ins = input_place register_timing (StdReg w);
  starts = λ p has inst times long.
      let m = from_map needed (data_inputs (StdReg w)) p has in
      let s = some_at times 0 (omega (arith, long)) in
      let t = some_at times 1 (omega (arith, long)) in (
        record { inst = inst; event = 0; go = Some (codes "write_en"); at = s.0; hold = until s.0 t.0 },
        by_parts (record { name = codes "G"; delay = signature.Gap; go = Some (codes "write_en") }) refl (record { named = refl; go = refl; time = s.1; held = ap (option_map (until s.0)) t.1 }),
        ap (λ (x : TimedPort). x.event) m.2,
      );
  distinct = input_names_differ register_timing (StdReg w);
  ins_are = inputs_are register_timing (StdReg w);
  event_is = λ k event at.
      let f = first_go (StdReg w) k event at in
      (record { name = codes "G"; delay = signature.Gap; go = Some (codes "write_en") }, ap (slice_get register_timing.events) f.0, f.1);
  go_is = register_go w;
  outs = λ q has.
      let m = from_map (output_port register_timing) (data_outputs (StdReg w)) q has in (
        given (StdReg w) m.0,
        contains_map (given (StdReg w)) (data_outputs (StdReg w)) m.0 m.1,
        ap (λ (x : SigPort). x.name) m.2,
        subst (λ (x : SigPort). IsOutputBy (signature_by register_timing (StdReg w)) x (given (StdReg w) m.0)) m.2 (register_output w m.0),
      );
}

pub primitive_timed : (t : Timing) (prim : Primitive) → IsTiming t prim → IsTimedAs (behaviour_of prim).sig (signature_by t prim)
primitive_timed t prim (Plain rows latency go prim' some known fixed is_go port) = plain_timed rows latency go prim' some fixed is_go port
primitive_timed t prim (Register w) = register_timed w

-- ---- components

-- what the rules say of a component's own signature
pub record IsSound (d : Component) : Type 0 where
  pub names : NamesEvents d
  pub shape : HasShape d
  pub short : HasShortPorts d
  pub ins : AreDistinct (data_names d.ins)

-- what stands among timed events
event_from : (events : List SigEvent) (k : ℕ) (event : TimedEvent) → slice_get (map timed_event events) k ≡ Some event → (e : SigEvent) × (slice_get events k ≡ Some e) × (timed_event e ≡ event)
event_from [] k event at = absurd (none-some event at)
event_from (e ∷ events) zero event at = (e, refl, same_Some (timed_event e) event at)
event_from (e ∷ events) (suc k) event at = event_from events k event at

module _ (d : Component) (sound : IsSound d) where
  -- the event of a port
  event_of : (ports : List DataPort) (p : DataPort) → Contains ports p → Contains (event_names d) p.from.event →
      (e : Event) × (slice_get d.events (event_number d.events p.from.event) ≡ Some e) × (e.name ≡ p.from.event) × (slice_get (component_signature d).events (event_number d.events p.from.event) ≡ Some (sig_event d.interfaces e))
  event_of ports p has names =
      let n = number_of d.events p.from.event names in
      (n.0, n.1, n.2, slice_get-map (sig_event d.interfaces) d.events (event_number d.events p.from.event) ∙ ap (option_map (sig_event d.interfaces)) n.1)

  pub component_timed : IsTimedAs (timed_signature (component_signature d)) (component_signature d)
  component_timed = record {
    short = λ p has event at hold held.
        let m = from_map timed_port (component_signature d).ins p has in
        let n = from_map (sig_port d.events) d.ins m.0 m.1 in
        let is : timed_port (sig_port d.events n.0) ≡ p = ap timed_port n.2 ∙ m.2 in
        let e = event_of d.ins n.0 n.1 (All-contains (λ (p : DataPort). Contains (event_names d) p.from.event × Contains (event_names d) p.to.event) d.ins n.0 sound.names.ins n.1).0 in
        let there : slice_get (timed_signature (component_signature d)).events p.event ≡ Some (timed_event (sig_event d.interfaces e.0)) =
        ap (slice_get (timed_signature (component_signature d)).events) (sym (ap (λ (x : TimedPort). x.event) is))
        ∙ slice_get-map timed_event (component_signature d).events (event_number d.events n.0.from.event) ∙ ap (option_map timed_event) e.3 in
        let same : timed_event (sig_event d.interfaces e.0) ≡ event = same_Some (timed_event (sig_event d.interfaces e.0)) event (sym there ∙ at) in
        let is_hold : hold ≡ e.0.delay = subst (λ (x : TimedEvent). HasDelay x.delay hold) (sym same) held in
        let has_e : Contains d.events e.0 = (event_number d.events n.0.from.event, slice_get_within d.events (event_number d.events n.0.from.event) e.0 e.1, get_or_from_slice_get d.events (event_number d.events n.0.from.event) e.0 e.0 e.1) in
        let within : n.0.to.plus - n.0.from.plus ≤ e.0.delay = All-contains (timeline.IsShort d) d.ins n.0 sound.short.ins n.1 e.0 has_e e.2 in
        subst (λ (x : TimedPort). end_of x hold ≤ x.from + hold) is (omega (arith, within, is_hold));
    needed = λ p has event at hold held.
        let m = from_map timed_port (component_signature d).ins p has in
        let n = from_map (sig_port d.events) d.ins m.0 m.1 in
        let shape = All-contains IsInterval d.ins n.0 sound.shape.ins n.1 in
        let some : n.0.from.plus < n.0.to.plus = shape.1 in
        subst (λ (x : TimedPort). x.from < end_of x hold) (ap timed_port n.2 ∙ m.2) (omega (arith, some));
    events = λ k e at ends. slice_get-map timed_event (component_signature d).events k ∙ ap (option_map timed_event) at;
    ins = λ p has.
        let m = from_map timed_port (component_signature d).ins p has in
        let n = from_map (sig_port d.events) d.ins m.0 m.1 in
        let place = place_of (component_signature d).ins m.0 m.1 in
        let shape = All-contains IsInterval d.ins n.0 sound.shape.ins n.1 in
        (place.0, m.0, place.1, m.2, subst (λ (q : SigPort). q.to.event ≡ q.from.event) n.2 (ap (event_number d.events) (sym shape.0)));
    starts = λ p has inst times long.
        let m = from_map timed_port (component_signature d).ins p has in
        let n = from_map (sig_port d.events) d.ins m.0 m.1 in
        let is : timed_port (sig_port d.events n.0) ≡ p = ap timed_port n.2 ∙ m.2 in
        let e = event_of d.ins n.0 n.1 (All-contains (λ (p : DataPort). Contains (event_names d) p.from.event × Contains (event_names d) p.to.event) d.ins n.0 sound.names.ins n.1).0 in
        let within = slice_get_within (component_signature d).events (event_number d.events n.0.from.event) (sig_event d.interfaces e.0) e.3 in
        let s = some_at times (event_number d.events n.0.from.event) (omega (arith, within, long)) in (
          record { inst = inst; event = event_number d.events n.0.from.event; go = (sig_event d.interfaces e.0).go; at = s.0; hold = e.0.delay },
          fixed_use (component_signature d) inst times (event_number d.events n.0.from.event) (sig_event d.interfaces e.0) e.0.delay s.0 e.3 refl s.1,
          ap (λ (x : TimedPort). x.event) is,
        );
    distinct =
        (let D : List Text → Type 0 = AreDistinct in
        subst D (sym (map-map (λ (p : SigPort). p.name) (sig_port d.events) d.ins)) sound.ins);
    ins_are = refl;
    event_is = λ k event at. let e = event_from (component_signature d).events k event at in (e.0, e.1, ap (λ (x : TimedEvent). x.go) e.2);
    go_is = λ k e go at is. (timed_event e, slice_get-map timed_event (component_signature d).events k ∙ ap (option_map timed_event) at, is);
    outs = λ q has.
        let n = from_map (sig_port d.events) d.outs q has in
        let e = event_of d.outs n.0 n.1 (All-contains (λ (p : DataPort). Contains (event_names d) p.from.event × Contains (event_names d) p.to.event) d.outs n.0 sound.names.outs n.1).0 in
        let shape = All-contains IsInterval d.outs n.0 sound.shape.outs n.1 in (
          timed_port q,
          contains_map timed_port (component_signature d).outs q has,
          refl,
          subst (λ (x : SigPort). IsOutputBy (component_signature d) x (timed_port x)) n.2
              (fixed_output (component_signature d) (sig_port d.events n.0) (timed_port (sig_port d.events n.0)) (sig_event d.interfaces e.0) e.0.delay e.3 refl (ap (event_number d.events) (sym shape.0)) refl refl refl refl),
        );
  }
