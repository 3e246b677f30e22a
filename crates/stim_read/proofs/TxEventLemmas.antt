-- Walks over ports of one event, as they are seen, and over events.
use mathlib.Core.List.{map-map}
use Rattle.std.proofs.Common.{◌≡◌, ◌≢◌, ℕ, suc, ◌+◌, ◌<◌, ◌==◌, max, true, false, List, [], ◌∷◌, ◌++◌, length, map, drop, get_or, slice_get, Contains, cond, Option, Some, None, MatchOption, refl, sym, ap, subst, ◌∙◌, arith, append_assoc, eq-eqb}
use Rattle.std.specs.List.{fold, AllPairs}
use Rattle.std.proofs.lemmas.List.{get_or-map, length-map, length-append, get_or_append_left, get_or_at}
use Rattle.std.proofs.lemmas.List.Kept.{AllPairs-filter}
use Rattle.std.proofs.lemmas.Option.{slice_get_past, slice_get-get_or}
use Rattle.hw_names.specs.Name.{Text, AreDistinct}
use Rattle.fil_ast.specs.Signature as tree
use Rattle.fil_sig.specs.Seen.{seen_event, seen_port}
use Rattle.fil_sig.specs.declared.time_sig.SigEvent.{SigEvent}
use Rattle.fil_sig.specs.declared.time_sig.SigPort.{SigPort}
use Rattle.stim_read.specs.Parts.{is_one_of}
use Rattle.stim_read.specs.CycleRules.{place_in}
use Rattle.stim_read.specs.TxRules.{event_number, event_by}
use Rattle.stim_read.specs.TxEvents.{Event, EventList, ports_after, port_targets, events_from, event_seen, events_seen}
use Rattle.stim_read.specs.declared.events.EventInputs.{EventInputs}
use Rattle.stim_read.specs.declared.events.Events.{Events}
use Rattle.stim_read.specs.declared.tx_text.EventName.{EventName}
use Rattle.stim_read.specs.declared.tx_text.EventName.TheVariants.{Named}
use Rattle.stim_read.proofs.EachLemmas.{cut_at}
use Rattle.stim_read.proofs.PlaceLemmas.{place_past}

-- the greatest end among these ports' intervals, and this number
abbrev pub greatest_from : ℕ → ℕ → List tree.SigPort → ℕ
greatest_from greatest event ports = fold (λ n (p : tree.SigPort). max n p.to.plus) greatest (ports_after event ports)

-- the ports of the event from a place on, as they are seen
abbrev pub ports_from : ℕ → List SigPort → ℕ → List tree.SigPort
ports_from event ports i = ports_after event (map seen_port (drop i ports))

pub ports_here : (event : ℕ) (ports : List SigPort) (i : ℕ) (p : SigPort) → i < length ports → p ≡ get_or ports i p → p.from.event ≡ event
    → ports_from event ports i ≡ seen_port p ∷ ports_from event ports (i + 1)
ports_here event ports i p within is same =
    let rest = ports_from event ports (i + 1) in
    ap (λ ps. ports_after event (map seen_port ps)) (cut_at ports i p within is) ∙ ap (λ b. cond b (seen_port p ∷ rest) rest) (eq-eqb p.from.event event same)

-- what is pushed for a port
pub pushed : {Y : Type 0} (f : tree.SigPort → Y) (done : List Y) (event : ℕ) (ports : List SigPort) (i : ℕ) (p : SigPort) (y : Y)
    → i < length ports → p ≡ get_or ports i p → p.from.event ≡ event → y ≡ f (seen_port p)
    → done ++ map f (ports_from event ports i) ≡ (done ++ y ∷ []) ++ map f (ports_from event ports (i + 1))
pushed f done event ports i p y within is same e =
    ap (λ ps. done ++ map f ps) (ports_here event ports i p within is same) ∙ ap (λ z. done ++ z ∷ map f (ports_from event ports (i + 1))) (sym e)
    ∙ sym (append_assoc done (y ∷ []) (map f (ports_from event ports (i + 1))))

-- the names of some of the ports differ
apart_mapped : {X : Type 0} (f : X → Text) (xs : List X) → AreDistinct (map f xs) → AllPairs (λ a b. f a ≢ f b) xs
apart_mapped f xs distinct i j d before within same =
    distinct i j (f d) before (omega (arith, within, length-map xs f))
    (get_or-map f xs i d (f d) (omega (arith, before, within)) ∙ same ∙ sym (get_or-map f xs j d (f d) within))

mapped_apart : {X : Type 0} (f : X → Text) (d : X) (xs : List X) → AllPairs (λ a b. f a ≢ f b) xs → AreDistinct (map f xs)
mapped_apart f d xs distinct i j e before within same =
    let inside : j < length xs = omega (arith, within, length-map xs f) in
    distinct i j d before inside (sym (get_or-map f xs i d e (omega (arith, before, inside))) ∙ same ∙ get_or-map f xs j d e inside)

-- none of the names that stand before a name is the same
not_before : (names : List Text) (name : Text) (after : List Text) → AreDistinct (names ++ name ∷ after) → Contains names name → ⊥
not_before names name after distinct (k, below, same) =
    distinct k (length names) name below (omega (arith, length-append names (name ∷ after)))
    (get_or_append_left names (name ∷ after) name k below ∙ same ∙ sym (get_or_at names name after name (length names) refl))

pub names_clash : (event : ℕ) (ports : List SigPort) (i : ℕ) (p : SigPort) (names : List Text) (name : Text) → AreDistinct (port_targets (map seen_port ports)).names
    → i < length ports → p ≡ get_or ports i p → p.from.event ≡ event → name ≡ p.name
    → names ++ (port_targets (ports_from event ports i)).names ≡ (port_targets (ports_after event (map seen_port ports))).names → Contains names name → ⊥
names_clash event ports i p names name distinct within is same spelled so_far there =
    let f = λ (q : tree.SigPort). q.name in
    let all = map seen_port ports in
    let D : List Text → Type 0 = AreDistinct in
    let few =
    mapped_apart f (seen_port p) (ports_after event all) (AllPairs-filter (λ (a b : tree.SigPort). f a ≢ f b) (λ (q : tree.SigPort). q.from.event == event) all (apart_mapped f all distinct)) in
    not_before names name (map f (ports_from event ports (i + 1)))
    (subst D (sym so_far ∙ pushed f names event ports i p name within is same spelled ∙ append_assoc names (name ∷ []) (map f (ports_from event ports (i + 1)))) few) there

-- ---- events

-- events have the same names as they are seen
pub names_seen : (events : List SigEvent) → map (λ (e : SigEvent). e.name) events ≡ map (λ (e : tree.SigEvent). e.name) (map seen_event events)
names_seen events = sym (map-map (λ (e : tree.SigEvent). e.name) seen_event events)

pub length_events : (sig : tree.Signature) (first : ℕ) (es : List tree.SigEvent) → length (events_from sig first es) ≡ length es
length_events sig first [] = refl
length_events sig first (e ∷ es) = ap suc (length_events sig (first + 1) es)

-- the number of an event by the place of its name
pub number_by_place : (ev : EventList) (n : ℕ) (e : EventName) (name read : Text) (o : Option ℕ) → e ≡ Named name → read ≡ name → length ev.names ≡ n → length ev.events ≡ n
    → MatchOption o (is_one_of ev.names read ≡ false) (λ place. (is_one_of ev.names read ≡ true) × (place ≡ place_in ev.names read) × (place < length ev.names))
    → MatchOption o (event_by ev e ≡ None) (λ number. (number ≡ event_number ev.names e) × (number < n))
number_by_place ev n e name read None is spelled names events missing =
    rw is (rw spelled at (slice_get_past ev.events (place_in ev.names read) (omega (arith, place_past ev.names read missing, names, events))))
number_by_place ev n e name read (Some place) is spelled names events found =
    let at : place ≡ event_number ev.names e = found.1 ∙ ap (place_in ev.names) spelled ∙ ap (event_number ev.names) (sym is) in
    (at, omega (arith, found.2, names))

-- the event at its place
pub event_is : (events : Events) (name : EventName) (place : ℕ) (x : EventInputs) → place ≡ event_number events.names name → place < length events.inputs.items → x ≡ get_or events.inputs.items place x → event_by (events_seen events) name ≡ Some (event_seen x)
event_is events name place x at within is =
    ap (slice_get (map event_seen events.inputs.items)) (sym at)
    ∙ slice_get-get_or (map event_seen events.inputs.items) place (event_seen x) (omega (arith, length-map events.inputs.items event_seen, within))
    ∙ ap (λ (y : Event). Some y) (get_or-map event_seen events.inputs.items place x (event_seen x) within ∙ ap event_seen (sym is))
