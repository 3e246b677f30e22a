-- The top component of a design that keeps the rules may be given transactions, and what a stimulus gives fits it.
use Rattle.std.proofs.Common.{◌≡◌, ℕ, zero, suc, ◌<◌, ◌≤◌, ◌==◌, Bool, true, false, cond, if◌then◌else◌, List, [], ◌∷◌, ◌++◌, length, map, filter, take, get_or, slice_get, All, Some, refl, sym, ap, subst, ◌∙◌, arith}
use Rattle.std.specs.Bool.{Decides}
use Rattle.std.specs.Prelude.{bytes_eq, option_map}
use Rattle.std.proofs.lemmas.Bool.Decides.{Decides-eqb, same_from_decides}
use Rattle.std.proofs.lemmas.List.{length-map}
use Rattle.std.proofs.lemmas.Option.{same_Some, slice_get-map, slice_get-get_or}
use Rattle.std.proofs.lemmas.Slice.Eq.{bytes_eq-Decides}
use Rattle.hw_names.specs.Name.{Text, AreDistinct}
use Rattle.fil_ast.specs.Naming.{HasNewNames}
use Rattle.fil_ast.specs.Numbers.{ComponentHasNumbers}
use Rattle.fil_ast.specs.Limits.{KeepsLimits}
use Rattle.fil_ast.specs.Items.{TheSignature}
use Rattle.fil_ast.specs.Rules.{F1, FilRules}
use Rattle.fil_ast.specs.Signature.{SigEvent, SigPort, Signature, component_signature, event_number, sig_event, sig_port}
use Rattle.fil_ast.specs.Transactions.{is_of_event}
use Rattle.fil_ast.specs.Tree.{Event, Interface, DataPort, Component, Design, component_tree, design_of}
use Rattle.fil_ast.specs.Typing.{HasShape, HasWidths, IsWidth}
use Rattle.fil_ast.specs.declared.tree.FilComp.{FilComp}
use Rattle.fil_ast.specs.declared.tx.Tx.{Tx}
use Rattle.fil_sig.proofs.ListLemmas.{All-mapped}
use Rattle.stim_read.specs.Fits.{FitsSignature}
use Rattle.stim_read.specs.TxEvents.{event_names, port_targets, ports_after, HasFixedDelay}
use Rattle.fil_share.proofs.Lookup.{later_distinct}
use Rattle.filc_load.proofs.ListLemmas.{distinct_front, distinct_back}
use Rattle.filc_load.specs.Built.{FitsComponent, IsFilReady}
use Rattle.filc_load.specs.StimulusFile.{event_name}
use Rattle.filc_load.specs.declared.fil_file.FilBuilt.{FilBuilt}
use Rattle.filc_load.proofs.TopLemmas.{top_within}

-- ---- the component at a number

-- a design that is ready has a top component, which has numbers and small offsets
pub record IsTopOf (b : FilBuilt) (comp : FilComp) : Type 0 where
  pub within : b.top < length b.design.comps.items
  pub at : slice_get (design_of b.design) b.top ≡ Some (component_tree b.design.names comp)
  pub numbers : ComponentHasNumbers b.design.names comp
  pub small : KeepsLimits comp

pub top_in : (b : FilBuilt) → IsFilReady b → b.top < length b.design.comps.items
top_in b ready = omega (arith, top_within (design_of b.design) b.top ready.top, length-map b.design.comps.items (component_tree b.design.names))

pub is_top_of : (b : FilBuilt) (comp : FilComp) → IsFilReady b → comp ≡ get_or b.design.comps.items b.top comp → IsTopOf b comp
is_top_of b comp ready is =
    let within = top_in b ready in
    let comps = b.design.comps.items in
    let here : slice_get comps b.top ≡ Some comp = slice_get-get_or comps b.top comp within ∙ ap Some (sym is) in
    record {
      within = within;
      at = slice_get-map (component_tree b.design.names) comps b.top ∙ ap (option_map (component_tree b.design.names)) here;
      numbers = subst (ComponentHasNumbers b.design.names) (sym is) (ready.numbers b.top comp within);
      small = subst KeepsLimits (sym is) (ready.small b.top comp within);
    }

-- the component at a number is one
pub same_component : (design : Design) (n : ℕ) (c c' : Component) → slice_get design n ≡ Some c → slice_get design n ≡ Some c' → c ≡ c'
same_component design n c c' at at' = same_Some c c' (sym at ∙ at')

-- a component of a design that keeps the rules keeps those at its signature
module _ (design : Design) (rules : FilRules design) (n : ℕ) (c : Component) (at : slice_get design n ≡ Some c) where
  pub has_new_names : HasNewNames (take n design) c
  has_new_names = rules.keeps n c at 0 TheSignature refl 0 F1 (omega arith)

  pub has_widths : HasWidths c
  has_widths = rules.keeps n c at 0 TheSignature refl 2 F1 (omega arith)

  pub has_shape : HasShape c
  has_shape = rules.keeps n c at 0 TheSignature refl 4 F1 (omega arith)

-- ---- events by their numbers

abbrev pub names_of : List Event → List Text
names_of events = map (λ (e : Event). e.name) events

-- the name of an event by its number
abbrev pub name_at : List Event → ℕ → Text
name_at events k = get_or (names_of events) k []

-- an event that has a number has its name
number_names : (events : List Event) (name : Text) → event_number events name < length events → name ≡ name_at events (event_number events name)
number_names [] name within = absurd (omega (arith, within))
number_names (e ∷ events) name within = by (bytes_eq e.name name) refl within (number_names events name)
  where
    by : (b : Bool) → bytes_eq e.name name ≡ b → (if b then 0 else suc (event_number events name)) < suc (length events)
        → (event_number events name < length events → name ≡ name_at events (event_number events name)) → name ≡ name_at (e ∷ events) (if b then 0 else suc (event_number events name))
    by true is inside later = sym ((bytes_eq-Decides e.name name).0 is)
    by false is inside later = later (omega (arith, inside))

-- where events' names differ, the event of a name has one number
names_number : (events : List Event) → AreDistinct (names_of events) → (k : ℕ) (name : Text) → k < length events → name ≡ name_at events k → event_number events name ≡ k
names_number [] distinct k name within is = absurd (omega (arith, within))
names_number (e ∷ events) distinct zero name within is = ap (λ b. if b then 0 else suc (event_number events name)) ((bytes_eq-Decides e.name name).1 (sym is))
names_number (e ∷ events) distinct (suc k) name within is =
    by (bytes_eq e.name name) refl (names_number events (later_distinct e.name (names_of events) distinct) k name (omega (arith, within)) is)
  where
    by : (b : Bool) → bytes_eq e.name name ≡ b → event_number events name ≡ k → (if b then 0 else suc (event_number events name)) ≡ suc k
    by true same later =
        let here : suc k < length (names_of (e ∷ events)) = omega (arith, within, length-map (e ∷ events) (λ (e : Event). e.name)) in
        absurd (distinct 0 (suc k) [] (omega arith) here ((bytes_eq-Decides e.name name).0 same ∙ is))
    by false other later = ap suc later

-- the name of an event is that of its number
pub name_is : (c : Component) (k : ℕ) → event_name c k ≡ name_at c.events k
name_is c k = by c.events k
  where
    by : (events : List Event) (k : ℕ) → event_name (record { name = []; events = events; interfaces = []; ins = []; outs = []; body = [] }) k ≡ name_at events k
    by [] k = refl
    by (e ∷ events) zero = refl
    by (e ∷ events) (suc k) = by events k

-- the number of an event's name is the number exactly where the name is the number's
same_event : (c : Component) → AreDistinct (names_of c.events) → (k : ℕ) → k < length c.events → (name : Text) → (event_number c.events name == k) ≡ bytes_eq name (event_name c k)
same_event c distinct k within name =
    let numbered = Decides-eqb (event_number c.events name) k in
    let decides : Decides (event_number c.events name == k) (name ≡ event_name c k) = (
      (λ is.
          let number : event_number c.events name ≡ k = numbered.0 is in
          number_names c.events name (omega (arith, number, within)) ∙ ap (name_at c.events) number ∙ sym (name_is c k)),
      (λ is. numbered.1 (names_number c.events distinct k name within (is ∙ name_is c k))),
    ) in
    same_from_decides _ _ decides (bytes_eq-Decides name (event_name c k))

-- ---- what reading a stimulus asks of a signature

pub record CanBeRead (sig : Signature) : Type 0 where
  pub events : AreDistinct (event_names sig)
  pub inputs : AreDistinct (port_targets sig.ins).names
  pub fixed : All HasFixedDelay sig.events
  pub few : length sig.events ≤ 256
  pub widths : All (λ (p : SigPort). IsWidth p.width) sig.ins

event_names_same : (gos : List Interface) (events : List Event) → map (λ (e : SigEvent). e.name) (map (sig_event gos) events) ≡ names_of events
event_names_same gos [] = refl
event_names_same gos (e ∷ events) = ap (λ names. e.name ∷ names) (event_names_same gos events)

port_names_same : (events : List Event) (ports : List DataPort) → map (λ (p : SigPort). p.name) (map (sig_port events) ports) ≡ map (λ (p : DataPort). p.name) ports
port_names_same events [] = refl
port_names_same events (p ∷ ports) = ap (λ names. p.name ∷ names) (port_names_same events ports)

pub can_be_read : (earlier : Design) (c : Component) → HasNewNames earlier c → HasWidths c → HasShape c → CanBeRead (component_signature c)
can_be_read earlier c named wide shaped =
    let gos = map (λ (g : Interface). g.name) c.interfaces in
    let ins = map (λ (p : DataPort). p.name) c.ins in
    let outs = map (λ (p : DataPort). p.name) c.outs in
    record {
      events = subst AreDistinct (sym (event_names_same c.interfaces c.events)) named.events;
      inputs = subst AreDistinct (sym (port_names_same c.events c.ins)) (distinct_back gos ins (distinct_front (gos ++ ins) outs named.ports));
      fixed = All-mapped HasFixedDelay (sig_event c.interfaces) c.events (λ k d within. tt);
      few = omega (arith, shaped.few, length-map c.events (sig_event c.interfaces));
      widths = All-mapped (λ (p : SigPort). IsWidth p.width) (sig_port c.events) c.ins wide.ins;
    }

-- ---- what was read fits

-- the ports of an event, by its number and by its name
own_widths : (events : List Event) (k : ℕ) (event : Text) → ((name : Text) → (event_number events name == k) ≡ bytes_eq name event) → (ports : List DataPort)
    → (port_targets (ports_after k (map (sig_port events) ports))).widths ≡ map (λ (p : DataPort). p.width) (filter (is_of_event event) ports)
own_widths events k event same [] = refl
own_widths events k event same (p ∷ ports) =
    ap (λ b. map (λ (q : SigPort). q.width) (cond b (sig_port events p ∷ ports_after k (map (sig_port events) ports)) (ports_after k (map (sig_port events) ports)))) (same p.from.event)
    ∙ by (bytes_eq p.from.event event) (own_widths events k event same ports)
  where
    by : (b : Bool) → (port_targets (ports_after k (map (sig_port events) ports))).widths ≡ map (λ (q : DataPort). q.width) (filter (is_of_event event) ports)
        → map (λ (q : SigPort). q.width) (cond b (sig_port events p ∷ ports_after k (map (sig_port events) ports)) (ports_after k (map (sig_port events) ports)))
        ≡ map (λ (q : DataPort). q.width) (cond b (p ∷ filter (is_of_event event) ports) (filter (is_of_event event) ports))
    by true rest = ap (λ ws. p.width ∷ ws) rest
    by false rest = rest

pub fits_component : (earlier : Design) (c : Component) → HasNewNames earlier c → (tx : Tx) → FitsSignature (component_signature c) tx → FitsComponent c tx
fits_component earlier c named tx fits =
    let within : tx.event < length c.events = omega (arith, fits.event, length-map c.events (sig_event c.interfaces)) in
    record {
      event = within;
      start = fits.start;
      widths = fits.widths ∙ own_widths c.events tx.event (event_name c tx.event) (same_event c named.events tx.event within) c.ins;
    }
