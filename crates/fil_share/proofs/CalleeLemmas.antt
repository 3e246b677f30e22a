-- What an instance is made of: it can be used, and has few events with small delays.
use Rattle.std.proofs.Common.{◌≡◌, ◌≤◌, ℕ, zero, suc, Bool, true, false, cond, List, [], ◌∷◌, length, map, get_or, All, Contains, Option, Some, None, option_map, refl, sym, ap, subst, ◌∙◌, codes, arith}
use Rattle.std.specs.Option.{option_and_then, IfSome}
use Rattle.std.specs.Str.{bytes_eq}
use Rattle.std.proofs.lemmas.List.{length-map}
use Rattle.std.proofs.lemmas.List.Elements.{All-cons, All-nil, All-contains, All-map}
use Rattle.std.proofs.lemmas.Option.{same_Some}
use Rattle.hw_names.specs.Name.{Text}
use Rattle.fil_ast.proofs.PrimitiveLemmas.{each_timing}
use Rattle.fil_ast.specs.Limits.{KeepsLimits}
use Rattle.fil_ast.specs.Primitives.{Timing, event, filament_primitive, is_filament_primitive, primitive_signature, register_timing, signature_by, timing, timing_of}
use Rattle.fil_ast.specs.Scope.{bare_signature, component_named, signature_in}
use Rattle.fil_ast.specs.Signature.{Gap, End, SigEvent, Signature, component_signature, sig_event}
use Rattle.fil_ast.specs.Tree.{Component, Design, Event, component_tree, event_tree}
use Rattle.fil_ast.specs.Typing.{HasShape}
use Rattle.fil_ast.specs.declared.tree.FilComp.{FilComp}
use Rattle.hw_limits.specs.declared.limits.TheConstants.{MOST_OFFSET}
use Rattle.fil_sig.specs.Refusals.{IsCause, ByF2, ByF3, ByF5, IsUsable}
use Rattle.fil_share.specs.Instances.{HasSmallDelay, HasSmallEvents}

-- what can be used is not refused
pub not_refused : (comps : Design) (name : Text) (params : List ℕ) (rule : ℕ) → IsUsable comps name params → IsCause comps name params rule → ⊥
not_refused comps name params rule can (ByF2 unknown) = unknown can.known
not_refused comps name params rule can (ByF3 known bad) = bad can.widths
not_refused comps name params rule can (ByF5 known wide bad) = bad can.shape

-- the component that has a name is one of these
pub named_among : (name : Text) (comps : Design) (c : Component) → component_named comps name ≡ Some c → Contains comps c
named_among name [] c is = absurd (cc)
named_among name (d ∷ comps) c is = by (bytes_eq d.name name) refl (λ e. named_among name comps c e)
  where
    by : (b : Bool) → bytes_eq d.name name ≡ b → (component_named comps name ≡ Some c → Contains comps c) → Contains (d ∷ comps) c
    by true e later =
        let same : d ≡ c = same_Some d c (sym (ap (λ (b : Bool). cond b (Some d) (component_named comps name)) e) ∙ is) in (zero, omega arith, same)
    by false e later =
        let there = later (sym (ap (λ (b : Bool). cond b (Some d) (component_named comps name)) e) ∙ is) in
        let below = there.1 in (suc there.0, omega arith, there.2)

one_small : (t : Timing) (e : SigEvent) → t.events ≡ e ∷ [] → HasSmallDelay e → (length t.events ≤ 16) × All HasSmallDelay t.events
one_small t e is small =
    let P : List SigEvent → Type 0 = λ es. (length es ≤ 16) × All HasSmallDelay es in
    subst P (sym is) (omega arith, All-cons HasSmallDelay e [] small (All-nil HasSmallDelay))

abbrev IsSmallTiming : Timing → Type 0
IsSmallTiming t = (length t.events ≤ 16) × All HasSmallDelay t.events

written_event : SigEvent
written_event = event (codes "G") Gap (Some (codes "write_en"))

ending_event : SigEvent
ending_event = event (codes "L") End None

register_small : IsSmallTiming register_timing
unfolding written_event ending_event
register_small =
    (omega arith, All-cons HasSmallDelay written_event (ending_event ∷ []) (tt {0}) (All-cons HasSmallDelay ending_event [] (tt {0}) (All-nil HasSmallDelay)))

timing_small : (rows : ℕ) (go : Option Text) (latency : ℕ) → rows ≤ MOST_OFFSET → IsSmallTiming (timing rows go latency)
timing_small rows go latency small = one_small (timing rows go latency) _ refl small

-- a primitive has few events, with small delays
primitive_small : (name : Text) → IsSmallTiming (timing_of name)
primitive_small name =
    each_timing IsSmallTiming register_small (timing_small 3 _ 2 (omega arith)) (timing_small 1 None 2 (omega arith)) (timing_small 1 None 1 (omega arith)) (timing_small 1 None 0 (omega arith)) name

module _ (names : List Text) (comps : List FilComp) (small : All KeepsLimits comps) (name : Text) (params : List ℕ) (sig : Signature) where
  abbrev trees : Design
  trees = map (component_tree names) comps

  abbrev HasSmallDelays : Component → Type 0
  HasSmallDelays c = All (λ (e : Event). e.delay ≤ MOST_OFFSET) c.events

  each_small : All HasSmallDelays trees
  each_small = All-map HasSmallDelays (component_tree names) comps (λ k d within. All-map (λ (e : Event). e.delay ≤ MOST_OFFSET) (event_tree names) (get_or comps k d).events.items (small k d within).events)

  by_component : (c : Component) → component_named trees name ≡ Some c → HasShape c → HasSmallEvents (component_signature c)
  by_component c found shape = record {
    few = omega (arith, length-map c.events (sig_event c.interfaces), shape.few);
    delays = All-map HasSmallDelay (sig_event c.interfaces) c.events (All-contains HasSmallDelays trees c each_small (named_among name trees c found));
  }

  -- so has what can be used
  pub callee_small : IsUsable trees name params → signature_in trees name params ≡ Some sig → HasSmallEvents sig
  callee_small can is = by (is_filament_primitive name) refl
    where
      of_component : (o : Option Component) (ps : List ℕ) → component_named trees name ≡ o → IfSome o HasShape → option_and_then (bare_signature ps) o ≡ Some sig → HasSmallEvents sig
      of_component None ps found shape e = absurd (cc)
      of_component (Some c) [] found shape e = subst HasSmallEvents (same_Some (component_signature c) sig e) (by_component c found shape)
      of_component (Some c) (p ∷ ps) found shape e = absurd (cc)

      of_primitive : {X : Type 0} (f : X → Signature) (o : Option X) → ((x : X) → HasSmallEvents (f x)) → option_map f o ≡ Some sig → HasSmallEvents sig
      of_primitive f None each e = absurd (cc)
      of_primitive f (Some x) each e = subst HasSmallEvents (same_Some (f x) sig e) (each x)

      by : (b : Bool) → is_filament_primitive name ≡ b → HasSmallEvents sig
      by true p = of_primitive (signature_by (timing_of name)) (filament_primitive name params) (λ prim. let t = primitive_small name in record { few = t.0; delays = t.1 }) (sym (ap (λ (b : Bool). cond b (primitive_signature name params) (option_and_then (bare_signature params) (component_named trees name))) p) ∙ is)
      by false p =
          let shape : IfSome (component_named trees name) HasShape =
          (let P : Option Component → Type 0 = λ o. IfSome o HasShape in subst P (ap (λ (b : Bool). cond b None (component_named trees name)) p) can.shape) in
          of_component (component_named trees name) params refl shape
          (sym (ap (λ (b : Bool). cond b (primitive_signature name params) (option_and_then (bare_signature params) (component_named trees name))) p) ∙ is)
