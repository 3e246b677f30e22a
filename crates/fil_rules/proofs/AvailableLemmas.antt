-- When values are available, and where they are missing.
use Rattle.std.proofs.Common.{◌≡◌, ℕ, zero, suc, ◌<◌, Bool, true, false, cond, List, [], ◌∷◌, map, slice_get, All, Contains, Option, Some, None, option_map, refl, sym, ap, subst, ◌∙◌, arith, zero-add}
use Rattle.std.specs.Option.{IfSome, MatchOption, option_and_then}
use Rattle.std.specs.Str.{bytes_eq}
use Rattle.std.proofs.lemmas.Option.{none-some, option_and_then_some, same_Some}
use Rattle.std.proofs.lemmas.Slice.Eq.{bytes_eq-Decides}
use Rattle.hw_names.specs.Name.{Text, AreDistinct, text_of}
use Rattle.hw_names.proofs.NameLemmas.{same_number}
use Rattle.fil_ast.specs.Naming.{event_names}
use Rattle.fil_ast.specs.Scope.{Scope, Invocation, Result, instance_signature, invocation_named, result_at, result_of, sig_port_named}
use Rattle.fil_ast.specs.Signature.{SigPort, Signature, event_number, sig_port}
use Rattle.fil_ast.specs.Timeline as tree
use Rattle.fil_ast.specs.Tree.{TimeAt, Event, Component, ValueTree, OutputValue, port_tree}
use Rattle.fil_ast.specs.declared.tree.FilPort.{FilPort}
use Rattle.fil_rules.specs.inside.Available.{IsDuring, IsMissingIn, ShowsDuring, result_interval}
use Rattle.fil_rules.specs.inside.Available.{IsFirstMissing, IsThroughout, ShowsAvailable}
use Rattle.fil_place.specs.Times.{ShowsInterval, known}
use Rattle.fil_place.specs.Tables.{times_of}
use Rattle.fil_rules.specs.declared.timeline.missing.Available.{Available}
use Rattle.fil_rules.specs.declared.timeline.missing.Available.TheVariants.{Within, Never}
use Rattle.fil_place.specs.declared.times.Interval.{Interval}

pub among : {X : Type 0} (P : X → Type 0) (xs : List X) (x : X) → All P xs → Contains xs x → P x
among P xs x all (k, within, is) = subst P is (all k x within)

-- the time of an event by its name
abbrev own : Event → TimeAt
own e = record { event = e.name; plus = 0 }

abbrev named : List Event → List Text
named es = map (λ (e : Event). e.name) es

abbrev numbered : List Event → Event → Text → Bool → Option TimeAt
numbered es e name b = slice_get (map own (e ∷ es)) (cond b 0 (suc (event_number es name)))

own_at : (es : List Event) (name : Text) → Contains (named es) name → slice_get (map own es) (event_number es name) ≡ Some (record { event = name; plus = 0 })
own_at [] name (k, within, is) = absurd (omega arith)
own_at (e ∷ es) name there = by (bytes_eq e.name name) refl there (λ later. own_at es name later)
  where
    by : (b : Bool) → bytes_eq e.name name ≡ b → Contains (named (e ∷ es)) name → (Contains (named es) name → slice_get (map own es) (event_number es name) ≡ Some (record { event = name; plus = 0 }))
        → slice_get (map own (e ∷ es)) (event_number (e ∷ es) name) ≡ Some (record { event = name; plus = 0 })
    by true is there rest =
        let at_name : Text → Option TimeAt = λ t. Some (record { event = t; plus = 0 }) in
        ap (numbered es e name) is ∙ ap at_name ((bytes_eq-Decides e.name name).0 is)
    by false is (zero, within, same) rest = let bad : true ≡ false = sym ((bytes_eq-Decides e.name name).1 same) ∙ is in absurd (cc)
    by false is (suc k, within, same) rest = ap (numbered es e name) is ∙ rest (k, omega arith, same)

own_none : (es : List Event) (name : Text) → (Contains (named es) name → ⊥) → slice_get (map own es) (event_number es name) ≡ None
own_none [] name absent = refl
own_none (e ∷ es) name absent = by (bytes_eq e.name name) refl (own_none es name (λ (k, within, same). absent (suc k, omega arith, same)))
  where
    by : (b : Bool) → bytes_eq e.name name ≡ b → slice_get (map own es) (event_number es name) ≡ None → slice_get (map own (e ∷ es)) (event_number (e ∷ es) name) ≡ None
    by true is rest = absurd (absent (zero, omega arith, (bytes_eq-Decides e.name name).0 is))
    by false is rest = ap (numbered es e name) is ∙ rest

-- the interval of a port of the component
module _ (names events : List Text) (c : Component) (are : events ≡ event_names c) (port : FilPort) where
  abbrev sig : SigPort
  sig = sig_port c.events (port_tree names port)

  abbrev pub Own : Option Interval → Type 0
  Own r = ShowsInterval events r (tree.interval_at (tree.own_times c) sig)

  abbrev from_to : Option TimeAt → Option TimeAt → Option tree.Interval
  from_to a b = option_and_then (λ (s : TimeAt). option_map (λ (t : TimeAt). tree.interval_between s t sig) b) a

  nothing : tree.interval_at (tree.own_times c) sig ≡ None → Own None
  nothing e = subst (λ (j : Option tree.Interval). ShowsInterval events None j) (sym e) tt

  in_component : (name : Text) → Contains events name → Contains (event_names c) name
  in_component name there = subst (λ (ts : List Text). Contains ts name) are there

  out_of_component : (name : Text) → (Contains events name → ⊥) → Contains (event_names c) name → ⊥
  out_of_component name absent there = absent (subst (λ (ts : List Text). Contains ts name) (sym are) there)

  pub own_no_from : (Contains events (text_of names port.from.event) → ⊥) → Own None
  own_no_from absent =
      let none = own_none c.events (text_of names port.from.event) (out_of_component (text_of names port.from.event) absent) in
      nothing (ap (λ (a : Option TimeAt). from_to a (slice_get (tree.own_times c) sig.to.event)) none)

  no_end : (a : Option TimeAt) → from_to a None ≡ None
  no_end None = refl
  no_end (Some s) = refl

  pub own_no_to : (Contains events (text_of names port.to.event) → ⊥) → Own None
  own_no_to absent =
      let none = own_none c.events (text_of names port.to.event) (out_of_component (text_of names port.to.event) absent) in
      nothing (ap (from_to (slice_get (tree.own_times c) sig.from.event)) none ∙ no_end (slice_get (tree.own_times c) sig.from.event))

  pub own_shown : (n : ℕ) → slice_get events n ≡ Some (text_of names port.from.event) → Contains events (text_of names port.from.event) → Contains events (text_of names port.to.event)
      → Own (Some (record { event = n; from = port.from.plus; to = port.to.plus }))
  own_shown n at from to =
      let i : Interval = record { event = n; from = port.from.plus; to = port.to.plus } in
      let start = own_at c.events (text_of names port.from.event) (in_component (text_of names port.from.event) from) in
      let end = own_at c.events (text_of names port.to.event) (in_component (text_of names port.to.event) to) in
      let is = ap (λ (a : Option TimeAt). from_to a (slice_get (tree.own_times c) sig.to.event)) start
      ∙ ap (from_to (Some (record { event = text_of names port.from.event; plus = 0 }))) end in
      subst (λ (j : Option tree.Interval). ShowsInterval events (Some i) j) (sym is) (at, sym (zero-add port.from.plus), sym (zero-add port.to.plus))

-- an invocation's result
abbrev with_port : Invocation → SigPort → Result
with_port v p = record { invocation = v; port = p }

result_invocation : (v : Invocation) (q : Option SigPort) (r : Result) → option_map (with_port v) q ≡ Some r → v ≡ r.invocation
result_invocation v None r e = absurd (cc)
result_invocation v (Some p) r e = ap (λ (r : Result). r.invocation) (same_Some (with_port v p) r e)

pub invoked_result : (scope : Scope) (invocation port : Text) (r : Result) → result_of scope invocation port ≡ Some r → invocation_named scope.invocations invocation ≡ Some r.invocation
invoked_result scope invocation port r e =
    option_and_then_some {P = invocation_named scope.invocations invocation ≡ Some r.invocation} (λ (v : Invocation). result_at scope v port) (invocation_named scope.invocations invocation) r e
    (λ v is made. is ∙ ap Some (result_invocation v (option_and_then (λ (s : Signature). sig_port_named s.outs port) (instance_signature scope v.inst)) r made))

pub no_result : (o : Option Result) → ◌≡◌ {A = Option SigPort} None (option_map (λ (r : Result). r.port) o) → o ≡ None
no_result None e = refl
no_result (Some r) e = absurd (cc)

pub some_result : (p : SigPort) (o : Option Result) → Some p ≡ option_map (λ (r : Result). r.port) o → (r : Result) × (o ≡ Some r) × (p ≡ r.port)
some_result p None e = absurd (cc)
some_result p (Some r) e = (r, refl, same_Some p r.port e)

pub no_times : (o : Option Invocation) → ◌≡◌ {A = Option (List (Option TimeAt))} None (option_map times_of o) → o ≡ None
no_times None e = refl
no_times (Some v) e = absurd (cc)

pub some_times : (shown : List (Option TimeAt)) (v : Invocation) (o : Option Invocation) → o ≡ Some v → Some shown ≡ option_map times_of o → shown ≡ map known v.gives.times
some_times shown v o is e = same_Some shown (times_of v) (e ∙ ap (option_map times_of) is)

-- available in an interval
pub during_none : (events : List Text) (o : Option tree.Interval) → ShowsInterval events None o → ShowsDuring events o Never
during_none events None shown event name offset at = (λ bad. absurd bad, λ (i, e, inside). absurd (none-some i e))
during_none events (Some j) shown event name offset at = absurd shown

pub during_some : (events : List Text) (i : Interval) (o : Option tree.Interval) → AreDistinct events → ShowsInterval events (Some i) o → ShowsDuring events o (Within i)
during_some events i None distinct shown event name offset at = absurd shown
during_some events i (Some j) distinct (is_event, from, to) event name offset at = (
  λ (same, after, before). (j, refl, (same_Some j.event name (sym is_event ∙ ap (slice_get events) same ∙ at), omega arith, omega arith)),
  λ (k, e, inside).
      (let same = same_Some j k e in
      let event_name = ap (λ (i : tree.Interval). i.event) same ∙ inside.0 in
      let from_k = ap (λ (i : tree.Interval). i.from) same in
      let to_k = ap (λ (i : tree.Interval). i.to) same in
      let after = inside.1 in
      let before = inside.2 in
      (same_number events i.event event name distinct (is_event ∙ ap Some event_name) at, omega arith, omega arith)),
)

module _ (scope : Scope) (invocation port : Text) (event : Text) (offset : ℕ) where
  abbrev output : Option tree.Interval
  output = option_and_then result_interval (result_of scope invocation port)

  pub available_out : IsDuring output event offset → tree.IsAvailable scope (OutputValue invocation port) event offset
  available_out (i, e, inside) =
      option_and_then_some {P = tree.IsAvailable scope (OutputValue invocation port) event offset} result_interval (result_of scope invocation port) i e (λ r is shown. (r, is, i, shown, inside))

  pub out_available : tree.IsAvailable scope (OutputValue invocation port) event offset → IsDuring output event offset
  out_available (r, is, i, shown, inside) = (i, ap (option_and_then result_interval) is ∙ shown, inside)

pub no_need : (events : List Text) (interval : Option tree.Interval) (P : tree.Interval → Type 0) → ShowsInterval events None interval → IfSome interval P
no_need events None P shown = tt
no_need events (Some j) P shown = absurd shown

-- where the value is missing in the need
module _ (events : List Text) (scope : Scope) (value : ValueTree) (available : Available) (shown : ShowsAvailable events scope value available) (i : Interval) where
  covered : (interval : Option tree.Interval) → ShowsInterval events (Some i) interval → IsThroughout available i → IfSome interval (tree.Covers scope value)
  covered None bad throughout = absurd bad
  covered (Some j) (is_event, from, to) throughout = λ offset after before. (shown i.event j.event offset is_event).0 (throughout offset (omega arith) (omega arith))

  missing_shown : (interval : Option tree.Interval) → ShowsInterval events (Some i) interval → (offset : ℕ) → IsFirstMissing available i offset → offset < i.to → IsMissingIn scope value interval offset
  missing_shown None bad offset first inside = absurd bad
  missing_shown (Some j) (is_event, from, to) offset first inside = record {
    need = j;
    is_need = refl;
    from = (let after = first.after in omega arith);
    to = omega arith;
    missing = λ there. first.missing ((shown i.event j.event offset is_event).1 there);
    least = λ k after before. (shown i.event j.event k is_event).0 (first.least k (omega arith) before);
  }

  pub told_missing : (interval : Option tree.Interval) → ShowsInterval events (Some i) interval → (r : Option ℕ) → MatchOption r (IsThroughout available i) (IsFirstMissing available i)
      → MatchOption r (IsThroughout available i) (λ offset. offset < i.to) → MatchOption r (IfSome interval (tree.Covers scope value)) (IsMissingIn scope value interval)
  told_missing interval shows None throughout again = covered interval shows throughout
  told_missing interval shows (Some offset) first inside = missing_shown interval shows offset first inside
