-- What transactions hold of an instance, and the transactions that it is given: the same spans in the same order.
use Rattle.std.proofs.Common.{◌≡◌, ℕ, suc, ◌==◌, Bool, true, false, cond, List, [], ◌∷◌, ◌++◌, map, filter, flat_map, take, get_or, slice_get, All, Some, option_map, refl, sym, ap, ap₂, ◌∙◌, arith}
use Rattle.std.specs.Str.{bytes_eq}
use Rattle.std.proofs.lemmas.List.{map-append}
use Rattle.std.proofs.lemmas.List.Elements.{All-head, All-map, All-tail, All-weaker, filter-append}
use Rattle.std.proofs.lemmas.Option.{slice_get-get_or}
use Rattle.hw_names.specs.Name.{Text, AreDistinct}
use Rattle.hw_prims.specs.Timed.{Transaction}
use Rattle.fil_ast.proofs.HoldLemmas.{All-passed, uses_by_call}
use Rattle.fil_ast.proofs.UseLemmas.{parts_of}
use Rattle.fil_ast.specs.Behaviours.{event_named, inner_by, inner_of, inner_transactions, transaction_on}
use Rattle.fil_ast.specs.Holds.{Hold, Start, hold_from, holds_by, holds_from, holds_of, start_of, uses_of}
use Rattle.fil_ast.specs.Items.{TheSignature}
use Rattle.fil_ast.specs.Naming.{event_names}
use Rattle.fil_ast.specs.Rules.{F1, FilRules}
use Rattle.fil_ast.specs.Scope.{Scope, Invocation}
use Rattle.fil_ast.specs.Sharing.{IsUseOf}
use Rattle.fil_ast.specs.Signature.{event_number}
use Rattle.fil_ast.specs.Timeline.{Use}
use Rattle.fil_ast.specs.Tree.{Component, Design, Event}
use Rattle.fil_ast.specs.Wires.{whole_scope}
use Rattle.fil_ast.specs.declared.tx.Tx.{Tx}
use Rattle.fil_share.proofs.OwnLemmas.{no_event}
use Rattle.fil_share.specs.Carried.{IsOfEvent}
use Rattle.fil_share.specs.Uses.{listed_start, starts_of}
use Rattle.fil_laws.proofs.EventLemmas.{name_is, same_event}
use Rattle.fil_laws.specs.Spans.{HoldsAreGiven, ProgramHoldsAreGiven, Span, StartsAreGiven, StartsEvent, is_of, span_given, span_held, start_given}

-- two tests that agree
filter_agree : {X : Type 0} (p q : X → Bool) (xs : List X) → ((x : X) → p x ≡ q x) → filter p xs ≡ filter q xs
filter_agree p q [] same = refl
filter_agree {X} p q (x ∷ xs) same =
    ap (λ (b : Bool). cond b (x ∷ filter p xs) (filter p xs)) (same x) ∙ ap (λ (ys : List X). cond (q x) (x ∷ ys) ys) (filter_agree p q xs same)

-- ---- spans

module _ (earlier : Design) (c : Component) (distinct : AreDistinct (event_names c)) (inst : Text) where
  abbrev whole : Scope
  whole = whole_scope earlier c

  abbrev OfInvocation : Invocation → Use → Type 0
  OfInvocation v u = u.inst ≡ v.inst

  -- the uses that an invocation makes on an event of the component
  abbrev on_event : Text → Invocation → List Use
  on_event name v = filter (λ (u : Use). bytes_eq u.at.event name) (uses_of whole v)

  its_uses : (name : Text) (v : Invocation) → All (OfInvocation v) (on_event name v)
  its_uses name v =
      let test = λ (u : Use). bytes_eq u.at.event name in
      let passed = All-passed (IsUseOf whole v) test (uses_of whole v) (uses_by_call whole v).0 in
      All-weaker (λ (u : Use). IsUseOf whole v u × (test u ≡ true)) (OfInvocation v) (λ u is. (parts_of is.0.2).named) (filter test (uses_of whole v)) passed

  -- of the holds by an invocation, all or none are of the instance
  all_or_none : (m row : ℕ) (v : Invocation) (b : Bool) → bytes_eq v.inst inst ≡ b → (us : List Use) → All (OfInvocation v) us
      → filter (is_of inst) (map (hold_from m row v.name) us) ≡ cond b (map (hold_from m row v.name) us) []
  all_or_none m row v true is [] of = refl
  all_or_none m row v false is [] of = refl
  all_or_none m row v b is (u ∷ us) of =
      let make = hold_from m row v.name in
      ap (λ (t : Bool). cond t (make u ∷ filter (is_of inst) (map make us)) (filter (is_of inst) (map make us))) (ap (λ (i : Text). bytes_eq i inst) (All-head (OfInvocation v) u us of) ∙ is)
      ∙ by b (all_or_none m row v b is us (All-tail (OfInvocation v) u us of))
    where
      by : (t : Bool) → filter (is_of inst) (map (hold_from m row v.name) us) ≡ cond t (map (hold_from m row v.name) us) []
          → cond t (hold_from m row v.name u ∷ filter (is_of inst) (map (hold_from m row v.name) us)) (filter (is_of inst) (map (hold_from m row v.name) us)) ≡ cond t (map (hold_from m row v.name) (u ∷ us)) []
      by true rest = ap (λ (hs : List Hold). hold_from m row v.name u ∷ hs) rest
      by false rest = rest

  -- a use as a hold and as a transaction has one span
  same_spans : (m : ℕ) (tx : Transaction) (v : Invocation) (us : List Use) → map span_held (map (hold_from m tx.start v.name) us) ≡ map span_given (map (inner_by earlier c tx v) us)
  same_spans m tx v [] = refl
  same_spans m tx v (u ∷ us) = ap (λ (spans : List Span). span_held (hold_from m tx.start v.name u) ∷ spans) (same_spans m tx v us)

  spans_of_call : (m : ℕ) (tx : Transaction) → StartsEvent c tx → (v : Invocation)
      → map span_held (filter (is_of inst) (holds_by whole m (start_given c tx) v)) ≡ map span_given (inner_of earlier c inst tx v)
  spans_of_call m tx within v =
      let name = event_named c tx.event in
      ap (map span_held) (all_or_none m tx.start v (bytes_eq v.inst inst) refl (on_event name v) (its_uses name v)) ∙ by (bytes_eq v.inst inst)
    where
      number : filter (λ (u : Use). bytes_eq u.at.event (event_named c tx.event)) (uses_of whole v) ≡ filter (λ (u : Use). event_number c.events u.at.event == tx.event) (uses_of whole v)
      number = filter_agree (λ (u : Use). bytes_eq u.at.event (event_named c tx.event)) (λ (u : Use). event_number c.events u.at.event == tx.event) (uses_of whole v)
          (λ u. same_event c tx.event distinct within u.at.event)

      by : (b : Bool) → map span_held (cond b (map (hold_from m tx.start v.name) (on_event (event_named c tx.event) v)) [])
          ≡ map span_given (cond b (map (inner_by earlier c tx v) (filter (λ (u : Use). event_number c.events u.at.event == tx.event) (uses_of whole v))) [])
      by true = same_spans m tx v (on_event (event_named c tx.event) v) ∙ ap (λ (us : List Use). map span_given (map (inner_by earlier c tx v) us)) number
      by false = refl

  -- spans of what is joined
  abbrev held_spans : List Hold → List Span
  held_spans hs = map span_held (filter (is_of inst) hs)

  held_joined : (hs ks : List Hold) → held_spans (hs ++ ks) ≡ held_spans hs ++ held_spans ks
  held_joined hs ks = ap (map span_held) (filter-append (is_of inst) hs ks) ∙ map-append span_held (filter (is_of inst) hs) (filter (is_of inst) ks)

  spans_of_calls : (m : ℕ) (tx : Transaction) → StartsEvent c tx → (vs : List Invocation)
      → held_spans (flat_map (holds_by whole m (start_given c tx)) vs) ≡ map span_given (flat_map (inner_of earlier c inst tx) vs)
  spans_of_calls m tx within [] = refl
  spans_of_calls m tx within (v ∷ vs) =
      held_joined (holds_by whole m (start_given c tx) v) (flat_map (holds_by whole m (start_given c tx)) vs)
      ∙ ap₂ ◌++◌ (spans_of_call m tx within v) (spans_of_calls m tx within vs)
      ∙ sym (map-append span_given (inner_of earlier c inst tx v) (flat_map (inner_of earlier c inst tx) vs))

  pub spans_from : (m : ℕ) (txs : List Transaction) → All (StartsEvent c) txs → held_spans (holds_from whole m (map (start_given c) txs)) ≡ map span_given (inner_transactions earlier c txs inst)
  spans_from m [] within = refl
  spans_from m (tx ∷ txs) within =
      let block = flat_map (holds_by whole m (start_given c tx)) whole.invocations in
      held_joined block (holds_from whole (suc m) (map (start_given c) txs))
      ∙ ap₂ ◌++◌ (spans_of_calls m tx (All-head (StartsEvent c) tx txs within) whole.invocations) (spans_from (suc m) txs (All-tail (StartsEvent c) tx txs within))
      ∙ sym (map-append span_given (flat_map (inner_of earlier c inst tx) whole.invocations) (inner_transactions earlier c txs inst))

pub distinct_events : (comps : Design) → FilRules comps → (n : ℕ) (c : Component) → slice_get comps n ≡ Some c → AreDistinct (event_names c)
distinct_events comps rules n c here = (rules.keeps n c here 0 TheSignature refl 0 F1 (omega arith)).events

pub holds_are_given : HoldsAreGiven
holds_are_given comps n c rules here txs within inst = spans_from (take n comps) c (distinct_events comps rules n c here) inst 0 txs within

-- ---- a program's transactions

start_is : (c : Component) (tx : Tx) → IsOfEvent c tx → start_of c tx ≡ Some (start_given c (transaction_on c tx))
start_is c tx within =
    let e = get_or c.events tx.event no_event in
    let at = slice_get-get_or c.events tx.event no_event within in
    let started : Text → Start = λ name. record { event = name; row = tx.start } in
    ap (option_map (λ (e : Event). started e.name)) at ∙ ap (λ name. Some (started name)) (sym (name_is c tx.event e at))

pub starts_are_given : StartsAreGiven
starts_are_given c [] within = refl
starts_are_given c (tx ∷ txs) within =
    ap (λ o. listed_start o ++ starts_of c txs) (start_is c tx (All-head (IsOfEvent c) tx txs within))
    ∙ ap (λ (ss : List Start). start_given c (transaction_on c tx) ∷ ss) (starts_are_given c txs (All-tail (IsOfEvent c) tx txs within))

pub program_holds_are_given : ProgramHoldsAreGiven
program_holds_are_given comps n c rules here txs within inst =
    ap (λ (ss : List Start). map span_held (filter (is_of inst) (holds_of (whole_scope (take n comps) c) ss))) (starts_are_given c txs within)
    ∙ holds_are_given comps n c rules here (map (transaction_on c) txs) (All-map (StartsEvent c) (transaction_on c) txs (λ k d below. within k d below)) inst
