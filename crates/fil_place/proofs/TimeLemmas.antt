-- Offsets as times, and the intervals of ports.
use Rattle.std.proofs.Common.{◌≡◌, ℕ, ◌+◌, List, slice_get, Option, Some, None, Bor, option_map, refl, sym, ap, ap₂, subst, ◌∙◌}
use Rattle.std.specs.Option.{option_and_then, option_copied}
use Rattle.std.specs.Slice.{IsItemAt}
use Rattle.std.proofs.lemmas.Option.{same_Some, slice_get-map}
use Rattle.hw_names.specs.Name.{Text}
use Rattle.fil_ast.specs.Signature as signature
use Rattle.fil_ast.specs.Timeline as tree
use Rattle.fil_ast.specs.Tree.{TimeAt}
use Rattle.fil_place.specs.Times.{AreTimes, ShowsInterval, known, time_shown}
use Rattle.fil_place.specs.declared.times.Interval.{Interval}
use Rattle.fil_place.specs.declared.times.Offset.{Offset}
use Rattle.fil_place.proofs.LookupLemmas.{got}

-- the event and the rows of an offset
named_parts : (o : Offset) (t : TimeAt) (m : Option Text) → option_map (λ name. record { event = name; plus = o.plus }) m ≡ Some t → (m ≡ Some t.event) × (o.plus ≡ t.plus)
named_parts o t None e = absurd (cc)
named_parts o t (Some name) e =
    let s : TimeAt = record { event = name; plus = o.plus } in
    let same = same_Some s t e in (ap (λ (t : TimeAt). Some t.event) same, ap (λ (t : TimeAt). t.plus) same)

pub shown_parts : (events : List Text) (o : Offset) (t : TimeAt) → time_shown events o ≡ Some t → (slice_get events o.event ≡ Some t.event) × (o.plus ≡ t.plus)
shown_parts events o t e = named_parts o t (slice_get events o.event) e

module _ (events : List Text) (at : List Offset) (times : List TimeAt) (are : AreTimes events at times) where
  same_place : (k : ℕ) → option_map (time_shown events) (slice_get at k) ≡ option_map known (slice_get times k)
  same_place k = sym (slice_get-map (time_shown events) at k) ∙ ap (λ (os : List (Option TimeAt)). slice_get os k) are ∙ slice_get-map known times k

  paired : (o : Offset) (b : Option TimeAt) → option_map (time_shown events) (Some o) ≡ option_map known b → (t : TimeAt) × (b ≡ Some t) × (time_shown events o ≡ Some t)
  paired o None e = absurd (cc)
  paired o (Some t) e = (t, refl, same_Some (time_shown events o) (Some t) e)

  unpaired : (b : Option TimeAt) → option_map (time_shown events) None ≡ option_map known b → b ≡ None
  unpaired None e = refl
  unpaired (Some t) e = absurd (cc)

  pub time_at : (k : ℕ) (o : Offset) → slice_get at k ≡ Some o → (t : TimeAt) × (slice_get times k ≡ Some t) × (time_shown events o ≡ Some t)
  time_at k o here = paired o (slice_get times k) (ap (option_map (time_shown events)) (sym here) ∙ same_place k)

  pub no_time_at : (k : ℕ) → slice_get at k ≡ None → slice_get times k ≡ None
  no_time_at k here = unpaired (slice_get times k) (ap (option_map (time_shown events)) (sym here) ∙ same_place k)

  module _ (port : signature.SigPort) where
    abbrev Shown : Option Interval → Type 0
    Shown i = ShowsInterval events i (tree.interval_at times port)

    -- nothing, where there is no time
    none : tree.interval_at times port ≡ None → Shown None
    none e = subst (λ (j : Option tree.Interval). ShowsInterval events None j) (sym e) tt

    pub no_interval_from : slice_get at port.from.event ≡ None → Shown None
    no_interval_from here =
        none (ap (option_and_then (λ (s : TimeAt). option_map (λ (t : TimeAt). tree.interval_between s t port) (slice_get times port.to.event))) (no_time_at port.from.event here))

    no_end : (a : Option TimeAt) → option_and_then (λ (s : TimeAt). option_map (λ (t : TimeAt). tree.interval_between s t port) None) a ≡ None
    no_end None = refl
    no_end (Some s) = refl

    pub no_interval_to : slice_get at port.to.event ≡ None → Shown None
    no_interval_to here =
        none (ap (λ (b : Option TimeAt). option_and_then (λ (s : TimeAt). option_map (λ (t : TimeAt). tree.interval_between s t port) b) (slice_get times port.from.event)) (no_time_at port.to.event here)
        ∙ no_end (slice_get times port.from.event))

    pub interval_shown : (s t : Offset) → slice_get at port.from.event ≡ Some s → slice_get at port.to.event ≡ Some t
        → Shown (Some (record { event = s.event; from = s.plus + port.from.plus; to = t.plus + port.to.plus }))
    interval_shown s t from to =
        let i : Interval = record { event = s.event; from = s.plus + port.from.plus; to = t.plus + port.to.plus } in
        let u = time_at port.from.event s from in
        let v = time_at port.to.event t to in
        let is : tree.interval_at times port ≡ Some (tree.interval_between u.0 v.0 port) =
        ap₂ (λ (a b : Option TimeAt). option_and_then (λ (s : TimeAt). option_map (λ (t : TimeAt). tree.interval_between s t port) b) a) u.1 v.1 in
        let start = shown_parts events s u.0 u.2 in
        let end = shown_parts events t v.0 v.2 in
        subst (λ (j : Option tree.Interval). ShowsInterval events (Some i) j) (sym is)
        (start.0, ap (λ (n : ℕ). n + port.from.plus) start.1, ap (λ (n : ℕ). n + port.to.plus) end.1)

-- what `get` answers
pub got_none : {X : Type 0} (xs : List X) (i : ℕ) (r : Option (Bor X)) → IsItemAt xs i r → r ≡ None → slice_get xs i ≡ None
got_none xs i r item is = sym (got xs i r item) ∙ ap option_copied is

pub got_some : {X : Type 0} (xs : List X) (i : ℕ) (r : Option (Bor X)) (x : Bor X) → IsItemAt xs i r → r ≡ Some x → slice_get xs i ≡ Some x.now
got_some xs i r x item is = sym (got xs i r item) ∙ ap option_copied is
