-- What a statement shows where it breaks a rule is there: the offset of F8, the cycle of F11, the gap and the cycle of F12.
use Rattle.std.proofs.Common.{◌≡◌, ℕ, ◌+◌, ◌-◌, ◌<◌, ◌≤◌, ◌⊎◌, inl, inr, Bool, true, false, List, [], ◌∷◌, length, Option, None, Some, refl, sym, ap, ap₂, subst, ◌∙◌, arith}
use Rattle.std.specs.Prelude.{slice_get, max, All, Contains, IfSome}
use Rattle.std.specs.Str.{bytes_eq}
use Rattle.std.proofs.lemmas.Bool.{cases_lt}
use Rattle.std.proofs.lemmas.List.Elements.{All-nil, All-cons, All-contains}
use Rattle.std.proofs.lemmas.Option.{same_Some, slice_get_within}
use Rattle.std.proofs.lemmas.Slice.Eq.{bytes_eq-Decides}
use Rattle.hw_graph.proofs.MemberLemmas.{in_of, at_of, contains_of}
use Rattle.hw_names.specs.Name.{Text}
use Rattle.fil_ast.specs.Evidence.{Evidence, Nothing, AnOffset, ACycle, AGap, AreKeptApart, Fits, IsApartFrom, IsGap, IsMeetingCycle, IsMissingOffset, IsSpan, MeetsAt, MissesAt, OverrunsAt, UsesEvent, Own, Another}
use Rattle.fil_ast.specs.Refusal.{ShowsAtStatement}
use Rattle.fil_ast.specs.Rules.{Rule, F1, F2, F3, F4, F5, F6, F7, F8, F9, F10, F11, F12, F13, AtStatement, OfInvocation}
use Rattle.fil_ast.specs.Scope.{Scope, Invocation, instance_signature, invocations_at, signature_in}
use Rattle.fil_ast.specs.Sharing.{EndsInTime, IsEarlierUse, IsUseOf, IsUseSoFar, KeepsUsesApart, StartsFirst, StartsLast}
use Rattle.fil_ast.specs.Signature.{SigEvent, SigPort, Signature}
use Rattle.fil_ast.specs.Timeline.{Covers, Interval, IsAvailable, IsUse, ReadsArgument, ReadsAvailable, Use, interval_at, use_of}
use Rattle.fil_ast.specs.Tree.{Event, Giving, Statement, New, Call, Both, Connect, ValueTree}
use Rattle.filc_laws.proofs.existence.Classical.{sure, next, so, by_cases, all_or_first, IsJudgedBelow, Least, least}
use Rattle.filc_laws.proofs.existence.ListLemmas.{place_of}
use Rattle.filc_laws.specs.Classically.{Classically}

-- ---- F8

module _ (scope : Scope) (sig : Signature) (gives : Giving) where
  -- the first argument that breaks the rule, and its need
  record BreaksArgument : Type 0 where
    pub number : ℕ
    pub before : (k : ℕ) → k < number → ReadsArgument scope sig gives k
    pub arg : ValueTree
    pub given : slice_get gives.args number ≡ Some arg
    pub port : SigPort
    pub for : slice_get sig.ins number ≡ Some port
    pub need : Interval
    pub is_need : interval_at gives.times port ≡ Some need
    pub uncovered : Covers scope arg need → ⊥

  least_missing : (b : BreaksArgument) → IsJudgedBelow (λ i. b.need.from ≤ i → IsAvailable scope b.arg b.need.event i) b.need.to → (offset : ℕ) × IsMissingOffset scope sig gives offset
  least_missing b (inl all) = absurd (b.uncovered (λ i from to. all i to from))
  least_missing b (inr (i, to, lacks, before)) = elim (cases_lt i b.need.from) [
    | inl early ↦ absurd (lacks (λ from. absurd (omega (arith, early, from))))
    | inr from ↦ (
      i,
      record {
        number = b.number;
        before = b.before;
        arg = b.arg;
        given = b.given;
        port = b.port;
        for = b.for;
        need = b.need;
        is_need = b.is_need;
        from = from;
        to = to;
        missing = λ available. lacks (λ _. available);
        least = λ j later less. before j less later;
      },
    )
  ]

  missing_in : (b : BreaksArgument) → Classically ((offset : ℕ) × IsMissingOffset scope sig gives offset)
  missing_in b = so (all_or_first (λ i. b.need.from ≤ i → IsAvailable scope b.arg b.need.event i) b.need.to) (least_missing b)

  module _ (k : ℕ) (lacks : ReadsArgument scope sig gives k → ⊥) (before : (j : ℕ) → j < k → ReadsArgument scope sig gives j) (arg : ValueTree) (given : slice_get gives.args k ≡ Some arg) where
    same_arg : (other : ValueTree) → slice_get gives.args k ≡ Some other → arg ≡ other
    same_arg other at = same_Some arg other (sym given ∙ at)

    no_port : slice_get sig.ins k ≡ None → ⊥
    no_port none = lacks (λ other port at for. absurd (let clash : None ≡ Some port = sym none ∙ for in cc))

    by_need : (port : SigPort) → slice_get sig.ins k ≡ Some port → (o : Option Interval) → interval_at gives.times port ≡ o → Classically ((offset : ℕ) × IsMissingOffset scope sig gives offset)
    by_need port for None none = absurd (lacks (λ other q at for'.
        subst (λ (r : SigPort). IfSome (interval_at gives.times r) (Covers scope other)) (same_Some port q (sym for ∙ for')) (subst (λ (i : Option Interval). IfSome i (Covers scope other)) (sym none) tt)))
    by_need port for (Some need) is = missing_in (record {
      number = k;
      before = before;
      arg = arg;
      given = given;
      port = port;
      for = for;
      need = need;
      is_need = is;
      uncovered = λ covers. lacks (λ other q at for'.
          subst (λ (r : SigPort). IfSome (interval_at gives.times r) (Covers scope other)) (same_Some port q (sym for ∙ for'))
          (subst (λ (i : Option Interval). IfSome i (Covers scope other)) (sym is) (subst (λ (v : ValueTree). Covers scope v need) (same_arg other at) covers)));
    })

    by_port : (o : Option SigPort) → slice_get sig.ins k ≡ o → Classically ((offset : ℕ) × IsMissingOffset scope sig gives offset)
    by_port None none = absurd (no_port none)
    by_port (Some port) for = by_need port for (interval_at gives.times port) refl

  past_arguments : ((k : ℕ) → k < length gives.args → ReadsArgument scope sig gives k) → ReadsAvailable scope sig gives
  past_arguments all k arg port given for = all k (slice_get_within gives.args k arg given) arg port given for

  first_argument : (ReadsAvailable scope sig gives → ⊥) → IsJudgedBelow (ReadsArgument scope sig gives) (length gives.args) → Classically ((offset : ℕ) × IsMissingOffset scope sig gives offset)
  first_argument unread (inl all) = absurd (unread (past_arguments all))
  first_argument unread (inr (k, less, lacks, before)) =
      let arg = place_of gives.args k less in by_port k lacks before arg.0 arg.1 (slice_get sig.ins k) refl

  missing_offset : (ReadsAvailable scope sig gives → ⊥) → Classically ((offset : ℕ) × IsMissingOffset scope sig gives offset)
  missing_offset unread = next (all_or_first (ReadsArgument scope sig gives) (length gives.args)) (first_argument unread)

module _ (scope : Scope) (gives : Giving) where
  by_callee : (o callee : Option Signature) → callee ≡ o → (IfSome callee (λ sig. ReadsAvailable scope sig gives) → ⊥) → Classically ((offset : ℕ) × (sig : Signature) × (callee ≡ Some sig) × IsMissingOffset scope sig gives offset)
  by_callee None callee is lacks = absurd (lacks (subst (λ (c : Option Signature). IfSome c (λ sig. ReadsAvailable scope sig gives)) (sym is) tt))
  by_callee (Some sig) callee is lacks =
      so (missing_offset scope sig gives (λ reads. lacks (subst (λ (c : Option Signature). IfSome c (λ x. ReadsAvailable scope x gives)) (sym is) reads)))
      (λ (offset, missing). (offset, sig, is, missing))

misses : (scope : Scope) (s : Statement) → (OfInvocation (λ sig inst gives. ReadsAvailable scope sig gives) scope s → ⊥) → Classically ((offset : ℕ) × MissesAt scope s offset)
misses scope (New name made params) lacks = absurd (lacks tt)
misses scope (Connect output value) lacks = absurd (lacks tt)
misses scope (Call name inst gives) lacks =
    so (by_callee scope gives (instance_signature scope inst) (instance_signature scope inst) refl lacks) (λ (offset, sig, is, missing). (offset, (sig, is, missing)))
misses scope (Both name made params gives) lacks =
    so (by_callee scope gives (signature_in scope.comps made params) (signature_in scope.comps made params) refl lacks) (λ (offset, sig, is, missing). (offset, (sig, is, missing)))

-- ---- F11

-- what is refuted to be refuted is so, where it can be tested
same_text : (a b : Text) → Classically (a ≡ b) → a ≡ b
same_text a b holds = by (bytes_eq a b) refl
  where
    by : (t : Bool) → bytes_eq a b ≡ t → a ≡ b
    by true e = (bytes_eq-Decides a b).0 e
    by false e = absurd (holds (λ same. let clash : false ≡ true = sym e ∙ (bytes_eq-Decides a b).1 same in cc))

stays_within : (m n : ℕ) → Classically (m ≤ n) → m ≤ n
stays_within m n holds = elim (cases_lt n m) [ inl over ↦ absurd (holds (λ within. omega (arith, over, within))) | inr within ↦ within ]

either_within : (m n k l : ℕ) → Classically ((m ≤ n) ⊎ (k ≤ l)) → (m ≤ n) ⊎ (k ≤ l)
either_within m n k l holds = elim (cases_lt n m) [
  | inl over ↦ inr (stays_within k l (λ lacks. holds (λ either. elim either [ inl first ↦ absurd (omega (arith, over, first)) | inr second ↦ lacks second ])))
  | inr within ↦ inl within
]

kept_apart : (u v : Use) → Classically (AreKeptApart u v) → AreKeptApart u v
kept_apart u v holds = (
  same_text u.at.event v.at.event (so holds (λ p. p.0)),
  either_within (u.at.plus + u.hold) v.at.plus (v.at.plus + v.hold) u.at.plus (so holds (λ p. p.1)),
)

module _ (scope : Scope) (v : Invocation) where
  -- uses of one event of an instance that meet
  record Meet (earlier : Invocation) (event : ℕ) : Type 0 where
    pub own : Use
    pub is_event : own.event ≡ event
    pub triggers : IsUseOf scope v own
    pub other : Use
    pub triggered : IsUseOf scope earlier other
    pub same_instance : other.inst ≡ own.inst
    pub same_event : other.event ≡ own.event
    pub meet : AreKeptApart other own → ⊥

  meeting : (number : ℕ) (earlier : Invocation) → slice_get scope.invocations number ≡ Some earlier → ((k : ℕ) (other : Invocation) → k < number → slice_get scope.invocations k ≡ Some other → IsApartFrom scope v other)
      → Least (Meet earlier) → (cycle : ℕ) × IsMeetingCycle scope v cycle
  meeting number earlier at before l = (
    max l.has.other.at.plus l.has.own.at.plus,
    record {
      number = number;
      earlier = earlier;
      at = at;
      before = before;
      own = l.has.own;
      triggers = l.has.triggers;
      other = l.has.other;
      triggered = l.has.triggered;
      same_instance = l.has.same_instance;
      same_event = l.has.same_event;
      events = λ u w less is_u is_w inst event. kept_apart w u (λ meet.
          l.lesser u.event (omega (arith, less, l.has.is_event)) (record { own = u; is_event = refl; triggers = is_u; other = w; triggered = is_w; same_instance = inst; same_event = event; meet = meet }));
      meet = l.has.meet;
      later = refl;
    },
  )

  meets_some : (number : ℕ) (earlier : Invocation) → slice_get scope.invocations number ≡ Some earlier → ((k : ℕ) (other : Invocation) → k < number → slice_get scope.invocations k ≡ Some other → IsApartFrom scope v other)
      → (IsApartFrom scope v earlier → ⊥) → Classically ((cycle : ℕ) × IsMeetingCycle scope v cycle)
  meets_some number earlier at before lacks =
      by_cases ((event : ℕ) × Meet earlier event)
      (λ (event, meet). so (least (Meet earlier) event meet) (meeting number earlier at before))
      (λ none. absurd (lacks (λ u w is_u is_w inst event. kept_apart w u (λ meet.
      none (u.event, record { own = u; is_event = refl; triggers = is_u; other = w; triggered = is_w; same_instance = inst; same_event = event; meet = meet })))))

  abbrev IsApartAt : ℕ → Type 0
  IsApartAt k = (other : Invocation) → slice_get scope.invocations k ≡ Some other → IsApartFrom scope v other

  all_apart : ((k : ℕ) → k < length scope.invocations → IsApartAt k) → KeepsUsesApart scope v
  all_apart all u earlier is_u e =
      let place = at_of scope.invocations e.invocation (in_of scope.invocations e.invocation e.is_earlier) in
      all place.0 (slice_get_within scope.invocations place.0 e.invocation place.1) e.invocation place.1 u earlier is_u e.uses e.same_instance e.same_event

  first_meeting : (KeepsUsesApart scope v → ⊥) → IsJudgedBelow IsApartAt (length scope.invocations) → Classically ((cycle : ℕ) × IsMeetingCycle scope v cycle)
  first_meeting meet (inl all) = absurd (meet (all_apart all))
  first_meeting meet (inr (k, less, lacks, before)) =
      let earlier = place_of scope.invocations k less in
      meets_some k earlier.0 earlier.1 (λ j other below at. before j below other at)
      (λ apart. lacks (λ other at. subst (IsApartFrom scope v) (same_Some earlier.0 other (sym earlier.1 ∙ at)) apart))

  meeting_cycle : (KeepsUsesApart scope v → ⊥) → Classically ((cycle : ℕ) × IsMeetingCycle scope v cycle)
  meeting_cycle meet = next (all_or_first IsApartAt (length scope.invocations)) (first_meeting meet)

-- the invocation of a statement that lacks what all of its invocations are to have; there is one at most
the_one : (P : Invocation → Type 0) (s : Statement) → (All P (invocations_at s) → ⊥) → (v : Invocation) × Contains (invocations_at s) v × (P v → ⊥)
the_one P (New name made params) lacks = absurd (lacks (All-nil P))
the_one P (Connect output value) lacks = absurd (lacks (All-nil P))
the_one P (Call name inst gives) lacks =
    let v : Invocation = record { name = name; inst = inst; gives = gives } in (v, contains_of (v ∷ []) v (inl refl), λ p. lacks (All-cons P v [] p (All-nil P)))
the_one P (Both name made params gives) lacks =
    let v : Invocation = record { name = name; inst = name; gives = gives } in (v, contains_of (v ∷ []) v (inl refl), λ p. lacks (All-cons P v [] p (All-nil P)))

meets : (with : Scope) (s : Statement) → (All (KeepsUsesApart with) (invocations_at s) → ⊥) → Classically ((cycle : ℕ) × MeetsAt with s cycle)
meets with s lacks =
    let one = the_one (KeepsUsesApart with) s lacks in so (meeting_cycle with one.0 one.2) (λ (cycle, meet). (cycle, (one.0, one.1, meet)))

-- ---- F12

module _ (scope : Scope) (v : Invocation) (apart : KeepsUsesApart scope v) where
  -- uses of an event of the invocation's instance that don't fit
  record Overruns (event : ℕ) : Type 0 where
    pub first : Use
    pub last : Use
    pub delay : ℕ
    pub span : IsSpan scope v event first last delay
    pub broken : Fits first last delay → ⊥

  gap_of : Least Overruns → (gap : ℕ) × (cycle : ℕ) × IsGap scope v gap cycle
  gap_of l =
      let gap = max l.has.delay (l.has.last.at.plus - l.has.first.at.plus) in (
        gap,
        gap + l.has.first.at.plus,
        record {
          event = l.at;
          first = l.has.first;
          last = l.has.last;
          delay = l.has.delay;
          span = l.has.span;
          broken = l.has.broken;
          events = λ other p q d less span. stays_within (q.at.plus + q.hold) (p.at.plus + d) (λ over. l.lesser other less (record { first = p; last = q; delay = d; span = span; broken = over }));
          distance = refl;
          row = refl;
        },
      )

  module _ (u : Use) (is_u : IsUseOf scope v u) where
    -- an invocation triggers an event in one way
    alike : (w : Use) → IsUseOf scope v w → w.event ≡ u.event → w ≡ u
    alike w (s, is_s, use_w) same =
        let there : IsUse s v.inst v.gives.times u = subst (λ (x : Signature). IsUse x v.inst v.gives.times u) (same_Some is_u.0 s (sym is_u.1 ∙ is_s)) is_u.2 in
        let event = same_Some use_w.event there.event (sym use_w.of ∙ ap (slice_get s.events) same ∙ there.of) in
        same_Some w u (sym use_w.is ∙ ap₂ (λ (n : ℕ) (e : SigEvent). use_of n e v.inst v.gives.times) same event ∙ there.is)

    uses_event : (w : Use) → IsUseSoFar scope u w → UsesEvent scope v u.event w
    uses_event w (inl same) = Own (subst (IsUseOf scope v) (sym same) is_u) (ap (λ (x : Use). x.event) same)
    uses_event w (inr earlier) = Another u is_u refl earlier

    so_far : (w : Use) → UsesEvent scope v u.event w → IsUseSoFar scope u w
    so_far w (Own is same) = inl (alike w is same)
    so_far w (Another own is same earlier) = inr (subst (λ (x : Use). IsEarlierUse scope x w) (alike own is same) earlier)

    -- each use so far is on the event of the component on which this one is
    on_event : (w : Use) → IsUseSoFar scope u w → w.at.event ≡ u.at.event
    on_event w (inl same) = ap (λ (x : Use). x.at.event) same
    on_event w (inr earlier) = (apart u w is_u earlier).0

    span_of : (first last : Use) (e : Event) → StartsFirst (IsUseSoFar scope u) first → StartsLast (IsUseSoFar scope u) last → Contains scope.comp.events e → e.name ≡ u.at.event → IsSpan scope v u.event first last e.delay
    span_of first last e starts ends has named = record {
      has_first = uses_event first starts.among;
      least = λ w uses. starts.least w (so_far w uses);
      has_last = uses_event last ends.among;
      greatest = λ w uses. ends.greatest w (so_far w uses);
      on = e;
      is_own = has;
      named = named ∙ sym (on_event first starts.among);
      delayed = refl;
    }

  overrun : (EndsInTime scope v → ⊥) → Classically ((gap : ℕ) × (cycle : ℕ) × IsGap scope v gap cycle)
  overrun lacks =
      by_cases ((event : ℕ) × Overruns event)
      (λ (event, over). so (least Overruns event over) gap_of)
      (λ none. absurd (lacks (λ u earlier first last is_u e starts ends event has named.
      stays_within (last.at.plus + last.hold) (first.at.plus + event.delay) (λ over.
      none (u.event, record { first = first; last = last; delay = event.delay; span = span_of u is_u first last event starts ends has named; broken = over })))))

overruns : (with : Scope) (s : Statement) → All (KeepsUsesApart with) (invocations_at s) → (All (EndsInTime with) (invocations_at s) → ⊥) → Classically ((gap : ℕ) × (cycle : ℕ) × OverrunsAt with s gap cycle)
overruns with s apart lacks =
    let one = the_one (EndsInTime with) s lacks in
    so (overrun with one.0 (All-contains (KeepsUsesApart with) (invocations_at s) one.0 apart one.1) one.2) (λ (gap, cycle, is). (gap, cycle, (one.0, one.1, is)))

-- ---- what a statement shows

-- what a statement shows where it breaks a rule; where that is F12, it keeps F11
pub shows : (rule : Rule) (scope with : Scope) (before : List Statement) (s : Statement) → (rule ≡ F12 → All (KeepsUsesApart with) (invocations_at s)) → (AtStatement rule scope with before s → ⊥) → Classically ((e : Evidence) × ShowsAtStatement rule scope with s e)
shows F8 scope with before s kept broken = so (misses scope s broken) (λ (offset, missing). (AnOffset offset, (offset, refl, missing)))
shows F11 scope with before s kept broken = so (meets with s broken) (λ (cycle, meet). (ACycle cycle, (cycle, refl, meet)))
shows F12 scope with before s kept broken = so (overruns with s (kept refl) broken) (λ (gap, cycle, over). (AGap gap cycle, (gap, cycle, refl, over)))
shows F1 scope with before s kept broken = sure (Nothing, refl)
shows F2 scope with before s kept broken = sure (Nothing, refl)
shows F3 scope with before s kept broken = sure (Nothing, refl)
shows F4 scope with before s kept broken = sure (Nothing, refl)
shows F5 scope with before s kept broken = sure (Nothing, refl)
shows F6 scope with before s kept broken = sure (Nothing, refl)
shows F7 scope with before s kept broken = sure (Nothing, refl)
shows F9 scope with before s kept broken = sure (Nothing, refl)
shows F10 scope with before s kept broken = sure (Nothing, refl)
shows F13 scope with before s kept broken = sure (Nothing, refl)
