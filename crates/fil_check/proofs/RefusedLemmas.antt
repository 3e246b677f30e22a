-- What a refusal by F11 or F12 tells is so.
use Rattle.std.proofs.Common.{◌≡◌, ◌⊎◌, ℕ, zero, suc, ◌+◌, ◌<◌, ◌≤◌, List, [], ◌∷◌, ◌++◌, length, flat_map, take, get_or, slice_get, All, Contains, Some, inl, inr, refl, sym, ap, ap₂, subst, ◌∙◌, add-one, arith}
use Rattle.std.proofs.lemmas.Bool.{cases_lt}
use Rattle.std.proofs.lemmas.List.{length-take}
use Rattle.std.proofs.lemmas.List.Elements.{All-contains}
use Rattle.std.proofs.lemmas.Option.{same_Some, slice_get-get_or, slice_get_within}
use Rattle.hw_names.specs.Name.{Text, AreDistinct}
use Rattle.fil_ast.specs.Evidence.{Evidence, Nothing, ACycle, AGap, IsGap, IsMeetingCycle, MeetsAt, OverrunsAt}
use Rattle.fil_ast.specs.Items.{Item, TheSignature, TheStatement, TheEnd, scope_after, scope_with}
use Rattle.fil_ast.specs.Naming.{MakesNewNames, UsesKnownNames, event_names}
use Rattle.fil_ast.specs.Refusal.{IsRefusal, BreaksRule, HasLoop, ShowsBroken}
use Rattle.fil_ast.specs.Rules.{Rule, F1, F2, F7, F11, F12, IsFirstBroken, Keeps, OfInvocation, all_rules}
use Rattle.fil_ast.specs.Scope.{Scope, Instance, Invocation, instances_at, invocations_at}
use Rattle.fil_ast.specs.Sharing.{KeepsUsesApart}
use Rattle.fil_ast.specs.Timeline.{HoldsSome}
use Rattle.fil_ast.specs.Tree.{Component, Design, Statement, New, Call, Both, Connect}
use Rattle.fil_ast.specs.Typing.{HasShape}
use Rattle.fil_share.proofs.ListLemmas.{Contains-at, slice_get-take}
use Rattle.fil_share.proofs.MakesLemmas.{flat_next}
use Rattle.fil_share.proofs.OwnLemmas.{KeepsNames}
use Rattle.fil_check.specs.Needed.{Collide, MeetsTwice, OverrunsTwice, RefusedGapIsReal, RefusedMeetingIsReal, gap_starts, meeting_starts, with_invocation}
use Rattle.fil_rules.specs.Held.{AreHeld}
use Rattle.fil_check.proofs.ExactLemmas.{are_held}
use Rattle.fil_check.proofs.NeededLemmas.{gap_is_real, meeting_is_real}

take_less : {X : Type 0} (j n : ℕ) (xs : List X) → j ≤ n → take j (take n xs) ≡ take j xs
take_less zero n xs less = refl
take_less (suc j) zero xs less = absurd (omega arith)
take_less (suc j) (suc n) [] less = refl
take_less (suc j) (suc n) (x ∷ xs) less = ap (λ ys. x ∷ ys) (take_less j n xs (omega arith))

-- an invocation of a statement is its only one
pub only_one : (s : Statement) (v : Invocation) → Contains (invocations_at s) v → invocations_at s ≡ v ∷ []
only_one (New name made params) v (j, within, same) = absurd (omega arith)
only_one (Connect output value) v (j, within, same) = absurd (omega arith)
only_one (Call name inst gives) v (zero, within, same) = ap (λ (w : Invocation). w ∷ []) same
only_one (Call name inst gives) v (suc j, within, same) = absurd (omega arith)
only_one (Both name made params gives) v (zero, within, same) = ap (λ (w : Invocation). w ∷ []) same
only_one (Both name made params gives) v (suc j, within, same) = absurd (omega arith)

-- the statements up to this one keep F1 to F10
abbrev KeepsTo : Design → Component → ℕ → Type 0
KeepsTo earlier c k =
    (j : ℕ) (t : Statement) → j ≤ k → slice_get c.body j ≡ Some t → (q : ℕ) (rule : Rule) → q < 10 → slice_get all_rules q ≡ Some rule → Keeps earlier c (TheStatement (take j c.body) t) rule

module _ (earlier : Design) (c : Component) (k : ℕ) (s : Statement) (at : slice_get c.body k ≡ Some s) (shapes : All HasShape earlier) (kept : KeepsTo earlier c k) where
  -- the component as far as the statement
  abbrev cut : Component
  cut = record {
    name = c.name;
    events = c.events;
    interfaces = c.interfaces;
    ins = c.ins;
    outs = c.outs;
    body = take (k + 1) c.body;
  }

  abbrev after : Scope
  after = scope_after earlier c (take (k + 1) c.body)

  early : (j : ℕ) (t : Statement) → slice_get cut.body j ≡ Some t → j ≤ k
  early j t there = omega (arith, slice_get_within cut.body j t there, length-take (k + 1) c.body)

  there_too : (j : ℕ) (t : Statement) → slice_get cut.body j ≡ Some t → slice_get c.body j ≡ Some t
  there_too j t there = slice_get-take (k + 1) c.body j t there

  same_before : (j : ℕ) (t : Statement) → slice_get cut.body j ≡ Some t → take j c.body ≡ take j cut.body
  same_before j t there = let less = early j t there in sym (take_less j (k + 1) c.body (omega arith))

  new_in : (before : List Statement) (t : Statement) → MakesNewNames (scope_after earlier c before) t → MakesNewNames (scope_after earlier cut before) t
  new_in before t new = record { instances = new.instances; invocations = new.invocations }

  known_in : (before : List Statement) (t : Statement) → UsesKnownNames (scope_after earlier c before) t → UsesKnownNames (scope_after earlier cut before) t
  known_in before (New name made params) known = known
  known_in before (Connect output value) known = (known.0, known.1)
  known_in before (Call name inst gives) known = (known.0, record { times = known.1.times; args = known.1.args })
  known_in before (Both name made params gives) known = (known.0, record { times = known.1.times; args = known.1.args })

  some_in : (before : List Statement) (t : Statement) → OfInvocation (λ sig inst gives. HoldsSome sig gives.times) (scope_after earlier c before) t → OfInvocation (λ sig inst gives. HoldsSome sig gives.times) (scope_after earlier cut before) t
  some_in before (New name made params) some = some
  some_in before (Connect output value) some = some
  some_in before (Call name inst gives) some = some
  some_in before (Both name made params gives) some = some

  names : KeepsNames earlier cut
  names = record {
    new_names = λ j t there.
        subst (λ (before : List Statement). MakesNewNames (scope_after earlier cut before) t) (same_before j t there) (new_in (take j c.body) t (kept j t (early j t there) (there_too j t there) 0 F1 (omega arith) refl));
    known_names = λ j t there.
        subst (λ (before : List Statement). UsesKnownNames (scope_after earlier cut before) t) (same_before j t there) (known_in (take j c.body) t (kept j t (early j t there) (there_too j t there) 1 F2 (omega arith) refl));
  }

  times : (j : ℕ) (t : Statement) → slice_get cut.body j ≡ Some t → OfInvocation (λ sig inst gives. HoldsSome sig gives.times) (scope_after earlier cut (take j cut.body)) t
  times j t there =
      subst (λ (before : List Statement). OfInvocation (λ sig inst gives. HoldsSome sig gives.times) (scope_after earlier cut before) t) (same_before j t there)
      (some_in (take j c.body) t (kept j t (early j t there) (there_too j t there) 6 F7 (omega arith) refl))

  held_after : AreHeld after
  held_after = λ v u there used. are_held earlier cut names shapes times v u there used

  -- the scope with the statement's instance and its invocation is the one after it
  module _ (v : Invocation) (there : Contains (invocations_at s) v) where
    abbrev called : Scope
    called = with_invocation (scope_with earlier c (take k c.body) s) v

    same_scope : after ≡ called
    same_scope =
        ap₂ (λ (is : List Instance) (vs : List Invocation). record { comps = earlier; comp = c; instances = is; invocations = vs }) (flat_next instances_at c.body k s at)
        (flat_next invocations_at c.body k s at ∙ ap (λ (vs : List Invocation). flat_map invocations_at (take k c.body) ++ vs) (only_one s v there))

    held_called : AreHeld called
    held_called = subst AreHeld same_scope held_after

    pub meeting_after : (cycle : ℕ) (first : IsMeetingCycle (scope_with earlier c (take k c.body) s) v cycle) → Collide after (meeting_starts first.other.at first.own.at) v.inst first.own.event cycle
    meeting_after cycle first =
        subst (λ (scope : Scope). Collide scope (meeting_starts first.other.at first.own.at) v.inst first.own.event cycle) (sym same_scope)
        (meeting_is_real (scope_with earlier c (take k c.body) s) v cycle held_called first)

    pub gap_after : (gap cycle : ℕ) → AreDistinct (event_names c) → HasShape c → All (KeepsUsesApart (scope_with earlier c (take k c.body) s)) (invocations_at s) → (first : IsGap (scope_with earlier c (take k c.body) s) v gap cycle)
        → Collide after (gap_starts first.first.at.event gap) v.inst first.event cycle
    gap_after gap cycle distinct shape apart first =
        subst (λ (scope : Scope). Collide scope (gap_starts first.first.at.event gap) v.inst first.event cycle) (sym same_scope)
        (gap_is_real (scope_with earlier c (take k c.body) s) v gap cycle held_called distinct shape (All-contains (KeepsUsesApart (scope_with earlier c (take k c.body) s)) (invocations_at s) v apart there) first)

-- what stands before the first broken rule
module _ (comps : Design) (n k r : ℕ) (first : IsFirstBroken all_rules comps n (suc k) r) (s : Statement) (at : slice_get first.c.body k ≡ Some s) (is : first.item ≡ TheStatement (take k first.c.body) s) (late : 10 ≤ r) where
  abbrev its : Component
  its = first.c

  shapes_before : All HasShape (take n comps)
  shapes_before j d within =
      let e = get_or (take n comps) j d in
      let there = slice_get-get_or (take n comps) j d within in
      first.components j e (omega (arith, within, length-take n comps)) (slice_get-take n comps j e there) 0 TheSignature refl 4 F1 (omega arith)

  kept_to : KeepsTo (take n comps) its k
  kept_to j t less there q rule small numbered = elim (cases_lt j k) [
    | inl before ↦
        All-contains (Keeps (take n comps) its (TheStatement (take j its.body) t)) all_rules rule
        (first.items (suc j) (omega arith) (TheStatement (take j its.body) t) (inl (t, there, refl))) (Contains-at all_rules q rule numbered)
    | inr ge ↦
        let same : k ≡ j = omega arith in
        let same_statement : s ≡ t = same_Some s t (sym at ∙ ap (slice_get its.body) same ∙ there) in
        let here : Keeps (take n comps) its (TheStatement (take k its.body) s) rule =
        subst (λ (i : Item). Keeps (take n comps) its i rule) is (first.lesser q rule (omega arith) numbered) in
        subst (λ (i : Item). Keeps (take n comps) its i rule) (ap₂ (λ (m : ℕ) (t : Statement). TheStatement (take m its.body) t) same same_statement) here
  ]

  distinct_here : AreDistinct (event_names its)
  distinct_here = (first.items 0 (omega arith) TheSignature refl 0 F1 (omega arith)).events

  shape_here : HasShape its
  shape_here = first.items 0 (omega arith) TheSignature refl 4 F1 (omega arith)

-- the rule of a number
the_rule : (comps : Design) (n k r : ℕ) (first : IsFirstBroken all_rules comps n k r) (m : ℕ) (rule : Rule) → r ≡ m → slice_get all_rules m ≡ Some rule → first.rule ≡ rule
the_rule comps n k r first m rule same numbered =
    same_Some first.rule rule (sym first.numbered ∙ ap (slice_get all_rules) same ∙ numbered)

-- what the first broken rule shows at an item
abbrev ShowsAt : (comps : Design) (n : ℕ) (c : Component) → Evidence → Item → Rule → Type 0
ShowsAt comps n c evidence item rule = ShowsBroken (take n comps) c item rule evidence

told_at : (comps : Design) (n : ℕ) (c : Component) (evidence : Evidence) (item i : Item) (rule r : Rule) → item ≡ i → rule ≡ r → ShowsAt comps n c evidence item rule → ShowsAt comps n c evidence i r
told_at comps n c evidence item i rule r same_item same_rule told =
    subst (λ (q : Rule). ShowsAt comps n c evidence i q) same_rule (subst (λ (j : Item). ShowsAt comps n c evidence j rule) same_item told)

cycle_of : (a b : ℕ) → ACycle a ≡ ACycle b → a ≡ b
cycle_of a b same = cc

gap_of : (a b x y : ℕ) → AGap a x ≡ AGap b y → (a ≡ b) × (x ≡ y)
gap_of a b x y same = (cc, cc)

meeting_told : (comps : Design) (name : Text) (n item r cycle : ℕ) (first : IsFirstBroken all_rules comps n item r) → r ≡ 10 → first.c.name ≡ name → ShowsAt comps n first.c (ACycle cycle) first.item first.rule → MeetsTwice comps name item cycle
meeting_told comps name n zero r cycle first place named told =
    let rule = the_rule comps n zero r first 10 F11 place refl in
    let shown : ACycle cycle ≡ Nothing = told_at comps n first.c (ACycle cycle) first.item TheSignature first.rule F11 first.here rule told in
    absurd (cc)
meeting_told comps name n (suc k) r cycle first place named told = by first.here
  where
    rule : first.rule ≡ F11
    rule = the_rule comps n (suc k) r first 10 F11 place refl

    by : ((s : Statement) × (slice_get first.c.body k ≡ Some s) × (first.item ≡ TheStatement (take k first.c.body) s)) ⊎ ((k ≡ length first.c.body) × (first.item ≡ TheEnd)) → MeetsTwice comps name (suc k) cycle
    by (inr (end, is)) =
        let shown : ACycle cycle ≡ Nothing = told_at comps n first.c (ACycle cycle) first.item TheEnd first.rule F11 is rule told in
        absurd (cc)
    by (inl (s, at, is)) =
        let c = first.c in
        let shown = told_at comps n c (ACycle cycle) first.item (TheStatement (take k c.body) s) first.rule F11 is rule told in
        let same = cycle_of shown.0 cycle (sym shown.1) in
        let meets : MeetsAt (scope_with (take n comps) c (take k c.body) s) s cycle = subst (MeetsAt (scope_with (take n comps) c (take k c.body) s) s) same shown.2 in
        let v = meets.0 in
        let there = meets.1 in
        let met = meets.2 in
        let found = meeting_after (take n comps) c k s at (shapes_before comps n k r first s at is (omega arith)) (kept_to comps n k r first s at is (omega arith)) v there cycle met in
        record {
          refused = record { n = n; c = c; at = first.at; named = named; k = k; s = s; stands = at; is_item = add-one k; v = v; invoked = there };
          first = met;
          collide = subst (λ (m : ℕ). Collide (scope_after (take n comps) c (take m c.body)) (meeting_starts met.other.at met.own.at) v.inst met.own.event cycle) (add-one k) found;
        }

gap_told : (comps : Design) (name : Text) (n item r gap cycle : ℕ) (first : IsFirstBroken all_rules comps n item r) → r ≡ 11 → first.c.name ≡ name → ShowsAt comps n first.c (AGap gap cycle) first.item first.rule
    → OverrunsTwice comps name item gap cycle
gap_told comps name n zero r gap cycle first place named told =
    let rule = the_rule comps n zero r first 11 F12 place refl in
    let shown : AGap gap cycle ≡ Nothing = told_at comps n first.c (AGap gap cycle) first.item TheSignature first.rule F12 first.here rule told in
    absurd (cc)
gap_told comps name n (suc k) r gap cycle first place named told = by first.here
  where
    rule : first.rule ≡ F12
    rule = the_rule comps n (suc k) r first 11 F12 place refl

    by : ((s : Statement) × (slice_get first.c.body k ≡ Some s) × (first.item ≡ TheStatement (take k first.c.body) s)) ⊎ ((k ≡ length first.c.body) × (first.item ≡ TheEnd)) → OverrunsTwice comps name (suc k) gap cycle
    by (inr (end, is)) =
        let shown : AGap gap cycle ≡ Nothing = told_at comps n first.c (AGap gap cycle) first.item TheEnd first.rule F12 is rule told in
        absurd (cc)
    by (inl (s, at, is)) =
        let c = first.c in
        let with = scope_with (take n comps) c (take k c.body) s in
        let shown = told_at comps n c (AGap gap cycle) first.item (TheStatement (take k c.body) s) first.rule F12 is rule told in
        let same = gap_of shown.0 gap shown.1 cycle (sym shown.2) in
        let overruns : OverrunsAt with s gap cycle = subst (λ (y : ℕ). OverrunsAt with s gap y) same.1 (subst (λ (x : ℕ). OverrunsAt with s x shown.1) same.0 shown.3) in
        let apart : All (KeepsUsesApart with) (invocations_at s) = subst (λ (i : Item). Keeps (take n comps) c i F11) is (first.lesser 10 F11 (omega arith) refl) in
        let v = overruns.0 in
        let there = overruns.1 in
        let told = overruns.2 in
        let found = gap_after (take n comps) c k s at (shapes_before comps n k r first s at is (omega arith)) (kept_to comps n k r first s at is (omega arith)) v there gap cycle
        (distinct_here comps n k r first s at is (omega arith)) (shape_here comps n k r first s at is (omega arith)) apart told in
        record {
          refused = record { n = n; c = c; at = first.at; named = named; k = k; s = s; stands = at; is_item = add-one k; v = v; invoked = there };
          first = told;
          collide = subst (λ (m : ℕ). Collide (scope_after (take n comps) c (take m c.body)) (gap_starts told.first.at.event gap) v.inst told.event cycle) (add-one k) found;
        }

meeting_by : (comps : Design) (name : Text) (item cycle number : ℕ) → number ≡ 11 → IsRefusal comps name item (ACycle cycle) number → MeetsTwice comps name item cycle
meeting_by comps name item cycle number is (BreaksRule n place first named shows) = meeting_told comps name n item place cycle first (omega arith) named shows
meeting_by comps name item cycle number is (HasLoop n port others loop named at_0 shown) = absurd (cc)

gap_by : (comps : Design) (name : Text) (item gap cycle number : ℕ) → number ≡ 12 → IsRefusal comps name item (AGap gap cycle) number → OverrunsTwice comps name item gap cycle
gap_by comps name item gap cycle number is (BreaksRule n place first named shows) = gap_told comps name n item place gap cycle first (omega arith) named shows
gap_by comps name item gap cycle number is (HasLoop n port others loop named at_0 shown) = absurd (cc)

pub refused_meeting_is_real : RefusedMeetingIsReal
refused_meeting_is_real comps name item cycle refusal = meeting_by comps name item cycle 11 refl refusal

pub refused_gap_is_real : RefusedGapIsReal
refused_gap_is_real comps name item gap cycle refusal = gap_by comps name item gap cycle 12 refl refusal
