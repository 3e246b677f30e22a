-- What a broken rule shows is one: the offset of F8, the cycle of F11 and, where F11 is kept, the gap and the cycle of F12.
use Rattle.std.proofs.Common.{◌≡◌, ℕ, ◌+◌, ◌-◌, ◌<◌, ◌≤◌, [], ◌∷◌, refl, sym, ap, ap₂, subst, ◌∙◌, arith}
use Rattle.std.specs.Prelude.{slice_get, max, All, Contains, IfSome}
use Rattle.std.proofs.lemmas.List.Elements.{All-contains}
use Rattle.std.proofs.lemmas.Option.{same_Some}
use Rattle.hw_names.specs.Name.{AreDistinct}
use Rattle.fil_ast.specs.Evidence.{Evidence, AnOffset, ACycle, AGap, IsMissingOffset, IsApartFrom, IsMeetingCycle, UsesEvent, Own, Another, IsSpan, IsGap, MissesAt, MeetsAt, OverrunsAt}
use Rattle.fil_ast.specs.Naming.{event_names}
use Rattle.fil_ast.specs.Refusal.{ShowsAtStatement}
use Rattle.fil_ast.specs.Rules.{Rule, F1, F2, F3, F4, F5, F6, F7, F8, F9, F10, F11, F12, F13}
use Rattle.fil_ast.specs.Scope.{Scope, Invocation, invocations_at}
use Rattle.fil_ast.specs.Sharing.{IsUseOf, KeepsUsesApart}
use Rattle.fil_ast.specs.Signature.{Signature}
use Rattle.fil_ast.specs.Timeline.{Interval, IsAvailable, ReadsArgument, Covers, IsUse, Use, interval_at}
use Rattle.fil_ast.specs.Tree.{Event, Giving, TimeAt, Statement, New, Call, Both, Connect, ValueTree}
use Rattle.fil_check.proofs.NeededLemmas.{one_event}
use Rattle.fil_check.proofs.RefusedLemmas.{only_one}
use Rattle.fil_place.proofs.UseLemmas.{AreAlike, same_use}
use Rattle.filc_laws.proofs.OrderLemmas.{neither_below}

-- ---- F8

module _ (scope : Scope) (sig : Signature) (gives : Giving) where
  argument_breaks : (a : ℕ) (p : IsMissingOffset scope sig gives a) → ReadsArgument scope sig gives p.number → ⊥
  argument_breaks a p reads =
      let covers : Covers scope p.arg p.need = subst (λ o. IfSome o (Covers scope p.arg)) p.is_need (reads p.arg p.port p.given p.for) in
      p.missing (covers a p.from p.to)

  not_less : (a b : ℕ) (p : IsMissingOffset scope sig gives a) (q : IsMissingOffset scope sig gives b) → p.number ≡ q.number → a < b → ⊥
  not_less a b p q number less =
      let arg : p.arg ≡ q.arg = same_Some p.arg q.arg (sym p.given ∙ ap (slice_get gives.args) number ∙ q.given) in
      let port : p.port ≡ q.port = same_Some p.port q.port (sym p.for ∙ ap (slice_get sig.ins) number ∙ q.for) in
      let need : p.need ≡ q.need = same_Some p.need q.need (sym p.is_need ∙ ap (interval_at gives.times) port ∙ q.is_need) in
      let from : q.need.from ≤ a = subst (λ (i : Interval). i.from ≤ a) need p.from in
      let there : IsAvailable scope q.arg q.need.event a = q.least a from less in
      p.missing (subst (λ (i : Interval). IsAvailable scope p.arg i.event a) (sym need) (subst (λ (v : ValueTree). IsAvailable scope v q.need.event a) (sym arg) there))

  missing_once : (a b : ℕ) → IsMissingOffset scope sig gives a → IsMissingOffset scope sig gives b → a ≡ b
  missing_once a b p q =
      let number : p.number ≡ q.number = neither_below p.number q.number (λ less. argument_breaks a p (q.before p.number less)) (λ more. argument_breaks b q (p.before q.number more)) in
      neither_below a b (not_less a b p q number) (not_less b a q p (sym number))

misses_once : (scope : Scope) (s : Statement) (a b : ℕ) → MissesAt scope s a → MissesAt scope s b → a ≡ b
misses_once scope (New name made params) a b p q = absurd p
misses_once scope (Connect output value) a b p q = absurd p
misses_once scope (Call name inst gives) a b (sig, is, p) (sig', is', q) =
    let same : sig' ≡ sig = same_Some sig' sig (sym is' ∙ is) in
    missing_once scope sig gives a b p (subst (λ (x : Signature). IsMissingOffset scope x gives b) same q)
misses_once scope (Both name made params gives) a b (sig, is, p) (sig', is', q) =
    let same : sig' ≡ sig = same_Some sig' sig (sym is' ∙ is) in
    missing_once scope sig gives a b p (subst (λ (x : Signature). IsMissingOffset scope x gives b) same q)

-- ---- F11

-- an invocation triggers an event in one way
use_alike : (scope : Scope) (v : Invocation) (u w : Use) → IsUseOf scope v u → IsUseOf scope v w → u.event ≡ w.event → AreAlike u w
use_alike scope v u w (s, is_s, use_u) (t, is_t, use_w) same =
    let use_too : IsUse s v.inst v.gives.times w = subst (λ (x : Signature). IsUse x v.inst v.gives.times w) (same_Some t s (sym is_t ∙ is_s)) use_w in
    same_use s v.gives.times v.inst v.inst u w use_u use_too same

module _ (scope : Scope) (v : Invocation) where
  meets_it : (a : ℕ) (p : IsMeetingCycle scope v a) → IsApartFrom scope v p.earlier → ⊥
  meets_it a p apart = p.meet (apart p.own p.other p.triggers p.triggered p.same_instance p.same_event)

  not_sooner : (a b : ℕ) (p : IsMeetingCycle scope v a) (q : IsMeetingCycle scope v b) → p.earlier ≡ q.earlier → p.own.event < q.own.event → ⊥
  not_sooner a b p q earlier less =
      p.meet (q.events p.own p.other less p.triggers (subst (λ (w : Invocation). IsUseOf scope w p.other) earlier p.triggered) p.same_instance p.same_event)

  meeting_once : (a b : ℕ) → IsMeetingCycle scope v a → IsMeetingCycle scope v b → a ≡ b
  meeting_once a b p q =
      let number : p.number ≡ q.number =
      neither_below p.number q.number (λ less. meets_it a p (q.before p.number p.earlier less p.at)) (λ more. meets_it b q (p.before q.number q.earlier more q.at)) in
      let earlier : p.earlier ≡ q.earlier = same_Some p.earlier q.earlier (sym p.at ∙ ap (slice_get scope.invocations) number ∙ q.at) in
      let event : p.own.event ≡ q.own.event = neither_below p.own.event q.own.event (not_sooner a b p q earlier) (not_sooner b a q p (sym earlier)) in
      let own = use_alike scope v p.own q.own p.triggers q.triggers event in
      let others : p.other.event ≡ q.other.event = p.same_event ∙ event ∙ sym q.same_event in
      let other = use_alike scope p.earlier p.other q.other p.triggered (subst (λ (w : Invocation). IsUseOf scope w q.other) (sym earlier) q.triggered) others in
      p.later ∙ ap₂ (λ (s t : TimeAt). max s.plus t.plus) other.0 own.0 ∙ sym q.later

-- ---- F12

module _ (scope : Scope) (v : Invocation) (distinct : AreDistinct (event_names scope.comp)) (apart : KeepsUsesApart scope v) where
  -- a use of an event is on the event of the component on which the invocation's own use is
  on_event : (event : ℕ) (u : Use) → UsesEvent scope v event u → (own : Use) × IsUseOf scope v own × (own.event ≡ event) × (u.at.event ≡ own.at.event)
  on_event event u (Own is here) = (u, is, here, refl)
  on_event event u (Another own is here earlier) = (own, is, here, (apart own u is earlier).0)

  same_on : (event : ℕ) (u w : Use) → UsesEvent scope v event u → UsesEvent scope v event w → u.at.event ≡ w.at.event
  same_on event u w p q =
      let a = on_event event u p in
      let b = on_event event w q in
      let alike = use_alike scope v a.0 b.0 a.1 b.1 (a.2 ∙ sym b.2) in
      a.3 ∙ ap (λ (t : TimeAt). t.event) alike.0 ∙ sym b.3

  module _ (event : ℕ) (first last first' last' : Use) (delay delay' : ℕ) (p : IsSpan scope v event first last delay) (q : IsSpan scope v event first' last' delay') where
    same_first : first.at.plus ≡ first'.at.plus
    same_first = let less = p.least first' q.has_first in let more = q.least first p.has_first in omega (arith, less, more)

    same_last : last.at.plus ≡ last'.at.plus
    same_last = let less = q.greatest last p.has_last in let more = p.greatest last' q.has_last in omega (arith, less, more)

    same_delay : delay ≡ delay'
    same_delay =
        let on = one_event scope.comp distinct p.on q.on p.is_own q.is_own (p.named ∙ same_on event first first' p.has_first q.has_first ∙ sym q.named) in
        p.delayed ∙ ap (λ (e : Event). e.delay) on ∙ sym q.delayed

  gap_once : (gap cycle gap' cycle' : ℕ) → IsGap scope v gap cycle → IsGap scope v gap' cycle' → (gap ≡ gap') × (cycle ≡ cycle')
  gap_once gap cycle gap' cycle' p q =
      let event : p.event ≡ q.event =
      neither_below p.event q.event (λ less. p.broken (q.events p.event p.first p.last p.delay less p.span)) (λ more. q.broken (p.events q.event q.first q.last q.delay more q.span)) in
      let span : IsSpan scope v p.event q.first q.last q.delay = subst (λ (e : ℕ). IsSpan scope v e q.first q.last q.delay) (sym event) q.span in
      let first = same_first p.event p.first p.last q.first q.last p.delay q.delay p.span span in
      let last = same_last p.event p.first p.last q.first q.last p.delay q.delay p.span span in
      let delay = same_delay p.event p.first p.last q.first q.last p.delay q.delay p.span span in
      let distance : p.last.at.plus - p.first.at.plus ≡ q.last.at.plus - q.first.at.plus = ap₂ ◌-◌ last first in
      let gaps : gap ≡ gap' = p.distance ∙ ap₂ max delay distance ∙ sym q.distance in
      (gaps, p.row ∙ ap₂ ◌+◌ gaps first ∙ sym q.row)

-- ---- what a statement shows

its_one : (s : Statement) (v w : Invocation) → Contains (invocations_at s) v → Contains (invocations_at s) w → v ≡ w
its_one s v w p q = let same : v ∷ [] ≡ w ∷ [] = sym (only_one s v p) ∙ only_one s w q in cc

meets_once : (with : Scope) (s : Statement) (a b : ℕ) → MeetsAt with s a → MeetsAt with s b → a ≡ b
meets_once with s a b (v, there, p) (w, there', q) = meeting_once with v a b p (subst (λ (x : Invocation). IsMeetingCycle with x b) (its_one s w v there' there) q)

overruns_once : (with : Scope) (s : Statement) → AreDistinct (event_names with.comp) → All (KeepsUsesApart with) (invocations_at s) → (gap cycle gap' cycle' : ℕ) → OverrunsAt with s gap cycle → OverrunsAt with s gap' cycle' → (gap ≡ gap') × (cycle ≡ cycle')
overruns_once with s distinct apart gap cycle gap' cycle' (v, there, p) (w, there', q) =
    gap_once with v distinct (All-contains (KeepsUsesApart with) (invocations_at s) v apart there) gap cycle gap' cycle' p
    (subst (λ (x : Invocation). IsGap with x gap' cycle') (its_one s w v there' there) q)

-- what a statement shows where it breaks a rule; where that is F12, it keeps F11
pub shows_once : (rule : Rule) (scope with : Scope) (s : Statement) (e e' : Evidence) → (rule ≡ F12 → AreDistinct (event_names with.comp) × All (KeepsUsesApart with) (invocations_at s)) → ShowsAtStatement rule scope with s e → ShowsAtStatement rule scope with s e' → e ≡ e'
shows_once F8 scope with s e e' kept (a, is, p) (b, is', q) = is ∙ ap AnOffset (misses_once scope s a b p q) ∙ sym is'
shows_once F11 scope with s e e' kept (a, is, p) (b, is', q) = is ∙ ap ACycle (meets_once with s a b p q) ∙ sym is'
shows_once F12 scope with s e e' kept (gap, cycle, is, p) (gap', cycle', is', q) =
    let k = kept refl in
    let same = overruns_once with s k.0 k.1 gap cycle gap' cycle' p q in
    is ∙ ap₂ AGap same.0 same.1 ∙ sym is'
shows_once F1 scope with s e e' kept p q = p ∙ sym q
shows_once F2 scope with s e e' kept p q = p ∙ sym q
shows_once F3 scope with s e e' kept p q = p ∙ sym q
shows_once F4 scope with s e e' kept p q = p ∙ sym q
shows_once F5 scope with s e e' kept p q = p ∙ sym q
shows_once F6 scope with s e e' kept p q = p ∙ sym q
shows_once F7 scope with s e e' kept p q = p ∙ sym q
shows_once F9 scope with s e e' kept p q = p ∙ sym q
shows_once F10 scope with s e e' kept p q = p ∙ sym q
shows_once F13 scope with s e e' kept p q = p ∙ sym q
