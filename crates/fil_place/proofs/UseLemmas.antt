-- Uses of a callee's events, by numbers and by texts.
use Rattle.std.proofs.Common.{◌≡◌, ℕ, ◌+◌, ◌-◌, List, map, slice_get, Option, Some, None, Bor, option_map, refl, sym, ap, subst, ◌∙◌, arith}
use Rattle.std.specs.Option.{option_copied}
use Rattle.std.specs.Slice.{IsItemAt}
use Rattle.std.proofs.lemmas.Option.{get_or_from_slice_get, none-some, same_Some, slice_get_within}
use Rattle.hw_names.specs.Name.{Text}
use Rattle.fil_ast.proofs.UseLemmas.{by_parts, parts_of}
use Rattle.fil_ast.specs.Signature as tree
use Rattle.fil_ast.specs.Timeline.{Use, hold_of, IsUse}
use Rattle.fil_ast.specs.Tree.{TimeAt}
use Rattle.fil_sig.specs.Seen.{seen, seen_delay, seen_event}
use Rattle.fil_sig.specs.declared.time_sig.TimeSig.{TimeSig}
use Rattle.fil_place.specs.Times.{AreTimes, time_shown}
use Rattle.fil_place.specs.Uses.{ShowsUse, next_plus, plus_of, HasDelay, IsShownBy}
use Rattle.fil_place.specs.declared.times.Offset.{Offset}
use Rattle.fil_place.proofs.GeneralLemmas.{mapped_at}
use Rattle.fil_place.proofs.LookupLemmas.{got}
use Rattle.fil_place.proofs.TimeLemmas.{no_time_at, shown_parts, time_at}
use Rattle.fil_ast.specs.Signature.{Delay, SigEvent, Signature, Gap}
use Rattle.fil_sig.specs.declared.time_sig.SigEvent as time_sig
use Rattle.fil_place.specs.declared.uses.Use as numbers
use Rattle.fil_place.specs.Callees.{HasGoodDelay, HasGoodTimes, IsGoodDelay}

-- how long a register's first event is held
pub gap_none : (s : TimeAt) (t : Option TimeAt) → option_map plus_of t ≡ None → ◌≡◌ {A = Option ℕ} None (hold_of tree.Gap s t)
gap_none s None e = refl
gap_none s (Some t) e = absurd (cc)

pub gap_some : (s : TimeAt) (t : Option TimeAt) (a b : ℕ) → s.plus ≡ a → option_map plus_of t ≡ Some b → Some ((b - a) - 1) ≡ hold_of tree.Gap s t
gap_some s None a b is e = absurd (cc)
gap_some s (Some t) a b is e =
    let rows : t.plus ≡ b = same_Some t.plus b e in
    let same : (b - a) - 1 ≡ t.plus - (s.plus + 1) = omega arith in ap Some same

module _ (events : List Text) (at : List Offset) (times : List TimeAt) (are : AreTimes events at times) where
  same_plus : (o : Option Offset) (k : ℕ) → slice_get at k ≡ o → option_map plus_of (slice_get times k) ≡ option_map (λ (o : Offset). o.plus) o
  same_plus None k here = ap (option_map plus_of) (no_time_at events at times are k here)
  same_plus (Some o) k here =
      let t = time_at events at times are k o here in
      ap (option_map plus_of) t.1 ∙ ap Some (sym (shown_parts events o t.0 t.2).1)

  copied_plus : (r : Option (Bor Offset)) → option_map (λ (o : Offset). o.plus) (option_copied r) ≡ option_map next_plus r
  copied_plus None = refl
  copied_plus (Some o) = refl

  pub plus_at : (k : ℕ) (r : Option (Bor Offset)) → IsItemAt at k r → option_map plus_of (slice_get times k) ≡ option_map next_plus r
  plus_at k r item = same_plus (slice_get at k) k refl ∙ ap (option_map (λ (o : Offset). o.plus)) (sym (got at k r item)) ∙ copied_plus r

  module _ (delay : tree.Delay) (k : ℕ) where
    pub no_use_at : slice_get at k ≡ None → ShowsUse events delay times k None
    no_use_at here time hold use_at = none-some time (sym (no_time_at events at times are k here) ∙ use_at.at)

    module _ (o : Offset) (here : slice_get at k ≡ Some o) where
      abbrev pub found : (t : TimeAt) × (slice_get times k ≡ Some t) × (time_shown events o ≡ Some t)
      found = time_at events at times are k o here

      pub found_plus : found.0.plus ≡ o.plus
      found_plus = sym (shown_parts events o found.0 found.2).1

      pub no_hold : ◌≡◌ {A = Option ℕ} None (hold_of delay found.0 (slice_get times (k + 1))) → ShowsUse events delay times k None
      no_hold e time hold use_at =
          let same : found.0 ≡ time = same_Some found.0 time (sym found.1 ∙ use_at.at) in
          none-some hold (e ∙ ap (λ (t : TimeAt). hold_of delay t (slice_get times (k + 1))) same ∙ use_at.held)

      pub with_hold : (hold : ℕ) → Some hold ≡ hold_of delay found.0 (slice_get times (k + 1)) → ShowsUse events delay times k (Some (record { at = o; hold = hold }))
      with_hold hold e = (found.0, found.2, record { at = found.1; held = sym e })

-- two uses of one event at the same times are alike
abbrev pub AreAlike : Use → Use → Type 0
AreAlike u w = (u.at ≡ w.at) × (u.hold ≡ w.hold)

pub same_use : (sig : Signature) (times : List TimeAt) (inst other : Text) (u w : Use) → IsUse sig inst times u → IsUse sig other times w → u.event ≡ w.event → AreAlike u w
same_use sig times inst other u w is_u is_w same =
    let at : u.at ≡ w.at = same_Some u.at w.at (sym (parts_of is_u).time ∙ ap (slice_get times) same ∙ (parts_of is_w).time) in
    let event : is_u.event ≡ is_w.event = same_Some is_u.event is_w.event (sym is_u.of ∙ ap (slice_get sig.events) same ∙ is_w.of) in
    let hold : Some u.hold ≡ Some w.hold =
    sym (parts_of is_u).held ∙ ap (λ (e : SigEvent). hold_of e.delay u.at (slice_get times (u.event + 1))) event
    ∙ ap (λ (t : TimeAt). hold_of is_w.event.delay t (slice_get times (u.event + 1))) at
    ∙ ap (λ (k : ℕ). hold_of is_w.event.delay w.at (slice_get times (k + 1))) same ∙ (parts_of is_w).held in
    (at, same_Some u.hold w.hold hold)

-- the use of one event, by numbers
module _ (events : List Text) (sig : Signature) (inst : Text) (times : List TimeAt) (k : ℕ) (delay : Delay) (has : HasDelay sig k delay) where
  pub no_use : ShowsUse events delay times k None → (u : Use) → IsUse sig inst times u → u.event ≡ k → ⊥
  no_use none u is same =
      let event : is.event ≡ has.0 = same_Some is.event has.0 (sym is.of ∙ ap (slice_get sig.events) same ∙ has.1) in
      let delayed : is.event.delay ≡ delay = ap (λ (e : SigEvent). e.delay) event ∙ has.2 in
      none u.at u.hold
      (record {
        at = ap (slice_get times) (sym same) ∙ (parts_of is).time;
        held =
            ap (λ (n : ℕ). hold_of delay u.at (slice_get times (n + 1))) (sym same)
            ∙ ap (λ (d : Delay). hold_of d u.at (slice_get times (u.event + 1))) (sym delayed) ∙ (parts_of is).held;
      })

  pub a_use : (o : numbers.Use) → ShowsUse events delay times k (Some o) → (u : Use) × IsUse sig inst times u × (u.event ≡ k) × IsShownBy events o u
  a_use o (time, shown, use_at) =
      let parts = shown_parts events o.at time shown in (
        record { inst = inst; event = k; go = has.0.go; at = time; hold = o.hold },
        by_parts has.0 has.1
            (record { named = refl; go = refl; time = use_at.at; held = ap (λ (d : Delay). hold_of d time (slice_get times (k + 1))) has.2 ∙ use_at.held }),
        refl,
        record { event = parts.0; plus = parts.1; hold = refl },
      )

-- the delay of an event of a signature as callers get it
pub has_delay : (sig : TimeSig) (n : ℕ) (e : time_sig.SigEvent) → slice_get sig.events.items n ≡ Some e → HasDelay (seen sig) n (seen_delay e.delay)
has_delay sig n e here = (seen_event e, mapped_at seen_event sig.events.items n e here, refl)

pub good_at : (sig : TimeSig) (n : ℕ) (e : time_sig.SigEvent) → HasGoodTimes (seen sig) → slice_get sig.events.items n ≡ Some e → IsGoodDelay (seen_delay e.delay)
good_at sig n e good here =
    let all = map seen_event sig.events.items in
    let at = mapped_at seen_event sig.events.items n e here in
    subst HasGoodDelay (get_or_from_slice_get all n (seen_event e) (seen_event e) at) (good.delays n (seen_event e) (slice_get_within all n (seen_event e) at))
