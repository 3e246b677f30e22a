-- A use part by part: what the event of its number, and its time, say of it.
use Rattle.std.proofs.Common.{◌≡◌, ℕ, ◌+◌, List, slice_get, Option, Some, None, option_map, refl, sym, ap, ap₂, subst, ◌∙◌}
use Rattle.std.specs.Option.{option_and_then}
use Rattle.std.proofs.lemmas.Option.{same_Some}
use Rattle.hw_names.specs.Name.{Text}
use Rattle.fil_ast.specs.Signature.{SigEvent, Signature}
use Rattle.fil_ast.specs.Timeline.{IsUse, Use, hold_of, use_of}
use Rattle.fil_ast.specs.Tree.{TimeAt}

-- the parts of a use of this event of a callee
pub record UseParts (inst : Text) (times : List TimeAt) (u : Use) (event : SigEvent) : Type 0 where
  pub named : u.inst ≡ inst
  pub go : u.go ≡ event.go
  pub time : slice_get times u.event ≡ Some u.at
  pub held : hold_of event.delay u.at (slice_get times (u.event + 1)) ≡ Some u.hold

-- what event k gives has these parts
given_parts : (inst : Text) (times : List TimeAt) (k : ℕ) (e : SigEvent) (u : Use) → use_of k e inst times ≡ Some u → UseParts inst times u e × (u.event ≡ k)
given_parts inst times k e u = by (slice_get times k) refl
  where
    by : (o : Option TimeAt) → slice_get times k ≡ o → option_and_then (λ t. option_map (λ rows. record { inst = inst; event = k; go = e.go; at = t; hold = rows }) (hold_of e.delay t (slice_get times (k + 1)))) o ≡ Some u → UseParts inst times u e × (u.event ≡ k)
    by None there is = absurd (cc)
    by (Some t) there is = held (hold_of e.delay t (slice_get times (k + 1))) refl is
      where
        held : (h : Option ℕ) → hold_of e.delay t (slice_get times (k + 1)) ≡ h → option_map (λ rows. record { inst = inst; event = k; go = e.go; at = t; hold = rows }) h ≡ Some u → UseParts inst times u e × (u.event ≡ k)
        held None rows is' = absurd (cc)
        held (Some r) rows is' =
            let v : Use = record { inst = inst; event = k; go = e.go; at = t; hold = r } in
            let same : v ≡ u = same_Some v u is' in
            let P : Use → Type 0 = λ w. UseParts inst times w e × (w.event ≡ k) in
            subst P same (record { named = refl; go = refl; time = there; held = rows }, refl)

module _ (sig : Signature) (inst : Text) (times : List TimeAt) where
  -- what event k gives is a use, with this number
  pub given_use : (k : ℕ) (e : SigEvent) → slice_get sig.events k ≡ Some e → (u : Use) → use_of k e inst times ≡ Some u → IsUse sig inst times u × (u.event ≡ k)
  given_use k e at u is =
      let here = (given_parts inst times k e u is).1 in
      (record { event = e; of = ap (slice_get sig.events) here ∙ at; is = ap (λ (n : ℕ). use_of n e inst times) here ∙ is }, here)

  -- a use is what its event gives
  pub use_given : (u : Use) (is : IsUse sig inst times u) (e : SigEvent) → slice_get sig.events u.event ≡ Some e → use_of u.event e inst times ≡ Some u
  use_given u is e at = ap (λ (x : SigEvent). use_of u.event x inst times) (same_Some e is.event (sym at ∙ is.of)) ∙ is.is

-- a use has its parts
pub parts_of : {sig : Signature} {inst : Text} {times : List TimeAt} {u : Use} (is : IsUse sig inst times u) → UseParts inst times u is.event
parts_of {inst = inst} {times = times} {u = u} is = (given_parts inst times u.event is.event u is.is).0

-- what has the parts is given by its event
pub given_by_parts : (inst : Text) (times : List TimeAt) (u : Use) (event : SigEvent) → UseParts inst times u event → use_of u.event event inst times ≡ Some u
given_by_parts inst times u event parts =
    let made : TimeAt → ℕ → Use = λ t rows. record { inst = inst; event = u.event; go = event.go; at = t; hold = rows } in
    let held : TimeAt → Option ℕ = λ t. hold_of event.delay t (slice_get times (u.event + 1)) in
    ap (option_and_then (λ (t : TimeAt). option_map (made t) (held t))) parts.time ∙ ap (option_map (made u.at)) parts.held
    ∙ ap₂ (λ (i : Text) (g : Option Text). Some (record { inst = i; event = u.event; go = g; at = u.at; hold = u.hold })) (sym parts.named) (sym parts.go)

-- so it is a use
abbrev pub by_parts : {sig : Signature} {inst : Text} {times : List TimeAt} {u : Use} (event : SigEvent) → slice_get sig.events u.event ≡ Some event → UseParts inst times u event → IsUse sig inst times u
by_parts {inst = inst} {times = times} {u = u} event of parts = record { event = event; of = of; is = given_by_parts inst times u event parts }

-- two uses of one event by one invocation are one
pub one_use : {sig : Signature} {inst : Text} {times : List TimeAt} {u w : Use} → IsUse sig inst times u → IsUse sig inst times w → u.event ≡ w.event → u ≡ w
one_use {sig = sig} {inst = inst} {times = times} {u = u} {w = w} is other same =
    let at : slice_get sig.events u.event ≡ Some other.event = ap (slice_get sig.events) same ∙ other.of in
    same_Some u w (sym (use_given sig inst times u is other.event at) ∙ ap (λ (n : ℕ). use_of n other.event inst times) same ∙ other.is)
