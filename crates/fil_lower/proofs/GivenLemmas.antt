-- What a legal list gives an instance is legal for the instance.
use Rattle.std.proofs.Common.{◌≡◌, ℕ, ◌+◌, ◌≤◌, List, [], ◌∷◌, refl, sym, ap, ◌∙◌, subst, inl, inr, arith}
use Rattle.std.proofs.lemmas.Bool.Decides.{Decides-eqb}
use Rattle.std.proofs.lemmas.Slice.Eq.{bytes_eq-Decides}
use Rattle.std.specs.Prelude.{◌==◌, AllPairs, Contains, bytes_eq, flat_map}
use Rattle.hw_prims.specs.Row.{Text}
use Rattle.hw_prims.specs.Timed.{NeverOverlap, Chosen, Delay, Fixed, HasDelay, AreLegalTransactions, TimedEvent, TimedSignature, Transaction}
use Rattle.fil_share.proofs.ListLemmas.{two_of}
use Rattle.fil_lower.specs.inside.Laws.{InnerListsAreLegal}
use Rattle.fil_lower.specs.inside.Plan.{Plan, Slot, Use}
use Rattle.fil_lower.specs.inside.PlanRules.{AreShared, IsEvent, IsSharedBy, IsWellTimed, given_by, given_by_slot, given_by_use, given_transactions}
use Rattle.fil_lower.proofs.ListLemmas.{contains_in_flat, contains_in_if, first_or_later, from_flat, from_if, contains_none, pairs_flat, pairs_if, pairs_more, pairs_of_one}

-- where a transaction of an instance comes from
pub record ComesFrom (plan : Plan) (txs : List Transaction) (inst : Text) (x : Transaction) : Type 0 where
  pub tx : Transaction
  pub of_tx : Contains txs tx
  pub call : Use
  pub of_use : Contains plan.uses call
  pub by : call.inst ≡ inst
  pub slot : Slot
  pub of_slot : Contains call.slots slot
  pub on : slot.event ≡ tx.event
  pub is : given_by plan tx call slot ≡ x

from_slot : (plan : Plan) (tx : Transaction) (call : Use) (slot : Slot) (x : Transaction) → Contains (given_by_slot plan tx call slot) x →
    (slot.event ≡ tx.event) × (given_by plan tx call slot ≡ x)
from_slot plan tx call slot x has =
    let t = from_if (slot.event == tx.event) (given_by plan tx call slot ∷ []) x has in
    ((Decides-eqb slot.event tx.event).0 t.0, elim (first_or_later (given_by plan tx call slot) [] x t.1) [ inl same ↦ same | inr none ↦ absurd (contains_none x none) ])

pub from_use : (plan : Plan) (inst : Text) (tx : Transaction) (call : Use) (x : Transaction) → Contains (given_by_use plan inst tx call) x →
    (call.inst ≡ inst) × (slot : Slot) × Contains call.slots slot × (slot.event ≡ tx.event) × (given_by plan tx call slot ≡ x)
from_use plan inst tx call x has =
    let t = from_if (bytes_eq call.inst inst) (flat_map (given_by_slot plan tx call) call.slots) x has in
    let m = from_flat (given_by_slot plan tx call) call.slots x t.1 in
    let s = from_slot plan tx call m.0 x m.2 in
    ((bytes_eq-Decides call.inst inst).0 t.0, m.0, m.1, s.0, s.1)

pub comes_from : (plan : Plan) (txs : List Transaction) (inst : Text) (x : Transaction) → Contains (given_transactions plan txs inst) x → ComesFrom plan txs inst x
comes_from plan txs inst x has =
    let m = from_flat (λ (tx : Transaction). flat_map (given_by_use plan inst tx) plan.uses) txs x has in
    let n = from_flat (given_by_use plan inst m.0) plan.uses x m.2 in
    let s = from_use plan inst m.0 n.0 x n.2 in
    record { tx = m.0; of_tx = m.1; call = n.0; of_use = n.1; by = s.0; slot = s.1; of_slot = s.2; on = s.3; is = s.4 }

pub is_given : (plan : Plan) (txs : List Transaction) (tx : Transaction) → Contains txs tx → (call : Use) → Contains plan.uses call → (slot : Slot) → Contains call.slots slot → slot.event ≡ tx.event →
    Contains (given_transactions plan txs call.inst) (given_by plan tx call slot)
is_given plan txs tx of_tx call of_use slot of_slot on =
    let x = given_by plan tx call slot in
    contains_in_flat (λ (t : Transaction). flat_map (given_by_use plan call.inst t) plan.uses) txs tx x of_tx
    (contains_in_flat (given_by_use plan call.inst tx) plan.uses call x of_use
    (contains_in_if (bytes_eq call.inst call.inst) (flat_map (given_by_slot plan tx call) call.slots) x ((bytes_eq-Decides call.inst call.inst).1 refl)
    (contains_in_flat (given_by_slot plan tx call) call.slots slot x of_slot
    (contains_in_if (slot.event == tx.event) (x ∷ []) x ((Decides-eqb slot.event tx.event).1 on) (0, omega arith, refl)))))

fixed_rows : (d e : ℕ) → Fixed d ≡ Fixed e → d ≡ e
fixed_rows d e same = cc

pub same_event : (sig : TimedSignature) (n : ℕ) (a b : TimedEvent) → IsEvent sig n a → IsEvent sig n b → a ≡ b
same_event sig n a b is_a is_b = cc

fixed_hold : (delay : Delay) (hold rows : ℕ) → HasDelay delay hold → delay ≡ Fixed rows → hold ≡ rows
fixed_hold (Fixed d) hold rows held fixed = held ∙ fixed_rows d rows fixed
fixed_hold Chosen hold rows held fixed = absurd (cc)

module _ (plan : Plan) (well : IsWellTimed plan) (txs : List Transaction) (legal : AreLegalTransactions plan.sig txs) where
  -- a transaction holds its event for the event's delay
  pub held_for : (tx : Transaction) → Contains txs tx → (own : TimedEvent) (delay : ℕ) → IsEvent plan.sig tx.event own → own.delay ≡ Fixed delay → tx.hold ≡ delay
  held_for tx of_tx own delay is fixed =
      let h = legal.held tx of_tx in
      let same = same_event plan.sig tx.event h.0 own h.1 is in
      fixed_hold own.delay tx.hold delay (subst (λ (v : TimedEvent). HasDelay v.delay tx.hold) same h.2) fixed

  -- two holds of one event of an instance, by whatever invocations
  pub record AreNear (s t : Slot) : Type 0 where
    pub event : s.event ≡ t.event
    pub delay : ℕ
    pub own : TimedEvent
    pub is_own : IsEvent plan.sig s.event own
    pub fixed : own.delay ≡ Fixed delay
    pub forth : s.plus + s.hold ≤ t.plus + delay
    pub back : t.plus + t.hold ≤ s.plus + delay

  near_shared : (a : Use) → Contains plan.uses a → (s t : Slot) → Contains a.slots s → IsSharedBy plan s t → AreNear s t
  near_shared a of_use s t of_slot shared =
      let g = well.triggered a of_use s of_slot in
      record { event = shared.event; delay = g.delay; own = g.own; is_own = g.is_own; fixed = g.fixed; forth = shared.forth g.own g.delay g.is_own g.fixed; back = shared.back g.own g.delay g.is_own g.fixed }

  near_turned : (s t : Slot) → AreNear s t → AreNear t s
  near_turned s t n = record { event = sym n.event; delay = n.delay; own = n.own; is_own = subst (λ e. IsEvent plan.sig e n.own) n.event n.is_own; fixed = n.fixed; forth = n.back; back = n.forth }

  near_itself : (a : Use) → Contains plan.uses a → (s : Slot) → Contains a.slots s → AreNear s s
  near_itself a of_use s of_slot =
      let g = well.triggered a of_use s of_slot in
      record { event = refl; delay = g.delay; own = g.own; is_own = g.is_own; fixed = g.fixed; forth = omega (arith, g.within); back = omega (arith, g.within) }

  near_in_use : (a : Use) → Contains plan.uses a → (s t : Slot) → Contains a.slots s → Contains a.slots t → s.target ≡ t.target → AreNear s t
  near_in_use a of_use s t of_s of_t same =
      elim (two_of (λ (s t : Slot). s.target ≡ t.target → ⊥) a.slots s t (well.once a of_use) of_s of_t) [
        | inl one ↦ subst (λ (u : Slot). AreNear s u) one (near_itself a of_use s of_s)
        | inr (inl differ) ↦ absurd (differ same)
        | inr (inr differ) ↦ absurd (differ (sym same))
      ]

  pub near : (a b : Use) → Contains plan.uses a → Contains plan.uses b → a.inst ≡ b.inst → (s t : Slot) → Contains a.slots s → Contains b.slots t → s.target ≡ t.target → AreNear s t
  near a b of_a of_b inst s t of_s of_t same =
      elim (two_of (AreShared plan) plan.uses a b well.shared of_a of_b) [
        | inl one ↦ near_in_use a of_a s t of_s (subst (λ (u : Use). Contains u.slots t) (sym one) of_t) same
        | inr (inl shared) ↦ near_shared a of_a s t of_s (shared inst s t of_s of_t same)
        | inr (inr shared) ↦ near_turned t s (near_shared b of_b t s of_t (shared (sym inst) t s of_t of_s (sym same)))
      ]

  -- what one transaction gives is apart from what another one gives
  apart_transactions : (inst : Text) (a b : Transaction) → Contains txs a → Contains txs b → NeverOverlap a b → (x y : Transaction) → Contains (flat_map (given_by_use plan inst a) plan.uses) x → Contains (flat_map (given_by_use plan inst b) plan.uses) y → NeverOverlap x y
  apart_transactions inst a b of_a of_b apart x y has_x has_y same =
      let m = from_flat (given_by_use plan inst a) plan.uses x has_x in
      let n = from_flat (given_by_use plan inst b) plan.uses y has_y in
      let s = from_use plan inst a m.0 x m.2 in
      let t = from_use plan inst b n.0 y n.2 in
      let xe : s.1.target ≡ x.event = ap (λ (z : Transaction). z.event) s.4 in
      let ye : t.1.target ≡ y.event = ap (λ (z : Transaction). z.event) t.4 in
      let xs : a.start + s.1.plus ≡ x.start = ap (λ (z : Transaction). z.start) s.4 in
      let ys : b.start + t.1.plus ≡ y.start = ap (λ (z : Transaction). z.start) t.4 in
      let xh : s.1.hold ≡ x.hold = ap (λ (z : Transaction). z.hold) s.4 in
      let yh : t.1.hold ≡ y.hold = ap (λ (z : Transaction). z.hold) t.4 in
      let e = near m.0 n.0 m.1 n.1 (s.0 ∙ sym t.0) s.1 t.1 s.2 t.2 (xe ∙ same ∙ sym ye) in
      let ah : a.hold ≡ e.delay = held_for a of_a e.own e.delay (subst (λ v. IsEvent plan.sig v e.own) s.3 e.is_own) e.fixed in
      let bh : b.hold ≡ e.delay = held_for b of_b e.own e.delay (subst (λ v. IsEvent plan.sig v e.own) (e.event ∙ t.3) e.is_own) e.fixed in
      let forth : s.1.plus + s.1.hold ≤ t.1.plus + e.delay = e.forth in
      let back : t.1.plus + t.1.hold ≤ s.1.plus + e.delay = e.back in
      elim (apart (sym s.3 ∙ e.event ∙ t.3)) [
        | inl l ↦ inl (omega arith)
        | inr r ↦ inr (omega arith)
      ]

  -- of one transaction, what two invocations give
  apart_uses : (inst : Text) (tx : Transaction) (a b : Use) → AreShared plan a b → (x y : Transaction) → Contains (given_by_use plan inst tx a) x → Contains (given_by_use plan inst tx b) y → NeverOverlap x y
  apart_uses inst tx a b shared x y has_x has_y same =
      let s = from_use plan inst tx a x has_x in
      let t = from_use plan inst tx b y has_y in
      let xe : s.1.target ≡ x.event = ap (λ (z : Transaction). z.event) s.4 in
      let ye : t.1.target ≡ y.event = ap (λ (z : Transaction). z.event) t.4 in
      let xs : tx.start + s.1.plus ≡ x.start = ap (λ (z : Transaction). z.start) s.4 in
      let ys : tx.start + t.1.plus ≡ y.start = ap (λ (z : Transaction). z.start) t.4 in
      let xh : s.1.hold ≡ x.hold = ap (λ (z : Transaction). z.hold) s.4 in
      let yh : t.1.hold ≡ y.hold = ap (λ (z : Transaction). z.hold) t.4 in
      let e = shared (s.0 ∙ sym t.0) s.1 t.1 s.2 t.2 (xe ∙ same ∙ sym ye) in
      elim e.disjoint [ inl l ↦ inl (omega arith) | inr r ↦ inr (omega arith) ]

  -- of one invocation, what two of its slots give
  apart_slots : (tx : Transaction) (call : Use) (s t : Slot) → (s.target ≡ t.target → ⊥) → (x y : Transaction) → Contains (given_by_slot plan tx call s) x → Contains (given_by_slot plan tx call t) y → NeverOverlap x y
  apart_slots tx call s t differ x y has_x has_y same =
      let xe : s.target ≡ x.event = ap (λ (z : Transaction). z.event) (from_slot plan tx call s x has_x).1 in
      let ye : t.target ≡ y.event = ap (λ (z : Transaction). z.event) (from_slot plan tx call t y has_y).1 in
      absurd (differ (xe ∙ same ∙ sym ye))

  use_apart : (inst : Text) (tx : Transaction) (call : Use) → Contains plan.uses call → AllPairs NeverOverlap (given_by_use plan inst tx call)
  use_apart inst tx call of_use =
      pairs_if NeverOverlap (bytes_eq call.inst inst) (flat_map (given_by_slot plan tx call) call.slots)
      (pairs_flat NeverOverlap (given_by_slot plan tx call) call.slots (λ s of_slot. pairs_if NeverOverlap (s.event == tx.event) (given_by plan tx call s ∷ []) (pairs_of_one NeverOverlap (given_by plan tx call s)))
      (pairs_more (λ (s t : Slot). s.target ≡ t.target → ⊥) (λ (s t : Slot). (x y : Transaction) → Contains (given_by_slot plan tx call s) x → Contains (given_by_slot plan tx call t) y → NeverOverlap x y) call.slots
      (λ s t of_s of_t differ. apart_slots tx call s t differ) (well.once call of_use)))

  pub given_legal : (inst : Text) → AreLegalTransactions (plan.callee inst).sig (given_transactions plan txs inst)
  given_legal inst = record {
    held = λ x has.
        let f = comes_from plan txs inst x has in
        let g = well.triggered f.call f.of_use f.slot f.of_slot in
        subst (λ (z : Transaction). (event : TimedEvent) × IsEvent (plan.callee inst).sig z.event event × HasDelay event.delay z.hold) f.is
        (g.theirs, subst (λ name. IsEvent (plan.callee name).sig f.slot.target g.theirs) f.by g.is_theirs, g.held);
    apart = pairs_flat NeverOverlap (λ (tx : Transaction). flat_map (given_by_use plan inst tx) plan.uses) txs
        (λ tx of_tx. pairs_flat NeverOverlap (given_by_use plan inst tx) plan.uses (λ u of_use. use_apart inst tx u of_use)
        (pairs_more (AreShared plan) (λ (a b : Use). (x y : Transaction) → Contains (given_by_use plan inst tx a) x → Contains (given_by_use plan inst tx b) y → NeverOverlap x y) plan.uses
        (λ a b of_a of_b shared. apart_uses inst tx a b shared) well.shared))
        (pairs_more NeverOverlap (λ (a b : Transaction). (x y : Transaction) → Contains (flat_map (given_by_use plan inst a) plan.uses) x → Contains (flat_map (given_by_use plan inst b) plan.uses) y → NeverOverlap x y) txs
        (λ a b of_a of_b apart. apart_transactions inst a b of_a of_b apart) legal.apart);
  }

pub given_lists_are_legal : InnerListsAreLegal
given_lists_are_legal plan well txs legal inst = given_legal plan well txs legal inst
