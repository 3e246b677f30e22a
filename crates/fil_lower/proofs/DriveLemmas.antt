-- At most one argument drives a port of an instance in a row: that of the transaction whose interval the row lies in.
use Rattle.std.proofs.Common.{◌≡◌, ◌⊎◌, ◌↔◌, ℕ, suc, ◌+◌, ◌<◌, ◌≤◌, Bool, true, false, List, [], ◌∷◌, length, Option, Some, None, refl, sym, ap, ◌∙◌, subst, inl, inr, arith}
use Rattle.std.proofs.lemmas.List.Elements.{All-contains}
use Rattle.std.proofs.lemmas.Slice.Eq.{bytes_eq-Decides}
use Rattle.std.specs.Prelude.{◌&&◌, AllPairs, Contains, bytes_eq, if◌then◌else◌}
use Rattle.hw_prims.specs.Row.{Text}
use Rattle.hw_prims.specs.Timed.{NeverOverlap, CarriesStarts, Covers, AreLegalTransactions, TimedEvent, TimedPort, Transaction, end_of}
use Rattle.fil_share.proofs.ListLemmas.{two_of, AllPairs-head, AllPairs-tail}
use Rattle.net_core.specs.Circuit.{settled}
use Rattle.fil_lower.specs.inside.Laws.{ArgumentsDoNotClash}
use Rattle.fil_lower.specs.inside.Lowered.{IsLowered, LoweredRun, StartsIn, drives, source_in, values_where}
use Rattle.fil_lower.specs.inside.Plan.{Plan, Slot, Use}
use Rattle.fil_lower.specs.inside.PlanRules.{AreShared, IsEvent, IsWellTimed, given_by}
use Rattle.fil_lower.proofs.GivenLemmas.{held_for}
use Rattle.fil_lower.proofs.ListLemmas.{contains_none, first_or_later, pairs_more}

and_true : (a b : Bool) → a && b ≡ true → (a ≡ true) × (b ≡ true)
and_true true b h = (refl, h)
and_true false b h = absurd (cc)

and_both : (a b : Bool) → a ≡ true → b ≡ true → a && b ≡ true
and_both true b h k = k
and_both false b h k = absurd (cc)

some_or_none : (o : Option Text) → (o ≡ None) ⊎ ((g : Text) × (o ≡ Some g))
some_or_none None = inl refl
some_or_none (Some g) = inr (g, refl)

none_where : (test : Use → Bool) (value : Use → ℕ) (calls : List Use) → ((call : Use) → Contains calls call → test call ≡ true → ⊥) → values_where test value calls ≡ []
none_where test value [] none = refl
none_where test value (x ∷ xs) none = by (test x) refl (none_where test value xs (λ call has. none call (suc has.0, omega (arith, has.1), has.2)))
  where
    by : (b : Bool) → test x ≡ b → values_where test value xs ≡ [] → (if b then value x ∷ values_where test value xs else values_where test value xs) ≡ []
    by true is rest = absurd (none x (0, omega arith, refl) is)
    by false is rest = rest

-- no two pass the test
abbrev pub Excludes : (Use → Bool) → Use → Use → Type 0
Excludes test a b = test a ≡ true → test b ≡ true → ⊥

none_after : (test : Use → Bool) (value : Use → ℕ) (x : Use) (xs : List Use) → AllPairs (Excludes test) (x ∷ xs) → test x ≡ true → values_where test value xs ≡ []
none_after test value x xs pairs is =
    none_where test value xs (λ call has passes. All-contains (Excludes test x) xs call (AllPairs-head (Excludes test) x xs pairs) has is passes)

pub one_where : (test : Use → Bool) (value : Use → ℕ) (calls : List Use) (c : Use) → AllPairs (Excludes test) calls → Contains calls c → test c ≡ true → values_where test value calls ≡ value c ∷ []
one_where test value [] c pairs has is = absurd (contains_none c has)
one_where test value (x ∷ xs) c pairs has is =
    by (test x) refl (first_or_later x xs c has) (λ later. one_where test value xs c (AllPairs-tail (Excludes test) x xs pairs) later is)
  where
    by : (b : Bool) → test x ≡ b → (x ≡ c) ⊎ Contains xs c → (Contains xs c → values_where test value xs ≡ value c ∷ []) → (if b then value x ∷ values_where test value xs else values_where test value xs) ≡ value c ∷ []
    by true passes (inl same) rest = ap (λ l. value x ∷ l) (none_after test value x xs pairs passes) ∙ ap (λ (z : Use). value z ∷ []) same
    by true passes (inr later) rest = absurd (All-contains (Excludes test x) xs c (AllPairs-head (Excludes test) x xs pairs) later passes is)
    by false fails (inl same) rest = let bad : test c ≡ false = sym (ap test same) ∙ fails in absurd (cc)
    by false fails (inr later) rest = rest later

few_where : (test : Use → Bool) (value : Use → ℕ) (calls : List Use) → AllPairs (Excludes test) calls → length (values_where test value calls) < 2
few_where test value [] pairs = omega arith
few_where test value (x ∷ xs) pairs = by (test x) refl (few_where test value xs (AllPairs-tail (Excludes test) x xs pairs))
  where
    by : (b : Bool) → test x ≡ b → length (values_where test value xs) < 2 → length (if b then value x ∷ values_where test value xs else values_where test value xs) < 2
    by true passes rest =
        let none = ap (λ (z : List ℕ). length z) (none_after test value x xs pairs passes) in
        omega (arith, none)
    by false fails rest = rest

-- what the laws of overlap rest on: as in a lowered component, but for an input that no argument drives, or several do
pub record Acts (plan : Plan) (run : LoweredRun) : Type 0 where
  pub driven : (r : ℕ) → r < run.height → (call : Use) → Contains plan.uses call → (p : TimedPort) → Contains (plan.callee call.inst).sig.ins p → run.feeds call p.name r ≡ true →
      AllPairs (Excludes (drives run call.inst p.name r)) plan.uses → run.trace r (run.cell call.inst p.name) ≡ source_in run (run.trace r) (call.args p.name)
  pub fed : (r : ℕ) → r < run.height → (call : Use) → Contains plan.uses call → (slot : Slot) → Contains call.slots slot → (p : TimedPort) → Contains (plan.callee call.inst).sig.ins p → p.event ≡ slot.target →
      (event : TimedEvent) (go : Text) → IsEvent plan.sig slot.event event → event.go ≡ Some go →
      (run.feeds call p.name r ≡ true) ↔ ((u : ℕ) × StartsIn plan run slot.event u × (u + slot.plus + p.from ≤ r) × (r < u + slot.plus + end_of p slot.hold))
  pub always : (r : ℕ) → r < run.height → (call : Use) → Contains plan.uses call → (slot : Slot) → Contains call.slots slot → (p : TimedPort) → Contains (plan.callee call.inst).sig.ins p → p.event ≡ slot.target →
      (event : TimedEvent) → IsEvent plan.sig slot.event event → event.go ≡ None → run.feeds call p.name r ≡ true
  pub started : (r : ℕ) → r < run.height → (inst : Text) (n : ℕ) (event : TimedEvent) (go : Text) → IsEvent (plan.callee inst).sig n event → event.go ≡ Some go →
      (run.trace r (run.cell inst go) ≡ 1)
      ↔ ((call : Use) × Contains plan.uses call × (call.inst ≡ inst) × (slot : Slot) × Contains call.slots slot × (slot.target ≡ n) × (u : ℕ) × (u + slot.plus ≡ r) × StartsIn plan run slot.event u)
  pub connected : (r : ℕ) → r < run.height → (p : TimedPort) → Contains plan.sig.outs p → run.trace r (run.own p.name) ≡ source_in run (run.trace r) (plan.outputs p.name)

pub lowered_acts : (plan : Plan) (run : LoweredRun) → IsLowered plan run → Acts plan run
lowered_acts plan run low = record {
  driven = λ r below call of_use p of_p feeds alone.
      low.driven r below call.inst p of_p
      ∙ ap settled (one_where (drives run call.inst p.name r) (λ (c : Use). source_in run (run.trace r) (c.args p.name)) plan.uses call alone of_use
      (and_both (bytes_eq call.inst call.inst) (run.feeds call p.name r) ((bytes_eq-Decides call.inst call.inst).1 refl) feeds));
  fed = low.fed;
  always = low.always;
  started = low.started;
  connected = low.connected;
}

module _ (plan : Plan) (well : IsWellTimed plan) (run : LoweredRun) (low : Acts plan run) (txs : List Transaction) (legal : AreLegalTransactions plan.sig txs)
    (r : ℕ) (below : r < run.height) (starts : (s : ℕ) → s ≤ r → CarriesStarts plan.sig run.own (run.trace s) txs s) where
  -- a start up to row r is a transaction's
  pub start_of : (n u : ℕ) → u ≤ r → StartsIn plan run n u → (tx : Transaction) × Contains txs tx × (tx.event ≡ n) × (tx.start ≡ u)
  start_of n u before start = (starts u before n start.event start.go start.is start.has).0 start.on

  pub start_by : (tx : Transaction) → Contains txs tx → tx.start ≤ r → (event : TimedEvent) (go : Text) → IsEvent plan.sig tx.event event → event.go ≡ Some go → StartsIn plan run tx.event tx.start
  start_by tx of_tx before event go is has =
      record { event = event; is = is; go = go; has = has; on = (starts tx.start before tx.event event go is has).1 (tx, of_tx, refl, refl) }

  -- where an argument drives its port, a transaction needs it
  driven_for : (call : Use) → Contains plan.uses call → (slot : Slot) → Contains call.slots slot → (p : TimedPort) → Contains (plan.callee call.inst).sig.ins p → p.event ≡ slot.target → (event : TimedEvent) (go : Text) → IsEvent plan.sig slot.event event → event.go ≡ Some go →
      run.feeds call p.name r ≡ true → (tx : Transaction) × Contains txs tx × (tx.event ≡ slot.event) × Covers p (given_by plan tx call slot) r
  driven_for call of_use slot of_slot p of_p at event go is has on =
      let f = (low.fed r below call of_use slot of_slot p of_p at event go is has).0 on in
      let from : f.0 + slot.plus + p.from ≤ r = f.2 in
      let to : r < f.0 + slot.plus + end_of p slot.hold = f.3 in
      let t = start_of slot.event f.0 (omega arith) f.1 in
      let e : t.0.start ≡ f.0 = t.3 in
      (t.0, t.1, t.2, (at, omega arith, omega arith))

  -- where a transaction needs an argument, it drives its port
  feeds_for : (call : Use) → Contains plan.uses call → (slot : Slot) → Contains call.slots slot → (p : TimedPort) → Contains (plan.callee call.inst).sig.ins p → (tx : Transaction) → Contains txs tx → slot.event ≡ tx.event → Covers p (given_by plan tx call slot) r → run.feeds call p.name r ≡ true
  feeds_for call of_use slot of_slot p of_p tx of_tx on covers =
      let g = well.triggered call of_use slot of_slot in
      let from : tx.start + slot.plus + p.from ≤ r = covers.1 in
      elim (some_or_none g.own.go) [
        | inl none ↦ low.always r below call of_use slot of_slot p of_p covers.0 g.own g.is_own none
        | inr (h, some) ↦
            (low.fed r below call of_use slot of_slot p of_p covers.0 g.own h g.is_own some).1
            (tx.start, subst (λ e. StartsIn plan run e tx.start) (sym on) (start_by tx of_tx (omega arith) g.own h (subst (λ e. IsEvent plan.sig e g.own) on g.is_own) some), covers.1, covers.2)
      ]

  -- two arguments of invocations that share an instance do not drive one port: the transactions that need them would hold the instance at once
  not_both : (a b : Use) → Contains plan.uses a → Contains plan.uses b → AreShared plan a b → a.inst ≡ b.inst → (p : TimedPort) → Contains (plan.callee a.inst).sig.ins p → Contains (plan.callee b.inst).sig.ins p → run.feeds a p.name r ≡ true → run.feeds b p.name r ≡ true → ⊥
  not_both a b of_a of_b shared inst p in_a in_b on_a on_b =
      let sa = well.each a of_a p in_a in
      let sb = well.each b of_b p in_b in
      let s = shared inst sa.0 sb.0 sa.1 sb.1 (sa.2 ∙ sym sb.2) in
      let g = well.triggered a of_a sa.0 sa.1 in
      let h = well.triggered b of_b sb.0 sb.1 in
      let go = s.go g.own g.is_own in
      let there : IsEvent plan.sig sb.0.event g.own = subst (λ e. IsEvent plan.sig e g.own) s.event g.is_own in
      let ta = driven_for a of_a sa.0 sa.1 p in_a (sym sa.2) g.own go.0 g.is_own go.1 on_a in
      let tb = driven_for b of_b sb.0 sb.1 p in_b (sym sb.2) g.own go.0 there go.1 on_b in
      let ea : end_of p sa.0.hold ≤ p.from + sa.0.hold = well.short a of_a p in_a g.theirs (subst (λ e. IsEvent (plan.callee a.inst).sig e g.theirs) sa.2 g.is_theirs) sa.0.hold g.held in
      let eb : end_of p sb.0.hold ≤ p.from + sb.0.hold = well.short b of_b p in_b h.theirs (subst (λ e. IsEvent (plan.callee b.inst).sig e h.theirs) sb.2 h.is_theirs) sb.0.hold h.held in
      let ha : ta.0.hold ≡ g.delay = held_for plan well txs legal ta.0 ta.1 g.own g.delay (subst (λ e. IsEvent plan.sig e g.own) (sym ta.2) g.is_own) g.fixed in
      let hb : tb.0.hold ≡ g.delay = held_for plan well txs legal tb.0 tb.1 g.own g.delay (subst (λ e. IsEvent plan.sig e g.own) (sym tb.2) there) g.fixed in
      let forth : sa.0.plus + sa.0.hold ≤ sb.0.plus + g.delay = s.forth g.own g.delay g.is_own g.fixed in
      let back : sb.0.plus + sb.0.hold ≤ sa.0.plus + g.delay = s.back g.own g.delay g.is_own g.fixed in
      let a_from : ta.0.start + sa.0.plus + p.from ≤ r = ta.3.1 in
      let a_to : r < ta.0.start + sa.0.plus + end_of p sa.0.hold = ta.3.2 in
      let b_from : tb.0.start + sb.0.plus + p.from ≤ r = tb.3.1 in
      let b_to : r < tb.0.start + sb.0.plus + end_of p sb.0.hold = tb.3.2 in
      let one_event : ta.0.event ≡ tb.0.event = ta.2 ∙ s.event ∙ sym tb.2 in
      let far = λ (x : (ta.0.start + ta.0.hold ≤ tb.0.start) ⊎ (tb.0.start + tb.0.hold ≤ ta.0.start)).
      let bad : ⊥ = elim x [ inl l ↦ omega arith | inr l ↦ omega arith ] in bad in
      elim (two_of NeverOverlap txs ta.0 tb.0 legal.apart ta.1 tb.1) [
        | inl same ↦
            let u : ta.0.start ≡ tb.0.start = ap (λ (z : Transaction). z.start) same in
            elim s.disjoint [ inl l ↦ omega arith | inr l ↦ omega arith ]
        | inr (inl apart) ↦ far (apart one_event)
        | inr (inr apart) ↦ far (elim (apart (sym one_event)) [ inl l ↦ inr l | inr l ↦ inl l ])
      ]

  exclude : (inst : Text) (p : TimedPort) → Contains (plan.callee inst).sig.ins p → AllPairs (Excludes (drives run inst p.name r)) plan.uses
  exclude inst p in_ins = pairs_more (AreShared plan) (Excludes (drives run inst p.name r)) plan.uses (λ a b of_a of_b shared on_a on_b.
      let ta = and_true (bytes_eq a.inst inst) (run.feeds a p.name r) on_a in
      let tb = and_true (bytes_eq b.inst inst) (run.feeds b p.name r) on_b in
      let na = (bytes_eq-Decides a.inst inst).0 ta.0 in
      let nb = (bytes_eq-Decides b.inst inst).0 tb.0 in
      not_both a b of_a of_b shared (na ∙ sym nb) p (subst (λ n. Contains (plan.callee n).sig.ins p) (sym na) in_ins) (subst (λ n. Contains (plan.callee n).sig.ins p) (sym nb) in_ins) ta.1 tb.1) well.shared

  pub arguments_few : (inst : Text) (p : TimedPort) → Contains (plan.callee inst).sig.ins p → (value : Use → ℕ) → length (values_where (drives run inst p.name r) value plan.uses) < 2
  arguments_few inst p in_ins value = few_where (drives run inst p.name r) value plan.uses (exclude inst p in_ins)

  -- a port has the value of the argument that a transaction gives it
  pub driven_by : (call : Use) → Contains plan.uses call → (slot : Slot) → Contains call.slots slot → (p : TimedPort) → Contains (plan.callee call.inst).sig.ins p → (tx : Transaction) → Contains txs tx → slot.event ≡ tx.event → Covers p (given_by plan tx call slot) r →
      run.trace r (run.cell call.inst p.name) ≡ source_in run (run.trace r) (call.args p.name)
  driven_by call of_use slot of_slot p of_p tx of_tx on covers =
      low.driven r below call of_use p of_p (feeds_for call of_use slot of_slot p of_p tx of_tx on covers) (exclude call.inst p of_p)

pub no_clash : ArgumentsDoNotClash
no_clash plan well run low txs legal r below starts inst p in_ins value = arguments_few plan well run (lowered_acts plan run low) txs legal r below starts inst p in_ins value
