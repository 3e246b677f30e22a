-- A lowered component over instances that are timed is timed: row by row, and in each row in text order, every instance's ports carry what it is given.
use Rattle.std.proofs.Common.{◌≡◌, ℕ, zero, suc, ◌+◌, ◌-◌, ◌<◌, ◌≤◌, false, List, refl, sym, ap, ◌∙◌, subst, inl, inr, arith}
use Rattle.std.proofs.lemmas.Bool.{cases_lt}
use Rattle.std.specs.Prelude.{Contains, if◌then◌else◌}
use Rattle.hw_prims.specs.Row.{Text}
use Rattle.fil_lower.proofs.DriveLemmas.{Acts, driven_by, lowered_acts, start_by, start_of}
use Rattle.fil_lower.specs.inside.Laws.{AreTimed, InstancesCarry, LoweredComponentsAreTimed}
use Rattle.fil_lower.specs.inside.Lowered.{LoweredRun, StartsIn, source_in}
use Rattle.fil_lower.specs.inside.Plan.{Input, Literal, Output, Plan, Slot, Source, Use, behaviour_of_plan, value_of}
use Rattle.fil_lower.specs.inside.PlanRules.{IsAvailable, IsEvent, IsOfUse, IsWellTimed, given_by, given_transactions}
use Rattle.hw_prims.specs.Timed.{AreLegalTransactions, CarriesInputs, CarriesOutputs, CarriesStarts, Covers, HasInputs, IsTimed, TimedEvent, TimedPort, Transaction, end_of}
use Rattle.fil_lower.proofs.GivenLemmas.{comes_from, given_legal, is_given, same_event}

fixed_end : (p : TimedPort) (hold : ℕ) → p.stays ≡ false → end_of p hold ≡ p.to
fixed_end p hold fixed = ap (λ b. p.to + (if b then hold else 0)) fixed ∙ omega arith

module _ (plan : Plan) (well : IsWellTimed plan) (run : LoweredRun) (low : Acts plan run) (txs : List Transaction) (legal : AreLegalTransactions plan.sig txs) where
  -- an instance starts exactly where it is given a transaction
  inner_starts : (r : ℕ) → r < run.height → ((s : ℕ) → s ≤ r → CarriesStarts plan.sig run.own (run.trace s) txs s) → (inst : Text) →
      CarriesStarts (plan.callee inst).sig (run.cell inst) (run.trace r) (given_transactions plan txs inst) r
  inner_starts r below starts inst n event go is has = (there, back)
    where
      there : run.trace r (run.cell inst go) ≡ 1 → (x : Transaction) × Contains (given_transactions plan txs inst) x × (x.event ≡ n) × (x.start ≡ r)
      there one =
          let s = (low.started r below inst n event go is has).0 one in
          let sum : s.6 + s.3.plus ≡ r = s.7 in
          let t = start_of plan well run low txs legal r below starts s.3.event s.6 (omega arith) s.8 in
          let start : t.0.start ≡ s.6 = t.3 in
          (given_by plan t.0 s.0 s.3, subst (λ name. Contains (given_transactions plan txs name) (given_by plan t.0 s.0 s.3)) s.2 (is_given plan txs t.0 t.1 s.0 s.1 s.3 s.4 (sym t.2)), s.5, omega arith)

      back : ((x : Transaction) × Contains (given_transactions plan txs inst) x × (x.event ≡ n) × (x.start ≡ r)) → run.trace r (run.cell inst go) ≡ 1
      back (x, inside, at, now) =
          let f = comes_from plan txs inst x inside in
          let g = well.triggered f.call f.of_use f.slot f.of_slot in
          let target : f.slot.target ≡ n = ap (λ (z : Transaction). z.event) f.is ∙ at in
          let sum : f.tx.start + f.slot.plus ≡ r = ap (λ (z : Transaction). z.start) f.is ∙ now in
          let theirs : IsEvent (plan.callee inst).sig n g.theirs = subst (λ v. IsEvent (plan.callee inst).sig v g.theirs) target (subst (λ name. IsEvent (plan.callee name).sig f.slot.target g.theirs) f.by g.is_theirs) in
          let same = same_event (plan.callee inst).sig n event g.theirs is theirs in
          let h = g.go go (sym (ap (λ (v : TimedEvent). v.go) same) ∙ has) in
          (low.started r below inst n event go is has).1 (
            f.call,
            f.of_use,
            f.by,
            f.slot,
            f.of_slot,
            target,
            f.tx.start,
            sum,
            subst (λ v. StartsIn plan run v f.tx.start) (sym f.on) (start_by plan well run low txs legal r below starts f.tx f.of_tx (omega arith) g.own h.0 (subst (λ v. IsEvent plan.sig v g.own) f.on g.is_own) h.1),
          )

  -- each instance's inputs carry what it is given
  abbrev InsideCarries : ℕ → Type 0
  InsideCarries s = (inst : Text) → CarriesInputs (plan.callee inst).sig (run.cell inst) (run.trace s) (given_transactions plan txs inst) s

  module _ (timed : AreTimed plan run) (r : ℕ) (below : r < run.height) (starts : (s : ℕ) → s ≤ r → CarriesStarts plan.sig run.own (run.trace s) txs s) (before : (s : ℕ) → s < r → InsideCarries s) where
    -- an output of an instance, where its inputs have what they are given
    output_is : (call : Use) → Contains plan.uses call → (tx : Transaction) → Contains txs tx → (slot : Slot) → Contains call.slots slot → slot.event ≡ tx.event →
        HasInputs (plan.callee call.inst).sig.ins (run.cell call.inst) (run.trace r) (given_by plan tx call slot) r → (p : TimedPort) → Contains (plan.callee call.inst).sig.outs p → Covers p (given_by plan tx call slot) r →
        run.trace r (run.cell call.inst p.name) ≡ (plan.callee call.inst).flow (λ q. value_of plan.callee tx.values (call.args q)) p.name
    output_is call of_use tx of_tx slot of_slot on has p of_p covers =
        timed call of_use (given_transactions plan txs call.inst) (given_legal plan well txs legal call.inst) r below (λ s earlier. before s earlier call.inst)
        (inner_starts r below starts call.inst)
        (given_by plan tx call slot) (is_given plan txs tx of_tx call of_use slot of_slot on) has p of_p covers

    -- in text order: where a value is there, it is the transaction's
    source_is : (tx : Transaction) → Contains txs tx → HasInputs plan.sig.ins run.own (run.trace r) tx r → (source : Source) → IsOfUse plan source → (i : ℕ) → tx.start + i ≡ r → IsAvailable plan source tx.event i →
        source_in run (run.trace r) source ≡ value_of plan.callee tx.values source
    source_is tx of_tx has (Input name) of_use i now (p, of_p, same, event, from, to) =
        let e = fixed_end p tx.hold (well.fixed_ins p of_p) in
        subst (λ n. run.trace r (run.own n) ≡ tx.values n) same (has p of_p (event, omega arith, omega arith))
    source_is tx of_tx has (Literal n) of_use i now available = refl
    source_is tx of_tx has (Output inst slots args port) of_use i now (p, of_p, same, slot, of_slot, target, event, from, to) =
        let call : Use = record { inst = inst; slots = slots; args = args } in
        subst (λ n. run.trace r (run.cell inst n) ≡ (plan.callee inst).flow (λ q. value_of plan.callee tx.values (args q)) n) same
        (output_is call of_use tx of_tx slot of_slot event
        (λ q of_q covers.
        let q_from : tx.start + slot.plus + q.from ≤ r = covers.1 in
        let q_to : r < tx.start + slot.plus + end_of q slot.hold = covers.2 in
        driven_by plan well run low txs legal r below starts call of_use slot of_slot q of_q tx of_tx event covers ∙
        source_is tx of_tx has (args q.name) (well.scoped call of_use q.name) i now
        (subst (λ e. IsAvailable plan (args q.name) e i) event (well.needs call of_use slot of_slot q of_q covers.0 i (omega arith) (omega arith))))
        p of_p (sym target, omega arith, omega arith))

    inside_carries : CarriesInputs plan.sig run.own (run.trace r) txs r → InsideCarries r
    inside_carries carried inst = record {
      values = λ x inside q of_q covers.
          let f = comes_from plan txs inst x inside in
          let in_callee : Contains (plan.callee f.call.inst).sig.ins q = subst (λ n. Contains (plan.callee n).sig.ins q) (sym f.by) of_q in
          let c : Covers q (given_by plan f.tx f.call f.slot) r = subst (λ (z : Transaction). Covers q z r) (sym f.is) covers in
          let q_from : f.tx.start + f.slot.plus + q.from ≤ r = c.1 in
          let q_to : r < f.tx.start + f.slot.plus + end_of q f.slot.hold = c.2 in
          let d = driven_by plan well run low txs legal r below starts f.call f.of_use f.slot f.of_slot q in_callee f.tx f.of_tx f.on c in
          let s = source_is f.tx f.of_tx (carried.values f.tx f.of_tx) (f.call.args q.name) (well.scoped f.call f.of_use q.name) (r - f.tx.start) (omega arith)
          (subst (λ e. IsAvailable plan (f.call.args q.name) e (r - f.tx.start)) f.on (well.needs f.call f.of_use f.slot f.of_slot q in_callee c.0 (r - f.tx.start) (omega arith) (omega arith))) in
          subst (λ n. run.trace r (run.cell n q.name) ≡ x.values q.name) f.by (d ∙ s ∙ ap (λ (z : Transaction). z.values q.name) f.is);
      starts = inner_starts r below starts inst;
    }

  module _ (timed : AreTimed plan run) where
    -- row after row
    inside_before : (n : ℕ) → n ≤ run.height → ((s : ℕ) → s < n → CarriesInputs plan.sig run.own (run.trace s) txs s) → (s : ℕ) → s < n → InsideCarries s
    inside_before zero within carried s earlier = absurd (omega (arith, earlier))
    inside_before (suc n) within carried s earlier =
        let before = inside_before n (omega arith) (λ u h. carried u (omega arith)) in
        elim (cases_lt s n) [
          | inl less ↦ before s less
          | inr ge ↦
              let same : n ≡ s = omega (arith, ge, earlier) in
              subst InsideCarries same (inside_carries timed n (omega arith) (λ u h. (carried u (omega arith)).starts) before (carried n (omega arith)))
        ]

-- starts are carried up to row r, where they are in the rows before and in row r
starts_up_to : (plan : Plan) (run : LoweredRun) (txs : List Transaction) (r : ℕ) → ((s : ℕ) → s < r → CarriesInputs plan.sig run.own (run.trace s) txs s) → CarriesStarts plan.sig run.own (run.trace r) txs r →
    (s : ℕ) → s ≤ r → CarriesStarts plan.sig run.own (run.trace s) txs s
starts_up_to plan run txs r carried now s within =
    elim (cases_lt s r) [
      | inl less ↦ (carried s less).starts
      | inr ge ↦
          let same : r ≡ s = omega (arith, ge, within) in
          subst (λ u. CarriesStarts plan.sig run.own (run.trace u) txs u) same now
    ]

pub acts_timed : (plan : Plan) → IsWellTimed plan → (run : LoweredRun) → Acts plan run → AreTimed plan run → IsTimed (behaviour_of_plan plan) run.own run.height run.trace
acts_timed plan well run low timed txs legal r below carried now tx of_tx has p of_p covers =
    let starts = starts_up_to plan run txs r carried now in
    let before = inside_before plan well run low txs legal timed r (omega arith) carried in
    let e = fixed_end p tx.hold (well.fixed_outs p of_p) in
    let from : tx.start + p.from ≤ r = covers.1 in
    let to : r < tx.start + end_of p tx.hold = covers.2 in
    low.connected r below p of_p ∙
    source_is plan well run low txs legal timed r below starts before tx of_tx has (plan.outputs p.name) (well.outputs_scoped p.name) (r - tx.start) (omega arith)
    (subst (λ v. IsAvailable plan (plan.outputs p.name) v (r - tx.start)) covers.0 (well.connected p of_p (r - tx.start) (omega arith) (omega arith)))

pub lowered_is_timed : LoweredComponentsAreTimed
lowered_is_timed plan well run low = acts_timed plan well run (lowered_acts plan run low)

pub acts_carry : (plan : Plan) → IsWellTimed plan → (run : LoweredRun) → Acts plan run → AreTimed plan run →
    (txs : List Transaction) → AreLegalTransactions plan.sig txs → ((r : ℕ) → r < run.height → CarriesInputs plan.sig run.own (run.trace r) txs r) →
    (inst : Text) (r : ℕ) → r < run.height →
    CarriesInputs (plan.callee inst).sig (run.cell inst) (run.trace r) (given_transactions plan txs inst) r × CarriesOutputs (plan.callee inst) (run.cell inst) (run.trace r) (given_transactions plan txs inst) r
acts_carry plan well run low timed txs legal carried inst r below =
    let all = inside_before plan well run low txs legal timed run.height (omega arith) carried in (
      all r below inst,
      λ x inside.
          let f = comes_from plan txs inst x inside in
          let t = subst (λ n. IsTimed (plan.callee n) (run.cell n) run.height run.trace) f.by (timed f.call f.of_use) in
          t (given_transactions plan txs inst) (given_legal plan well txs legal inst) r below (λ s earlier. all s (omega arith) inst) (all r below inst).starts x inside ((all r below inst).values x inside),
    )

pub instances_carry_all : InstancesCarry
instances_carry_all plan well run low = acts_carry plan well run (lowered_acts plan run low)
