-- Values of one event feed no other.
use Rattle.std.proofs.Common.{◌≡◌, ℕ, ◌+◌, ◌<◌, refl, sym, subst, ◌∙◌, arith}
use Rattle.std.specs.Prelude.{Contains}
use Rattle.hw_prims.specs.Timed.{TimedPort, Values, end_of}
use Rattle.fil_lower.specs.Separate.{IsSeparate}
use Rattle.fil_lower.specs.inside.Laws.{IsNeeded, ValuesStaySeparate}
use Rattle.fil_lower.specs.inside.Plan.{Input, Literal, Output, Plan, Source, Use, value_of}
use Rattle.fil_lower.specs.inside.PlanRules.{IsAvailable, IsEvent, IsOfUse, IsWellTimed}

module _ (plan : Plan) (well : IsWellTimed plan) (callees : (call : Use) → Contains plan.uses call → IsSeparate (plan.callee call.inst) × IsNeeded (plan.callee call.inst).sig)
    (v w : Values) (n : ℕ) (same : (p : TimedPort) → Contains plan.sig.ins p → p.event ≡ n → v p.name ≡ w p.name) where
  -- on inputs that agree on event n, a value that is there after a start of event n is the same
  pub agrees : (source : Source) → IsOfUse plan source → (i : ℕ) → IsAvailable plan source n i → value_of plan.callee v source ≡ value_of plan.callee w source
  agrees (Input name) of_use i (p, of_p, is, event, from, to) = subst (λ x. v x ≡ w x) is (same p of_p event)
  agrees (Literal value) of_use i available = refl
  agrees (Output inst slots args port) of_use i (p, of_p, is, slot, of_slot, target, event, from, to) =
      let call : Use = record { inst = inst; slots = slots; args = args } in
      let c = callees call of_use in
      let g = well.triggered call of_use slot of_slot in
      subst (λ x. (plan.callee inst).flow (λ q. value_of plan.callee v (args q)) x ≡ (plan.callee inst).flow (λ q. value_of plan.callee w (args q)) x) is
      (c.0 p of_p (λ q. value_of plan.callee v (args q)) (λ q. value_of plan.callee w (args q))
      (λ q of_q at.
      let here : q.event ≡ slot.target = at ∙ sym target in
      let needed : q.from < end_of q slot.hold = c.1 q of_q g.theirs (subst (λ x. IsEvent (plan.callee inst).sig x g.theirs) (sym here) g.is_theirs) slot.hold g.held in
      agrees (args q.name) (well.scoped call of_use q.name) (slot.plus + q.from)
      (subst (λ x. IsAvailable plan (args q.name) x (slot.plus + q.from)) event (well.needs call of_use slot of_slot q of_q here (slot.plus + q.from) (omega arith) (omega arith)))))

pub values_separate : ValuesStaySeparate
values_separate plan well callees promised o of_o v w same =
    agrees plan well callees v w o.event same (plan.outputs o.name) (well.outputs_scoped o.name) o.from (well.connected o of_o o.from (omega arith) (promised o of_o))
