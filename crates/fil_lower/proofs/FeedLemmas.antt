-- When the argument of an invocation drives its port, said from the plan; and which argument of a lowered invocation drives a port.
use Rattle.std.proofs.Common.{◌≡◌, ◌↔◌, ℕ, zero, suc, ◌+◌, ◌-◌, ◌<◌, ◌≤◌, Bool, true, false, cond, List, [], ◌∷◌, take, slice_get, Option, Some, None, refl, sym, ap, ap₂, subst, ◌∙◌, inl, inr, arith}
use Rattle.std.specs.List.{find}
use Rattle.std.specs.Option.{option_map_or}
use Rattle.std.specs.Prelude.{◌==◌, Contains, bytes_eq, if◌then◌else◌}
use Rattle.std.proofs.lemmas.Bool.{false≢true}
use Rattle.std.proofs.lemmas.Bool.Decides.{Decides-eqb}
use Rattle.std.proofs.lemmas.Option.{none-some, same_Some}
use Rattle.std.proofs.lemmas.Slice.Eq.{bytes_eq-Decides}
use Rattle.hw_names.specs.Name.{Text, AreDistinct}
use Rattle.hw_prims.specs.Row.{Trace}
use Rattle.hw_prims.specs.Timed.{TimedEvent, TimedPort, TimedSignature, end_of}
use Rattle.net_core.specs.Guard.{guard_holds, source_value}
use Rattle.cal_ast.specs.Laws.{local_values}
use Rattle.cal_ast.specs.Tree.{PortName, port_of}
use Rattle.fil_ast.specs.Behaviours.{timed_port}
use Rattle.fil_ast.specs.Rules.{FilRules}
use Rattle.fil_ast.specs.Scope.{Invocation}
use Rattle.fil_ast.specs.Signature.{SigPort, Signature}
use Rattle.fil_ast.specs.Tree.{Component, Design, ValueTree}
use Rattle.fil_share.proofs.ListLemmas.{Contains-at, Contains-here, Contains-there, two_of}
use Rattle.fil_lower.proofs.BitLemmas.{start_was_on, was_on_in, was_on_start}
use Rattle.fil_lower.specs.inside.Lowered.{LoweredRun, StartsIn}
use Rattle.fil_lower.specs.inside.Lowering.{Lowering, argument_set, argument_sets, lowered_value}
use Rattle.fil_lower.specs.inside.Plan.{Plan, Slot, Use}
use Rattle.fil_lower.specs.inside.PlanOf.{plan_of}
use Rattle.fil_lower.specs.inside.PlanRules.{IsEvent, IsWellTimed}
use Rattle.fil_lower.proofs.CellLemmas.{elsewhere_pin}
use Rattle.fil_lower.proofs.ListLemmas.{contains_none, first_or_later}
use Rattle.fil_lower.proofs.NameLemmas.{first_differs, later_distinct, same_element, same_name, sig_names}
use Rattle.fil_lower.proofs.TimedAsLemmas.{IsTimedAs, contains_map}
use Rattle.fil_lower.proofs.ValueLemmas.{first_value, later_values}
use Rattle.fil_lower.proofs.WellLemmas.{call_of, plans_well_timed, timed}

-- ---- when an argument drives

-- row r lies in the port's interval after a start of the slot's event, where `seen` gives the values of interface ports; on an event without one each row does
abbrev pub opened_at : Plan → (Text → ℕ → ℕ) → ℕ → Slot → TimedPort → Bool
opened_at plan seen r slot p =
    option_map_or (λ (event : TimedEvent). option_map_or (λ go. was_on_in (seen go) r (slot.plus + p.from) (slot.plus + end_of p slot.hold - (slot.plus + p.from))) event.go true) (slice_get plan.sig.events slot.event) true

abbrev pub opened_by : Plan → (Text → ℕ → ℕ) → ℕ → List Slot → TimedPort → Bool
opened_by plan seen r slots p = option_map_or (λ (slot : Slot). opened_at plan seen r slot p) (find (λ (slot : Slot). slot.target == p.event) slots) false

-- the argument drives the port of its instance in row r
abbrev pub feeds_of : Plan → (Text → ℕ → ℕ) → Use → Text → ℕ → Bool
feeds_of plan seen call port r = option_map_or (opened_by plan seen r call.slots) (find (λ (p : TimedPort). bytes_eq p.name port) (plan.callee call.inst).sig.ins) false

pub found_one : {X : Type 0} (test : X → Bool) (xs : List X) (x : X) → Contains xs x → test x ≡ true → ((y : X) → Contains xs y → test y ≡ true → y ≡ x) → find test xs ≡ Some x
found_one test [] x has passes only = absurd (contains_none x has)
found_one test (y ∷ xs) x has passes only = by (test y) refl (λ later. found_one test xs x later passes (λ z has_z. only z (Contains-there y xs z has_z)))
  where
    by : (b : Bool) → test y ≡ b → (Contains xs x → find test xs ≡ Some x) → cond b (Some y) (find test xs) ≡ Some x
    by true is later = ap Some (only y (Contains-here y xs) is)
    by false is later = later (elim (first_or_later y xs x has) [ inl same ↦ absurd (false≢true (sym is ∙ ap test same ∙ passes)) | inr there ↦ there ])

-- inputs of one name are one
pub one_input : (b : TimedSignature) (sig : Signature) → IsTimedAs b sig → (p o : TimedPort) → Contains b.ins p → Contains b.ins o → p.name ≡ o.name → p ≡ o
one_input b sig t p o has_p has_o same =
    let x = t.ins p has_p in
    let y = t.ins o has_o in
    let names : x.1.name ≡ y.1.name = ap (λ (z : TimedPort). z.name) x.3 ∙ same ∙ sym (ap (λ (z : TimedPort). z.name) y.3) in
    sym x.3 ∙ ap timed_port (same_element (λ (q : SigPort). q.name) sig.ins x.1 y.1 t.distinct (Contains-at sig.ins x.0 x.1 x.2) (Contains-at sig.ins y.0 y.1 y.2) names) ∙ y.3

module _ (comps : Design) (rules : FilRules comps) (n : ℕ) (c : Component) (here : slice_get comps n ≡ Some c) where
  abbrev plan : Plan
  plan = plan_of (take n comps) c

  -- an argument drives as its port and the slot of the port's event say
  pub feeds_is : (seen : Text → ℕ → ℕ) (call : Use) → Contains plan.uses call → (p : TimedPort) → Contains (plan.callee call.inst).sig.ins p → (slot : Slot) → Contains call.slots slot → slot.target ≡ p.event → (r : ℕ) →
      feeds_of plan seen call p.name r ≡ opened_at plan seen r slot p
  feeds_is seen call has p has_p slot has_slot on r =
      let well : IsWellTimed plan = plans_well_timed comps rules n c here in
      let a = call_of comps rules n c here call has in
      let one : (o : TimedPort) → Contains (plan.callee call.inst).sig.ins o → o.name ≡ p.name → o ≡ p =
      subst (λ (u : Use). Contains (plan.callee u.inst).sig.ins p → (o : TimedPort) → Contains (plan.callee u.inst).sig.ins o → o.name ≡ p.name → o ≡ p) a.is
      (λ has_p' o has_o same. one_input (plan.callee a.v.inst).sig a.is_called.sig (timed comps rules n c here a.v a.is_called) o p has_o has_p' same) has_p in
      let port : find (λ (o : TimedPort). bytes_eq o.name p.name) (plan.callee call.inst).sig.ins ≡ Some p =
      found_one (λ (o : TimedPort). bytes_eq o.name p.name) (plan.callee call.inst).sig.ins p has_p (same_name p.name p.name refl) (λ o has_o is. one o has_o ((bytes_eq-Decides o.name p.name).0 is)) in
      let only : find (λ (s : Slot). s.target == p.event) call.slots ≡ Some slot =
      found_one (λ (s : Slot). s.target == p.event) call.slots slot has_slot ((Decides-eqb slot.target p.event).1 on) (λ s has_s is.
      let same : s.target ≡ slot.target = (Decides-eqb s.target p.event).0 is ∙ sym on in
      elim (two_of (λ (s t : Slot). s.target ≡ t.target → ⊥) call.slots s slot (well.once call has) has_s has_slot) [
        | inl same ↦ same
        | inr (inl differ) ↦ absurd (differ same)
        | inr (inr differ) ↦ absurd (differ (sym same))
      ]) in
      ap (λ (o : Option TimedPort). option_map_or (opened_by plan seen r call.slots) o false) port
      ∙ ap (λ (o : Option Slot). option_map_or (λ (s : Slot). opened_at plan seen r s p) o false) only

  -- ---- in the rows of a run

  module _ (own : Text → Text) (cell : Text → Text → Text) (height : ℕ) (trace : Trace) where
    abbrev seen : Text → ℕ → ℕ
    seen go u = trace u (own go)

    -- its rows, where arguments drive so
    abbrev pub fed_run : LoweredRun
    fed_run = record { own = own; cell = cell; feeds = feeds_of plan seen; height = height; trace = trace }

    pub fed_rows : (r : ℕ) (call : Use) → Contains plan.uses call → (slot : Slot) → Contains call.slots slot → (p : TimedPort) → Contains (plan.callee call.inst).sig.ins p → p.event ≡ slot.target →
        (event : TimedEvent) (go : Text) → IsEvent plan.sig slot.event event → event.go ≡ Some go →
        (fed_run.feeds call p.name r ≡ true) ↔ ((u : ℕ) × StartsIn plan fed_run slot.event u × (u + slot.plus + p.from ≤ r) × (r < u + slot.plus + end_of p slot.hold))
    fed_rows r call has slot has_slot p has_p on event go is is_go =
        let count = slot.plus + end_of p slot.hold - (slot.plus + p.from) in
        let opened : fed_run.feeds call p.name r ≡ was_on_in (seen go) r (slot.plus + p.from) count =
        feeds_is seen call has p has_p slot has_slot (sym on) r
        ∙ ap (λ (o : Option TimedEvent). option_map_or (λ (e : TimedEvent). option_map_or (λ go. was_on_in (seen go) r (slot.plus + p.from) count) e.go true) o true) is
        ∙ ap (λ (o : Option Text). option_map_or (λ go. was_on_in (seen go) r (slot.plus + p.from) count) o true) is_go in (
          (λ fed.
              let m = was_on_start (seen go) r (slot.plus + p.from) count (sym opened ∙ fed) in
              (m.0, record { event = event; is = is; go = go; has = is_go; on = m.1 }, omega (arith, m.2), omega (arith, m.2, m.3))),
          λ m.
              let s = m.1 in
              let same : event ≡ s.event = same_Some event s.event (sym is ∙ s.is) in
              let name : s.go ≡ go = same_Some s.go go (sym s.has ∙ sym (ap (λ (e : TimedEvent). e.go) same) ∙ is_go) in
              opened ∙ start_was_on (seen go) r (slot.plus + p.from) count m.0 (ap (λ (x : Text). seen x m.0) (sym name) ∙ s.on) (omega (arith, m.2)) (omega (arith, m.2, m.3)),
        )

    pub always_fed : (r : ℕ) (call : Use) → Contains plan.uses call → (slot : Slot) → Contains call.slots slot → (p : TimedPort) → Contains (plan.callee call.inst).sig.ins p → p.event ≡ slot.target →
        (event : TimedEvent) → IsEvent plan.sig slot.event event → event.go ≡ None → fed_run.feeds call p.name r ≡ true
    always_fed r call has slot has_slot p has_p on event is none =
        let count = slot.plus + end_of p slot.hold - (slot.plus + p.from) in
        feeds_is seen call has p has_p slot has_slot (sym on) r
        ∙ ap (λ (o : Option TimedEvent). option_map_or (λ (e : TimedEvent). option_map_or (λ go. was_on_in (seen go) r (slot.plus + p.from) count) e.go true) o true) is
        ∙ ap (λ (o : Option Text). option_map_or (λ go. was_on_in (seen go) r (slot.plus + p.from) count) o true) none

-- ---- which argument drives a port

module _ (see : PortName → ℕ) (l : Lowering) (v : Invocation) where
  pub no_argument : (name : Text) (ports : List SigPort) (args : List ValueTree) → (Contains (sig_names ports) name → ⊥) → local_values see (port_of v.inst name) (argument_sets l v ports args) ≡ []
  no_argument name [] args absent = refl
  no_argument name (q ∷ ports) [] absent = refl
  no_argument name (q ∷ ports) (arg ∷ args) absent =
      later_values see (port_of v.inst name) (argument_set l v q arg) (argument_sets l v ports args)
      (elsewhere_pin see (port_of v.inst name) (argument_set l v q arg) (λ same. absent (0, omega arith, same)))
      ∙ no_argument name ports args (λ there. absent (Contains-there q.name (sig_names ports) name there))

  -- an argument, if its guard is true
  abbrev pub driven_by : SigPort → ValueTree → List ℕ
  driven_by q arg = if guard_holds see (argument_set l v q arg).guard then source_value see (lowered_value l arg) ∷ [] else []

  pub argument_at : (ports : List SigPort) (args : List ValueTree) (k : ℕ) (q : SigPort) (arg : ValueTree) → AreDistinct (sig_names ports) → slice_get ports k ≡ Some q → slice_get args k ≡ Some arg →
      local_values see (port_of v.inst q.name) (argument_sets l v ports args) ≡ driven_by q arg
  argument_at [] args k q arg distinct at_q at_arg = absurd (none-some q at_q)
  argument_at (p ∷ ports) [] k q arg distinct at_q at_arg = absurd (none-some arg at_arg)
  argument_at (p ∷ ports) (a ∷ args) zero q arg distinct at_q at_arg =
      let same : p ≡ q = same_Some p q at_q in
      let port = port_of v.inst q.name in
      first_value see port (argument_set l v p a) (argument_sets l v ports args) (ap (λ (x : SigPort). port_of v.inst x.name) same)
      ∙ ap (λ (rest : List ℕ). if guard_holds see (argument_set l v p a).guard then source_value see (lowered_value l a) ∷ rest else rest)
      (no_argument q.name ports args (λ there. first_differs p.name (sig_names ports) q.name distinct there (ap (λ (x : SigPort). x.name) same)))
      ∙ ap₂ driven_by same (same_Some a arg at_arg)
  argument_at (p ∷ ports) (a ∷ args) (suc k) q arg distinct at_q at_arg =
      let has : Contains (sig_names ports) q.name = contains_map (λ (x : SigPort). x.name) ports q (Contains-at ports k q at_q) in
      later_values see (port_of v.inst q.name) (argument_set l v p a) (argument_sets l v ports args)
      (elsewhere_pin see (port_of v.inst q.name) (argument_set l v p a) (first_differs p.name (sig_names ports) q.name distinct has))
      ∙ argument_at ports args k q arg (later_distinct p.name (sig_names ports) distinct) at_q at_arg
