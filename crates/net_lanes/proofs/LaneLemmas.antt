-- The laws of a lane, from those of its simulation.
use Rattle.std.proofs.Common.{◌≡◌, ℕ, List, true, false, Option, None, Some, inl, inr, refl, ap, subst, ◌∙◌}
use Rattle.net_sim.proofs.StandsLemmas.{stands_at_next, ends_in_its_conflict}
use Rattle.net_sim.specs.Sim.{IsEdgeOfSim, IfRunning, IfStopped, IfEvaluated, IfNotEvaluated}
use Rattle.net_sim.specs.declared.sim.Phase.{Phase}
use Rattle.net_sim.specs.declared.sim.Phase.TheVariants.{Fresh, Evaluated, Stepped, Stopped}
use Rattle.net_lanes.specs.LaneRuns.{LanesGoOn, LanesEndInTheirConflicts, LanesStay}
use Rattle.net_lanes.specs.Lanes.{Lane, IsRowOfLane}

-- ---- by phases

running_is : (phase : Phase) (claim : Type 0) → ((port : ℕ) → phase ≡ Stopped port → ⊥) → IfRunning phase claim → claim
running_is Fresh claim never is = is
running_is Evaluated claim never is = is
running_is Stepped claim never is = is
running_is (Stopped port) claim never is = absurd (never port refl)

-- ---- the laws of lanes

never_stopped : (old new : Lane) (values : List ℕ) → IsRowOfLane values None old new → (port : ℕ) → old.sim.phase ≡ Stopped port → ⊥
never_stopped old new values row port is =
    let told = subst (λ phase. IfStopped phase (λ p. (new ≡ old) × (let none : Option ℕ = None in none ≡ Some p))) is row.stopped in
    let bad : ◌≡◌ {A = Option ℕ} None (Some port) = told.1 in absurd cc

pub lanes_go_on : LanesGoOn
lanes_go_on n old new next t inputs values loads trace stands given wakes row edge =
    let made = running_is old.sim.phase _ (never_stopped old new values row) row.running wakes in
    let still = row.rests ∙ wakes in
    let moved = subst (λ phase. IfEvaluated phase (new.rests ≡ false → IsEdgeOfSim new.sim next.sim)) made.phase edge.evaluated in
    stands_at_next n old.sim new.sim next.sim t inputs values loads trace stands given made (moved still)

pub lanes_end_in_their_conflicts : LanesEndInTheirConflicts
lanes_end_in_their_conflicts n old new t asked inputs values port loads trace lt stands given wakes never row =
    let made = running_is old.sim.phase _ (λ p is. never (p, is)) row.running wakes in
    ends_in_its_conflict n old.sim new.sim t asked inputs values port loads trace lt stands given made

row_stays : (phase : Phase) (old new : Lane) (values : List ℕ) (conflict : Option ℕ) → old.sim.phase ≡ phase → old.rests ≡ true → IsRowOfLane values conflict old new → new ≡ old
row_stays Fresh old new values conflict is rests row = (subst (λ p. IfRunning p (old.rests ≡ true → (new ≡ old) × (conflict ≡ None))) is row.resting rests).0
row_stays Evaluated old new values conflict is rests row = (subst (λ p. IfRunning p (old.rests ≡ true → (new ≡ old) × (conflict ≡ None))) is row.resting rests).0
row_stays Stepped old new values conflict is rests row = (subst (λ p. IfRunning p (old.rests ≡ true → (new ≡ old) × (conflict ≡ None))) is row.resting rests).0
row_stays (Stopped port) old new values conflict is rests row = (subst (λ p. IfStopped p (λ q. (new ≡ old) × (conflict ≡ Some q))) is row.stopped).0

pub lanes_stay : LanesStay
lanes_stay old new next values conflict (inl rests) row edge =
    let same = row_stays old.sim.phase old new values conflict refl rests row in
    edge.resting (ap (λ (l : Lane). l.rests) same ∙ rests) ∙ same
lanes_stay old new next values conflict (inr stopped) row edge =
    let same = (subst (λ p. IfStopped p (λ q. (new ≡ old) × (conflict ≡ Some q))) stopped.1 row.stopped).0 in
    let phase : new.sim.phase ≡ Stopped stopped.0 = ap (λ (l : Lane). l.sim.phase) same ∙ stopped.1 in
    subst (λ p. IfNotEvaluated p (next ≡ new)) phase edge.others ∙ same
