-- Lanes as they are held: what is made of each run is made of each lane, and they stay runs of the netlist.
use Rattle.std.proofs.Common.{◌≡◌, ℕ, zero, suc, ◌<◌, List, [], ◌∷◌, Bool, true, false, Option, Some, None, length, get_or, map, All, refl, sym, ap, subst, ◌∙◌, arith}
use Rattle.std.proofs.lemmas.List.{length-map}
use Rattle.std.proofs.lemmas.Option.{slice_get-get_or, slice_get-map, slice_get_within, same_Some, get_or_from_slice_get}
use Rattle.std.specs.Prelude.{slice_get, option_map}
use Rattle.net_core.specs.Netlist.{netlist_of}
use Rattle.net_core.specs.declared.net.Net.{Net}
use Rattle.net_sim.specs.Layout.{port_names}
use Rattle.net_sim.specs.Sim.{IfRunning, IfStopped, IfEvaluated, IfNotEvaluated, IsRowOfSim, IsEdgeOfSim}
use Rattle.net_sim.specs.declared.sim.Phase.{Phase}
use Rattle.net_sim.specs.declared.sim.Phase.TheVariants.{Fresh, Evaluated, Stepped, Stopped}
use Rattle.net_lanes.specs.Held.{lane_seen, IsRunOf}
use Rattle.net_lanes.specs.Lanes.{Lane, LanesValue, EachChanges, OneChanges, OfLane, IsRowOfLane, IsEdgeOfLane, IsNewLane, AreNewLanes}
use Rattle.net_lanes.specs.declared.lane.TheConstants.{LANES}
use Rattle.net_lanes.specs.declared.lane.LaneRun.{LaneRun}

-- the lanes of these runs
abbrev pub lanes_of : Net → List LaneRun → LanesValue
lanes_of net runs = record { net = net; lanes = map lane_seen runs }

some_at : {A : Type 0} (xs : List A) (k : ℕ) → k < length xs → (x : A) × (slice_get xs k ≡ Some x)
some_at [] k lt = absurd (omega (arith, lt))
some_at (x ∷ xs) zero lt = (x, refl)
some_at (x ∷ xs) (suc k) lt = some_at xs k (omega (arith, lt))

-- the run of a lane
record IsRunAt (runs : List LaneRun) (k : ℕ) (lane : Lane) : Type 0 where
  run : LaneRun
  at : slice_get runs k ≡ Some run
  seen : lane_seen run ≡ lane

run_at : (runs : List LaneRun) (k : ℕ) (lane : Lane) → slice_get (map lane_seen runs) k ≡ Some lane → IsRunAt runs k lane
run_at runs k lane at =
    let within = slice_get_within (map lane_seen runs) k lane at in
    let r = some_at runs k (omega (arith, within, length-map runs lane_seen)) in
    record { run = r.0; at = r.1; seen = same_Some (lane_seen r.0) lane (sym (slice_get-map lane_seen runs k ∙ ap (option_map lane_seen) r.1) ∙ at) }

-- the lane of a run by its number
pub lane_at : (runs : List LaneRun) (k : ℕ) (run : LaneRun) → k < length runs → run ≡ get_or runs k run → slice_get (map lane_seen runs) k ≡ Some (lane_seen run)
lane_at runs k run lt is = slice_get-map lane_seen runs k ∙ ap (option_map lane_seen) (slice_get-get_or runs k run lt ∙ ap (λ (r : LaneRun). Some r) (sym is))

pub run_by : (net : Net) (runs : List LaneRun) (k : ℕ) (run : LaneRun) → k < length runs → run ≡ get_or runs k run → All (IsRunOf net) runs → IsRunOf net run
run_by net runs k run lt is are = subst (IsRunOf net) (sym is) (are k run lt)

module _ (net : Net) (old new : List LaneRun) (all : length new ≡ length old) where
  same_count : length (map lane_seen new) ≡ length (map lane_seen old)
  same_count = length-map new lane_seen ∙ all ∙ sym (length-map old lane_seen)

  pub each_changes : (Changes : ℕ → Lane → Lane → Type 0) → ((k : ℕ) (o n : LaneRun) → slice_get old k ≡ Some o → slice_get new k ≡ Some n → Changes k (lane_seen o) (lane_seen n))
      → EachChanges Changes (lanes_of net old) (lanes_of net new)
  each_changes Changes each = record {
    net = refl;
    count = same_count;
    each = λ k o n at at'.
        let before = run_at old k o at in
        let after = run_at new k n at' in
        subst (λ x. Changes k x n) before.seen (subst (Changes k (lane_seen before.run)) after.seen (each k before.run after.run before.at after.at));
  }

  pub one_changes : (place : ℕ) (Changes : Lane → Lane → Type 0) → ((o n : LaneRun) → slice_get old place ≡ Some o → slice_get new place ≡ Some n → Changes (lane_seen o) (lane_seen n))
      → ((k : ℕ) → (k ≡ place → ⊥) → slice_get new k ≡ slice_get old k) → OneChanges place Changes (lanes_of net old) (lanes_of net new)
  one_changes place Changes one others = record {
    net = refl;
    count = same_count;
    changes = λ o n at at'.
        let before = run_at old place o at in
        let after = run_at new place n at' in
        subst (λ x. Changes x n) before.seen (subst (Changes (lane_seen before.run)) after.seen (one before.run after.run before.at after.at));
    others = λ k ne. slice_get-map lane_seen new k ∙ ap (option_map lane_seen) (others k ne) ∙ sym (slice_get-map lane_seen old k);
  }

  -- where each run stays one of the netlist, all do
  pub all_runs : ((k : ℕ) (o n : LaneRun) → slice_get old k ≡ Some o → slice_get new k ≡ Some n → IsRunOf net o → IsRunOf net n) → All (IsRunOf net) old → All (IsRunOf net) new
  all_runs keeps are k d lt =
      let within : k < length old = omega (arith, lt, all) in
      keeps k (get_or old k d) (get_or new k d) (slice_get-get_or old k d within) (slice_get-get_or new k d lt) (are k d within)

-- ---- a run stays one of the netlist

kept_by : (net : Net) (o n : LaneRun) → lane_seen n ≡ lane_seen o → IsRunOf net o → IsRunOf net n
kept_by net o n same is = record {
  net_is = ap (λ (l : Lane). l.sim.net) same ∙ is.net_is;
  values = ap (λ (l : Lane). length l.sim.values) same ∙ is.values;
}

moved_by : (net : Net) (o n : LaneRun) → n.sim.net ≡ o.sim.net → length n.sim.values ≡ length (port_names (netlist_of o.sim.net)) → IsRunOf net o → IsRunOf net n
moved_by net o n same many is = record {
  net_is = same ∙ is.net_is;
  values = many ∙ ap (λ (m : Net). length (port_names (netlist_of m))) is.net_is;
}

still_by : (net : Net) (o n : LaneRun) → n.sim.net ≡ o.sim.net → n.sim.values ≡ o.sim.values → IsRunOf net o → IsRunOf net n
still_by net o n same values is = record { net_is = same ∙ is.net_is; values = ap length values ∙ is.values }

by_row : (net : Net) (o n : LaneRun) (inputs : List ℕ) (conflict : Option ℕ) (phase : Phase) (rests : Bool) → o.sim.phase ≡ phase → o.rests ≡ rests → IsRowOfLane inputs conflict (lane_seen o) (lane_seen n) → IsRunOf net o → IsRunOf net n
by_row net o n inputs conflict (Stopped port) rests at is row run = kept_by net o n (subst (λ p. IfStopped p (λ q. (lane_seen n ≡ lane_seen o) × (conflict ≡ Some q))) at row.stopped).0 run
by_row net o n inputs conflict Fresh true at is row run = kept_by net o n (subst (λ p. IfRunning p (o.rests ≡ true → (lane_seen n ≡ lane_seen o) × (conflict ≡ None))) at row.resting is).0 run
by_row net o n inputs conflict Evaluated true at is row run = kept_by net o n (subst (λ p. IfRunning p (o.rests ≡ true → (lane_seen n ≡ lane_seen o) × (conflict ≡ None))) at row.resting is).0 run
by_row net o n inputs conflict Stepped true at is row run = kept_by net o n (subst (λ p. IfRunning p (o.rests ≡ true → (lane_seen n ≡ lane_seen o) × (conflict ≡ None))) at row.resting is).0 run
by_row net o n inputs conflict Fresh false at is row run = let made = subst (λ p. IfRunning p (o.rests ≡ false → IsRowOfSim o.sim inputs n.sim conflict)) at row.running is in moved_by net o n made.net made.values run
by_row net o n inputs conflict Evaluated false at is row run = let made = subst (λ p. IfRunning p (o.rests ≡ false → IsRowOfSim o.sim inputs n.sim conflict)) at row.running is in moved_by net o n made.net made.values run
by_row net o n inputs conflict Stepped false at is row run = let made = subst (λ p. IfRunning p (o.rests ≡ false → IsRowOfSim o.sim inputs n.sim conflict)) at row.running is in moved_by net o n made.net made.values run

pub row_keeps : (net : Net) (o n : LaneRun) (inputs : List ℕ) (conflict : Option ℕ) → IsRowOfLane inputs conflict (lane_seen o) (lane_seen n) → IsRunOf net o → IsRunOf net n
row_keeps net o n inputs conflict row run = by_row net o n inputs conflict o.sim.phase o.rests refl refl row run

by_edge : (net : Net) (o n : LaneRun) (phase : Phase) (rests : Bool) → o.sim.phase ≡ phase → o.rests ≡ rests → IsEdgeOfLane (lane_seen o) (lane_seen n) → IsRunOf net o → IsRunOf net n
by_edge net o n phase true at is edge run = kept_by net o n (edge.resting is) run
by_edge net o n Evaluated false at is edge run =
    let made = subst (λ p. IfEvaluated p (o.rests ≡ false → IsEdgeOfSim o.sim n.sim)) at edge.evaluated is in
    still_by net o n made.net made.values run
by_edge net o n Fresh false at is edge run = kept_by net o n (subst (λ p. IfNotEvaluated p (lane_seen n ≡ lane_seen o)) at edge.others) run
by_edge net o n Stepped false at is edge run = kept_by net o n (subst (λ p. IfNotEvaluated p (lane_seen n ≡ lane_seen o)) at edge.others) run
by_edge net o n (Stopped port) false at is edge run = kept_by net o n (subst (λ p. IfNotEvaluated p (lane_seen n ≡ lane_seen o)) at edge.others) run

pub edge_keeps : (net : Net) (o n : LaneRun) → IsEdgeOfLane (lane_seen o) (lane_seen n) → IsRunOf net o → IsRunOf net n
edge_keeps net o n edge run = by_edge net o n o.sim.phase o.rests refl refl edge run

-- ---- new lanes

pub new_lanes : (net : Net) (runs : List LaneRun) → length runs ≡ LANES → All (λ (run : LaneRun). IsNewLane net (lane_seen run)) runs → AreNewLanes net (lanes_of net runs)
new_lanes net runs all each = record {
  net_is = refl;
  count = length-map runs lane_seen ∙ all;
  each = λ k lane at.
      let r = run_at runs k lane at in
      let within = slice_get_within runs k r.run r.at in
      subst (IsNewLane net) r.seen (subst (λ (x : LaneRun). IsNewLane net (lane_seen x)) (get_or_from_slice_get runs k r.run r.run r.at) (each k r.run within));
}

pub new_are_runs : (net : Net) (runs : List LaneRun) → All (λ (run : LaneRun). IsNewLane net (lane_seen run)) runs → All (IsRunOf net) runs
new_are_runs net runs each k d lt = let is = each k d lt in record { net_is = is.sim.net_is; values = is.sim.values }

-- ---- what is true of a run is true of its lane

pub of_lane : (net : Net) (runs : List LaneRun) (k : ℕ) (run : LaneRun) (Claim : Lane → Type 0) → k < length runs → run ≡ get_or runs k run → Claim (lane_seen run) → OfLane (lanes_of net runs) k Claim
of_lane net runs k run Claim lt is claim lane at = subst Claim (same_Some (lane_seen run) lane (sym (lane_at runs k run lt is) ∙ at)) claim
