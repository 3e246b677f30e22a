-- What a row and an edge leave as it was. This project's.
use Rattle.std.proofs.Common.{◌≡◌, ℕ, List, length, Option, sym, ap, ◌∙◌}
use Rattle.net_core.specs.Netlist.{netlist_of}
use Rattle.net_sim.specs.Layout.{port_names}
use Rattle.net_sim.specs.Shown.{shown_cells}
use Rattle.net_sim.specs.Sim.{SimValue, IsRowOfSim, IsEdgeOfSim, IfRunning, IfStopped, IfEvaluated, IfNotEvaluated}
use Rattle.net_sim.specs.declared.sim.Phase.{Phase}
use Rattle.net_sim.specs.declared.sim.Phase.TheVariants.{Fresh, Evaluated, Stepped, Stopped}
use Rattle.row_tests.specs.Pairs.{IsPair}

-- the netlist, and how many ports have a value
abbrev pub KeepsShape : SimValue → SimValue → Type 0
KeepsShape old new = (new.net ≡ old.net) × (length new.values ≡ length old.values)

same_shape : (old new : SimValue) → new ≡ old → KeepsShape old new
same_shape old new same = (ap (λ sim. sim.net) same, ap (λ sim. length sim.values) same)

by_stopped : {A C : Type 0} {B : ℕ → Type 0} (phase : Phase) → (A → C) → ((port : ℕ) → B port → C) → IfRunning phase A → IfStopped phase B → C
by_stopped Fresh f g a b = f a
by_stopped Evaluated f g a b = f a
by_stopped Stepped f g a b = f a
by_stopped (Stopped port) f g a b = g port b

by_evaluated : {A B C : Type 0} (phase : Phase) → (A → C) → (B → C) → IfEvaluated phase A → IfNotEvaluated phase B → C
by_evaluated Fresh f g a b = g b
by_evaluated Evaluated f g a b = f a
by_evaluated Stepped f g a b = g b
by_evaluated (Stopped port) f g a b = g b

row_keeps : (E : ℕ → Type 0) (old new : SimValue) (inputs : List ℕ) (conflict : Option ℕ) → length old.values ≡ length (port_names (netlist_of old.net)) → IfRunning old.phase (IsRowOfSim old inputs new conflict) → IfStopped old.phase (λ port. (new ≡ old) × E port) → KeepsShape old new
row_keeps E old new inputs conflict all running stopped =
    by_stopped old.phase (λ row. (row.net, row.values ∙ sym all)) (λ port same. same_shape old new same.0) running stopped

edge_keeps : (old new : SimValue) → IfEvaluated old.phase (IsEdgeOfSim old new) → IfNotEvaluated old.phase (new ≡ old) → KeepsShape old new
edge_keeps old new = by_evaluated old.phase (λ edge. (edge.net, ap length edge.values)) (same_shape old new)

pair_keeps : (ports shown : ℕ) (plain flat plain_after flat_after : SimValue) → IsPair ports shown plain flat → KeepsShape plain plain_after → KeepsShape flat flat_after → IsPair ports shown plain_after flat_after
pair_keeps ports shown plain flat plain_after flat_after (same, all, in_plain, in_flat, memories) (net, values) (other_net, other_values) = (
  other_net ∙ same ∙ sym net,
  all ∙ ap (λ n. length (port_names (netlist_of n))) (sym net),
  values ∙ in_plain,
  other_values ∙ in_flat,
  memories ∙ ap (λ n. length (shown_cells (netlist_of n))) (sym net),
)

-- a row of both
pub rows_keep : (E F : ℕ → Type 0) (ports shown : ℕ) (plain flat plain_after flat_after : SimValue) (inputs : List ℕ) (conflict other : Option ℕ) → IsPair ports shown plain flat → IfRunning plain.phase (IsRowOfSim plain inputs plain_after conflict) → IfStopped plain.phase (λ port. (plain_after ≡ plain) × E port) → IfRunning flat.phase (IsRowOfSim flat inputs flat_after other) → IfStopped flat.phase (λ port. (flat_after ≡ flat) × F port) → IsPair ports shown plain_after flat_after × (plain_after.net ≡ plain.net)
rows_keep E F ports shown plain flat plain_after flat_after inputs conflict other (same, all, in_plain, in_flat, memories) running stopped other_running other_stopped =
    let kept = row_keeps E plain plain_after inputs conflict (in_plain ∙ all) running stopped in
    let other_all = in_flat ∙ all ∙ ap (λ n. length (port_names (netlist_of n))) (sym same) in
    let other_kept = row_keeps F flat flat_after inputs other other_all other_running other_stopped in
    (pair_keeps ports shown plain flat plain_after flat_after (same, all, in_plain, in_flat, memories) kept other_kept, kept.0)

-- an edge of both
pub edges_keep : (ports shown : ℕ) (plain flat plain_after flat_after : SimValue) → IsPair ports shown plain flat → IfEvaluated plain.phase (IsEdgeOfSim plain plain_after) → IfNotEvaluated plain.phase (plain_after ≡ plain) → IfEvaluated flat.phase (IsEdgeOfSim flat flat_after) → IfNotEvaluated flat.phase (flat_after ≡ flat) → IsPair ports shown plain_after flat_after × (plain_after.net ≡ plain.net)
edges_keep ports shown plain flat plain_after flat_after pair stepped still other_stepped other_still =
    let kept = edge_keeps plain plain_after stepped still in
    (pair_keeps ports shown plain flat plain_after flat_after pair kept (edge_keeps flat flat_after other_stepped other_still), kept.0)
