-- A simplified netlist drives each port as the old one does, so it has the same runs and the same Conflicts.
use Rattle.std.proofs.Common.{◌≡◌, ℕ, Bool, true, false, ◌&&◌, cond, List, ◌∷◌, ◌⊎◌, Some, refl, sym, ap, subst, ◌∙◌}
use Rattle.std.specs.Prelude.{slice_get, Contains, bytes_eq}
use Rattle.hw_names.specs.Name.{Text, dotted}
use Rattle.hw_prims.specs.Row.{Row}
use Rattle.hw_prims.specs.Table.{Pin, prim_of, inputs_of, pin_names}
use Rattle.hw_prims.specs.declared.prim.Primitive.{Primitive}
use Rattle.net_core.proofs.CircuitLemmas.{IsWithin, same_conflicts, same_runs, same_stops}
use Rattle.net_core.specs.Circuit.{Drive}
use Rattle.net_core.specs.Guard.{guard_holds, source_value}
use Rattle.net_core.specs.Netlist.{CellLine, Netlist, SetLine}
use Rattle.net_core.specs.NetRun.{HasPin, net_circuit, net_drive, values_for}
use Rattle.net_core.specs.declared.net.Src.{Src}
use Rattle.net_guard.specs.SameRuns.{HaveSameRuns}
use Rattle.net_guard.specs.Simplified.{AreSimplifiedSets, NoSets, Kept, Left, IsSimplified}

-- the values that an assignment of this destination, truth and source gives before others
abbrev first_value : Text → Row → Text → Bool → Src Text → List ℕ → List ℕ
first_value port row dst truth src others = cond (bytes_eq dst port && truth) (source_value row src ∷ others) others

and_false : (b : Bool) → (b && false) ≡ false
and_false true = refl
and_false false = refl

same_values : (olds news : List SetLine) → AreSimplifiedSets olds news → (port : Text) (row : Row) → values_for port row news ≡ values_for port row olds
same_values _ _ NoSets port row = refl
same_values _ _ (Kept old new olds news s rest) port row =
    ap (λ (dst : Text). first_value port row dst (guard_holds row new.guard) new.src (values_for port row news)) s.dst
    ∙ ap (λ (truth : Bool). first_value port row old.dst truth new.src (values_for port row news)) (s.truth row)
    ∙ ap (λ (src : Src Text). first_value port row old.dst (guard_holds row old.guard) src (values_for port row news)) s.src
    ∙ ap (λ (others : List ℕ). first_value port row old.dst (guard_holds row old.guard) old.src others) (same_values olds news rest port row)
same_values _ _ (Left old olds news never rest) port row =
    same_values olds news rest port row
    ∙ sym (ap (λ (truth : Bool). first_value port row old.dst truth old.src (values_for port row olds)) (never row)
    ∙ ap (λ (b : Bool). cond b (source_value row old.src ∷ values_for port row olds) (values_for port row olds)) (and_false (bytes_eq old.dst port)))

-- the same ports and cells, and the same values for each port
record IsAlike (n m : Netlist) : Type 0 where
  ins : n.ins ≡ m.ins
  outs : n.outs ≡ m.outs
  wires : n.wires ≡ m.wires
  cells : n.cells ≡ m.cells
  values : (port : Text) (row : Row) → values_for port row n.sets ≡ values_for port row m.sets

abbrev pub CellIn : List CellLine → Text → Primitive → Type 0
CellIn cells name prim = (k : ℕ) × (cell : CellLine) × (slice_get cells k ≡ Some cell) × (cell.name ≡ name) × (prim_of cell.prim cell.params ≡ Some prim)

abbrev InputIn : List CellLine → Text → Type 0
InputIn cells port = (cell : Text) × (prim : Primitive) × CellIn cells cell prim × (pin : Text) × Contains (pin_names (inputs_of prim)) pin × (dotted cell pin ≡ port)

abbrev WritableIn : List Pin → List Pin → List CellLine → Text → Type 0
WritableIn outs wires cells port = HasPin outs port ⊎ HasPin wires port ⊎ InputIn cells port

alike_within : (n m : Netlist) → IsAlike n m → IsWithin (net_circuit n) (net_circuit m)
alike_within n m same =
    record {
      inputs = λ port has. subst (λ (ins : List Pin). HasPin ins port) same.ins has;
      cells = λ cell prim has. subst (λ (cells : List CellLine). CellIn cells cell prim) same.cells has;
      sinks = λ port drive (writable, is).
          let outs = subst (λ (outs : List Pin). WritableIn outs n.wires n.cells port) same.outs writable in
          let wires = subst (λ (wires : List Pin). WritableIn m.outs wires n.cells port) same.wires outs in
          let cells = subst (λ (cells : List CellLine). WritableIn m.outs m.wires cells port) same.cells wires in
          (net_drive m port, (cells, refl), λ t row. ap (λ (d : Drive). d t row) is ∙ same.values port row);
    }

alike_from : (old new : Netlist) → IsSimplified old new → IsAlike new old
alike_from old new s = record { ins = s.ins; outs = s.outs; wires = s.wires; cells = s.cells; values = λ port row. same_values old.sets new.sets s.sets port row }

alike_back : (n m : Netlist) → IsAlike n m → IsAlike m n
alike_back n m same = record { ins = sym same.ins; outs = sym same.outs; wires = sym same.wires; cells = sym same.cells; values = λ port row. sym (same.values port row) }

pub keeps_runs : (old new : Netlist) → IsSimplified old new → HaveSameRuns old new
keeps_runs old new s =
    let same = alike_from old new s in
    let there = alike_within new old same in
    let back = alike_within old new (alike_back new old same) in
    let conflicts = same_conflicts (net_circuit new) (net_circuit old) there back in
    let conflicts_back = same_conflicts (net_circuit old) (net_circuit new) back there in
    record {
      runs = same_runs (net_circuit new) (net_circuit old) there back;
      stops = λ height trace stop. (same_stops (net_circuit new) (net_circuit old) conflicts height trace stop, same_stops (net_circuit old) (net_circuit new) conflicts_back height trace stop);
      conflicts = conflicts;
    }
