-- Circuits whose sinks are driven alike have the same rows, the same Conflicts and the same runs.
use Rattle.std.proofs.Common.{◌≡◌, ℕ, ◌≤◌, List, length, ◌∙◌, sym, ap, subst, inl, inr}
use Rattle.std.specs.Prelude.{◌↔◌}
use Rattle.hw_names.specs.Name.{Text}
use Rattle.hw_prims.specs.Row.{Row, Trace}
use Rattle.hw_prims.specs.State.{State}
use Rattle.hw_prims.specs.declared.prim.Primitive.{Primitive}
use Rattle.net_core.specs.Circuit.{Circuit, Drive, settled, IsRow, HasConflict, IsRun}

-- each input, cell and sink of the one circuit is one of the other, and the sinks are driven alike in each row
pub record IsWithin (c d : Circuit) : Type 0 where
  pub inputs : (port : Text) → c.Input port → d.Input port
  pub cells : (cell : Text) (prim : Primitive) → c.Cell cell prim → d.Cell cell prim
  pub sinks : (port : Text) (drive : Drive) → c.Sink port drive → (other : Drive) × d.Sink port other × ((t : ℕ) (row : Row) → drive t row ≡ other t row)

pub conflict_within : (c d : Circuit) → IsWithin c d → (t : ℕ) (row : Row) (port : Text) → HasConflict c t row port → HasConflict d t row port
conflict_within c d within t row port conflict =
    let s = within.sinks port conflict.drive conflict.sink in
    record { drive = s.0; sink = s.1; clash = subst (λ (values : List ℕ). 2 ≤ length values) (s.2 t row) conflict.clash }

pub row_within : (c d : Circuit) → IsWithin c d → (t : ℕ) (inputs : Row) (states : Text → Primitive → State) (row : Row) → IsRow d t inputs states row → IsRow c t inputs states row
row_within c d within t inputs states row is = record {
  given = λ port has. is.given port (within.inputs port has);
  driven = λ port drive has. let s = within.sinks port drive has in is.driven port s.0 s.1 ∙ ap settled (sym (s.2 t row));
  computed = λ cell prim has. is.computed cell prim (within.cells cell prim has);
}

run_within : (c d : Circuit) → IsWithin c d → IsWithin d c → (asked : ℕ) (inputs : Trace) (loads : Text → List ℕ) (height : ℕ) (trace : Trace) → IsRun d asked inputs loads height trace → IsRun c asked inputs loads height trace
run_within c d there back asked inputs loads height trace run = record {
  rows = λ t less. row_within c d there t (inputs t) _ (trace t) (run.rows t less);
  goes_on = λ t less port conflict. run.goes_on t less port (conflict_within c d there t (trace t) port conflict);
  ends = elim run.ends [
    | inl all ↦ inl all
    | inr (less, (t, last, port, conflict)) ↦ inr (less, (t, last, port, conflict_within d c back t (trace t) port conflict))
  ];
}

-- circuits that are within one another have the same runs
pub same_runs : (c d : Circuit) → IsWithin c d → IsWithin d c → (asked : ℕ) (inputs : Trace) (loads : Text → List ℕ) (height : ℕ) (trace : Trace) → IsRun c asked inputs loads height trace ↔ IsRun d asked inputs loads height trace
same_runs c d there back asked inputs loads height trace =
    (run_within d c back there asked inputs loads height trace, run_within c d there back asked inputs loads height trace)

-- and the same Conflicts
pub same_conflicts : (c d : Circuit) → IsWithin c d → IsWithin d c → (t : ℕ) (row : Row) (port : Text) → HasConflict c t row port ↔ HasConflict d t row port
same_conflicts c d there back t row port = (conflict_within c d there t row port, conflict_within d c back t row port)
