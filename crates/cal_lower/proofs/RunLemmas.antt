-- A run of one circuit is a run of another where, in the rows of this run, the sinks of the other are driven alike, and no further sink has a Conflict.
use Rattle.std.proofs.Common.{◌≡◌, ℕ, ◌<◌, ◌≤◌, List, length, Option, Some, None, ◌∙◌, sym, ap, subst, inl, inr, arith}
use Rattle.hw_names.specs.Name.{Text}
use Rattle.hw_prims.specs.Row.{Trace}
use Rattle.hw_prims.specs.declared.prim.Primitive.{Primitive}
use Rattle.net_core.specs.Circuit.{Circuit, Drive, settled, states_before, IsRow, HasConflict, IsRun, Stops}
use Rattle.cal_ast.specs.CalRun.{IsStoppedRun}

-- in the rows of this run each input, cell and sink of d is one of c, driven alike, and a sink of c that has a Conflict is one of d
pub record ShowsIn (c d : Circuit) (height : ℕ) (trace : Trace) : Type 0 where
  pub inputs : (port : Text) → d.Input port → c.Input port
  pub cells : (cell : Text) (prim : Primitive) → d.Cell cell prim → c.Cell cell prim
  pub sinks : (port : Text) (drive : Drive) → d.Sink port drive →
      (other : Drive) × c.Sink port other × ((t : ℕ) → t < height → other t (trace t) ≡ drive t (trace t))
  pub back : (t : ℕ) (port : Text) (drive : Drive) → t < height → c.Sink port drive → 2 ≤ length (drive t (trace t)) →
      (other : Drive) × d.Sink port other × (drive t (trace t) ≡ other t (trace t))

module _ (c d : Circuit) (asked : ℕ) (inputs : Trace) (loads : Text → List ℕ) (height : ℕ) (trace : Trace) (shows : ShowsIn c d height trace) where
  abbrev Clash : List ℕ → Type 0
  Clash values = 2 ≤ length values

  -- a Conflict of the one is one of the other
  conflict_there : (t : ℕ) (port : Text) → t < height → HasConflict d t (trace t) port → HasConflict c t (trace t) port
  conflict_there t port within conflict =
      let s = shows.sinks port conflict.drive conflict.sink in
      record { drive = s.0; sink = s.1; clash = subst Clash (sym (s.2 t within)) conflict.clash }

  conflict_back : (t : ℕ) (port : Text) → t < height → HasConflict c t (trace t) port → HasConflict d t (trace t) port
  conflict_back t port within conflict =
      let s = shows.back t port conflict.drive within conflict.sink conflict.clash in
      record { drive = s.0; sink = s.1; clash = subst Clash s.2 conflict.clash }

  row_is : (t : ℕ) → t < height → IsRow c t (inputs t) (states_before t trace loads) (trace t) → IsRow d t (inputs t) (states_before t trace loads) (trace t)
  row_is t within row = record {
    given = λ port has. row.given port (shows.inputs port has);
    driven = λ port drive has. let s = shows.sinks port drive has in row.driven port s.0 s.1 ∙ ap settled (s.2 t within);
    computed = λ cell prim has. row.computed cell prim (shows.cells cell prim has);
  }

  run_is : IsRun c asked inputs loads height trace → IsRun d asked inputs loads height trace
  run_is run = record {
    rows = λ t within. row_is t within (run.rows t within);
    goes_on = λ t less port conflict. run.goes_on t less port (conflict_there t port (omega arith) conflict);
    ends = elim run.ends [
      | inl all ↦ inl all
      | inr (less, (t, last, port, conflict)) ↦ inr (less, (t, last, port, conflict_back t port (omega arith) conflict))
    ];
  }

  stops_are : (stop : Option Text) → Stops c height trace stop → Stops d height trace stop
  stops_are None stops = λ t port within conflict. stops t port within (conflict_there t port within conflict)
  stops_are (Some port) (t, last, reported) = (
    t,
    last,
    record {
      has = conflict_back t port (omega arith) reported.has;
      least = λ other conflict. reported.least other (conflict_there t other (omega arith) conflict);
    },
  )

  pub shown_run : (stop : Option Text) → IsStoppedRun c asked inputs loads height trace stop → IsStoppedRun d asked inputs loads height trace stop
  shown_run stop run = record { run = run_is run.run; stops = stops_are stop run.stops }
