-- The rows of an orderly circuit, one after another, each from the states that those before it leave.
use Rattle.std.proofs.Common.{◌≡◌, ℕ, zero, suc, List, refl, sym, ap, subst}
use Rattle.hw_names.specs.Name.{Text, dotted}
use Rattle.hw_prims.specs.Meaning.{next_state, opening_state}
use Rattle.hw_prims.specs.Row.{Trace, values_at}
use Rattle.hw_prims.specs.State.{State}
use Rattle.hw_prims.specs.Table.{inputs_of, pin_names}
use Rattle.hw_prims.specs.declared.prim.Primitive.{Primitive}
use Rattle.net_core.specs.Circuit.{Circuit, IsRow, IsComputed, states_before}
use Rattle.net_runs.proofs.ConflictLemmas.{reported_or_not}
use Rattle.net_runs.proofs.OrderlyLemmas.{IsOrderly, row_made, row_is}
use Rattle.net_runs.proofs.StopLemmas.{ending}
use Rattle.net_runs.specs.StoppedRun.{HasRun}

module _ (c : Circuit) (ports : List Text) (Reads : Text → Text → Type 0) (orderly : IsOrderly c ports Reads) (asked : ℕ) (inputs : Trace) (loads : Text → List ℕ) where
  abbrev states_at : ℕ → Text → Primitive → State
  states_at zero = λ cell prim. opening_state prim (loads cell)
  states_at (suc t) = λ cell prim. next_state prim (states_at t cell prim) (values_at (row_made c ports Reads orderly t (inputs t) (states_at t)) (dotted cell) (pin_names (inputs_of prim)))

  abbrev trace : Trace
  trace t = row_made c ports Reads orderly t (inputs t) (states_at t)

  states_are : (t : ℕ) (cell : Text) (prim : Primitive) → states_before t trace loads cell prim ≡ states_at t cell prim
  states_are zero cell prim = refl
  states_are (suc t) cell prim = ap (λ (s : State). next_state prim s (values_at (trace t) (dotted cell) (pin_names (inputs_of prim)))) (states_are t cell prim)

  rows : (t : ℕ) → IsRow c t (inputs t) (states_before t trace loads) (trace t)
  rows t =
      let r = row_is c ports Reads orderly t (inputs t) (states_at t) in
      record {
        given = r.given;
        driven = r.driven;
        computed = λ cell prim is. subst (λ (s : State). IsComputed (trace t) cell prim s) (sym (states_are t cell prim)) (r.computed cell prim is);
      }

  -- an orderly circuit has a run
  pub orderly_has_run : HasRun c asked inputs loads
  orderly_has_run =
      let e = ending c trace (λ t. reported_or_not c ports Reads orderly t (trace t)) asked inputs loads rows in
      record { height = e.height; trace = trace; stop = e.stop; run = e.run; stops = e.stops }
