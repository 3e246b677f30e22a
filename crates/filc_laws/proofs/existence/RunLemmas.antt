-- A run that is printed has an outcome.
use Rattle.std.proofs.Common.{◌≡◌, ℕ, suc, Option, None, Some, inl, inr, refl, subst, arith}
use Rattle.hw_names.specs.Name.{Text}
use Rattle.hw_prims.specs.Row.{Trace}
use Rattle.net_core.specs.Circuit.{Stops}
use Rattle.net_core.specs.Graph.{HasNoLoop}
use Rattle.net_core.specs.NetRun.{net_circuit}
use Rattle.net_core.specs.Rules.{IsValid}
use Rattle.net_runs.proofs.NetRunLemmas.{netlists_have_runs}
use Rattle.filc_report.specs.Runs.{IsRunOf, PrintedRun, RunComes, run_text, text_to}
use Rattle.filc_stop.specs.Outcome.{Outcome, conflict_after, done_with}

module _ (p : PrintedRun) where
  all_rows : (height : ℕ) (trace : Trace) → IsRunOf p height trace → Stops (net_circuit p.net) height trace None → height ≡ p.cycles
  all_rows height trace run clean = elim run.ends [
    | inl all ↦ all
    | inr (less, (t, last, port, clash)) ↦ absurd (clean t port (omega (arith, last)) clash)
  ]

  outcome_of : (height : ℕ) (trace : Trace) (stop : Option Text) → IsRunOf p height trace → Stops (net_circuit p.net) height trace stop → (o : Outcome) × RunComes p o
  outcome_of height trace None run clean =
      let all = all_rows height trace run clean in (
        done_with (run_text p trace),
        inr (record {
          trace = trace;
          run = subst (λ (h : ℕ). IsRunOf p h trace) all run;
          clean = λ t port less clash. clean t port (omega (arith, less, all)) clash;
          outcome = refl;
        }),
      )
  outcome_of height trace (Some port) run (t, last, reported) =
      let is : height ≡ suc t = omega (arith, last) in (
        conflict_after (text_to p trace t) t port,
        inl (record {
          trace = trace;
          row = t;
          port = port;
          run = subst (λ (h : ℕ). IsRunOf p h trace) is run;
          reported = reported;
          outcome = refl;
        }),
      )

  pub run_comes : IsValid p.net → HasNoLoop p.net → (o : Outcome) × RunComes p o
  run_comes valid no_loop =
      let r = netlists_have_runs p.net valid no_loop p.cycles p.inputs p.loads in
      outcome_of r.height r.trace r.stop r.run r.stops
