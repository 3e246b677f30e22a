-- A trace of rows is a run up to its first Conflict.
use Rattle.std.proofs.Common.{◌≡◌, ◌⊎◌, inl, inr, ℕ, zero, suc, ◌+◌, ◌<◌, List, Some, None, Option, refl, subst, arith}
use Rattle.std.proofs.lemmas.Bool.{cases_lt, cases_eq}
use Rattle.hw_names.specs.Name.{Text}
use Rattle.hw_prims.specs.Row.{Trace}
use Rattle.net_core.specs.Circuit.{Circuit, IsRow, HasConflict, IsReported, EndsInConflict, IsRun, Stops, states_before}

-- how the trace, as a run for `asked` rows, ends
pub record Ending (c : Circuit) (trace : Trace) (asked : ℕ) (inputs : Trace) (loads : Text → List ℕ) : Type 0 where
  pub height : ℕ
  pub stop : Option Text
  pub run : IsRun c asked inputs loads height trace
  pub stops : Stops c height trace stop

module _ (c : Circuit) (trace : Trace) (reported_or_not : (t : ℕ) → ((port : Text) × IsReported c t (trace t) port) ⊎ ((port : Text) → HasConflict c t (trace t) port → ⊥)) where
  -- no row before this one has a Conflict
  abbrev IsClean : ℕ → Type 0
  IsClean count = (t : ℕ) (port : Text) → t < count → HasConflict c t (trace t) port → ⊥

  -- the first row with a Conflict, below this many, and the port that is reported there
  record IsFirst (count t : ℕ) (port : Text) : Type 0 where
    within : t < count
    reported : IsReported c t (trace t) port
    before : IsClean t

  first_conflict : (count : ℕ) → ((t : ℕ) × (port : Text) × IsFirst count t port) ⊎ IsClean count
  first_conflict zero = inr (λ t port below. absurd (omega (arith, below)))
  first_conflict (suc count) = by (first_conflict count) (reported_or_not count)
    where
      by : ((t : ℕ) × (port : Text) × IsFirst count t port) ⊎ IsClean count → ((port : Text) × IsReported c count (trace count) port) ⊎ ((port : Text) → HasConflict c count (trace count) port → ⊥)
          → ((t : ℕ) × (port : Text) × IsFirst (suc count) t port) ⊎ IsClean (suc count)
      by (inl found) here = inl (found.0, found.1, record { within = omega (arith, found.2.within); reported = found.2.reported; before = found.2.before })
      by (inr clean) (inl here) = inl (count, here.0, record { within = omega arith; reported = here.1; before = clean })
      by (inr clean) (inr none) = inr (λ t port below clash. elim (cases_lt t count) [
        | inl less ↦ clean t port less clash
        | inr least ↦ let e : t ≡ count = omega (arith, below, least) in none port (subst (λ (u : ℕ). HasConflict c u (trace u) port) e clash)
      ])

  module _ (asked : ℕ) (inputs : Trace) (loads : Text → List ℕ) (rows : (t : ℕ) → IsRow c t (inputs t) (states_before t trace loads) (trace t)) where
    ends_at : (t : ℕ) (port : Text) → IsFirst asked t port → (t + 1 ≡ asked) ⊎ ((t + 1 < asked) × EndsInConflict c (t + 1) trace)
    ends_at t port first = elim (cases_eq (t + 1) asked) [
      | inl last ↦ inl last
      | inr more ↦ inr (omega (arith, more, first.within), (t, refl, port, first.reported.has))
    ]

    pub ending : Ending c trace asked inputs loads
    ending = elim (first_conflict asked) [
      | inl (t, port, first) ↦ record {
        height = t + 1;
        stop = Some port;
        run = record {
          rows = λ u below. rows u;
          goes_on = λ u below other clash. first.before u other (omega (arith, below)) clash;
          ends = ends_at t port first;
        };
        stops = (t, refl, first.reported);
      }
      | inr clean ↦ record {
        height = asked;
        stop = None;
        run = record {
          rows = λ u below. rows u;
          goes_on = λ u below other clash. clean u other (omega (arith, below)) clash;
          ends = inl refl;
        };
        stops = λ u other below clash. clean u other below clash;
      }
    ]
