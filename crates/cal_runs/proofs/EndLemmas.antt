-- Two runs of a design from the same inputs and words end alike.
use Rattle.std.proofs.Common.{◌≡◌, ◌≢◌, inl, inr, ℕ, ◌<◌, List, Contains, Option, Some, None, refl, sym, ap, subst, arith}
use Rattle.std.proofs.lemmas.Bool.{cases_lt}
use Rattle.std.proofs.lemmas.Cmp.{nat_list_cmp_total}
use Rattle.std.proofs.lemmas.Map.Lookups.{exact_bytes}
use Rattle.std.specs.Cmp.Lexicographic.{slice_cmp}
use Rattle.std.specs.Ordering.{nat_cmp, ordering_reverse}
use Rattle.std.specs.declared.cmp.Ordering.{Ordering}
use Rattle.std.specs.declared.cmp.Ordering.TheVariants.{Less, Equal, Greater}
use Rattle.hw_names.specs.Name.{Text}
use Rattle.hw_prims.specs.Row.{Trace}
use Rattle.net_core.specs.Circuit.{Circuit, HasConflict, Stops}
use Rattle.cal_ast.specs.CalRun.{cal_circuit}
use Rattle.cal_ast.specs.Keeping.{EndsAs, Outcome, RunsAreUnique}
use Rattle.cal_ast.specs.Plain.{HasPlainTree}
use Rattle.cal_ast.specs.Rules.{CalRules}
use Rattle.cal_ast.specs.Schedule.{Run, scheduled}
use Rattle.cal_ast.specs.Tree.{Component, Design}
use Rattle.cal_runs.specs.Laws.{GoTogether, RowsAreOne}
use Rattle.cal_runs.proofs.RunLemmas.{states_alike, rows_agree, rows_before, conflicts_agree, not_shorter}

-- ---- reported ports

equal_of : (o p : Ordering) → p ≡ ordering_reverse o → o ≢ Greater → p ≢ Greater → o ≡ Equal
equal_of Less p e not_o not_p = absurd (not_p e)
equal_of Equal p e not_o not_p = refl
equal_of Greater p e not_o not_p = absurd (not_o refl)

-- texts of which neither is greater than the other are the same
neither_greater : (x y : Text) → slice_cmp nat_cmp x y ≢ Greater → slice_cmp nat_cmp y x ≢ Greater → x ≡ y
neither_greater x y not_x not_y = exact_bytes x y (equal_of (slice_cmp nat_cmp x y) (slice_cmp nat_cmp y x) (nat_list_cmp_total.antisymm y x) not_x not_y)

-- runs of one height with the same Conflicts stop alike
module _ (c d : Circuit) (height height' : ℕ) (same : height ≡ height') (trace trace' : Trace)
    (there : (t : ℕ) → t < height → (port : Text) → HasConflict c t (trace t) port → HasConflict d t (trace' t) port)
    (back : (t : ℕ) → t < height → (port : Text) → HasConflict d t (trace' t) port → HasConflict c t (trace t) port) where
  one_stop : (stop stop' : Option Text) → Stops c height trace stop → Stops d height' trace' stop' → stop ≡ stop'
  one_stop None None none none' = refl
  one_stop None (Some q) none (u, last, reported) = absurd (none u q (omega (arith, last, same)) (back u (omega (arith, last, same)) q reported.has))
  one_stop (Some p) None (t, last, reported) none = absurd (none t p (omega (arith, last, same)) (there t (omega (arith, last)) p reported.has))
  one_stop (Some p) (Some q) (t, last, reported) (u, last', reported') =
      let one : u ≡ t = omega (arith, last, last', same) in
      let within : t < height = omega (arith, last) in
      let has : HasConflict d t (trace' t) q = subst (λ (x : ℕ). HasConflict d x (trace' x) q) one reported'.has in
      let too : HasConflict d u (trace' u) p = subst (λ (x : ℕ). HasConflict d x (trace' x) p) (sym one) (there t within p reported.has) in
      ap Some (neither_greater p q (reported.least q (back t within q has)) (reported'.least p too))

pub runs_are_unique : RunsAreUnique
runs_are_unique design top plain rules in_design asked inputs loads x y a b =
    let same : x.height ≡ y.height = elim (cases_lt x.height y.height) [
      | inl less ↦ absurd (not_shorter design top plain rules in_design asked asked inputs loads x.height y.height x.trace y.trace x.stop y.stop a b refl less)
      | inr least ↦ elim (cases_lt y.height x.height) [
        | inl more ↦ absurd (not_shorter design top plain rules in_design asked asked inputs loads y.height x.height y.trace x.trace y.stop x.stop b a refl more)
        | inr most ↦ omega (arith, least, most)
      ]
    ] in
    record {
      heights = same;
      stops =
          one_stop (cal_circuit design top (scheduled design a.acts a.is_done)) (cal_circuit design top (scheduled design b.acts b.is_done)) x.height y.height same x.trace y.trace
          (λ t within port conflict. conflicts_agree design top plain rules in_design asked asked inputs loads x.height y.height x.trace y.trace x.stop y.stop a b t within (omega (arith, within, same)) port conflict)
          (λ t within port conflict. conflicts_agree design top plain rules in_design asked asked inputs loads y.height x.height y.trace x.trace y.stop x.stop b a t (omega (arith, within, same)) within port conflict)
          x.stop y.stop a.run.stops b.run.stops;
      ports = λ t port within is. rows_agree design top plain rules in_design asked asked inputs loads x.height y.height x.trace y.trace x.stop y.stop a b t within (omega (arith, within, same)) port is;
      states = λ t cell prim within is.
          states_alike design top plain rules in_design asked asked inputs loads x.height y.height x.trace y.trace x.stop y.stop a b t
          (rows_before design top plain rules in_design asked asked inputs loads x.height y.height x.trace y.trace x.stop y.stop a b t within (omega (arith, within, same))) cell prim is;
    }

-- ---- runs that are asked for different numbers of rows

module _ (design : Design) (top : Component) (plain : HasPlainTree design) (rules : CalRules design) (in_design : Contains design top) (asked other : ℕ) (inputs : Trace) (loads : Text → List ℕ)
    (x y : Outcome) (a : EndsAs (Run design top) asked inputs loads x) (b : EndsAs (Run design top) other inputs loads y) where
  stops_later : (stop stop' : Option Text) → Stops (cal_circuit design top (scheduled design a.acts a.is_done)) x.height x.trace stop
      → Stops (cal_circuit design top (scheduled design b.acts b.is_done)) y.height y.trace stop' → (port : Text) → stop ≡ None → stop' ≡ Some port → x.height < y.height
  stops_later None (Some q) none (t, last, reported) port is is' = elim (cases_lt x.height y.height) [
    | inl less ↦ less
    | inr least ↦
        absurd (none t q (omega (arith, last, least))
        (conflicts_agree design top plain rules in_design other asked inputs loads y.height x.height y.trace x.trace y.stop x.stop b a t (omega (arith, last)) (omega (arith, last, least)) q reported.has))
  ]
  stops_later None None none none' port is is' = absurd (cc)
  stops_later (Some p) stop' some other' port is is' = absurd (cc)

  together : GoTogether design top loads x y
  together = record {
    ports = λ t port in_a in_b is. rows_agree design top plain rules in_design asked other inputs loads x.height y.height x.trace y.trace x.stop y.stop a b t in_a in_b port is;
    states = λ t cell prim in_a in_b is.
        states_alike design top plain rules in_design asked other inputs loads x.height y.height x.trace y.trace x.stop y.stop a b t
        (rows_before design top plain rules in_design asked other inputs loads x.height y.height x.trace y.trace x.stop y.stop a b t in_a in_b) cell prim is;
    stops = stops_later x.stop y.stop a.run.stops b.run.stops;
  }

pub rows_are_one : RowsAreOne
rows_are_one = together
