-- How a run stops, seen below the path of an instance: texts with one front are in the order of their rests.
use Rattle.std.proofs.Common.{◌≡◌, ℕ, [], ◌∷◌, ◌++◌, refl, sym, ap, ◌∙◌, subst, arith}
use Rattle.std.specs.Cmp.{nat_cmp_is}
use Rattle.std.specs.Cmp.Lexicographic.{slice_cmp}
use Rattle.std.specs.Ordering.{nat_cmp, ordering_then}
use Rattle.std.specs.declared.cmp.Ordering.{Ordering}
use Rattle.std.specs.declared.cmp.Ordering.TheVariants.{Equal}
use Rattle.hw_names.specs.Name.{Text, Path, dot, full_name}
use Rattle.net_core.specs.Circuit.{Stops, IsReported}
use Rattle.cal_ast.specs.CalRun.{cal_circuit}
use Rattle.cal_part.specs.Laws.{SubRunsStop}
use Rattle.cal_part.proofs.BelowLemmas.{conflict_below}

order_after : (start x y : Text) → slice_cmp nat_cmp (start ++ x) (start ++ y) ≡ slice_cmp nat_cmp x y
order_after [] x y = refl
order_after (byte ∷ start) x y =
    ap (λ (o : Ordering). ordering_then o (slice_cmp nat_cmp (start ++ x) (start ++ y))) (sym (nat_cmp_is byte byte Equal refl)) ∙ order_after start x y

order_below : (path : Path) (x y : Text) → slice_cmp nat_cmp (full_name path x) (full_name path y) ≡ slice_cmp nat_cmp x y
order_below [] x y = refl
order_below (instance ∷ path) x y = order_after instance (dot ∷ full_name path x) (dot ∷ full_name path y) ∙ order_after (dot ∷ []) (full_name path x) (full_name path y) ∙ order_below path x y

pub sub_runs_stop : SubRunsStop
sub_runs_stop design top c path at whole part acts asked inputs loads height trace stop run = record {
  none = λ is t port less conflict.
      let clean = subst (Stops (cal_circuit design top whole) height trace) is run.stops in
      clean t (full_name path port) less (conflict_below design top c path at whole part acts t (trace t) port conflict);
  some = λ t port last is conflict.
      let s = subst (Stops (cal_circuit design top whole) height trace) is run.stops in
      let one : s.0 ≡ t = omega (arith, s.1, last) in
      let reported = subst (λ (u : ℕ). IsReported (cal_circuit design top whole) u (trace u) (full_name path port)) one s.2 in (
        t,
        last,
        record {
          has = conflict;
          least = λ other clash greater.
              reported.least (full_name path other) (conflict_below design top c path at whole part acts t (trace t) other clash) (order_below path port other ∙ greater);
        },
      );
}
