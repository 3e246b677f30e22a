-- The lines of a schedule go by the values of the outputs and by what acts.
use Rattle.std.proofs.Common.{◌≡◌, ℕ, zero, suc, ◌<◌, [], ◌∷◌, ◌++◌, Bool, flat_map, refl, ap, ap₂, arith}
use mathlib.Core.Path.{fun_ext}
use Rattle.std.specs.Prelude.{Contains, codes, decimal, if◌then◌else◌}
use Rattle.hw_names.specs.Name.{Text}
use Rattle.hw_prims.specs.Row.{Row, Trace}
use Rattle.cal_ast.specs.Actors.{Actor, actors_of}
use Rattle.cal_ast.specs.Tree.{Component}
use Rattle.cal_net.specs.Face.{face}
use Rattle.filc_report.proofs.RowLemmas.{values_same}
use Rattle.filc_report.specs.Rows.{lines_text, outputs_of_net}
use Rattle.filc_calyx.specs.Scheduled.{actor_name, schedule_line}

module _ (top : Component) (acts acts' : Actor → ℕ → Bool) where
  line_alike : (t : ℕ) (row row' : Row) → ((actor : Actor) → acts actor t ≡ acts' actor t)
      → ((port : Text) → Contains (outputs_of_net (face top)) port → row port ≡ row' port) → schedule_line top acts t row ≡ schedule_line top acts' t row'
  line_alike t row row' same agree =
      ap₂ (λ (outs labels : Text). decimal t ++ outs ++ codes " |" ++ labels ++ 10 ∷ []) (values_same row row' (outputs_of_net (face top)) agree)
      (ap (λ (f : Actor → Text). flat_map f (actors_of top)) (fun_ext (λ actor. ap (λ (b : Bool). if b then codes " " ++ actor_name actor else []) (same actor))))

  pub lines_alike : (trace trace' : Trace) (t : ℕ) → ((u : ℕ) → u < t → (actor : Actor) → acts actor u ≡ acts' actor u)
      → ((u : ℕ) → u < t → (port : Text) → Contains (outputs_of_net (face top)) port → trace u port ≡ trace' u port)
      → lines_text (schedule_line top acts) trace t ≡ lines_text (schedule_line top acts') trace' t
  lines_alike trace trace' zero same agree = refl
  lines_alike trace trace' (suc t) same agree =
      ap₂ ◌++◌ (lines_alike trace trace' t (λ u less. same u (omega (arith, less))) (λ u less. agree u (omega (arith, less))))
      (line_alike t (trace t) (trace' t) (same t (omega arith)) (agree t (omega arith)))
