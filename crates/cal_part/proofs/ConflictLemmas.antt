-- Each Conflict is one of an instance, and is seen below the paths above it.
use Rattle.std.proofs.Common.{◌≡◌, inl, inr, ℕ, ◌≤◌, List, [], ◌∷◌, ◌++◌, length, Bool, if◌then◌else◌, sym, ap, ◌∙◌, subst, refl, arith}
use Rattle.hw_names.specs.Name.{Text, full_name}
use Rattle.net_core.specs.Circuit.{Drive}
use Rattle.cal_ast.specs.CalRun.{values_for}
use Rattle.cal_ast.specs.Instances.{port_name}
use Rattle.cal_part.specs.RunBelow.{row_below}
use Rattle.cal_part.specs.Laws.{ConflictsAreOfInstances, ConflictsBelow}
use Rattle.cal_part.proofs.BelowLemmas.{component_at-append, port_at-below, values_below}

-- a done that control gives has one value
one_value : (values : List ℕ) (is : Bool) → values ≡ (if is then 1 else 0) ∷ [] → 2 ≤ length values → ⊥
one_value values is same clash = omega (arith, subst (λ (vs : List ℕ). 2 ≤ length vs) same clash)

pub conflicts_are_of_instances : ConflictsAreOfInstances
conflicts_are_of_instances design top activity t row port conflict =
    elim conflict.sink [
      | inl a ↦ (
        a.path,
        record {
          c = a.c;
          at = a.at;
          p = record { cell = a.cell; pin = a.pin };
          sink = a.sink;
          named = a.named;
          clash = subst (λ (values : List ℕ). 2 ≤ length values) (ap (λ (d : Drive). d t row) a.drives) conflict.clash;
        },
      )
      | inr a ↦ absurd (one_value (conflict.drive t row) (activity.done a.path a.c t) (ap (λ (d : Drive). d t row) a.drives) conflict.clash)
    ]

pub conflicts_below : ConflictsBelow
conflicts_below design top c path at whole part acts t row port below conflict =
    let name = port_name below conflict.p in
    let is : port ≡ full_name path name = sym conflict.named ∙ port_at-below path below conflict.p.cell conflict.p.pin in
    let there = sym (component_at-append design top path below c at) ∙ conflict.at in
    let values = ap (λ (x : Text). values_for (path ++ below) x row (whole.sets (path ++ below) conflict.c t row)) is
    ∙ values_below path below name row (whole.sets (path ++ below) conflict.c t row)
    ∙ ap (values_for below name (row_below path row)) (sym (acts.sets below conflict.c there t row)) in (
      name,
      is,
      record {
        drive = λ u r. values_for below name r (part.sets below conflict.c u r);
        sink = inl (record {
          path = below;
          c = conflict.c;
          at = there;
          cell = conflict.p.cell;
          pin = conflict.p.pin;
          sink = conflict.sink;
          named = refl;
          drives = refl;
        });
        clash = subst (λ (vs : List ℕ). 2 ≤ length vs) values conflict.clash;
      },
    )
