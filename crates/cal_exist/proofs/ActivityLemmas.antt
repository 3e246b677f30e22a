-- What acts in a row, told by how far control has come before it and by the row itself; and that what is driven then follows from what is read.
use Rattle.std.proofs.Common.{◌≡◌, inl, inr, ℕ, ◌==◌, Bool, true, false, Option, Some, None, refl, sym, ap, ap₂, ◌∙◌}
use Rattle.std.specs.Prelude.{Contains, codes, if◌then◌else◌}
use Rattle.hw_names.specs.Name.{Text, Path, full_name}
use Rattle.hw_prims.specs.Row.{Row}
use Rattle.net_core.specs.Circuit.{Circuit, Drive}
use Rattle.cal_ast.specs.Actors.{Actor, group_of}
use Rattle.cal_ast.specs.CalRun.{Activity, cal_circuit}
use Rattle.cal_ast.specs.FlatWires.{FlatReads}
use Rattle.cal_ast.specs.Instances.{component_at}
use Rattle.cal_ast.specs.Plan.{plan_of}
use Rattle.cal_ast.specs.Ports.{is_bare}
use Rattle.cal_ast.specs.Rules.{CalRules}
use Rattle.cal_ast.specs.Schedule.{IsPortOf, is_group_done, scheduled}
use Rattle.cal_ast.specs.Tree.{Component, Design}
use Rattle.cal_walk.specs.Stages.{Progress, acts_now, is_done_now}
use Rattle.cal_runs.proofs.RowLemmas.{IsTold, SeesAlike, values_same}

-- whether an actor acts at an instance of this component
abbrev pub acts_for : Design → Path → Option Component → Progress → Row → Actor → Bool
acts_for design path None progress row actor = false
acts_for design path (Some c) progress row actor =
    if is_bare c then false else acts_now (plan_of c) progress actor (row (full_name path (codes "go")) == 1) (is_group_done path row (group_of design c actor))

-- whether its done is 1
abbrev pub done_for : Option Component → Progress → Bool
done_for None progress = false
done_for (Some c) progress = if is_bare c then false else is_done_now progress

module _ (design : Design) (top : Component) (progress : Path → Progress) where
  abbrev pub acts_in : Row → Path → Actor → ℕ → Bool
  acts_in row path actor t = acts_for design path (component_at design top path) (progress path) row actor

  abbrev pub done_in : Path → ℕ → Bool
  done_in path t = done_for (component_at design top path) (progress path)

  abbrev pub activity : Activity
  activity =
      record {
        sets = λ path c t row. (scheduled design (acts_in row) done_in).sets path c t row;
        done = λ path c t. done_in path t;
      }

  abbrev pub circuit : Circuit
  circuit = cal_circuit design top activity

  unless_bare : (b x y : Bool) → (b ≡ false → x ≡ y) → (if b then false else x) ≡ (if b then false else y)
  unless_bare true x y same = refl
  unless_bare false x y same = same refl

  told : (path : Path) (c : Component) → component_at design top path ≡ Some c → (t : ℕ) (row other : Row) → IsTold design path c t (acts_in row) (acts_in other) done_in done_in row other
  told path c at t row other = record {
    done = refl;
    acting = λ actor sees.
        ap (λ (o : Option Component). acts_for design path o (progress path) row actor) at
        ∙ unless_bare (is_bare c) (acts_now (plan_of c) (progress path) actor (row (full_name path (codes "go")) == 1) (is_group_done path row (group_of design c actor)))
        (acts_now (plan_of c) (progress path) actor (other (full_name path (codes "go")) == 1) (is_group_done path other (group_of design c actor)))
        (λ control. let s : SeesAlike design path c actor row other = sees control in ap₂ (λ (v : ℕ) (d : Bool). acts_now (plan_of c) (progress path) actor (v == 1) d) s.go s.done)
        ∙ sym (ap (λ (o : Option Component). acts_for design path o (progress path) other actor) at);
  }

  module _ (rules : CalRules design) (in_design : Contains design top) where
    -- one port reads another, which is one of the design
    abbrev pub Reads : Text → Text → Type 0
    Reads x y = FlatReads design top x y × IsPortOf design top y

    pub drive_follows : (name : Text) (drive : Drive) → circuit.Sink name drive → (t : ℕ) (row other : Row) → ((y : Text) → Reads name y → row y ≡ other y) → drive t row ≡ drive t other
    drive_follows name drive (inl s) t row other agree =
        ap (λ (d : Drive). d t row) s.drives
        ∙ values_same design top rules in_design row other s.path s.c s.at t (acts_in row) (acts_in other) done_in done_in (told s.path s.c s.at t row other) name (λ y is reads. agree y (reads, is))
        ∙ sym (ap (λ (d : Drive). d t other) s.drives)
    drive_follows name drive (inr s) t row other agree = ap (λ (d : Drive). d t row) s.drives ∙ sym (ap (λ (d : Drive). d t other) s.drives)
