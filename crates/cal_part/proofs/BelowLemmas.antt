-- A run of a design, seen below the path of an instance, is a run of the instance's component.
use mathlib.Core.Path.{fun_ext}
use Rattle.std.proofs.Common.{◌≡◌, inl, inr, ℕ, zero, suc, List, [], ◌∷◌, ◌++◌, length, Bool, true, false, ◌&&◌, if◌then◌else◌, Option, Some, None, refl, sym, ap, ap₂, ◌∙◌, subst, append_assoc}
use Rattle.std.specs.Prelude.{◌≤◌, bytes_eq, codes, map, option_and_then}
use Rattle.std.proofs.lemmas.Slice.Eq.{bytes_eq-Decides}
use Rattle.hw_names.specs.Name.{Text, Path, dot, dotted, full_name, port_at}
use Rattle.hw_prims.specs.Meaning.{next_state, opening_state, output_values}
use Rattle.hw_prims.specs.Row.{Row, Trace, values_at}
use Rattle.hw_prims.specs.State.{State}
use Rattle.hw_prims.specs.Table.{inputs_of, outputs_of, pin_names}
use Rattle.hw_prims.specs.declared.prim.Primitive.{Primitive}
use Rattle.net_core.specs.Circuit.{Drive, IsRow, HasConflict, settled, state_before, states_before}
use Rattle.net_core.specs.Guard.{guard_holds, source_value}
use Rattle.cal_ast.proofs.InstanceLemmas.{component_at-step}
use Rattle.cal_ast.specs.CalRun.{Activity, cal_circuit, look, values_for}
use Rattle.cal_ast.specs.Instances.{component_at, port_name}
use Rattle.cal_ast.specs.Tree.{PortName, Assignment, Component, Design}
use Rattle.cal_part.specs.RunBelow.{row_below, rows_below, loads_below, IsActivityBelow}
use Rattle.cal_part.specs.Laws.{SubRuns}

-- ---- names

-- a name at the end of two paths
pub full_name-below : (path below : Path) (name : Text) → full_name (path ++ below) name ≡ full_name path (full_name below name)
full_name-below [] below name = refl
full_name-below (instance ∷ path) below name = ap (dotted instance) (full_name-below path below name)

full_name-dotted : (path : Path) (cell pin : Text) → full_name path (dotted cell pin) ≡ dotted (full_name path cell) pin
full_name-dotted [] cell pin = refl
full_name-dotted (instance ∷ path) cell pin = ap (dotted instance) (full_name-dotted path cell pin) ∙ sym (append_assoc instance (dot ∷ full_name path cell) (dot ∷ pin))

pub port_at-below : (path below : Path) (cell : Option Text) (pin : Text) → port_at (path ++ below) cell pin ≡ full_name path (port_at below cell pin)
port_at-below path below None pin = full_name-below path below pin
port_at-below path below (Some cell) pin = ap (λ (x : Text). dotted x pin) (full_name-below path below cell) ∙ sym (full_name-dotted path (full_name below cell) pin)

same_after : (start x y : Text) → start ++ x ≡ start ++ y → x ≡ y
same_after [] x y e = e
same_after (byte ∷ start) x y e = let tails : start ++ x ≡ start ++ y = cc in same_after start x y tails

same_rest : (path : Path) (x y : Text) → full_name path x ≡ full_name path y → x ≡ y
same_rest [] x y e = e
same_rest (instance ∷ path) x y e =
    let rest = same_after instance _ _ e in
    let tails : full_name path x ≡ full_name path y = cc in
    same_rest path x y tails

is_same : (a b : Bool) → (a ≡ true → b ≡ true) → (b ≡ true → a ≡ true) → a ≡ b
is_same true b f g = sym (f refl)
is_same false true f g = g refl
is_same false false f g = refl

-- names at one path are the same exactly where they are within it
test_below : (path : Path) (x y : Text) → bytes_eq (full_name path x) (full_name path y) ≡ bytes_eq x y
test_below path x y =
    is_same _ _
    (λ t. (bytes_eq-Decides x y).1 (same_rest path x y ((bytes_eq-Decides (full_name path x) (full_name path y)).0 t)))
    (λ t. (bytes_eq-Decides (full_name path x) (full_name path y)).1 (ap (full_name path) ((bytes_eq-Decides x y).0 t)))

-- ---- values

pub look_below : (path below : Path) (row : Row) → look (path ++ below) row ≡ look below (row_below path row)
look_below path below row = fun_ext (λ (p : PortName). ap row (port_at-below path below p.cell p.pin))

-- what assignments give a port, read in the whole and below the path
pub values_below : (path below : Path) (port : Text) (row : Row) (sets : List Assignment) → values_for (path ++ below) (full_name path port) row sets ≡ values_for below port (row_below path row) sets
values_below path below port row [] = refl
values_below path below port row (a ∷ sets) =
    let name : bytes_eq (port_name (path ++ below) a.dst) (full_name path port) ≡ bytes_eq (port_name below a.dst) port =
    ap (λ (x : Text). bytes_eq x (full_name path port)) (port_at-below path below a.dst.cell a.dst.pin) ∙ test_below path (port_name below a.dst) port in
    ap₂ (λ (test : Bool) (see : PortName → ℕ). if test && guard_holds see a.guard then source_value see a.src ∷ values_for (path ++ below) (full_name path port) row sets else values_for (path ++ below) (full_name path port) row sets) name (look_below path below row)
    ∙ ap (λ (values : List ℕ). if bytes_eq (port_name below a.dst) port && guard_holds (look below (row_below path row)) a.guard then source_value (look below (row_below path row)) a.src ∷ values else values) (values_below path below port row sets)

values_at-below : (path : Path) (row : Row) (cell : Text) (pins : List Text) → values_at (row_below path row) (dotted cell) pins ≡ values_at row (dotted (full_name path cell)) pins
values_at-below path row cell pins = ap (λ (f : Text → ℕ). map f pins) (fun_ext (λ (pin : Text). ap row (full_name-dotted path cell pin)))

state_below : (t : ℕ) (path : Path) (trace : Trace) (cell : Text) (prim : Primitive) (opening : State) → state_before t (rows_below path trace) cell prim opening ≡ state_before t trace (full_name path cell) prim opening
state_below zero path trace cell prim opening = refl
state_below (suc t) path trace cell prim opening =
    ap₂ (next_state prim) (state_below t path trace cell prim opening) (values_at-below path (trace t) cell (pin_names (inputs_of prim)))

-- ---- instances

-- the instance at the end of two paths
pub component_at-append : (design : Design) (c : Component) (path below : Path) (d : Component) → component_at design c path ≡ Some d → component_at design c (path ++ below) ≡ component_at design d below
component_at-append design c [] below d at = let is : c ≡ d = cc in ap (λ (x : Component). component_at design x below) is
component_at-append design c (cell ∷ path) below d at =
    let part = component_at-step design c cell path d at in
    ap (option_and_then (λ (x : Component). component_at design x (path ++ below))) part.1 ∙ component_at-append design part.0 path below d part.2

-- ---- rows and runs

module _ (design : Design) (top c : Component) (path : Path) (at : component_at design top path ≡ Some c) (whole part : Activity) (acts : IsActivityBelow design c path whole part) where
  at_below : (below : Path) (d : Component) → component_at design c below ≡ Some d → component_at design top (path ++ below) ≡ Some d
  at_below below d is = component_at-append design top path below c at ∙ is

  -- what is driven below the path is driven alike in the whole
  record IsDriven (port : Text) (drive : Drive) : Type 0 where
    there : Drive
    sink : (cal_circuit design top whole).Sink (full_name path port) there
    alike : (t : ℕ) (row : Row) → there t row ≡ drive t (row_below path row)

  driven : (port : Text) (drive : Drive) → (cal_circuit design c part).Sink port drive → IsDriven port drive
  driven port drive (inl a) = record {
    there = λ t row. values_for (path ++ a.path) (full_name path port) row (whole.sets (path ++ a.path) a.c t row);
    sink = inl (record {
      path = path ++ a.path;
      c = a.c;
      at = at_below a.path a.c a.at;
      cell = a.cell;
      pin = a.pin;
      sink = a.sink;
      named = port_at-below path a.path a.cell a.pin ∙ ap (full_name path) a.named;
      drives = refl;
    });
    alike = λ t row.
        values_below path a.path port row (whole.sets (path ++ a.path) a.c t row)
        ∙ ap (values_for a.path port (row_below path row)) (sym (acts.sets a.path a.c a.at t row))
        ∙ ap (λ (f : Drive). f t (row_below path row)) (sym a.drives);
  }
  driven port drive (inr a) = record {
    there = λ t row. (if whole.done (path ++ a.path) a.c t then 1 else 0) ∷ [];
    sink = inr (record {
      path = path ++ a.path;
      c = a.c;
      at = at_below a.path a.c a.at;
      control = a.control;
      named = full_name-below path a.path (codes "done") ∙ ap (full_name path) a.named;
      drives = refl;
    });
    alike = λ t row.
        ap (λ (b : Bool). (if b then 1 else 0) ∷ []) (sym (acts.done a.path a.c a.at a.control t))
        ∙ ap (λ (f : Drive). f t (row_below path row)) (sym a.drives);
  }

  pub conflict_below : (t : ℕ) (row : Row) (port : Text) → HasConflict (cal_circuit design c part) t (row_below path row) port → HasConflict (cal_circuit design top whole) t row (full_name path port)
  conflict_below t row port conflict =
      let d = driven port conflict.drive conflict.sink in
      record { drive = d.there; sink = d.sink; clash = subst (λ (values : List ℕ). 2 ≤ length values) (sym (d.alike t row)) conflict.clash }

  row_is_below : (t : ℕ) (inputs : Row) (states states' : Text → Primitive → State) (row : Row) → ((cell : Text) (prim : Primitive) → states' cell prim ≡ states (full_name path cell) prim)
      → IsRow (cal_circuit design top whole) t inputs states row → IsRow (cal_circuit design c part) t (row_below path row) states' (row_below path row)
  row_is_below t inputs states states' row same is = record {
    given = λ port has. refl;
    driven = λ port drive has. let d = driven port drive has in is.driven (full_name path port) d.there d.sink ∙ ap settled (d.alike t row);
    computed = λ cell prim has.
        values_at-below path row cell (pin_names (outputs_of prim))
        ∙ is.computed (full_name path cell) prim (record {
          path = path ++ has.path;
          c = has.c;
          at = at_below has.path has.c has.at;
          cell = has.cell;
          made = has.made;
          named = full_name-below path has.path has.cell ∙ ap (full_name path) has.named;
        })
        ∙ ap₂ (output_values prim) (sym (same cell prim)) (sym (values_at-below path row cell (pin_names (inputs_of prim))));
  }

pub sub_runs : SubRuns
sub_runs design top c path at whole part acts asked inputs loads height trace run =
    let states = λ (t : ℕ) (cell : Text) (prim : Primitive). state_below t path trace cell prim (opening_state prim (loads (full_name path cell))) in
    record {
      run = record {
        rows = λ t less. row_is_below design top c path at whole part acts t (inputs t) (states_before t trace loads) (states_before t (rows_below path trace) (loads_below path loads)) (trace t) (states t) (run.rows t less);
        goes_on = λ t less port conflict. run.goes_on t less (full_name path port) (conflict_below design top c path at whole part acts t (trace t) port conflict);
        ends = inl refl;
      };
      states = states;
      conflicts = λ t port conflict. conflict_below design top c path at whole part acts t (trace t) port conflict;
    }
