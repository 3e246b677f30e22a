-- A design whose components are replaced one by one, where names, ports and cells stay: what lines name, instances and circuits stay too.
use Rattle.std.proofs.Common.{◌≡◌, ℕ, Bool, true, false, List, [], ◌∷◌, map, Option, Some, None, refl, sym, ap, ap₂, ◌∙◌, subst, inl, inr, ◌⊎◌}
use Rattle.std.specs.Prelude.{Contains, IsSome, bytes_eq, codes, if◌then◌else◌, option_map, option_and_then}
use Rattle.hw_names.specs.Name.{Text, Path}
use Rattle.hw_prims.specs.Row.{Row, Trace}
use Rattle.hw_prims.specs.Table.{Pin, is_primitive, pin_names}
use Rattle.hw_prims.specs.declared.prim.Primitive.{Primitive}
use Rattle.net_core.proofs.CircuitLemmas.{IsWithin, same_runs, same_conflicts, same_stops}
use Rattle.net_core.specs.Circuit.{Circuit, Drive}
use Rattle.cal_ast.proofs.LookupLemmas.{part_in-design}
use Rattle.cal_ast.proofs.InstanceLemmas.{component_at-design}
use Rattle.cal_ast.proofs.SideLemmas.{some_found}
use Rattle.cal_ast.specs.CalRun.{Activity, values_for, IsAssigned, IsControlled, cal_circuit, IsStoppedRun}
use Rattle.cal_ast.specs.Instances.{component_at}
use Rattle.cal_ast.specs.Naming.{IsKnownPort}
use Rattle.cal_ast.specs.Ports.{SidedPin, is_bare, with_pin, inputs_in, outputs_in, cell_named, component_named, primitive_of, part_of, primitive_in, part_in, made_inputs, made_outputs, cell_inputs, cell_outputs, both_sides, ports_at, port_named, port_in, width_in, side_in}
use Rattle.cal_ast.specs.Sides.{IsDestination, IsSource}
use Rattle.cal_ast.specs.Tree.{PortName, CellDef, Component, Design}

-- each component keeps its name, its ports and its cells, and is bare where it was
pub record KeepsFaces (design : Design) (f : Component → Component) : Type 0 where
  pub names : (c : Component) → (f c).name ≡ c.name
  pub ins : (c : Component) → (f c).ins ≡ c.ins
  pub outs : (c : Component) → (f c).outs ≡ c.outs
  pub cells : (c : Component) → (f c).cells ≡ c.cells
  pub bare : (c : Component) → Contains design c → is_bare (f c) ≡ is_bare c

-- ---- what is found

component_named-mapped : (f : Component → Component) → ((c : Component) → (f c).name ≡ c.name) → (design : Design) (name : Text) → component_named (map f design) name ≡ option_map f (component_named design name)
component_named-mapped f named [] name = refl
component_named-mapped f named (c ∷ cs) name =
    ap (λ (x : Text). if bytes_eq x name then Some (f c) else component_named (map f cs) name) (named c)
    ∙ by (bytes_eq c.name name) (component_named-mapped f named cs name)
  where
    by : (b : Bool) → component_named (map f cs) name ≡ option_map f (component_named cs name) → (if b then Some (f c) else component_named (map f cs) name) ≡ option_map f (if b then Some c else component_named cs name)
    by true later = refl
    by false later = later

pub primitive_in-same : (c d : Component) → d.cells ≡ c.cells → (cell : Text) → primitive_in d cell ≡ primitive_in c cell
primitive_in-same c d same cell = ap (λ (cells : List CellDef). option_and_then primitive_of (cell_named cells cell)) same

module _ (design : Design) (f : Component → Component) (face : KeepsFaces design f) where
  pub part_of-mapped : (cell : CellDef) → part_of (map f design) cell ≡ option_map f (part_of design cell)
  part_of-mapped cell = by (is_primitive cell.made)
    where
      by : (b : Bool) → (if b then None else component_named (map f design) cell.made) ≡ option_map f (if b then None else component_named design cell.made)
      by true = refl
      by false = component_named-mapped f face.names design cell.made

  pub part_in-mapped : (c : Component) (cell : Text) → part_in (map f design) (f c) cell ≡ option_map f (part_in design c cell)
  part_in-mapped c cell =
      ap (λ (cells : List CellDef). option_and_then (part_of (map f design)) (cell_named cells cell)) (face.cells c)
      ∙ by (cell_named c.cells cell)
    where
      by : (o : Option CellDef) → option_and_then (part_of (map f design)) o ≡ option_map f (option_and_then (part_of design) o)
      by None = refl
      by (Some x) = part_of-mapped x

  pub primitive_in-mapped : (c : Component) (cell : Text) → primitive_in (f c) cell ≡ primitive_in c cell
  primitive_in-mapped c cell = primitive_in-same c (f c) (face.cells c) cell

  -- ---- instances

  pub component_at-mapped : (path : Path) (c : Component) → component_at (map f design) (f c) path ≡ option_map f (component_at design c path)
  component_at-mapped [] c = refl
  component_at-mapped (cell ∷ path) c =
      ap (option_and_then (λ x. component_at (map f design) x path)) (part_in-mapped c cell)
      ∙ by (λ part. component_at-mapped path part) (part_in design c cell)
    where
      by : ((part : Component) → component_at (map f design) (f part) path ≡ option_map f (component_at design part path)) → (o : Option Component)
          → option_and_then (λ x. component_at (map f design) x path) (option_map f o) ≡ option_map f (option_and_then (λ x. component_at design x path) o)
      by later None = refl
      by later (Some part) = later part

  -- an instance of the new design is one of the old
  pub instance_before : (path : Path) (top d : Component) → component_at (map f design) (f top) path ≡ Some d → (c : Component) × (component_at design top path ≡ Some c) × (f c ≡ d)
  instance_before path top d at = some_found f (component_at design top path) d (sym (component_at-mapped path top) ∙ at)

  pub instance_after : (path : Path) (top c : Component) → component_at design top path ≡ Some c → component_at (map f design) (f top) path ≡ Some (f c)
  instance_after path top c at = component_at-mapped path top ∙ ap (option_map f) at

  -- ---- ports

  pub inputs_same : (c : Component) → Contains design c → inputs_in (f c) ≡ inputs_in c
  inputs_same c has = ap₂ (λ (b : Bool) (ins : List Pin). if b then ins else with_pin (codes "go") ins) (face.bare c has) (face.ins c)

  pub outputs_same : (c : Component) → Contains design c → outputs_in (f c) ≡ outputs_in c
  outputs_same c has = ap₂ (λ (b : Bool) (outs : List Pin). if b then outs else with_pin (codes "done") outs) (face.bare c has) (face.outs c)

  cell_inputs_same : (c : Component) (cell : Text) → cell_inputs (map f design) (f c) cell ≡ cell_inputs design c cell
  cell_inputs_same c cell =
      ap₂ (λ (o : Option Primitive) (p : Option Component). made_inputs o p) (primitive_in-mapped c cell) (part_in-mapped c cell)
      ∙ by (primitive_in c cell) (part_in design c cell) refl
    where
      by : (o : Option Primitive) (p : Option Component) → part_in design c cell ≡ p → made_inputs o (option_map f p) ≡ made_inputs o p
      by (Some prim) p e = refl
      by None (Some part) e = inputs_same part (part_in-design design c cell part e)
      by None None e = refl

  cell_outputs_same : (c : Component) (cell : Text) → cell_outputs (map f design) (f c) cell ≡ cell_outputs design c cell
  cell_outputs_same c cell =
      ap₂ (λ (o : Option Primitive) (p : Option Component). made_outputs o p) (primitive_in-mapped c cell) (part_in-mapped c cell)
      ∙ by (primitive_in c cell) (part_in design c cell) refl
    where
      by : (o : Option Primitive) (p : Option Component) → part_in design c cell ≡ p → made_outputs o (option_map f p) ≡ made_outputs o p
      by (Some prim) p e = refl
      by None (Some part) e = outputs_same part (part_in-design design c cell part e)
      by None None e = refl

  module _ (c : Component) (has : Contains design c) where
    ports_same : (cell : Option Text) → ports_at (map f design) (f c) cell ≡ ports_at design c cell
    ports_same None = ap₂ both_sides (inputs_same c has) (outputs_same c has)
    ports_same (Some cell) = ap₂ both_sides (cell_inputs_same c cell) (cell_outputs_same c cell)

    pub port_same : (p : PortName) → port_in (map f design) (f c) p ≡ port_in design c p
    port_same p = ap (λ (ports : List SidedPin). port_named ports p.pin) (ports_same p.cell)

    pub width_same : (p : PortName) → width_in (map f design) (f c) p ≡ width_in design c p
    width_same p = ap (option_map (λ (q : SidedPin). q.pin.width)) (port_same p)

    pub side_same : (p : PortName) → side_in (map f design) (f c) p ≡ side_in design c p
    side_same p = ap (option_map (λ (q : SidedPin). q.side)) (port_same p)

    pub known_after : (p : PortName) → IsKnownPort design c p → IsKnownPort (map f design) (f c) p
    known_after p known = subst (λ (o : Option SidedPin). IsSome o) (sym (port_same p)) known

    pub source_after : (p : PortName) → IsSource design c p → IsSource (map f design) (f c) p
    source_after p is = side_same p ∙ is

    pub source_before : (p : PortName) → IsSource (map f design) (f c) p → IsSource design c p
    source_before p is = sym (side_same p) ∙ is

    pub destination_after : (p : PortName) → IsDestination design c p → IsDestination (map f design) (f c) p
    destination_after p is = record { side = side_same p ∙ is.side; not_done = λ control. is.not_done (sym (face.bare c has) ∙ control) }

    destination_before : (p : PortName) → IsDestination (map f design) (f c) p → IsDestination design c p
    destination_before p is = record { side = sym (side_same p) ∙ is.side; not_done = λ control. is.not_done (face.bare c has ∙ control) }

  -- ---- circuits: where the same drives act at each instance, runs are the same

  module _ (top : Component) (has_top : Contains design top) (before after : Activity)
      (sets : (path : Path) (c : Component) → component_at design top path ≡ Some c → (port : Text) (t : ℕ) (row : Row) → values_for path port row (before.sets path c t row) ≡ values_for path port row (after.sets path (f c) t row))
      (done : (path : Path) (c : Component) → component_at design top path ≡ Some c → (t : ℕ) → before.done path c t ≡ after.done path (f c) t) where
    abbrev old : Circuit
    old = cal_circuit design top before

    abbrev new : Circuit
    new = cal_circuit (map f design) (f top) after

    abbrev done_list : Bool → List ℕ
    done_list b = (if b then 1 else 0) ∷ []

    sink_after : (port : Text) (drive : Drive) → IsAssigned design top before port drive ⊎ IsControlled design top before port drive → (other : Drive) × new.Sink port other × ((t : ℕ) (row : Row) → drive t row ≡ other t row)
    sink_after port drive (inl s) = (
      λ t row. values_for s.path port row (after.sets s.path (f s.c) t row),
      inl (record {
        path = s.path;
        c = f s.c;
        at = instance_after s.path top s.c s.at;
        cell = s.cell;
        pin = s.pin;
        sink = destination_after s.c (component_at-design design top s.path s.c has_top s.at) (record { cell = s.cell; pin = s.pin }) s.sink;
        named = s.named;
        drives = refl;
      }),
      λ t row. ap (λ (d : Drive). d t row) s.drives ∙ sets s.path s.c s.at port t row,
    )
    sink_after port drive (inr s) = (
      λ t row. done_list (after.done s.path (f s.c) t),
      inr (record {
        path = s.path;
        c = f s.c;
        at = instance_after s.path top s.c s.at;
        control = face.bare s.c (component_at-design design top s.path s.c has_top s.at) ∙ s.control;
        named = s.named;
        drives = refl;
      }),
      λ t row. ap (λ (d : Drive). d t row) s.drives ∙ ap done_list (done s.path s.c s.at t),
    )

    sink_before : (port : Text) (drive : Drive) → IsAssigned (map f design) (f top) after port drive ⊎ IsControlled (map f design) (f top) after port drive → (other : Drive) × old.Sink port other × ((t : ℕ) (row : Row) → drive t row ≡ other t row)
    sink_before port drive (inl s) =
        let i = instance_before s.path top s.c s.at in
        let p : PortName = record { cell = s.cell; pin = s.pin } in (
          λ t row. values_for s.path port row (before.sets s.path i.0 t row),
          inl (record {
            path = s.path;
            c = i.0;
            at = i.1;
            cell = s.cell;
            pin = s.pin;
            sink = destination_before i.0 (component_at-design design top s.path i.0 has_top i.1) p (subst (λ (x : Component). IsDestination (map f design) x p) (sym i.2) s.sink);
            named = s.named;
            drives = refl;
          }),
          λ t row. ap (λ (d : Drive). d t row) s.drives
              ∙ ap (λ (x : Component). values_for s.path port row (after.sets s.path x t row)) (sym i.2)
              ∙ sym (sets s.path i.0 i.1 port t row),
        )
    sink_before port drive (inr s) =
        let i = instance_before s.path top s.c s.at in (
          λ t row. done_list (before.done s.path i.0 t),
          inr (record {
            path = s.path;
            c = i.0;
            at = i.1;
            control = sym (face.bare i.0 (component_at-design design top s.path i.0 has_top i.1)) ∙ ap is_bare i.2 ∙ s.control;
            named = s.named;
            drives = refl;
          }),
          λ t row. ap (λ (d : Drive). d t row) s.drives ∙ ap (λ (x : Component). done_list (after.done s.path x t)) (sym i.2) ∙ ap done_list (sym (done s.path i.0 i.1 t)),
        )

    there : IsWithin old new
    there = record {
      inputs = λ port has. subst (λ (pins : List Pin). Contains (pin_names pins) port) (sym (inputs_same top has_top)) has;
      cells = λ cell prim is. record {
        path = is.path;
        c = f is.c;
        at = instance_after is.path top is.c is.at;
        cell = is.cell;
        made = primitive_in-mapped is.c is.cell ∙ is.made;
        named = is.named;
      };
      sinks = sink_after;
    }

    back : IsWithin new old
    back = record {
      inputs = λ port has. subst (λ (pins : List Pin). Contains (pin_names pins) port) (inputs_same top has_top) has;
      cells = λ cell prim is. (let i = instance_before is.path top is.c is.at in record {
        path = is.path;
        c = i.0;
        at = i.1;
        cell = is.cell;
        made = sym (primitive_in-mapped i.0 is.cell) ∙ ap (λ (x : Component). primitive_in x is.cell) i.2 ∙ is.made;
        named = is.named;
      });
      sinks = sink_before;
    }

    pub runs_before : (asked : ℕ) (inputs : Trace) (loads : Text → List ℕ) (height : ℕ) (trace : Trace) (stop : Option Text) → IsStoppedRun new asked inputs loads height trace stop → IsStoppedRun old asked inputs loads height trace stop
    runs_before asked inputs loads height trace stop r = record {
      run = (same_runs old new there back asked inputs loads height trace).1 r.run;
      stops = same_stops new old (same_conflicts new old back there) height trace stop r.stops;
    }
