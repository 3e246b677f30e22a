-- A run of a design, seen below the path of an instance: each port and each cell by its name there. Calyx, ASPLOS 2021; the words are this project's.
use Rattle.std.specs.Prelude.{◌≡◌, ℕ, ◌+◌, ◌≤◌, true, false, List, [], ◌++◌, length, Option, Some, None}
use Rattle.hw_names.specs.Name.{Text, Path, full_name}
use Rattle.hw_prims.specs.Row.{Row, Trace}
use Rattle.hw_prims.specs.declared.prim.Primitive.{Primitive}
use Rattle.net_core.specs.Circuit.{Circuit, HasConflict, IsRun, Stops, states_before}
use Rattle.cal_ast.specs.CalRun.{Activity, values_for}
use Rattle.cal_ast.specs.Instances.{component_at, port_name}
use Rattle.cal_ast.specs.Ports.{is_bare}
use Rattle.cal_ast.specs.Sides.{IsDestination}
use Rattle.cal_ast.specs.Tree.{PortName, Component, Design}

-- ---- names

-- the row below the path: a name means there what its full name means in the whole
abbrev pub row_below : Path → Row → Row
row_below path row name = row (full_name path name)

abbrev pub rows_below : Path → Trace → Trace
rows_below path trace t = row_below path (trace t)

-- the words in the memories below the path
abbrev pub loads_below : Path → (Text → List ℕ) → Text → List ℕ
loads_below path loads cell = loads (full_name path cell)

-- ---- runs

-- what is seen of a run of `whole` below the path is a run of `part`, asked for as many rows as there are, whose inputs are what is seen; each cell has the
-- state there that it has in the whole; and each Conflict there is one of the whole
pub record IsRunBelow (whole part : Circuit) (path : Path) (loads : Text → List ℕ) (height : ℕ) (trace : Trace) : Type 0 where
  pub run : IsRun part height (rows_below path trace) (loads_below path loads) height (rows_below path trace)
  pub states : (t : ℕ) (cell : Text) (prim : Primitive) →
      states_before t (rows_below path trace) (loads_below path loads) cell prim ≡ states_before t trace loads (full_name path cell) prim
  pub conflicts : (t : ℕ) (port : Text) → HasConflict part t (row_below path (trace t)) port → HasConflict whole t (trace t) (full_name path port)

-- how it stops there, where the whole stops so: with no Conflict where the whole has none; and where the port that the whole reports has a Conflict below the
-- path, that port is reported there too
pub record StopsBelow (part : Circuit) (path : Path) (height : ℕ) (trace : Trace) (stop : Option Text) : Type 0 where
  pub none : stop ≡ None → Stops part height (rows_below path trace) None
  pub some : (t : ℕ) (port : Text) → t + 1 ≡ height → stop ≡ Some (full_name path port) → HasConflict part t (row_below path (trace t)) port →
      Stops part height (rows_below path trace) (Some port)

-- a Conflict of the instance at a path: two or more of the assignments that act there drive the port in row t
pub record HasConflictAt (design : Design) (top : Component) (activity : Activity) (t : ℕ) (row : Row) (port : Text) (path : Path) : Type 0 where
  pub c : Component
  pub at : component_at design top path ≡ Some c
  pub p : PortName
  pub sink : IsDestination design c p
  pub named : port_name path p ≡ port
  pub clash : 2 ≤ length (values_for path port row (activity.sets path c t row))

-- ---- what acts

-- from the component at the path on, `part` does at each instance what `whole` does there
pub record IsActivityBelow (design : Design) (c : Component) (path : Path) (whole part : Activity) : Type 0 where
  pub sets : (below : Path) (d : Component) → component_at design c below ≡ Some d → (t : ℕ) (row : Row) →
      part.sets below d t (row_below path row) ≡ whole.sets (path ++ below) d t row
  pub done : (below : Path) (d : Component) → component_at design c below ≡ Some d → is_bare d ≡ false → (t : ℕ) →
      part.done below d t ≡ whole.done (path ++ below) d t

-- from the component on, each instance is bare and has no groups
pub record IsWiredBelow (design : Design) (c : Component) : Type 0 where
  pub bare : (below : Path) (d : Component) → component_at design c below ≡ Some d → is_bare d ≡ true
  pub no_groups : (below : Path) (d : Component) → component_at design c below ≡ Some d → d.groups ≡ []
