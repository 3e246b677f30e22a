-- That rows of two runs of a Calyx design are the same, and the same actors act in them, as far as both runs go. This project's.
use Rattle.std.specs.Prelude.{◌≡◌, ℕ, ◌<◌, ◌≤◌, List, Option, Some, None, Contains}
use Rattle.hw_names.specs.Name.{Text, Path}
use Rattle.hw_prims.specs.Row.{Trace}
use Rattle.hw_prims.specs.declared.prim.Primitive.{Primitive}
use Rattle.net_core.specs.Circuit.{states_before}
use Rattle.cal_ast.specs.Actors.{Actor}
use Rattle.cal_ast.specs.Instances.{component_at, IsPrimitiveCell}
use Rattle.cal_ast.specs.Keeping.{EndsAs, Outcome}
use Rattle.cal_ast.specs.Plain.{HasPlainTree}
use Rattle.cal_ast.specs.Rules.{CalRules}
use Rattle.cal_ast.specs.Schedule.{IsPortOf, Run}
use Rattle.cal_ast.specs.Tree.{Component, Design}

-- each port of the design has one value in a row that both have, and each cell one state before such a row and after it; and where the second stops in a
-- Conflict, the first has none only before that row
pub record GoTogether (design : Design) (top : Component) (loads : Text → List ℕ) (a b : Outcome) : Type 0 where
  pub ports : (t : ℕ) (port : Text) → t < a.height → t < b.height → IsPortOf design top port → a.trace t port ≡ b.trace t port
  pub states : (t : ℕ) (cell : Text) (prim : Primitive) → t ≤ a.height → t ≤ b.height → IsPrimitiveCell design top cell prim →
      states_before t a.trace loads cell prim ≡ states_before t b.trace loads cell prim
  pub stops : (port : Text) → a.stop ≡ None → b.stop ≡ Some port → a.height < b.height

-- the law: by C1 to C12 and plain names runs of the same inputs and words go together, however many rows each is asked for
abbrev pub RowsAreOne : Type 0
RowsAreOne =
    (design : Design) (top : Component) → HasPlainTree design → CalRules design → Contains design top →
    (asked other : ℕ) (inputs : Trace) (loads : Text → List ℕ) (a b : Outcome) →
    EndsAs (Run design top) asked inputs loads a → EndsAs (Run design top) other inputs loads b → GoTogether design top loads a b

-- the law: by C1 to C12 and plain names, runs of the same inputs and words let the same actors act in each row that both have
abbrev pub ActorsAreOne : Type 0
ActorsAreOne =
    (design : Design) (top : Component) → HasPlainTree design → CalRules design → Contains design top →
    (asked other : ℕ) (inputs : Trace) (loads : Text → List ℕ) (height height' : ℕ) (trace trace' : Trace) (stop stop' : Option Text) →
    (a : Run design top asked inputs loads height trace stop) (b : Run design top other inputs loads height' trace' stop') →
    (path : Path) (c : Component) → component_at design top path ≡ Some c → (actor : Actor) (t : ℕ) → t < height → t < height' →
    a.acts path actor t ≡ b.acts path actor t
