-- What a lowering of control adds: a component that control starts gets further cells and assignments, has its implied ports told, and loses its control. Which
-- cells and assignments these are each lowering says. This project's.
use Rattle.std.specs.Prelude.{List, [], ◌∷◌, ◌++◌, if◌then◌else◌}
use Rattle.cal_ast.specs.Ports.{is_bare, inputs_in, outputs_in}
use Rattle.cal_ast.specs.Tree.{Assignment, CellDef, Absent, Component}
use Rattle.cal_lower.specs.inside.Lowered.{done_set}

-- the cells and assignments that each component gets
pub record Additions : Type 0 where
  pub cells : Component → List CellDef
  pub sets : Component → List Assignment

-- its done is 1 in its done row
abbrev pub with_added : Additions → Component → Component
with_added add c =
    record c {
      ins = inputs_in c;
      outs = outputs_in c;
      cells = c.cells ++ add.cells c;
      sets = c.sets ++ add.sets c ++ done_set ∷ [];
      control = Absent;
    }

-- the component without control; a bare one stays as it is
abbrev pub extended : Additions → Component → Component
extended add c = if is_bare c then record c { control = Absent } else with_added add c
