-- Levels of a component's ports, as code has them: what is read within a row has a lower one. This project's.
use Rattle.std.specs.Prelude.{◌≡◌, ℕ, ◌+◌, List, length, take, slice_get, Some, All}
use Rattle.hw_levels.specs.Levels.{IsBelow}
use Rattle.hw_names.specs.Name.{AreDistinct, HasNoDot}
use Rattle.fil_ast.specs.Tree.{Component, DataPort, Design}
use Rattle.fil_ast.specs.Wires.{Reaches, through_before, whole_scope}
use Rattle.fil_loops.specs.OwnPorts.{own_port_names}
use Rattle.fil_loops.specs.declared.levels.Levels.{Levels}

-- the levels are those of the component's ports, inputs first, and each input that an output reaches has a lower one; names differ, and none has a dot
pub record ShowsLevels (earlier : Design) (c : Component) (own : Levels) : Type 0 where
  pub names : own.names ≡ own_port_names c
  pub inputs : own.inputs ≡ length c.ins
  pub distinct : AreDistinct own.names
  pub dotless : All HasNoDot own.names
  pub all : length own.levels.items ≡ length own.names
  pub lower : (i o : ℕ) (input output : DataPort) → slice_get c.ins i ≡ Some input → slice_get c.outs o ≡ Some output →
      Reaches (through_before earlier) (whole_scope earlier c) input.name output.name → IsBelow own.levels.items i (own.inputs + o)

-- this of each of the components
pub record ShowAllLevels (comps : Design) (levels : List Levels) : Type 0 where
  pub all : length levels ≡ length comps
  pub each : (n : ℕ) (c : Component) (own : Levels) → slice_get comps n ≡ Some c → slice_get levels n ≡ Some own → ShowsLevels (take n comps) c own
