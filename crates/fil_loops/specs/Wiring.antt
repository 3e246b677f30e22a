-- Which outputs of a component reach which of its inputs within a row, and least loops, as code has them. This project's.
use Rattle.std.specs.Prelude.{◌≡◌, ◌↔◌, ℕ, ◌+◌, ◌∷◌, List, length, take, slice_get, Option, Some, None, Vec}
use Rattle.std.specs.declared.alloc.Global.{Global}
use Rattle.hw_cells.specs.PartGraph.{Leads}
use Rattle.hw_names.specs.Name.{Text, AreDistinct}
use Rattle.fil_ast.specs.Tree.{DataPort, Component, Design}
use Rattle.fil_ast.specs.Wires.{HasNoLoop, IsLeastLoop, Reaches, through_before, whole_scope}
use Rattle.fil_loops.specs.OwnPorts.{own_port_names}
use Rattle.fil_loops.specs.declared.inside.Inside.{Inside}
use Rattle.fil_loops.specs.declared.wires.WireEnd.{WireEnd}
use Rattle.fil_loops.specs.declared.wires.WireEnd.TheVariants.{Loop, Memory}

-- in the graph each output leads to exactly the inputs that it reaches; ports by their numbers, inputs first
pub record IsInside (earlier : Design) (c : Component) (inside : Inside) : Type 0 where
  pub names : inside.names ≡ own_port_names c
  pub distinct : AreDistinct inside.names
  pub inputs : inside.graph.inputs ≡ length c.ins
  pub all : length inside.graph.nodes.items ≡ length inside.names
  pub leads : (i o : ℕ) (input output : DataPort) → slice_get c.ins i ≡ Some input → slice_get c.outs o ≡ Some output →
      Leads inside.graph (inside.graph.inputs + o) i ↔ Reaches (through_before earlier) (whole_scope earlier c) input.name output.name

-- this of each of the components
pub record ShowInsides (comps : Design) (insides : List Inside) : Type 0 where
  pub all : length insides ≡ length comps
  pub each : (n : ℕ) (c : Component) (inside : Inside) → slice_get comps n ≡ Some c → slice_get insides n ≡ Some inside → IsInside (take n comps) c inside

-- the least loop of the component
abbrev pub TellsLoop : Design → Component → WireEnd → Type 0
TellsLoop earlier c (Loop ports) = (first : Text) × (others : List Text) × (ports.items ≡ first ∷ others) × IsLeastLoop earlier c first others
TellsLoop earlier c Memory = Unit {0}

-- none where the component has no loop, else its least loop
abbrev pub TellsLeastLoop : Design → Component → Option (Vec Text Global) → Type 0
TellsLeastLoop earlier c None = HasNoLoop earlier c
TellsLeastLoop earlier c (Some ports) = (first : Text) × (others : List Text) × (ports.items ≡ first ∷ others) × IsLeastLoop earlier c first others
