-- C12: the wire graph of a component, by reachability, and its loops. This project's.
use Rattle.std.specs.Prelude.{◌≡◌, ◌≢◌, ◌⊎◌, true, List, [], ◌∷◌, ◌++◌, map, codes, Some, AllPairs, Contains}
use Rattle.std.specs.Cmp.Lexicographic.{slice_cmp}
use Rattle.std.specs.Ordering.{nat_cmp}
use Rattle.std.specs.declared.cmp.Ordering.TheVariants.{Greater}
use Rattle.hw_names.specs.Name.{Text, port_at}
use Rattle.hw_prims.specs.Meaning.{is_through}
use Rattle.hw_prims.specs.Table.{inputs_of, outputs_of, pin_names}
use Rattle.hw_prims.specs.declared.prim.Primitive.{Primitive}
use Rattle.net_core.specs.Graph.{option_ports, source_ports}
use Rattle.cal_ast.specs.Actors.{ActorGroup, actor_groups}
use Rattle.cal_ast.specs.Ports.{inputs_in, outputs_in, primitive_in, part_in}
use Rattle.cal_ast.specs.Sides.{IsSource}
use Rattle.cal_ast.specs.Tree.{PortName, own, port_of, Assignment, DoneLine, GroupDef, Component, Design}

-- the groups of a component, those that its invokes stand for among them: one for each actor
abbrev pub all_groups : Design → Component → List GroupDef
all_groups design c = map (λ (a : ActorGroup). a.group) (actor_groups design c)

abbrev pub IsGroupOf : Design → Component → GroupDef → Type 0
IsGroupOf design c g = Contains (all_groups design c) g

-- an assignment of the component, continuous or in a group
abbrev pub IsAssignmentOf : Design → Component → Assignment → Type 0
IsAssignmentOf design c a = Contains c.sets a ⊎ ((g : GroupDef) × IsGroupOf design c g × Contains g.sets a)

-- the ports that an assignment, or a done line, reads
abbrev pub set_ports : Assignment → List PortName
set_ports a = option_ports a.guard ++ source_ports a.src

abbrev pub done_ports : DoneLine → List PortName
done_ports d = option_ports d.guard ++ source_ports d.src

-- an assignment of the port has the other in its source or guard
pub record ReadsByAssignment (design : Design) (c : Component) (port other : PortName) : Type 0 where
  pub a : Assignment
  pub is : IsAssignmentOf design c a
  pub drives : a.dst ≡ port
  pub reads : Contains (set_ports a) other

-- the port is assigned in the group
pub record IsAssignedIn (design : Design) (c : Component) (g : GroupDef) (port : PortName) : Type 0 where
  pub is : IsGroupOf design c g
  pub a : Assignment
  pub has : Contains g.sets a
  pub drives : a.dst ≡ port

-- the port is assigned in a group whose done line has the other in its source or guard
pub record ReadsByDone (design : Design) (c : Component) (port other : PortName) : Type 0 where
  pub g : GroupDef
  pub assigned : IsAssignedIn design c g port
  pub d : DoneLine
  pub has : Contains g.dones d
  pub reads : Contains (done_ports d) other

-- the port is assigned in a group, and the other is the component's input go, which starts control
pub record ReadsByGo (design : Design) (c : Component) (port other : PortName) : Type 0 where
  pub g : GroupDef
  pub assigned : IsAssignedIn design c g port
  pub is_go : other ≡ own (codes "go")
  pub is_input : IsSource design c (own (codes "go"))

-- an output of a primitive depends on an input of it within a row
pub record DependsWithinRow (prim : Primitive) (output input : Text) : Type 0 where
  pub is_output : Contains (pin_names (outputs_of prim)) output
  pub is_input : Contains (pin_names (inputs_of prim)) input
  pub through : is_through prim input output ≡ true

-- the ports are an output and an input of a cell of a primitive, and the one depends on the other within a row
pub record ReadsByPrimitive (c : Component) (port other : PortName) : Type 0 where
  pub cell : Text
  pub prim : Primitive
  pub made : primitive_in c cell ≡ Some prim
  pub output : Text
  pub input : Text
  pub depends : DependsWithinRow prim output input
  pub is_output : port ≡ port_of cell output
  pub is_input : other ≡ port_of cell input

-- the ports are an output and an input of a cell of this component
pub record CrossesCell (design : Design) (c part : Component) (port other : PortName) (output input : Text) : Type 0 where
  pub cell : Text
  pub made : part_in design c cell ≡ Some part
  pub has_output : Contains (pin_names (outputs_in part)) output
  pub has_input : Contains (pin_names (inputs_in part)) input
  pub is_output : port ≡ port_of cell output
  pub is_input : other ≡ port_of cell input

mutual
  -- within a row a port of the component reads another
  pub data ReadsPort (design : Design) : Component → PortName → PortName → Type 0 where
    ByAssignment : (c : Component) (port other : PortName) → ReadsByAssignment design c port other → ReadsPort design c port other
    ByDone : (c : Component) (port other : PortName) → ReadsByDone design c port other → ReadsPort design c port other
    ByGo : (c : Component) (port other : PortName) → ReadsByGo design c port other → ReadsPort design c port other
    ByPrimitive : (c : Component) (port other : PortName) → ReadsByPrimitive c port other → ReadsPort design c port other
    -- an output of a cell of a component reads an input of it that it reaches there
    ByComponent : (c part : Component) (port other : PortName) (output input : Text) → CrossesCell design c part port other output input →
        Reaches design part (own output) (own input) → ReadsPort design c port other

  -- the port reads the other, straight or over ports between
  pub data Reaches (design : Design) : Component → PortName → PortName → Type 0 where
    Straight : (c : Component) (port other : PortName) → ReadsPort design c port other → Reaches design c port other
    Over : (c : Component) (port between other : PortName) → ReadsPort design c port between → Reaches design c between other →
        Reaches design c port other

-- each port of the list reads the next, and the last reads `back`
abbrev pub ReadsAlong : Design → Component → List PortName → PortName → Type 0
ReadsAlong design c [] back = Unit {0}
ReadsAlong design c (p ∷ []) back = ReadsPort design c p back
ReadsAlong design c (p ∷ q ∷ ports) back = ReadsPort design c p q × ReadsAlong design c (q ∷ ports) back

-- a cycle of distinct ports from this one
pub record IsLoop (design : Design) (c : Component) (first : PortName) (others : List PortName) : Type 0 where
  pub along : ReadsAlong design c (first ∷ others) first
  pub distinct : AllPairs (λ p q. p ≢ q) (first ∷ others)

-- the name of a port, as it is shown
abbrev pub shown : PortName → Text
shown p = port_at [] p.cell p.pin

-- the loop starts with the least port, by bytes, that lies on one
pub record IsLeastLoop (design : Design) (c : Component) (first : PortName) (others : List PortName) : Type 0 where
  pub is_loop : IsLoop design c first others
  pub least : (port : PortName) (ports : List PortName) → IsLoop design c port ports →
      slice_cmp nat_cmp (shown first) (shown port) ≢ Greater

-- C12: there is no loop
abbrev pub HasNoLoop : Design → Component → Type 0
HasNoLoop design c = (first : PortName) (others : List PortName) → IsLoop design c first others → ⊥
