-- A graph of ports: which port reads which within a row, by their full names. This project's.
use Rattle.std.specs.Prelude.{◌≡◌, ◌⊎◌, ◌↔◌, ℕ, ◌<◌, slice_get, Some, Contains}
use Rattle.hw_graph.specs.declared.groups.Entry.{Entry}
use Rattle.hw_names.specs.Name.{Text, KeepsTexts}
use Rattle.fil_ast.specs.Naming.{instance_names}
use Rattle.fil_ast.specs.Scope.{Scope}
use Rattle.fil_loops.specs.declared.graph.PortGraph.{PortGraph}

-- the instances that the graph names are those of the scope
abbrev pub HasInstances : Scope → PortGraph → Type 0
HasInstances scope g = g.ports.instances ≡ instance_names scope.instances

-- an entry of the graph says that the port reads the other
pub record HasReading (g : PortGraph) (port other : Text) : Type 0 where
  pub entry : Entry
  pub there : Contains g.entries.items entry
  pub key : slice_get g.ports.names entry.key ≡ Some port
  pub value : slice_get g.ports.names entry.value ≡ Some other

-- the new graph has the readings of the old one, those of P, and no others; numbers keep their ports
pub record Adds (P : Text → Text → Type 0) (old new : PortGraph) : Type 0 where
  pub texts : KeepsTexts old.ports.names new.ports.names
  pub instances : new.ports.instances ≡ old.ports.instances
  pub has : (port other : Text) → HasReading new port other ↔ (HasReading old port other ⊎ P port other)

-- the pair and no other
abbrev pub IsPair : Text → Text → Text → Text → Type 0
IsPair port other p o = (port ≡ p) × (other ≡ o)

-- no pair
abbrev pub NoPair : Text → Text → Type 0
NoPair port other = ⊥

-- the pairs of the first n of some things
abbrev pub Below : (ℕ → Text → Text → Type 0) → ℕ → Text → Text → Type 0
Below P n port other = (k : ℕ) × (k < n) × P k port other
