-- The graph of a component's ports, by their numbers. This project's.
use Rattle.std.specs.Prelude.{◌≡◌, ◌↔◌, ℕ, List, [], map, slice_get, Some}
use Rattle.hw_graph.specs.Graph as graph
use Rattle.hw_names.specs.Name.{Text, text_of}
use Rattle.fil_ast.specs.Tree.{Component, Design}
use Rattle.fil_ast.specs.Wires.{ReadsPort, through_before, whole_scope}
use Rattle.fil_ast.specs.declared.tree.FilPort.{FilPort}
use Rattle.fil_loops.specs.inside.PortGraph.{HasReading}
use Rattle.fil_loops.specs.declared.graph.PortGraph.{PortGraph}

-- the names of ports of code
abbrev pub port_names : List Text → List FilPort → List Text
port_names names ports = map (λ (p : FilPort). text_of names p.name) ports

-- what the component's own text says, and its instances of primitives: its readings but those that go through instances of components
abbrev pub ReadsOwn : Design → Component → Text → Text → Type 0
ReadsOwn comps c port other = ReadsPort (through_before []) (whole_scope comps c) port other

-- the graph has these readings and no others
abbrev pub HasOwnReadings : Design → Component → PortGraph → Type 0
HasOwnReadings comps c g = (port other : Text) → HasReading g port other ↔ ReadsOwn comps c port other

-- the ports have an order in which each comes after all that it reads
abbrev pub HasOrder : List (List ℕ) → Type 0
HasOrder reads = (order : List ℕ) × graph.IsReadOrder reads order

-- these are the numbers of texts among the names of ports
abbrev pub AreNumbered : List Text → List ℕ → List Text → Type 0
AreNumbered names numbers texts = map (slice_get names) numbers ≡ map Some texts
