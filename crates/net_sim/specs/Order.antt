-- An order in which the ports of a netlist can be evaluated, and the least loop, where there is no order. This project's.
use Rattle.std.specs.Prelude.{◌≡◌, ℕ, ◌<◌, List, [], ◌∷◌, length, map, All, slice_get, Some}
use Rattle.hw_names.specs.Name.{Text}
use Rattle.net_core.specs.Graph.{ReadsPort, IsLeastLoop}
use Rattle.net_core.specs.Netlist.{Netlist}
use Rattle.net_core.specs.Rules.{PortLine, ports_of}
use Rattle.net_sim.specs.Layout.{name_of}

-- the port with this number has this name
abbrev pub IsNamed : Netlist → ℕ → Text → Type 0
IsNamed n port name = (p : PortLine) × (slice_get (ports_of n) port ≡ Some p) × (p.name ≡ name)

-- each port once, after all ports that it reads
pub record IsOrderOf (n : Netlist) (ports : List ℕ) : Type 0 where
  pub all : length ports ≡ length (ports_of n)
  pub in_range : (i port : ℕ) → slice_get ports i ≡ Some port → port < length (ports_of n)
  pub once : (i j port : ℕ) → slice_get ports i ≡ Some port → slice_get ports j ≡ Some port → i ≡ j
  pub after : (i j port other : ℕ) (name read : Text) → slice_get ports i ≡ Some port → slice_get ports j ≡ Some other → IsNamed n port name →
      IsNamed n other read → ReadsPort n name read → j < i

-- these ports are the least loop
abbrev pub IsLeastLoopOf : Netlist → List ℕ → Type 0
IsLeastLoopOf n [] = ⊥
IsLeastLoopOf n (port ∷ ports) = All (λ p. p < length (ports_of n)) (port ∷ ports) × IsLeastLoop n (name_of n port) (map (name_of n) ports)
