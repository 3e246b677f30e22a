-- The order of a netlist's ports, with the assignments of each. This project's.
use Rattle.std.specs.Prelude.{◌≡◌, ℕ, suc, List, [], ◌∷◌, length, if◌then◌else◌, bytes_eq, slice_get, Some}
use Rattle.hw_names.specs.Name.{Text}
use Rattle.net_core.specs.Netlist.{Netlist, SetLine}
use Rattle.net_core.specs.Rules.{ports_of}
use Rattle.net_sim.specs.Order.{IsNamed, IsOrderOf}
use Rattle.net_sim.specs.OrderValue.{OrderValue}

-- the numbers of the assignments whose destination is the port, in their order
abbrev pub numbers_of : Text → ℕ → List SetLine → List ℕ
numbers_of port k [] = []
numbers_of port k (a ∷ sets) = if bytes_eq a.dst port then k ∷ numbers_of port (suc k) sets else numbers_of port (suc k) sets

-- the order of this netlist's ports, and for each port its assignments
pub record IsPortOrderOf (n : Netlist) (order : OrderValue) : Type 0 where
  pub ports : IsOrderOf n order.ports
  pub all : length order.sets ≡ length (ports_of n)
  pub sets : (port : ℕ) (name : Text) → IsNamed n port name → slice_get order.sets port ≡ Some (numbers_of name 0 n.sets)
