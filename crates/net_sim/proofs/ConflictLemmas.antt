-- The assignments of a port, by its number.
use Rattle.std.proofs.Common.{◌≡◌, ℕ, ◌<◌, List, [], Some, length, sym, ◌∙◌}
use Rattle.std.specs.Prelude.{slice_get}
use Rattle.std.proofs.lemmas.Option.{same_Some, get_or_from_slice_get}
use Rattle.net_core.specs.Netlist.{Netlist}
use Rattle.net_sim.proofs.PlaceLemmas.{named_at}
use Rattle.net_sim.proofs.PortLemmas.{port_with}
use Rattle.net_sim.specs.Layout.{port_names, name_of}
use Rattle.net_sim.specs.OrderValue.{OrderValue}
use Rattle.net_sim.specs.PortOrder.{IsPortOrderOf, numbers_of}

-- the assignments of a port
pub numbers_are : (n : Netlist) (order : OrderValue) → IsPortOrderOf n order → (port : ℕ) → port < length (port_names n) → (numbers : List ℕ) → slice_get order.sets port ≡ Some numbers → numbers_of (name_of n port) 0 n.sets ≡ numbers
numbers_are n order is port lt numbers at =
    let p = port_with n port lt in
    let named = sym (get_or_from_slice_get (port_names n) port p.0.name [] (named_at n port p.0 p.1)) in
    same_Some (numbers_of (name_of n port) 0 n.sets) numbers (sym (is.sets port (name_of n port) (p.0, p.1, named)) ∙ at)
