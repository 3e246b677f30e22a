-- Two simulations of one netlist. This project's.
use Rattle.std.specs.Prelude.{◌≡◌, ℕ, length}
use Rattle.net_core.specs.Netlist.{netlist_of}
use Rattle.net_sim.specs.Layout.{port_names}
use Rattle.net_sim.specs.Shown.{shown_cells}
use Rattle.net_sim.specs.Sim.{SimValue}

-- both are of a netlist with so many ports and so many shown memories
abbrev pub IsPair : ℕ → ℕ → SimValue → SimValue → Type 0
IsPair ports shown plain flat =
    (flat.net ≡ plain.net) × (ports ≡ length (port_names (netlist_of plain.net))) ×
    (length plain.values ≡ ports) × (length flat.values ≡ ports) ×
    (shown ≡ length (shown_cells (netlist_of plain.net)))
