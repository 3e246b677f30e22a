use Rattle.std.proofs.Common.{◌≡◌, ◌+◌, ℕ, List, length, subst, arith}
use Rattle.net_core.specs.Netlist.{netlist_of, lines_of}
use Rattle.net_core.specs.declared.net.NetPort.{NetPort}
use Rattle.net_sim.proofs.SimLemmas.{all_made}
use Rattle.net_lanes.specs.Narrow.{is_wide, has_wide_port, HasNone, IsFirst}
use Rattle.net_lanes.proofs.NarrowLemmas.{first_in, first_out, first_wire, first_cell, none_wide}
use Rattle.net_lanes.proofs.narrow.wide_line.Goals as goal

-- none of these ports is too wide, or this is the first that is
abbrev None : List NetPort → Type 0
None ports = HasNone (λ (port : NetPort). is_wide port.width) ports

abbrev First : ℕ → List NetPort → Type 0
First place ports = IsFirst (λ (port : NetPort). is_wide port.width) ports place

pub returns-in-Some : goal.returns-in-Some
returns-in-Some c = first_in c.args.net.now c.args.cells.now c.requires c.in-Some.place (subst (First c.in-Some.place) c.deref.ensures.value c.in-Some.ensures)

pub returns-in-Some-wide_port : goal.returns-in-Some-wide_port
returns-in-Some-wide_port c =
    let net = c.args.net.now in
    let place = c.in-Some-wide_port.place in
    let count : length net.ins.items ≡ c.len-outs.result = omega (arith, c.len-outs.ensures, net.ins.ok.0) in
    subst (λ k. IsFirst has_wide_port (lines_of (netlist_of net)) (k + place)) count
    (first_out net c.args.cells.now c.requires place (subst None c.deref.ensures.value c.in_default.ensures) (subst (First place) c.deref-2.ensures.value c.in-Some-wide_port.ensures))

pub returns-in-Some-wide_port-2 : goal.returns-in-Some-wide_port-2
returns-in-Some-wide_port-2 c =
    let net = c.args.net.now in
    let place = c.in-Some-wide_port-2.place in
    let count : length net.ins.items + length net.outs.items ≡ c.len-outs.result + c.len.result = omega (arith, c.len-outs.ensures, net.ins.ok.0, c.len.ensures, net.outs.ok.0) in
    subst (λ k. IsFirst has_wide_port (lines_of (netlist_of net)) (k + place)) count
    (first_wire net c.args.cells.now c.requires place (subst None c.deref.ensures.value c.in_default.ensures) (subst None c.deref-2.ensures.value c.in_default-wide_port.ensures)
    (subst (First place) c.deref-3.ensures.value c.in-Some-wide_port-2.ensures))

pub wide_cell-requires : goal.wide_cell-requires
wide_cell-requires c = all_made (netlist_of c.args.net.now) c.args.cells.now c.requires

pub returns-in-Some-wide_cell : goal.returns-in-Some-wide_cell
returns-in-Some-wide_cell c =
    let net = c.args.net.now in
    let place = c.in-Some-wide_cell.place in
    let count : length net.ins.items + length net.outs.items + length net.wires.items ≡ c.len-outs.result + c.len.result + c.len-2.result =
    omega (arith, c.len-outs.ensures, net.ins.ok.0, c.len.ensures, net.outs.ok.0, c.len-2.ensures, net.wires.ok.0) in
    subst (λ k. IsFirst has_wide_port (lines_of (netlist_of net)) (k + place)) count
    (first_cell net c.args.cells.now c.requires place (subst None c.deref.ensures.value c.in_default.ensures) (subst None c.deref-2.ensures.value c.in_default-wide_port.ensures)
    (subst None c.deref-3.ensures.value c.in_default-wide_port-2.ensures) c.in-Some-wide_cell.ensures)

pub returns-in-None : goal.returns-in-None
returns-in-None c =
    none_wide c.args.net.now c.args.cells.now c.requires (subst None c.deref.ensures.value c.in_default.ensures) (subst None c.deref-2.ensures.value c.in_default-wide_port.ensures)
    (subst None c.deref-3.ensures.value c.in_default-wide_port-2.ensures) c.in-None.ensures
