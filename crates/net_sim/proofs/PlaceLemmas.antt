-- The numbers of ports by their names: what a name's role says of its number.
use Rattle.std.proofs.Common.{◌≡◌, ℕ, ◌+◌, ◌<◌, List, [], Some, length, get_or, sym, ap, ap₂, ◌∙◌, arith, inl, inr, subst}
use Rattle.std.specs.Prelude.{slice_get, map, option_map, Contains}
use Rattle.std.proofs.lemmas.List.{length-map, get_or-map}
use Rattle.std.proofs.lemmas.Option.{slice_get-map, slice_get_within, get_or_from_slice_get, same_Some}
use Rattle.hw_names.specs.Name.{Text, dotted}
use Rattle.hw_prims.specs.Table.{Pin, prim_of, inputs_of, outputs_of, pin_names}
use Rattle.hw_prims.specs.declared.prim.Primitive.{Primitive}
use Rattle.net_core.specs.NetRun.{HasPin, IsNetCell, IsWritable}
use Rattle.net_core.specs.Netlist.{Netlist, CellLine}
use Rattle.net_core.specs.Rules.{PortLine, ports_of}
use Rattle.net_sim.proofs.GiverLemmas.{at_some, in_giver, out_giver, wire_giver, cell_input_giver, cell_output_giver}
use Rattle.net_sim.proofs.LayoutLemmas.{input_at, output_at, in_at, out_at, wire_at}
use Rattle.net_sim.specs.Compiled.{givers_of}
use Rattle.net_sim.specs.Layout.{port_names, first_port, AreCellPorts, IsCellPorts}
use Rattle.net_sim.specs.declared.cells.CellPorts.{CellPorts}
use Rattle.net_sim.specs.declared.plan.Giver.{Giver}
use Rattle.net_sim.specs.declared.plan.Giver.TheVariants.{Input, Output, Driven}

abbrev some_pin : Pin
some_pin = record { name = []; width = 0 }

pub named_at : (n : Netlist) (k : ℕ) (p : PortLine) → slice_get (ports_of n) k ≡ Some p → slice_get (port_names n) k ≡ Some p.name
named_at n k p at = slice_get-map (λ (q : PortLine). q.name) (ports_of n) k ∙ ap (option_map (λ (q : PortLine). q.name)) at

-- the number of a pin by its name
pub record IsPinAt (pins : List Pin) (name : Text) : Type 0 where
  pub index : ℕ
  pub within : index < length pins
  pub named : (get_or pins index (record { name = []; width = 0 })).name ≡ name

pub pin_at : (pins : List Pin) (name : Text) → Contains (map (λ (p : Pin). p.name) pins) name → IsPinAt pins name
pin_at pins name has =
    let lt : has.0 < length pins = omega (arith, has.1, length-map pins (λ (p : Pin). p.name)) in
    record { index = has.0; within = lt; named = sym (get_or-map (λ (p : Pin). p.name) pins has.0 some_pin name lt) ∙ has.2 }

pub pin_name_at : (pins : List Pin) (k : ℕ) (name : Text) → slice_get (pin_names pins) k ≡ Some name → (k < length pins) × ((get_or pins k (record { name = []; width = 0 })).name ≡ name)
pin_name_at pins k name at =
    let lt : k < length pins = omega (arith, slice_get_within (pin_names pins) k name at, length-map pins (λ (p : Pin). p.name)) in
    (lt, sym (get_or-map (λ (p : Pin). p.name) pins k some_pin name lt) ∙ get_or_from_slice_get (pin_names pins) k name name at)

-- a cell by its name: its line, and its number among the listed ones
pub record IsListedCell (n : Netlist) (cells : List CellPorts) (cell : Text) (prim : Primitive) : Type 0 where
  pub index : ℕ
  pub line : CellLine
  pub ports : CellPorts
  pub at_line : slice_get n.cells index ≡ Some line
  pub named : line.name ≡ cell
  pub at : slice_get cells index ≡ Some ports
  pub first : ports.first ≡ first_port n index
  pub prim_is : ports.prim ≡ prim
  pub made_of : prim_of line.prim line.params ≡ Some prim

module _ (n : Netlist) (cells : List CellPorts) (listed : AreCellPorts n cells) where
  pub listed_cell : (cell : Text) (prim : Primitive) → IsNetCell n cell prim → IsListedCell n cells cell prim
  listed_cell cell prim has =
      let lt : has.0 < length cells = omega (arith, listed.all, slice_get_within n.cells has.0 has.1 has.2) in
      let c = at_some cells has.0 lt in
      let is : IsCellPorts n has.0 has.1 c.0 = listed.each has.0 has.1 c.0 has.2 c.1 in
      record { index = has.0; line = has.1; ports = c.0; at_line = has.2; named = has.3; at = c.1; first = is.first; prim_is = same_Some c.0.prim prim (sym is.prim ∙ has.4); made_of = has.4 }

  -- the number of a name, and its giver
  pub record IsPlace (name : Text) (giver : Giver) : Type 0 where
    pub number : ℕ
    pub at : slice_get (port_names n) number ≡ Some name
    pub given : slice_get (givers_of n cells) number ≡ Some giver

  pub in_place : (name : Text) → HasPin n.ins name → IsPlace name Input
  in_place name has =
      let p = pin_at n.ins name has in
      record { number = p.index; at = named_at n p.index _ (in_at n p.index some_pin p.within) ∙ ap Some p.named; given = in_giver n cells listed p.index p.within }

  pub input_place : (cell : Text) (prim : Primitive) → IsNetCell n cell prim → (pin : Text) → Contains (pin_names (inputs_of prim)) pin → IsPlace (dotted cell pin) Driven
  input_place cell prim has pin within =
      let c = listed_cell cell prim has in
      let p = pin_at (inputs_of prim) pin within in
      record {
        number = first_port n c.index + p.index;
        at = named_at n (first_port n c.index + p.index) _ (input_at n c.index c.line prim c.at_line c.made_of p.index some_pin p.within) ∙ ap Some (ap₂ dotted c.named p.named);
        given = cell_input_giver n cells listed c.index c.ports c.at p.index (rw c.prim_is p.within);
      }

  pub writable_place : (name : Text) → IsWritable n name → IsPlace name Driven
  writable_place name (inl out) =
      let p = pin_at n.outs name out in
      record { number = length n.ins + p.index; at = named_at n (length n.ins + p.index) _ (out_at n p.index some_pin p.within) ∙ ap Some p.named; given = out_giver n cells listed p.index p.within }
  writable_place name (inr (inl wire)) =
      let p = pin_at n.wires name wire in
      record { number = length n.ins + length n.outs + p.index; at = named_at n (length n.ins + length n.outs + p.index) _ (wire_at n p.index some_pin p.within) ∙ ap Some p.named; given = wire_giver n cells listed p.index p.within }
  writable_place name (inr (inr input)) = subst (λ x. IsPlace x Driven) input.5 (input_place input.0 input.1 input.2 input.3 input.4)

  -- an output of a cell by its number
  pub record IsOutputPlace (cell : Text) (prim : Primitive) (k : ℕ) (output : Text) : Type 0 where
    pub listed_as : IsListedCell n cells cell prim
    pub number : ℕ
    pub at : slice_get (port_names n) number ≡ Some (dotted cell output)
    pub given : slice_get (givers_of n cells) number ≡ Some (Output listed_as.index k)

  pub output_place : (cell : Text) (prim : Primitive) (k : ℕ) (output : Text) → IsNetCell n cell prim → slice_get (pin_names (outputs_of prim)) k ≡ Some output → IsOutputPlace cell prim k output
  output_place cell prim k output has at =
      let c = listed_cell cell prim has in
      let p = pin_name_at (outputs_of prim) k output at in
      let place : first_port n c.index + length (inputs_of prim) + k ≡ first_port n c.index + (length (inputs_of prim) + k) = omega arith in
      record {
        listed_as = c;
        number = first_port n c.index + length (inputs_of prim) + k;
        at = named_at n (first_port n c.index + length (inputs_of prim) + k) _ (output_at n c.index c.line prim c.at_line c.made_of k some_pin p.0) ∙ ap Some (ap₂ dotted c.named p.1);
        given = ap (slice_get (givers_of n cells)) place ∙ subst (λ q. slice_get (givers_of n cells) (first_port n c.index + (length (inputs_of q) + k)) ≡ Some (Output c.index k)) c.prim_is (cell_output_giver n cells listed c.index c.ports c.at k (rw c.prim_is p.0));
      }
