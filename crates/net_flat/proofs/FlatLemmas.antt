-- A listing is the design flattened: both are within one another as circuits.
use Rattle.std.proofs.Common.{◌≡◌, ℕ, Bool, true, false, refl, sym, ap, ◌∙◌, subst, inl, inr}
use Rattle.std.specs.Prelude.{Contains}
use Rattle.hw_names.specs.Name.{Text}
use Rattle.hw_prims.specs.Row.{Row}
use Rattle.hw_prims.specs.Table.{pin_names}
use Rattle.net_core.proofs.CircuitLemmas.{IsWithin, same_runs, same_conflicts}
use Rattle.net_core.specs.Circuit.{Drive}
use Rattle.net_core.specs.NetRun.{IsWritable, net_circuit, net_drive}
use Rattle.net_core.specs.Netlist.{Netlist}
use Rattle.cal_ast.proofs.DriveLemmas.{writable_destination}
use Rattle.cal_ast.proofs.InstanceLemmas.{component_at-design}
use Rattle.cal_ast.proofs.LookupLemmas.{bare_inputs}
use Rattle.cal_ast.proofs.SideLemmas.{destination_pin}
use Rattle.cal_ast.specs.CalRun.{bare, cal_circuit, values_for}
use Rattle.cal_ast.specs.Naming.{Unreserved}
use Rattle.cal_ast.specs.Plain.{HasPlainTree}
use Rattle.cal_ast.specs.Ports.{is_bare, inputs_in}
use Rattle.cal_ast.specs.Tree.{Component, Design}
use Rattle.cal_ast.specs.Wired.{IsWired}
use Rattle.net_flat.proofs.CellLemmas.{has_cells, net_cell, primitive_cell}
use Rattle.net_flat.proofs.ListingLemmas.{same_values}
use Rattle.net_flat.proofs.SinkLemmas.{written, driven}
use Rattle.net_flat.specs.Flattened.{IsFlattened}
use Rattle.net_flat.specs.Laws.{ListingsAreFlattened}
use Rattle.net_flat.specs.Listing.{IsListing}

not_both : (b : Bool) → b ≡ true → b ≡ false → ⊥
not_both b yes' no' = cc

module _ (design : Design) (top : Component) (n : Netlist) (plain : HasPlainTree design) (wired : IsWired design) (in_design : Contains design top) (listing : IsListing design top n) where
  abbrev same_inputs : n.ins ≡ inputs_in top
  same_inputs = listing.ins ∙ sym (bare_inputs top (wired.bare top in_design))

  design_within : IsWithin (cal_circuit design top bare) (net_circuit n)
  design_within = record { inputs = inputs; cells = net_cell design top n listing; sinks = sinks }
    where
      inputs : (port : Text) → Contains (pin_names (inputs_in top)) port → Contains (pin_names n.ins) port
      inputs port has = subst (λ pins. Contains (pin_names pins) port) (sym same_inputs) has

      sinks : (port : Text) (drive : Drive) → (cal_circuit design top bare).Sink port drive → (other : Drive) × (net_circuit n).Sink port other × ((t : ℕ) (row : Row) → drive t row ≡ other t row)
      sinks port drive (inr controlled) =
          absurd (not_both (is_bare controlled.c) (wired.bare controlled.c (component_at-design design top controlled.path controlled.c in_design controlled.at)) controlled.control)
      sinks port drive (inl a) =
          let has = destination_pin design a.c a.cell a.pin a.sink in
          let there = subst (λ x. IsWritable n x) a.named (written design top n listing wired in_design a.path a.c a.cell a.pin a.at has) in (
            net_drive n port,
            (there, refl),
            λ t row. ap (λ (d : Drive). d t row) a.drives ∙ sym (same_values design top n listing plain wired.rules.keeps in_design a.path a.c a.at a.cell a.pin has port a.named row),
          )

  net_within : IsWithin (net_circuit n) (cal_circuit design top bare)
  net_within = record { inputs = inputs; cells = primitive_cell design top n listing wired.rules.keeps in_design; sinks = sinks }
    where
      inputs : (port : Text) → Contains (pin_names n.ins) port → Contains (pin_names (inputs_in top)) port
      inputs port has = subst (λ pins. Contains (pin_names pins) port) same_inputs has

      sinks : (port : Text) (drive : Drive) → (net_circuit n).Sink port drive → (other : Drive) × (cal_circuit design top bare).Sink port other × ((t : ℕ) (row : Row) → drive t row ≡ other t row)
      sinks port drive (there, drives) =
          let d = driven design top n listing wired in_design port there in
          let has = component_at-design design top d.path d.c in_design d.at in
          let sink = writable_destination Unreserved design wired.rules.keeps d.c has (wired.bare d.c has) d.cell d.pin d.sink in (
            (λ t row. values_for d.path port row d.c.sets),
            inl (record { path = d.path; c = d.c; at = d.at; cell = d.cell; pin = d.pin; sink = sink; named = d.named; drives = refl }),
            λ t row. ap (λ (f : Drive). f t row) drives ∙ same_values design top n listing plain wired.rules.keeps in_design d.path d.c d.at d.cell d.pin d.sink port d.named row,
          )

  is_flattened : IsFlattened design top n
  is_flattened = record {
    name = listing.name;
    ins = listing.ins;
    outs = listing.outs;
    cells = has_cells design top n listing;
    runs = same_runs (net_circuit n) (cal_circuit design top bare) net_within design_within;
    conflicts = same_conflicts (net_circuit n) (cal_circuit design top bare) net_within design_within;
  }

pub listings_are_flattened : ListingsAreFlattened
listings_are_flattened = λ design top n plain wired in_design listing. is_flattened design top n plain wired in_design listing
