-- What a compiled netlist gives of one port.
use Rattle.std.proofs.Common.{◌≡◌, ℕ, ◌+◌, ◌<◌, ◌≤◌, List, [], Some, length, get_or, refl, sym, ap, ◌∙◌, arith, map, subst}
use Rattle.std.specs.Prelude.{slice_get, option_map}
use Rattle.std.proofs.lemmas.List.{length-map, get_or-map}
use Rattle.std.proofs.lemmas.Option.{slice_get-map, get_or_from_slice_get, slice_get-get_or, slice_get_read, same_Some}
use Rattle.hw_bits.specs.Values.{values_of, widths_of}
use Rattle.hw_bits.specs.declared.bits.Bits.{Bits}
use Rattle.hw_names.specs.Name.{Text}
use Rattle.hw_prims.specs.Table.{Pin, inputs_of, outputs_of, pin_widths}
use Rattle.net_core.specs.Netlist.{Netlist, SetLine}
use Rattle.net_core.specs.Rules.{PortLine, ports_of, port_width, source_width}
use Rattle.net_core.specs.declared.net.Src.{Src}
use Rattle.net_core.specs.declared.net.Src.TheVariants.{Port, Lit}
use Rattle.net_sim.proofs.GiverLemmas.{length-givers_of, output_of, input_within}
use Rattle.net_sim.proofs.LayoutLemmas.{in_at}
use Rattle.net_sim.proofs.PortLemmas.{width_at, set_width, set_of_number, input_widths, output_width}
use Rattle.net_sim.proofs.RowLemmas.{Once, once_from_distinct}
use Rattle.net_sim.specs.Compiled.{IsSource}
use Rattle.net_sim.specs.Evaluated.{HasWidth, HasSourceWidth, cell_inputs}
use Rattle.net_sim.specs.Layout.{port_names, port_widths, name_of}
use Rattle.net_sim.specs.OrderValue.{OrderValue}
use Rattle.net_sim.specs.Plan.{IsCompiled}
use Rattle.net_sim.specs.PortOrder.{numbers_of}
use Rattle.net_sim.specs.declared.cells.CellPorts.{CellPorts}
use Rattle.net_sim.specs.declared.plan.Giver.{Giver}
use Rattle.net_sim.specs.declared.plan.Giver.TheVariants.{Input, Output}
use Rattle.net_sim.specs.declared.plan.Source.{Source}
use Rattle.net_sim.specs.declared.plan.Source.TheVariants.{Slot, Fixed}

module _ (n : Netlist) (order : OrderValue) (cells : List CellPorts) (sources : List Source) (givers : List Giver) (compiled : IsCompiled n order cells sources givers) where
  pub count_givers : length givers ≡ length (port_names n)
  count_givers = ap length compiled.given ∙ length-givers_of n cells compiled.listed ∙ sym (length-map (ports_of n) (λ (p : PortLine). p.name))

  pub giver_at : (port : ℕ) (read g : Giver) → port < length (port_names n) → read ≡ get_or givers port read → read ≡ g → slice_get givers port ≡ Some g
  giver_at port read g lt is same = slice_get_read givers (length givers) port read refl (omega (arith, lt, count_givers)) is ∙ ap Some same

  pub given_within : (port : ℕ) → slice_get givers port ≡ Some Input → port < length n.ins
  given_within port at = input_within n cells port (ap (λ gs. slice_get gs port) (sym compiled.given) ∙ at)

  -- what holds of an output's cell
  pub record IsCellOf (port m j : ℕ) (cell : CellPorts) : Type 0 where
    pub at : slice_get cells m ≡ Some cell
    pub within : j < length (outputs_of cell.prim)
    pub width : (w : ℕ) → slice_get (pin_widths (outputs_of cell.prim)) j ≡ Some w → slice_get (port_widths n) port ≡ Some w
    pub room : cell.first + length (inputs_of cell.prim) ≤ length (port_widths n)
    pub inputs : cell_inputs (port_widths n) cell ≡ pin_widths (inputs_of cell.prim)

  pub cell_of_output : (port m j : ℕ) → slice_get givers port ≡ Some (Output m j) → (cell : CellPorts) × IsCellOf port m j cell
  cell_of_output port m j at =
      let o = output_of n cells compiled.listed port m j (ap (λ gs. slice_get gs port) (sym compiled.given) ∙ at) in
      let fit = input_widths n compiled.valid cells compiled.listed m o.cell o.at in (
        o.cell,
        record {
          at = o.at;
          within = o.within;
          room = fit.0;
          inputs = fit.1;
          width = λ w is. ap (slice_get (port_widths n)) o.place ∙ output_width n compiled.valid cells compiled.listed m o.cell j w o.at is;
        },
      )

  pub read_cell : (port m j : ℕ) → slice_get givers port ≡ Some (Output m j) → (read : CellPorts) → read ≡ get_or cells m read → IsCellOf port m j read
  read_cell port m j at read is =
      let o = cell_of_output port m j at in
      subst (IsCellOf port m j) (sym (is ∙ get_or_from_slice_get cells m o.0 read o.1.at)) o.1

  pub input_width : (inputs : List ℕ) (port : ℕ) → inputs ≡ map (λ (p : Pin). p.width) n.ins → port < length n.ins → slice_get (port_widths n) port ≡ Some (get_or inputs port 0)
  input_width inputs port e lt =
      let some : Pin = record { name = []; width = 0 } in
      slice_get-map (λ (p : PortLine). p.width) (ports_of n) port ∙ ap (option_map (λ (p : PortLine). p.width)) (in_at n port some lt)
      ∙ ap Some (sym (ap (λ l. get_or l port 0) e ∙ get_or-map (λ (p : Pin). p.width) n.ins port some 0 lt))

  names_once : Once (port_names n)
  names_once = once_from_distinct (port_names n) compiled.distinct

  pub source_has_width : (a : Src Text) (s : Source) → IsSource (port_names n) a s → HasWidth (port_widths n) (source_width (ports_of n) a) s
  source_has_width (Port p) (Slot k) is = width_at n names_once k p is
  source_has_width (Port p) (Fixed bits) is = absurd is
  source_has_width (Lit width value) (Slot k) is = absurd is
  source_has_width (Lit width value) (Fixed bits) is = is.1

  -- an assignment of a port fits its width
  pub number_fits : (name : Text) (i k : ℕ) → slice_get (numbers_of name 0 n.sets) i ≡ Some k → HasSourceWidth n k (port_width (ports_of n) name)
  number_fits name i k at a here =
      let s = set_of_number name 0 n.sets i k at in
      let same : k ≡ s.index = omega (arith, s.counted) in
      let e : s.set ≡ a = same_Some s.set a (sym s.at ∙ ap (slice_get n.sets) (sym same) ∙ here) in
      ap (λ (x : SetLine). source_width (ports_of n) x.src) (sym e) ∙ sym (set_width n compiled.valid s.index s.set s.at) ∙ ap (port_width (ports_of n)) s.named

  -- the width of a port, by its number
  pub width_of : (port : ℕ) → port < length (port_names n) → port_width (ports_of n) (name_of n port) ≡ get_or (port_widths n) port 0
  width_of port lt = sym (get_or_from_slice_get (port_widths n) port (port_width (ports_of n) (name_of n port)) 0 (width_at n names_once port (name_of n port) (slice_get-get_or (port_names n) port [] lt)))

-- the values have a number and a width for each port
pub width_of_value : (widths : List ℕ) (values : List Bits) → widths_of values ≡ widths → (port : ℕ) (b : Bits) → slice_get values port ≡ Some b → slice_get widths port ≡ Some b.width
width_of_value widths values e port b at = ap (λ l. slice_get l port) (sym e) ∙ slice_get-map (λ (x : Bits). x.width) values port ∙ ap (option_map (λ (x : Bits). x.width)) at

pub count_values : (n : Netlist) (values : List Bits) → widths_of values ≡ port_widths n → length values ≡ length (port_names n)
count_values n values e = omega (arith, ap length e, length-map values (λ (x : Bits). x.width), length-map (ports_of n) (λ (p : PortLine). p.width), length-map (ports_of n) (λ (p : PortLine). p.name))

pub count_numbers : (n : Netlist) (values : List Bits) → widths_of values ≡ port_widths n → length (values_of values) ≡ length (port_names n)
count_numbers n values e = length-map values (λ (x : Bits). x.value) ∙ count_values n values e
