-- The value that each giver gives is the one that a row asks of the port.
use Rattle.std.proofs.Common.{◌≡◌, ℕ, ◌+◌, ◌<◌, List, [], Option, Some, length, get_or, refl, sym, ap, ◌∙◌, arith, map}
use Rattle.std.specs.Prelude.{slice_get, slice_index, option_map}
use Rattle.std.proofs.lemmas.List.{length-map, get_or-map}
use Rattle.std.proofs.lemmas.Option.{slice_get-map, slice_get-get_or, same_Some}
use Rattle.hw_names.specs.Name.{Text, dotted}
use Rattle.hw_prims.specs.Cell.{CellValue}
use Rattle.hw_prims.specs.Meaning.{output_values}
use Rattle.hw_prims.specs.Row.{Row, values_at}
use Rattle.hw_prims.specs.State.{State}
use Rattle.hw_prims.specs.Table.{Pin, inputs_of, pin_names}
use Rattle.hw_prims.specs.declared.prim.Primitive.{Primitive}
use Rattle.net_core.specs.Circuit.{settled}
use Rattle.net_core.specs.NetRun.{HasPin, IsWritable, values_for}
use Rattle.net_core.specs.Netlist.{Netlist, CellLine}
use Rattle.net_core.specs.Rules.{PortLine, ports_of, IsValid}
use Rattle.net_sim.proofs.LayoutLemmas.{in_at, input_at}
use Rattle.net_sim.proofs.PlaceLemmas.{IsPlace, IsPinAt, pin_at, pin_name_at, named_at, in_place, writable_place, output_place, IsOutputPlace, IsListedCell}
use Rattle.net_sim.proofs.PortLemmas.{part_is, cells_once, input_widths}
use Rattle.net_sim.proofs.RowLemmas.{Once, once_from_distinct, row_at, state_at}
use Rattle.net_sim.proofs.SettleLemmas.{driven_writable}
use Rattle.net_sim.specs.Compiled.{givers_of}
use Rattle.net_sim.specs.Evaluated.{IsValueOf, Clashes, cell_inputs}
use Rattle.net_sim.specs.Layout.{port_names, name_of, first_port, AreCellPorts}
use Rattle.net_sim.specs.OrderValue.{OrderValue}
use Rattle.net_sim.specs.Plan.{IsCompiled, ArePrims}
use Rattle.net_sim.specs.Tests.{AreValuesIn}
use Rattle.net_sim.specs.Sim.{port_row, input_row, states_of, cell_names}
use Rattle.net_sim.specs.declared.cells.CellPorts.{CellPorts}
use Rattle.net_sim.specs.declared.plan.Giver.{Giver}
use Rattle.net_sim.specs.declared.plan.Giver.TheVariants.{Input, Output, Driven}
use Rattle.net_sim.specs.declared.plan.Source.{Source}

two_givers : (a b : Giver) (o : Option Giver) → o ≡ Some a → o ≡ Some b → a ≡ b
two_givers a b o e f = same_Some a b (sym e ∙ f)

-- the state of a listed cell, by its name
pub state_of_cell : (n : Netlist) (cells : List CellPorts) → IsValid n → AreCellPorts n cells → (states : List CellValue) → ArePrims cells states → (cell : Text) (prim : Primitive) (l : IsListedCell n cells cell prim) (s : CellValue) → slice_get states l.index ≡ Some s → states_of n (map (λ (x : CellValue). x.state) states) cell prim ≡ s.state
state_of_cell n cells valid listed states prims cell prim l s at =
    let count : length states ≡ length cells = omega (arith, ap length prims, length-map states (λ (x : CellValue). x.prim), length-map cells (λ (x : CellPorts). x.prim)) in
    let sizes : length (cell_names n) ≡ length (map (λ (x : CellValue). x.state) states) = omega (arith, count, listed.all, length-map states (λ (x : CellValue). x.state), length-map n.cells (λ (l : CellLine). l.name)) in
    state_at (cell_names n) (map (λ (x : CellValue). x.state) states) (cells_once n valid) sizes l.index cell s.state
    (slice_get-map (λ (l : CellLine). l.name) n.cells l.index ∙ ap (option_map (λ (l : CellLine). l.name)) l.at_line ∙ ap Some l.named)
    (slice_get-map (λ (x : CellValue). x.state) states l.index ∙ ap (option_map (λ (x : CellValue). x.state)) at)

module _ (n : Netlist) (order : OrderValue) (cells : List CellPorts) (sources : List Source) (givers : List Giver) (compiled : IsCompiled n order cells sources givers) (values : List ℕ) (size : length values ≡ length (port_names n)) where
  names_once : Once (port_names n)
  names_once = once_from_distinct (port_names n) compiled.distinct

  pub name_at : (port : ℕ) → port < length (port_names n) → slice_get (port_names n) port ≡ Some (name_of n port)
  name_at port lt = slice_get-get_or (port_names n) port [] lt

  -- the values are those of the row at the ports' names
  pub values_in : AreValuesIn (port_row n values) (port_names n) values
  values_in k name at = row_at (port_names n) values names_once (sym size) k name at

  -- the inputs of a listed cell, by its name
  pub inputs_of_cell : (cell : Text) (prim : Primitive) (l : IsListedCell n cells cell prim) → cell_inputs values l.ports ≡ values_at (port_row n values) (dotted cell) (pin_names (inputs_of prim))
  inputs_of_cell cell prim l =
      let c = l.ports in
      let size_p : length (inputs_of c.prim) ≡ length (inputs_of prim) = ap (λ q. length (inputs_of q)) l.prim_is in
      let size_n = length-map (inputs_of prim) (λ (p : Pin). p.name) in
      let size_v = length-map (pin_names (inputs_of prim)) (λ p. port_row n values (dotted cell p)) in
      let room = (input_widths n compiled.valid cells compiled.listed l.index c l.at).0 in
      part_is values (values_at (port_row n values) (dotted cell) (pin_names (inputs_of prim))) c.first (c.first + length (inputs_of c.prim)) (omega (arith, size_p, size_n, size_v))
      (omega (arith, room, size, length-map (ports_of n) (λ (p : PortLine). p.width), length-map (ports_of n) (λ (p : PortLine). p.name)))
      (λ i lt.
      let some : Pin = record { name = []; width = 0 } in
      let below : i < length (inputs_of prim) = omega (arith, lt, size_n, size_v) in
      let below_n : i < length (pin_names (inputs_of prim)) = omega (arith, lt, size_v) in
      let pin = get_or (inputs_of prim) i some in
      let at : slice_get (port_names n) (first_port n l.index + i) ≡ Some (dotted cell pin.name) = named_at n (first_port n l.index + i) _ (input_at n l.index l.line prim l.at_line l.made_of i some below) ∙ ap Some (ap (λ x. dotted x pin.name) l.named) in
      ap (λ f. get_or values (f + i) 0) l.first
      ∙ sym (row_at (port_names n) values names_once (sym size) (first_port n l.index + i) (dotted cell pin.name) at)
      ∙ sym (get_or-map (λ p. port_row n values (dotted cell p)) (pin_names (inputs_of prim)) i [] 0 below_n ∙ ap (λ p. port_row n values (dotted cell p)) (get_or-map (λ (p : Pin). p.name) (inputs_of prim) i some [] below)))

  module _ (port : ℕ) (within : port < length (port_names n)) where
    giver_is : (name : Text) (giver : Giver) → name_of n port ≡ name → IsPlace n cells compiled.listed name giver → slice_get givers port ≡ Some giver
    giver_is name giver named place =
        let same : place.number ≡ port = names_once place.number port name place.at (name_at port within ∙ ap Some named) in
        ap (λ gs. slice_get gs port) compiled.given ∙ ap (slice_get (givers_of n cells)) (sym same) ∙ place.given

    output_is : (cell : Text) (prim : Primitive) (k : ℕ) (output : Text) → dotted cell output ≡ name_of n port → (place : IsOutputPlace n cells compiled.listed cell prim k output) → slice_get givers port ≡ Some (Output place.listed_as.index k)
    output_is cell prim k output named place =
        let same : place.number ≡ port = names_once place.number port (dotted cell output) place.at (name_at port within ∙ ap Some (sym named)) in
        ap (λ gs. slice_get gs port) compiled.given ∙ ap (slice_get (givers_of n cells)) (sym same) ∙ place.given

    not_in : (giver : Giver) → slice_get givers port ≡ Some giver → HasPin n.ins (name_of n port) → giver ≡ Input
    not_in giver at has = two_givers giver Input (slice_get givers port) at (giver_is (name_of n port) Input refl (in_place n cells compiled.listed (name_of n port) has))

    not_driven : (giver : Giver) → slice_get givers port ≡ Some giver → IsWritable n (name_of n port) → giver ≡ Driven
    not_driven giver at has = two_givers giver Driven (slice_get givers port) at (giver_is (name_of n port) Driven refl (writable_place n cells compiled.listed (name_of n port) has))

    -- a port that is given or computed has no Conflict
    pub no_clash : (giver : Giver) → slice_get givers port ≡ Some giver → (giver ≡ Driven → ⊥) → Clashes n (port_row n values) port → ⊥
    no_clash giver at not_by_sets clash = not_by_sets (not_driven giver at (driven_writable n compiled.valid (port_row n values) (name_of n port) (omega (arith, clash))))

    -- a port without a driver of its own: an input
    pub value_from_input : (inputs : List ℕ) (states : Text → Primitive → State) → length inputs ≡ length n.ins → slice_get givers port ≡ Some Input → IsValueOf n (input_row n inputs) states (port_row n values) (name_of n port) (get_or inputs port 0)
    value_from_input inputs states count given = record {
      given = λ has. given_by (pin_at n.ins (name_of n port) has);
      driven = λ has. let bad : Input ≡ Driven = not_driven Input given has in cc;
      computed = λ cell prim k output has at named.
          let place = output_place n cells compiled.listed cell prim k output has at in
          let bad : Input ≡ Output place.listed_as.index k = two_givers Input (Output place.listed_as.index k) (slice_get givers port) given (output_is cell prim k output named place) in cc;
    }
      where
        in_once : Once (map (λ (p : Pin). p.name) n.ins)
        in_once i j x at at' = names_once i j x (up i x at) (up j x at')
          where
            up : (k : ℕ) (y : Text) → slice_get (map (λ (p : Pin). p.name) n.ins) k ≡ Some y → slice_get (port_names n) k ≡ Some y
            up k y is = let p = pin_name_at n.ins k y is in named_at n k _ (in_at n k (record { name = []; width = 0 }) p.0) ∙ ap Some p.1

        given_by : IsPinAt n.ins (name_of n port) → get_or inputs port 0 ≡ input_row n inputs (name_of n port)
        given_by p =
            let some : Pin = record { name = []; width = 0 } in
            let in_names = map (λ (p : Pin). p.name) n.ins in
            let same : port ≡ p.index = names_once port p.index (name_of n port) (name_at port within) (named_at n p.index _ (in_at n p.index some p.within) ∙ ap Some p.named) in
            let lt : p.index < length in_names = omega (arith, p.within, length-map n.ins (λ (p : Pin). p.name)) in
            let at : slice_get in_names p.index ≡ Some (name_of n port) = slice_get-get_or in_names p.index [] lt ∙ ap Some (get_or-map (λ (p : Pin). p.name) n.ins p.index some [] p.within ∙ p.named) in
            ap (λ k. get_or inputs k 0) same ∙ sym (row_at in_names inputs in_once (length-map n.ins (λ (p : Pin). p.name) ∙ sym count) p.index (name_of n port) at)

    -- a port that assignments drive
    pub value_from_sets : (inputs : Row) (states : Text → Primitive → State) (value : ℕ) → slice_get givers port ≡ Some Driven → value ≡ settled (values_for (name_of n port) (port_row n values) n.sets) → IsValueOf n inputs states (port_row n values) (name_of n port) value
    value_from_sets inputs states value given is = record {
      given = λ has. let bad : Driven ≡ Input = not_in Driven given has in cc;
      driven = λ has. is;
      computed = λ cell prim k output has at named.
          let place = output_place n cells compiled.listed cell prim k output has at in
          let bad : Driven ≡ Output place.listed_as.index k = two_givers Driven (Output place.listed_as.index k) (slice_get givers port) given (output_is cell prim k output named place) in cc;
    }

    -- an output of a cell
    pub value_from_cell : (inputs : Row) (states : List CellValue) (m j : ℕ) (c : CellPorts) (s : CellValue) (value : ℕ) → ArePrims cells states → slice_get givers port ≡ Some (Output m j) → slice_get cells m ≡ Some c → slice_get states m ≡ Some s → value ≡ slice_index (output_values c.prim s.state (cell_inputs values c)) j → IsValueOf n inputs (states_of n (map (λ (x : CellValue). x.state) states)) (port_row n values) (name_of n port) value
    value_from_cell inputs states m j c s value prims given at_c at_s is = record {
      given = λ has. let bad : Output m j ≡ Input = not_in (Output m j) given has in cc;
      driven = λ has. let bad : Output m j ≡ Driven = not_driven (Output m j) given has in cc;
      computed = λ cell prim k output has at named.
          let place = output_place n cells compiled.listed cell prim k output has at in
          let same : Output m j ≡ Output place.listed_as.index k = two_givers (Output m j) (Output place.listed_as.index k) (slice_get givers port) given (output_is cell prim k output named place) in
          computed_by cell prim k output place (let e : m ≡ place.listed_as.index = cc in e) (let e : j ≡ k = cc in e);
    }
      where
        computed_by : (cell : Text) (prim : Primitive) (k : ℕ) (output : Text) (place : IsOutputPlace n cells compiled.listed cell prim k output) → m ≡ place.listed_as.index → j ≡ k → value ≡ slice_index (output_values prim (states_of n (map (λ (x : CellValue). x.state) states) cell prim) (values_at (port_row n values) (dotted cell) (pin_names (inputs_of prim)))) k
        computed_by cell prim k output place index same_k =
            let l = place.listed_as in
            let same_c : c ≡ l.ports = same_Some c l.ports (sym at_c ∙ ap (slice_get cells) index ∙ l.at) in
            let prim_is : c.prim ≡ prim = ap (λ (x : CellPorts). x.prim) same_c ∙ l.prim_is in
            is
            ∙ ap (λ q. slice_index (output_values q s.state (cell_inputs values c)) j) prim_is
            ∙ ap (λ st. slice_index (output_values prim st (cell_inputs values c)) j) (sym (state_of_cell n cells compiled.valid compiled.listed states prims cell prim l s (ap (slice_get states) (sym index) ∙ at_s)))
            ∙ ap (λ ins. slice_index (output_values prim (states_of n (map (λ (x : CellValue). x.state) states) cell prim) ins) j) (ap (cell_inputs values) same_c ∙ inputs_of_cell cell prim l)
            ∙ ap (slice_index (output_values prim (states_of n (map (λ (x : CellValue). x.state) states) cell prim) (values_at (port_row n values) (dotted cell) (pin_names (inputs_of prim))))) same_k
