-- The outputs of a netlist, one after another.
use Rattle.std.proofs.Common.{◌≡◌, ℕ, ◌+◌, ◌<◌, ◌≤◌, List, [], ◌∷◌, ◌++◌, length, map, take, get_or, flat_map, Some, sym, ap, ◌∙◌, arith}
use Rattle.std.specs.Prelude.{option_map, slice_get}
use Rattle.std.proofs.lemmas.List.{append-nil, append_assoc, get_or-append-add, get_or-map, get_or_append_left, length-append, length-map, take_all, take_more}
use Rattle.std.proofs.lemmas.List.Concat.{flat_map-append}
use Rattle.std.proofs.lemmas.Option.{same_Some, slice_get-get_or, slice_get-map}
use Rattle.hw_names.specs.Name.{Text, text_of}
use Rattle.hw_prims.specs.Row.{Row}
use Rattle.hw_prims.specs.Table.{Pin}
use Rattle.net_core.specs.Netlist.{Netlist, netlist_of, pin_of}
use Rattle.net_core.specs.declared.net.Net.{Net}
use Rattle.net_core.specs.declared.net.NetPort.{NetPort}
use Rattle.net_sim.specs.Layout.{port_names}
use Rattle.filc_report.proofs.PortLemmas.{inner_names, names_of_ports, pin_texts}
use Rattle.filc_report.specs.Rows.{outputs_of_net}

-- where a port of two lists has its place
module _ (front middle end names : List Text) (parts : names ≡ front ++ (middle ++ end)) (at : ℕ) (within : at < length middle) where
  in_middle : length front + at < length names
  in_middle = omega (arith, within, ap length parts, length-append front (middle ++ end), length-append middle end)

  at_middle : slice_get names (length front + at) ≡ Some (get_or middle at [])
  at_middle =
      slice_get-get_or names (length front + at) [] in_middle
      ∙ ap (λ (texts : List Text). Some (get_or texts (length front + at) [])) parts
      ∙ ap Some (get_or-append-add front (middle ++ end) at [] ∙ get_or_append_left middle end [] at within)

module _ (net : Net) (items : List NetPort) (same : items ≡ net.outs.items) (first : ℕ) (counted : first ≡ length net.ins.items) (at : ℕ) (within : at < length items) (d : NetPort) where
  abbrev n : Netlist
  n = netlist_of net

  abbrev name : Text
  name = text_of net.names (get_or items at d).name

  placed : at < length (outputs_of_net n)
  placed = omega (arith, within, ap length same, length-map n.outs (λ (p : Pin). p.name), length-map net.outs.items (pin_of net.names))

  named : get_or (outputs_of_net n) at [] ≡ name
  named =
      let inside : at < length net.outs.items = omega (arith, within, ap length same) in
      get_or-map (λ (p : Pin). p.name) n.outs at (pin_of net.names d) [] (omega (arith, inside, length-map net.outs.items (pin_of net.names)))
      ∙ ap (λ (p : Pin). p.name) (get_or-map (pin_of net.names) net.outs.items at d (pin_of net.names d) inside)
      ∙ ap (λ (ports : List NetPort). text_of net.names (get_or ports at d).name) (sym same)

  starts : first ≡ length (pin_texts n.ins)
  starts = omega (arith, counted, length-map n.ins (λ (p : Pin). p.name), length-map net.ins.items (pin_of net.names))

  -- its number is that of a port
  pub inside_ports : first + at < length (port_names n)
  inside_ports =
      let inside = in_middle (pin_texts n.ins) (pin_texts n.outs) (inner_names n) (port_names n) (names_of_ports n) at placed in
      omega (arith, inside, starts)

  -- the value with its number is its own
  pub value_is : (row : Row) (values : List ℕ) (value : ℕ) → values ≡ map row (port_names n) → slice_get values (first + at) ≡ Some value → value ≡ row name
  value_is row values value are found =
      let there : slice_get (port_names n) (first + at) ≡ Some name =
      ap (λ (k : ℕ). slice_get (port_names n) (k + at)) starts
      ∙ at_middle (pin_texts n.ins) (pin_texts n.outs) (inner_names n) (port_names n) (names_of_ports n) at placed ∙ ap Some named in
      same_Some value (row name)
      (sym found ∙ ap (λ (vs : List ℕ). slice_get vs (first + at)) are ∙ slice_get-map row (port_names n) (first + at) ∙ ap (option_map row) there)

  -- one output more
  pub output_more : (f : Text → Text) (before text new : Text) → text ≡ before ++ flat_map f (take at (outputs_of_net n)) → new ≡ text ++ f name → new ≡ before ++ flat_map f (take (at + 1) (outputs_of_net n))
  output_more f before text new so_far is =
      is ∙ ap (λ (front : Text). front ++ f name) so_far ∙ append_assoc before (flat_map f (take at (outputs_of_net n))) (f name)
      ∙ ap (λ (more : Text). before ++ more) (sym (ap (flat_map f) (take_more (outputs_of_net n) at [] placed)
      ∙ flat_map-append f (take at (outputs_of_net n)) (get_or (outputs_of_net n) at [] ∷ [])
      ∙ ap (λ (text : Text). flat_map f (take at (outputs_of_net n)) ++ text) (append-nil (f (get_or (outputs_of_net n) at [])) ∙ ap f named)))

-- after the last nothing is left out
pub outputs_all : (net : Net) (at : ℕ) → length net.outs.items ≤ at → take at (outputs_of_net (netlist_of net)) ≡ outputs_of_net (netlist_of net)
outputs_all net at past =
    take_all at (outputs_of_net (netlist_of net)) (omega (arith, past, length-map (netlist_of net).outs (λ (p : Pin). p.name), length-map net.outs.items (pin_of net.names)))
