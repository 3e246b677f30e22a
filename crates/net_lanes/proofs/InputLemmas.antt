-- The inputs of a netlist are 1 to 128 bits wide.
use Rattle.std.proofs.Common.{◌≡◌, ℕ, ◌≤◌, ◌++◌, Bool, true, false, ◌&&◌, Some, All, refl, ap, ◌∙◌, arith, take, map, get_or}
use Rattle.std.specs.Prelude.{slice_get}
use Rattle.std.specs.List.{flat_map}
use Rattle.std.specs.Option.{option_map}
use Rattle.std.proofs.lemmas.Bool.Decides.{nat_tests}
use Rattle.std.proofs.lemmas.Option.{slice_get-get_or, slice_get-map}
use Rattle.hw_prims.specs.Table.{Pin, is_width}
use Rattle.net_core.specs.Netlist.{Netlist, InLine, OutLine, WireLine, CellOf, SetOf, lines_of, pin_of, netlist_of}
use Rattle.net_core.specs.Rules.{ports_of, has_new_names, has_known_names, has_good_widths, has_good_sides, has_good_parameters, ports_at, cell_names_at, IsValid}
use Rattle.net_core.specs.declared.net.Net.{Net}
use Rattle.net_core.specs.declared.net.NetPort.{NetPort}
use Rattle.net_sim.proofs.ValidLemmas.{slice_get-append_left}

third_rule : (a b c d e : Bool) → (a && (b && (c && (d && (e && true))))) ≡ true → c ≡ true
third_rule true true true d e h = refl
third_rule true true false d e h = cc
third_rule true false c d e h = cc
third_rule false b c d e h = cc

input_wide : (n : Netlist) → IsValid n → (k : ℕ) (pin : Pin) → slice_get n.ins k ≡ Some pin → is_width pin.width ≡ true
input_wide n valid k pin at =
    let line = slice_get-append_left (map InLine n.ins ++ map OutLine n.outs ++ map WireLine n.wires ++ map CellOf n.cells) (map SetOf n.sets) k (InLine pin)
    (slice_get-append_left (map InLine n.ins ++ map OutLine n.outs ++ map WireLine n.wires) (map CellOf n.cells) k (InLine pin)
    (slice_get-append_left (map InLine n.ins ++ map OutLine n.outs) (map WireLine n.wires) k (InLine pin)
    (slice_get-append_left (map InLine n.ins) (map OutLine n.outs) k (InLine pin)
    (slice_get-map InLine n.ins k ∙ ap (option_map InLine) at)))) in
    third_rule (has_new_names (flat_map ports_at (take k (lines_of n))) (flat_map cell_names_at (take k (lines_of n))) (InLine pin)) (has_known_names (ports_of n) (InLine pin)) (has_good_widths (ports_of n) (InLine pin))
    (has_good_sides (ports_of n) (InLine pin)) (has_good_parameters (InLine pin)) (valid k (InLine pin) line)

wide_parts : (w : ℕ) → is_width w ≡ true → (1 ≤ w) × (w ≤ 128)
wide_parts w e = grind (arith, nat_tests)

pub inputs_wide : (net : Net) → IsValid (netlist_of net) → All (λ (p : NetPort). (1 ≤ p.width) × (p.width ≤ 128)) net.ins.items
inputs_wide net valid k d lt =
    let ins = net.ins.items in
    let port = get_or ins k d in
    let at : slice_get (netlist_of net).ins k ≡ Some (pin_of net.names port) = slice_get-map (pin_of net.names) ins k ∙ ap (option_map (pin_of net.names)) (slice_get-get_or ins k d lt) in
    wide_parts port.width (input_wide (netlist_of net) valid k (pin_of net.names port) at)
