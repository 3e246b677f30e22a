-- The inputs in a netlist's table: they come first, and each is 1 to 128 bits wide.
use Rattle.std.proofs.Common.{◌≡◌, ℕ, ◌≤◌, List, [], ◌∷◌, ◌++◌, Bool, true, false, ◌&&◌, Some, refl, sym, ap, ◌∙◌, arith, length, take, map, get_or}
use Rattle.std.specs.Prelude.{slice_get, All}
use Rattle.std.specs.List.{flat_map}
use Rattle.std.specs.Option.{option_map}
use Rattle.std.proofs.Math.Seq.{take-append_seam}
use Rattle.std.proofs.lemmas.Bool.Decides.{nat_tests}
use Rattle.std.proofs.lemmas.List.{take-map, length-map, length-append, append_assoc, length-take-le}
use Rattle.std.proofs.lemmas.Option.{slice_get-get_or, slice_get-map, same_Some}
use Rattle.hw_prims.specs.Table.{Pin, is_width, pin_widths}
use Rattle.net_core.specs.Netlist.{Netlist, InLine, OutLine, WireLine, CellOf, SetOf, lines_of}
use Rattle.net_core.specs.Rules.{PortLine, ports_of, own_port, has_new_names, has_known_names, has_good_widths, has_good_sides, has_good_parameters, ports_at, cell_names_at, IsValid}
use Rattle.net_core.specs.Table.{IsTableOf}
use Rattle.net_core.specs.declared.table.PortInfo.{PortInfo}
use Rattle.net_core.specs.declared.table.Table.{Table}
use Rattle.net_sim.proofs.GiverLemmas.{at_some}
use Rattle.net_sim.proofs.LayoutLemmas.{ports_of-parts}
use Rattle.net_sim.proofs.ValidLemmas.{slice_get-append_left}
use Rattle.net_sim.specs.Layout.{ports_of_cell}

third_rule : (a b c d e : Bool) → (a && (b && (c && (d && (e && true))))) ≡ true → c ≡ true
third_rule true true true d e h = refl
third_rule true true false d e h = cc
third_rule true false c d e h = cc
third_rule false b c d e h = cc

pub input_wide : (n : Netlist) → IsValid n → (k : ℕ) (pin : Pin) → slice_get n.ins k ≡ Some pin → is_width pin.width ≡ true
input_wide n valid k pin at =
    let line = slice_get-append_left (map InLine n.ins ++ map OutLine n.outs ++ map WireLine n.wires ++ map CellOf n.cells) (map SetOf n.sets) k (InLine pin)
    (slice_get-append_left (map InLine n.ins ++ map OutLine n.outs ++ map WireLine n.wires) (map CellOf n.cells) k (InLine pin)
    (slice_get-append_left (map InLine n.ins ++ map OutLine n.outs) (map WireLine n.wires) k (InLine pin)
    (slice_get-append_left (map InLine n.ins) (map OutLine n.outs) k (InLine pin)
    (slice_get-map InLine n.ins k ∙ ap (option_map InLine) at)))) in
    third_rule (has_new_names (flat_map ports_at (take k (lines_of n))) (flat_map cell_names_at (take k (lines_of n))) (InLine pin)) (has_known_names (ports_of n) (InLine pin)) (has_good_widths (ports_of n) (InLine pin)) (has_good_sides (ports_of n) (InLine pin)) (has_good_parameters (InLine pin)) (valid k (InLine pin) line)

pub wide_parts : (w : ℕ) → is_width w ≡ true → (1 ≤ w) × (w ≤ 128)
wide_parts w e = grind (arith, nat_tests)

-- what comes after the inputs
pub later_ports : Netlist → List PortLine
later_ports n = map (own_port false true) n.outs ++ (map (own_port true true) n.wires ++ flat_map ports_of_cell n.cells)

pub inputs_first : (n : Netlist) → ports_of n ≡ map (own_port true false) n.ins ++ later_ports n
unfolding later_ports
inputs_first n = ports_of-parts n ∙ simp append_assoc

own_widths : (pins : List Pin) → map (λ (p : PortLine). p.width) (map (own_port true false) pins) ≡ pin_widths pins
own_widths [] = refl
own_widths (p ∷ pins) = ap (λ rest. p.width ∷ rest) (own_widths pins)

module _ (n : Netlist) (table : Table) (is : IsTableOf n table) where
  pub inputs_within : length n.ins ≤ length table.ports.items
  inputs_within =
      omega (
        arith,
        length-map table.ports.items (λ (p : PortInfo). p.width),
        ap length is.widths,
        length-map (ports_of n) (λ (p : PortLine). p.width),
        ap length (inputs_first n),
        length-append (map (own_port true false) n.ins) (later_ports n),
        length-map n.ins (own_port true false),
      )

  pub input_widths : map (λ (p : PortInfo). p.width) (take (length n.ins) table.ports.items) ≡ pin_widths n.ins
  input_widths =
      sym (take-map (λ (p : PortInfo). p.width) (length n.ins) table.ports.items)
      ∙ ap (take (length n.ins)) is.widths
      ∙ take-map (λ (p : PortLine). p.width) (length n.ins) (ports_of n)
      ∙ ap (λ ports. map (λ (p : PortLine). p.width) (take (length n.ins) ports)) (inputs_first n)
      ∙ ap (λ k. map (λ (p : PortLine). p.width) (take k (map (own_port true false) n.ins ++ later_ports n))) (sym (length-map n.ins (own_port true false)))
      ∙ ap (map (λ (p : PortLine). p.width)) (take-append_seam (map (own_port true false) n.ins) (later_ports n))
      ∙ own_widths n.ins

  pub inputs_wide : IsValid n → All (λ (p : PortInfo). (1 ≤ p.width) × (p.width ≤ 128)) (take (length n.ins) table.ports.items)
  inputs_wide valid k d lt =
      let infos = take (length n.ins) table.ports.items in
      let size : length infos ≡ length n.ins = length-take-le (length n.ins) table.ports.items inputs_within in
      let pin = at_some n.ins k (omega (arith, lt, size)) in
      let same : (get_or infos k d).width ≡ pin.0.width = same_Some (get_or infos k d).width pin.0.width (
      sym (slice_get-map (λ (q : PortInfo). q.width) infos k ∙ ap (option_map (λ (q : PortInfo). q.width)) (slice_get-get_or infos k d lt))
      ∙ ap (λ l. slice_get l k) input_widths ∙ slice_get-map (λ (q : Pin). q.width) n.ins k ∙ ap (option_map (λ (q : Pin). q.width)) pin.1) in
      wide_parts (get_or infos k d).width (ap is_width same ∙ input_wide n valid k pin.0 pin.1)
