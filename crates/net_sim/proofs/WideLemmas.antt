-- Each port of a valid netlist has a width of 1 to 128 bits.
use Rattle.std.proofs.Common.{◌≡◌, ℕ, List, [], ◌∷◌, ◌++◌, Some, refl, sym, ap, ◌∙◌, arith, inl, inr, Bool, true, false, ◌&&◌, subst}
use Rattle.std.specs.Prelude.{slice_get, map}
use Rattle.std.specs.List.{flat_map}
use Rattle.std.proofs.lemmas.List.Elements.{All-contains}
use Rattle.std.proofs.lemmas.Option.{slice_get_within}
use Rattle.hw_prims.proofs.PinLemmas.{pins_wide}
use Rattle.hw_prims.specs.Table.{Pin, is_width, inputs_of, outputs_of, pins_of}
use Rattle.net_core.specs.Netlist.{Netlist, CellLine, Line, InLine, OutLine, WireLine, CellOf, SetOf, lines_of}
use Rattle.net_core.specs.Rules.{PortLine, ports_of, own_port, cell_input, cell_output, has_new_names, has_known_names, has_good_widths, has_good_sides, has_good_parameters, ports_at, cell_names_at, IsValid}
use Rattle.net_sim.proofs.GiverLemmas.{at_some}
use Rattle.net_sim.proofs.LayoutLemmas.{ports_of-parts, ports_of_prim}
use Rattle.hw_graph.proofs.MemberLemmas.{In, at_of, contains_of, in_append, in_left, in_right, from_map, from_flat_map}
use Rattle.net_sim.specs.Layout.{ports_of_cell, AreCellPorts, IsCellPorts}
use Rattle.net_sim.specs.declared.cells.CellPorts.{CellPorts}
use Rattle.std.proofs.Common.{take}

third_rule : (a b c d e : Bool) → (a && (b && (c && (d && (e && true))))) ≡ true → c ≡ true
third_rule true true true d e h = refl
third_rule true true false d e h = cc
third_rule true false c d e h = cc
third_rule false b c d e h = cc

module _ (n : Netlist) (valid : IsValid n) where
  line_wide : (k : ℕ) (line : Line) → slice_get (lines_of n) k ≡ Some line → has_good_widths (ports_of n) line ≡ true
  line_wide k line at = third_rule (has_new_names (flat_map ports_at (take k (lines_of n))) (flat_map cell_names_at (take k (lines_of n))) line) (has_known_names (ports_of n) line) (has_good_widths (ports_of n) line) (has_good_sides (ports_of n) line) (has_good_parameters line) (valid k line at)

  line_of : (line : Line) → In (lines_of n) line → has_good_widths (ports_of n) line ≡ true
  line_of line has = let k = at_of (lines_of n) line has in line_wide k.0 line k.1

  mapped : (make : Pin → Line) (pins : List Pin) (pin : Pin) → In pins pin → In (map make pins) (make pin)
  mapped make [] pin has = absurd has
  mapped make (p ∷ ps) pin (inl e) = inl (ap make e)
  mapped make (p ∷ ps) pin (inr has) = inr (mapped make ps pin has)

  in_wide : (pin : Pin) → In n.ins pin → is_width pin.width ≡ true
  in_wide pin has = line_of (InLine pin) (in_left (map InLine n.ins ++ map OutLine n.outs ++ map WireLine n.wires ++ map CellOf n.cells) (map SetOf n.sets) (InLine pin) (in_left (map InLine n.ins ++ map OutLine n.outs ++ map WireLine n.wires) (map CellOf n.cells) (InLine pin) (in_left (map InLine n.ins ++ map OutLine n.outs) (map WireLine n.wires) (InLine pin) (in_left (map InLine n.ins) (map OutLine n.outs) (InLine pin) (mapped InLine n.ins pin has)))))

  out_wide : (pin : Pin) → In n.outs pin → is_width pin.width ≡ true
  out_wide pin has = line_of (OutLine pin) (in_left (map InLine n.ins ++ map OutLine n.outs ++ map WireLine n.wires ++ map CellOf n.cells) (map SetOf n.sets) (OutLine pin) (in_left (map InLine n.ins ++ map OutLine n.outs ++ map WireLine n.wires) (map CellOf n.cells) (OutLine pin) (in_left (map InLine n.ins ++ map OutLine n.outs) (map WireLine n.wires) (OutLine pin) (in_right (map InLine n.ins) (map OutLine n.outs) (OutLine pin) (mapped OutLine n.outs pin has)))))

  wire_wide : (pin : Pin) → In n.wires pin → is_width pin.width ≡ true
  wire_wide pin has = line_of (WireLine pin) (in_left (map InLine n.ins ++ map OutLine n.outs ++ map WireLine n.wires ++ map CellOf n.cells) (map SetOf n.sets) (WireLine pin) (in_left (map InLine n.ins ++ map OutLine n.outs ++ map WireLine n.wires) (map CellOf n.cells) (WireLine pin) (in_right (map InLine n.ins ++ map OutLine n.outs) (map WireLine n.wires) (WireLine pin) (mapped WireLine n.wires pin has))))

  along : (p q : PortLine) → q ≡ p → is_width q.width ≡ true → is_width p.width ≡ true
  along p q e wide = ap (λ (r : PortLine). is_width r.width) (sym e) ∙ wide

  module _ (cells : List CellPorts) (listed : AreCellPorts n cells) where
    cell_wide : (p : PortLine) (c : CellLine) → In n.cells c → In (ports_of_cell c) p → is_width p.width ≡ true
    cell_wide p c has within =
        let k = at_of n.cells c has in
        let d = at_some cells k.0 (omega (arith, listed.all, slice_get_within n.cells k.0 c k.1)) in
        let is : IsCellPorts n k.0 c d.0 = listed.each k.0 c d.0 k.1 d.1 in
        let wide = pins_wide d.0.prim is.made in
        elim (in_append (map (cell_input c.name) (inputs_of d.0.prim)) (map (cell_output c.name) (outputs_of d.0.prim)) p (subst (λ l. In l p) (ports_of_prim c d.0.prim is.prim) within)) [
          | inl input ↦
              let r = from_map (cell_input c.name) (inputs_of d.0.prim) p input in
              along p (cell_input c.name r.0) r.2 (All-contains (λ (q : Pin). is_width q.width ≡ true) (pins_of d.0.prim) r.0 wide (contains_of (pins_of d.0.prim) r.0 (in_left (inputs_of d.0.prim) (outputs_of d.0.prim) r.0 r.1)))
          | inr output ↦
              let r = from_map (cell_output c.name) (outputs_of d.0.prim) p output in
              along p (cell_output c.name r.0) r.2 (All-contains (λ (q : Pin). is_width q.width ≡ true) (pins_of d.0.prim) r.0 wide (contains_of (pins_of d.0.prim) r.0 (in_right (inputs_of d.0.prim) (outputs_of d.0.prim) r.0 r.1)))
        ]

    pub port_wide : (p : PortLine) → In (ports_of n) p → is_width p.width ≡ true
    port_wide p has = elim (in_append (map (own_port true false) n.ins ++ map (own_port false true) n.outs ++ map (own_port true true) n.wires) (flat_map ports_of_cell n.cells) p (subst (λ l. In l p) (ports_of-parts n) has)) [
      | inr there ↦ let r = from_flat_map ports_of_cell n.cells p there in cell_wide p r.0 r.1 r.2
      | inl own ↦ elim (in_append (map (own_port true false) n.ins ++ map (own_port false true) n.outs) (map (own_port true true) n.wires) p own) [
        | inr wire ↦ let r = from_map (own_port true true) n.wires p wire in along p (own_port true true r.0) r.2 (wire_wide r.0 r.1)
        | inl others ↦ elim (in_append (map (own_port true false) n.ins) (map (own_port false true) n.outs) p others) [
          | inl input ↦ let r = from_map (own_port true false) n.ins p input in along p (own_port true false r.0) r.2 (in_wide r.0 r.1)
          | inr out ↦ let r = from_map (own_port false true) n.outs p out in along p (own_port false true r.0) r.2 (out_wide r.0 r.1)
        ]
      ]
    ]
