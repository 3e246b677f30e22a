-- Where a netlist's own ports stand in the list of its ports.
use Rattle.std.proofs.Common.{◌≡◌, ℕ, ◌+◌, ◌-◌, ◌≤◌, List, [], ◌∷◌, ◌++◌, map, flat_map, length, take, drop, slice_range, length-append, arith, Contains, refl, sym, ap, ap₂, subst, ◌∙◌, append_assoc}
use Rattle.std.proofs.lemmas.List.{map-append}
use Rattle.std.proofs.Math.Seq.{drop-append_seam, take-append_seam}
use Rattle.std.proofs.lemmas.List.Concat.{flat_map-append}
use Rattle.std.proofs.lemmas.List.Elements.{Contains-append_left, Contains-append_right}
use Rattle.hw_names.specs.Name.{Text}
use Rattle.hw_prims.specs.Table.{Pin}
use Rattle.net_core.specs.Netlist.{Netlist, Line, InLine, OutLine, WireLine, CellOf, SetOf, lines_of}
use Rattle.net_core.specs.Rules.{PortLine, ports_at, ports_of}
use Rattle.filc_report.specs.Rows.{outputs_of_net}

abbrev pub port_names : List PortLine → List Text
port_names ports = map (λ (p : PortLine). p.name) ports

abbrev pub pin_texts : List Pin → List Text
pin_texts pins = map (λ (p : Pin). p.name) pins

names_at_lines : List Line → List Text
names_at_lines lines = port_names (flat_map ports_at lines)

names_at_both : (xs ys : List Line) → names_at_lines (xs ++ ys) ≡ names_at_lines xs ++ names_at_lines ys
unfolding names_at_lines
names_at_both xs ys = ap port_names (flat_map-append ports_at xs ys) ∙ map-append (λ (p : PortLine). p.name) (flat_map ports_at xs) (flat_map ports_at ys)

names_at_ins : (pins : List Pin) → names_at_lines (map InLine pins) ≡ pin_texts pins
unfolding names_at_lines
names_at_ins [] = refl
names_at_ins (p ∷ pins) = ap (λ rest. p.name ∷ rest) (names_at_ins pins)

names_at_outs : (pins : List Pin) → names_at_lines (map OutLine pins) ≡ pin_texts pins
unfolding names_at_lines
names_at_outs [] = refl
names_at_outs (p ∷ pins) = ap (λ rest. p.name ∷ rest) (names_at_outs pins)

inner_lines : Netlist → List Line
inner_lines n = map WireLine n.wires ++ (map CellOf n.cells ++ map SetOf n.sets)

lines_are : (n : Netlist) → lines_of n ≡ map InLine n.ins ++ (map OutLine n.outs ++ inner_lines n)
unfolding inner_lines
lines_are n = simp append_assoc

-- the names of wires and of the cells' ports
pub inner_names : Netlist → List Text
inner_names n = names_at_lines (inner_lines n)

-- inputs come first, then outputs
pub names_of_ports : (n : Netlist) → port_names (ports_of n) ≡ pin_texts n.ins ++ (pin_texts n.outs ++ inner_names n)
unfolding names_at_lines inner_names
names_of_ports n =
    ap names_at_lines (lines_are n) ∙ names_at_both (map InLine n.ins) (map OutLine n.outs ++ inner_lines n)
    ∙ ap₂ ◌++◌ (names_at_ins n.ins) (names_at_both (map OutLine n.outs) (inner_lines n) ∙ ap (λ names. names ++ names_at_lines (inner_lines n)) (names_at_outs n.outs))

pub output_is_port : (n : Netlist) (port : Text) → Contains (outputs_of_net n) port → Contains (port_names (ports_of n)) port
output_is_port n port has =
    subst (λ names. Contains names port) (sym (names_of_ports n))
    (Contains-append_right (pin_texts n.ins) (pin_texts n.outs ++ inner_names n) port (Contains-append_left (pin_texts n.outs) (inner_names n) port has))

-- the part of a list between two others
pub middle_range : (names front middle end : List Text) (a b : ℕ) → names ≡ front ++ (middle ++ end) → a ≡ length front → b ≡ length middle → (a + b ≤ length names) × (slice_range names a (a + b) ≡ middle)
middle_range names front middle end a b parts a_is b_is =
    let count : a + b - a ≡ length middle = omega arith in
    let all : length names ≡ length (front ++ (middle ++ end)) = ap length parts in (
      omega (arith, all, length-append front (middle ++ end), length-append middle end),
      ap (λ n. take n (drop a names)) count ∙ ap (λ xs. take (length middle) (drop a xs)) parts
          ∙ ap (λ n. take (length middle) (drop n (front ++ (middle ++ end)))) a_is
          ∙ ap (take (length middle)) (drop-append_seam front (middle ++ end)) ∙ take-append_seam middle end,
    )
