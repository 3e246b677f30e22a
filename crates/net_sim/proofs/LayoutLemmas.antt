-- Where the ports of a netlist stand in their order.
use Rattle.std.proofs.Common.{◌≡◌, ℕ, ◌+◌, ◌<◌, ◌≤◌, List, [], ◌∷◌, ◌++◌, Some, length, get_or, take, drop, refl, sym, ap, ap₂, ◌∙◌, arith, length-append, true, false}
use Rattle.std.specs.Prelude.{map, slice_get}
use Rattle.std.specs.List.{flat_map}
use Rattle.std.proofs.lemmas.Grind.{flat_map-append}
use Rattle.std.proofs.lemmas.List.{take_more, take-append-drop, get_or_append_left, get_or-append-add, get_or-map, append-nil, length-map}
use Rattle.std.proofs.lemmas.List.Concat.{flat_map_single, get_or-flat_map}
use Rattle.std.proofs.lemmas.List.Folds.{flat_map-map}
use Rattle.std.proofs.lemmas.Option.{slice_get_within, get_or_from_slice_get, slice_get-get_or}
use Rattle.hw_names.specs.Name.{Text}
use Rattle.hw_prims.specs.Table.{Pin, prim_of, inputs_of, outputs_of}
use Rattle.hw_prims.specs.declared.prim.Primitive.{Primitive}
use Rattle.net_core.specs.Netlist.{Netlist, CellLine, SetLine, InLine, OutLine, WireLine, CellOf, SetOf}
use Rattle.net_core.specs.Rules.{PortLine, own_port, cell_input, cell_output, ports_from, ports_at, ports_of}
use Rattle.net_sim.specs.Layout.{ports_of_cell, own_count, first_port}

none_of : (sets : List SetLine) → flat_map ports_at (map SetOf sets) ≡ []
none_of [] = refl
none_of (a ∷ sets) = none_of sets

abbrev own_ports : Netlist → List PortLine
own_ports n = map (own_port true false) n.ins ++ map (own_port false true) n.outs ++ map (own_port true true) n.wires

-- the ports of the netlist itself, then those of the cells
pub ports_of-parts : (n : Netlist) → ports_of n ≡ own_ports n ++ flat_map ports_of_cell n.cells
ports_of-parts n =
    flat_map-append ports_at (map InLine n.ins ++ map OutLine n.outs ++ map WireLine n.wires ++ map CellOf n.cells) (map SetOf n.sets)
    ∙ rw (none_of n.sets) (append-nil (flat_map ports_at (map InLine n.ins ++ map OutLine n.outs ++ map WireLine n.wires ++ map CellOf n.cells)))
    ∙ flat_map-append ports_at (map InLine n.ins ++ map OutLine n.outs ++ map WireLine n.wires) (map CellOf n.cells)
    ∙ rw (
      flat_map-append ports_at (map InLine n.ins ++ map OutLine n.outs) (map WireLine n.wires),
      flat_map-append ports_at (map InLine n.ins) (map OutLine n.outs),
      flat_map-map ports_at InLine n.ins,
      flat_map-map ports_at OutLine n.outs,
      flat_map-map ports_at WireLine n.wires,
      flat_map-map ports_at CellOf n.cells,
      flat_map_single (own_port true false) n.ins,
      flat_map_single (own_port false true) n.outs,
      flat_map_single (own_port true true) n.wires,
    ) refl

pub length-own_ports : (n : Netlist) → length (own_ports n) ≡ own_count n
length-own_ports n = simp (length-append, length-map) refl

-- how many ports come before a cell's, and how many there are in all
pub first_port-more : (n : Netlist) (k : ℕ) (c : CellLine) → slice_get n.cells k ≡ Some c → first_port n (k + 1) ≡ first_port n k + length (ports_of_cell c)
first_port-more n k c at =
    let step = flat_map-append ports_of_cell (take k n.cells) (c ∷ []) in
    let within = slice_get_within n.cells k c at in
    let more : take (k + 1) n.cells ≡ take k n.cells ++ c ∷ [] = take_more n.cells k c within ∙ ap (λ x. take k n.cells ++ x ∷ []) (get_or_from_slice_get n.cells k c c at) in
    let one : flat_map ports_of_cell (c ∷ []) ≡ ports_of_cell c = append-nil (ports_of_cell c) in
    omega (arith, ap (λ l. length (flat_map ports_of_cell l)) more, ap length step, length-append (flat_map ports_of_cell (take k n.cells)) (flat_map ports_of_cell (c ∷ [])), ap length one)

pub length-ports_of : (n : Netlist) → length (ports_of n) ≡ own_count n + length (flat_map ports_of_cell n.cells)
length-ports_of n = ap length (ports_of-parts n) ∙ length-append (own_ports n) (flat_map ports_of_cell n.cells) ∙ ap (λ k. k + length (flat_map ports_of_cell n.cells)) (length-own_ports n)

pub first_port-le : (n : Netlist) (k : ℕ) → first_port n k ≤ length (ports_of n)
first_port-le n k =
    let parts : flat_map ports_of_cell n.cells ≡ flat_map ports_of_cell (take k n.cells) ++ flat_map ports_of_cell (drop k n.cells) = ap (flat_map ports_of_cell) (sym (take-append-drop k n.cells)) ∙ flat_map-append ports_of_cell (take k n.cells) (drop k n.cells) in
    omega (arith, length-ports_of n, ap length parts, length-append (flat_map ports_of_cell (take k n.cells)) (flat_map ports_of_cell (drop k n.cells)))

-- a port of a cell
pub cell_port_at : (n : Netlist) (k j : ℕ) (c : CellLine) (d : PortLine) → slice_get n.cells k ≡ Some c → j < length (ports_of_cell c) → get_or (ports_of n) (first_port n k + j) d ≡ get_or (ports_of_cell c) j d
cell_port_at n k j c d at lt =
    let within = slice_get_within n.cells k c at in
    let is = get_or_from_slice_get n.cells k c c at in
    let place : first_port n k + j ≡ length (own_ports n) + (length (flat_map ports_of_cell (take k n.cells)) + j) = omega (arith, length-own_ports n) in
    ap₂ (λ (l : List PortLine) i. get_or l i d) (ports_of-parts n) place
    ∙ get_or-append-add (own_ports n) (flat_map ports_of_cell n.cells) (length (flat_map ports_of_cell (take k n.cells)) + j) d
    ∙ get_or-flat_map ports_of_cell n.cells k j c d within (rw is lt)
    ∙ ap (λ x. get_or (ports_of_cell x) j d) is

pub cell_port-lt : (n : Netlist) (k j : ℕ) (c : CellLine) → slice_get n.cells k ≡ Some c → j < length (ports_of_cell c) → first_port n k + j < length (ports_of n)
cell_port-lt n k j c at lt = omega (arith, lt, first_port-more n k c at, first_port-le n (k + 1))

-- the ports of a cell of a primitive
abbrev prim_ports : Text → Primitive → List PortLine
prim_ports cell prim = map (cell_input cell) (inputs_of prim) ++ map (cell_output cell) (outputs_of prim)

pub ports_of_prim : (c : CellLine) (prim : Primitive) → prim_of c.prim c.params ≡ Some prim → ports_of_cell c ≡ prim_ports c.name prim
ports_of_prim c prim is = ap (λ o. ports_from o c.name c.prim) is

pub length-ports_of_cell : (c : CellLine) (prim : Primitive) → prim_of c.prim c.params ≡ Some prim → length (ports_of_cell c) ≡ length (inputs_of prim) + length (outputs_of prim)
length-ports_of_cell c prim is =
    ap length (ports_of_prim c prim is) ∙ length-append (map (cell_input c.name) (inputs_of prim)) (map (cell_output c.name) (outputs_of prim))
    ∙ ap₂ ◌+◌ (length-map (inputs_of prim) (cell_input c.name)) (length-map (outputs_of prim) (cell_output c.name))

module _ (n : Netlist) (k : ℕ) (c : CellLine) (prim : Primitive) (at : slice_get n.cells k ≡ Some c) (is : prim_of c.prim c.params ≡ Some prim) where
  pub input_at : (j : ℕ) (p : Pin) → j < length (inputs_of prim) → slice_get (ports_of n) (first_port n k + j) ≡ Some (cell_input c.name (get_or (inputs_of prim) j p))
  input_at j p lt =
      let size = length-ports_of_cell c prim is in
      let within : j < length (ports_of_cell c) = omega (arith, lt, size) in
      let d = cell_input c.name p in
      slice_get-get_or (ports_of n) (first_port n k + j) d (cell_port-lt n k j c at within)
      ∙ ap Some (cell_port_at n k j c d at within
      ∙ ap (λ l. get_or l j d) (ports_of_prim c prim is)
      ∙ get_or_append_left (map (cell_input c.name) (inputs_of prim)) (map (cell_output c.name) (outputs_of prim)) d j (omega (arith, lt, length-map (inputs_of prim) (cell_input c.name)))
      ∙ get_or-map (cell_input c.name) (inputs_of prim) j p d lt)

  pub output_at : (j : ℕ) (p : Pin) → j < length (outputs_of prim) → slice_get (ports_of n) (first_port n k + length (inputs_of prim) + j) ≡ Some (cell_output c.name (get_or (outputs_of prim) j p))
  output_at j p lt =
      let size = length-ports_of_cell c prim is in
      let within : length (inputs_of prim) + j < length (ports_of_cell c) = omega (arith, lt, size) in
      let d = cell_output c.name p in
      let place : first_port n k + length (inputs_of prim) + j ≡ first_port n k + (length (inputs_of prim) + j) = omega arith in
      ap (slice_get (ports_of n)) place
      ∙ slice_get-get_or (ports_of n) (first_port n k + (length (inputs_of prim) + j)) d (cell_port-lt n k (length (inputs_of prim) + j) c at within)
      ∙ ap Some (cell_port_at n k (length (inputs_of prim) + j) c d at within
      ∙ ap (λ l. get_or l (length (inputs_of prim) + j) d) (ports_of_prim c prim is)
      ∙ ap (λ i. get_or (prim_ports c.name prim) (i + j) d) (sym (length-map (inputs_of prim) (cell_input c.name)))
      ∙ get_or-append-add (map (cell_input c.name) (inputs_of prim)) (map (cell_output c.name) (outputs_of prim)) j d
      ∙ get_or-map (cell_output c.name) (outputs_of prim) j p d lt)

-- the ports of the netlist itself
pub own_port_at : (n : Netlist) (k : ℕ) (d : PortLine) → k < own_count n → get_or (ports_of n) k d ≡ get_or (own_ports n) k d
own_port_at n k d lt = ap (λ l. get_or l k d) (ports_of-parts n) ∙ get_or_append_left (own_ports n) (flat_map ports_of_cell n.cells) d k (omega (arith, lt, length-own_ports n))

pub in_at : (n : Netlist) (k : ℕ) (p : Pin) → k < length n.ins → slice_get (ports_of n) k ≡ Some (own_port true false (get_or n.ins k p))
in_at n k p lt =
    let d = own_port true false p in
    slice_get-get_or (ports_of n) k d (omega (arith, lt, length-ports_of n))
    ∙ ap Some (own_port_at n k d (omega (arith, lt))
    ∙ get_or_append_left (map (own_port true false) n.ins ++ map (own_port false true) n.outs) (map (own_port true true) n.wires) d k (simp (length-append, length-map) (omega (arith, lt)))
    ∙ get_or_append_left (map (own_port true false) n.ins) (map (own_port false true) n.outs) d k (simp length-map lt)
    ∙ get_or-map (own_port true false) n.ins k p d lt)

pub out_at : (n : Netlist) (k : ℕ) (p : Pin) → k < length n.outs → slice_get (ports_of n) (length n.ins + k) ≡ Some (own_port false true (get_or n.outs k p))
out_at n k p lt =
    let d = own_port false true p in
    slice_get-get_or (ports_of n) (length n.ins + k) d (omega (arith, lt, length-ports_of n))
    ∙ ap Some (own_port_at n (length n.ins + k) d (omega (arith, lt))
    ∙ get_or_append_left (map (own_port true false) n.ins ++ map (own_port false true) n.outs) (map (own_port true true) n.wires) d (length n.ins + k) (simp (length-append, length-map) (omega (arith, lt)))
    ∙ ap (λ i. get_or (map (own_port true false) n.ins ++ map (own_port false true) n.outs) (i + k) d) (sym (length-map n.ins (own_port true false)))
    ∙ get_or-append-add (map (own_port true false) n.ins) (map (own_port false true) n.outs) k d
    ∙ get_or-map (own_port false true) n.outs k p d lt)

pub wire_at : (n : Netlist) (k : ℕ) (p : Pin) → k < length n.wires → slice_get (ports_of n) (length n.ins + length n.outs + k) ≡ Some (own_port true true (get_or n.wires k p))
wire_at n k p lt =
    let d = own_port true true p in
    let size : length (map (own_port true false) n.ins ++ map (own_port false true) n.outs) ≡ length n.ins + length n.outs = simp (length-append, length-map) refl in
    slice_get-get_or (ports_of n) (length n.ins + length n.outs + k) d (omega (arith, lt, length-ports_of n))
    ∙ ap Some (own_port_at n (length n.ins + length n.outs + k) d (omega (arith, lt))
    ∙ ap (λ i. get_or (own_ports n) (i + k) d) (sym size)
    ∙ get_or-append-add (map (own_port true false) n.ins ++ map (own_port false true) n.outs) (map (own_port true true) n.wires) k d
    ∙ get_or-map (own_port true true) n.wires k p d lt)
