-- A port that a component names is, with its full name, a port of the listing: of the same width, readable or writable as it is there.
use Rattle.std.proofs.Common.{◌≡◌, ℕ, Bool, true, false, List, [], ◌∷◌, ◌++◌, map, bytes_eq, Option, Some, None, is_some, refl, sym, ap, subst, ◌∙◌, inl, inr, ◌⊎◌}
use Rattle.std.specs.Prelude.{Contains, option_map}
use Rattle.std.proofs.lemmas.Slice.Eq.{bytes_eq-Decides}
use Rattle.hw_graph.proofs.MemberLemmas.{In, in_of, in_left, in_right, in_append, in_map, from_map, in_flat_map, in_filter}
use Rattle.hw_names.proofs.NameLemmas.{full_name-append}
use Rattle.hw_names.specs.Name.{Text, Path, dotted, full_name, port_at}
use Rattle.hw_prims.specs.Table.{Pin, pin_names, is_primitive, inputs_of, outputs_of}
use Rattle.hw_prims.specs.declared.prim.Primitive.{Primitive}
use Rattle.net_core.specs.Netlist.{CellLine, Netlist, Line, InLine, OutLine, WireLine, CellOf, lines_of}
use Rattle.net_core.specs.PortList.{cell_ports}
use Rattle.net_core.specs.Rules.{PortLine, own_port, cell_input, cell_output, ports_at, ports_from, ports_of, port_named, width_or_none, port_width, is_readable, is_writable}
use Rattle.cal_ast.proofs.InstanceLemmas.{component_at-below}
use Rattle.cal_ast.proofs.LookupLemmas.{cell_named-Some, part_in-design, primitive_in-Some, primitive_of-Some}
use Rattle.cal_ast.proofs.SideLemmas.{readable_in, writable_in, source_pin, destination_pin, some_of}
use Rattle.cal_ast.specs.Instances.{port_name}
use Rattle.cal_ast.specs.Naming.{IsKnownPort}
use Rattle.cal_ast.specs.Ports as cal
use Rattle.cal_ast.specs.Ports.{Input, Output, SidedPin, on_side, both_sides, primitive_in, part_in, inputs_in, outputs_in, made_inputs, made_outputs, cell_inputs, cell_outputs, port_in, width_in}
use Rattle.cal_ast.specs.Sides.{IsSource, IsDestination}
use Rattle.cal_ast.specs.Tree.{PortName, CellDef, Component, Design}
use Rattle.cal_ast.specs.Keeping.{flat_cell}
use Rattle.net_flat.specs.Listing.{Instance, flat_pin, wires_at, cells_at}
use Rattle.net_flat.proofs.DistinctLemmas.{port_is_named}
use Rattle.net_flat.proofs.ListedNameLemmas.{primitive_cells}
use Rattle.net_flat.proofs.ListedLemmas.{IsWiredListing, instances, at_path, in_design, found_instance, inputs_are, outputs_are}
use Rattle.net_flat.proofs.ListFacts.{found_in}
use Rattle.net_flat.proofs.NetLineLemmas.{in_line, out_line, wire_line, cell_line}

-- the netlist has a port of the name and width, on this side
record IsPort (n : Netlist) (name : Text) (width : ℕ) (side : PortLine → Bool) : Type 0 where
  line : PortLine
  found : port_named (ports_of n) name ≡ Some line
  wide : line.width ≡ width
  sided : side line ≡ true

abbrev reads : PortLine → Bool
reads p = p.readable

abbrev writes : PortLine → Bool
writes p = p.writable

abbrev either_side : PortLine → Bool
either_side p = true

-- a pin of a name
pin_of_name : (pins : List Pin) (name : Text) → Contains (pin_names pins) name → (p : Pin) × In pins p × (p.name ≡ name)
pin_of_name pins name has = from_map (λ (p : Pin). p.name) pins name (in_of (pin_names pins) name has)

-- the port that a component knows by a name stands among the pins of one of the sides
record IsAmong (ones others : List Pin) (name : Text) (p : Pin) : Type 0 where
  among : In ones p ⊎ In others p
  named : p.name ≡ name

on_sides : (ins outs : List Pin) (name : Text) (q : SidedPin) → cal.port_named (both_sides ins outs) name ≡ Some q → IsAmong ins outs name q.pin
on_sides ins outs name q found =
    let r = found_in (λ (x : SidedPin). bytes_eq x.pin.name name) (both_sides ins outs) q found in
    record { among = by (in_append (on_side Input ins) (on_side Output outs) q r.0); named = (bytes_eq-Decides q.pin.name name).0 r.1 }
  where
    by : In (on_side Input ins) q ⊎ In (on_side Output outs) q → In ins q.pin ⊎ In outs q.pin
    by (inl there) = let p = from_map (λ (x : Pin). record { side = Input; pin = x }) ins q there in inl (subst (λ (x : SidedPin). In ins x.pin) p.2 p.1)
    by (inr there) = let p = from_map (λ (x : Pin). record { side = Output; pin = x }) outs q there in inr (subst (λ (x : SidedPin). In outs x.pin) p.2 p.1)

known_side : (design : Design) (c : Component) (cell : Option Text) (pin : Text) (q : SidedPin) → port_in design c (record { cell = cell; pin = pin }) ≡ Some q
    → IsAmong (readable_in design c cell) (writable_in design c cell) pin q.pin
known_side design c None pin q found = on_sides (inputs_in c) (outputs_in c) pin q found
known_side design c (Some cell) pin q found =
    let is = on_sides (cell_inputs design c cell) (cell_outputs design c cell) pin q found in
    record { among = elim is.among [ inl input ↦ inr input | inr output ↦ inl output ]; named = is.named }

not_empty : (path : Path) (cell : Text) → [] ≡ path ++ cell ∷ [] → ⊥
not_empty [] cell e = cc
not_empty (s ∷ path) cell e = cc

module _ (design : Design) (top : Component) (n : Netlist) (l : IsWiredListing design top n) where
  port_at_line : (line : Line) (p : PortLine) → In (lines_of n) line → In (ports_at line) p → (side : PortLine → Bool) → side p ≡ true → IsPort n p.name p.width side
  port_at_line line p at_line at_port side sided =
      record { line = p; found = port_is_named design top n l p (in_flat_map ports_at (lines_of n) line p at_line at_port); wide = refl; sided = sided }

  -- a port of an instance below the top is a wire
  wire_port : (i : Instance) → In l.listing.others i → (p : Pin) → In (i.1.ins ++ i.1.outs) p → (side : PortLine → Bool) → side (own_port true true (flat_pin i.0 p)) ≡ true → IsPort n (full_name i.0 p.name) p.width side
  wire_port i there p h side sided =
      let W : List Pin → Type 0 = λ wires. In wires (flat_pin i.0 p) in
      let wire = subst W (sym l.listing.wires) (in_flat_map wires_at l.listing.others i (flat_pin i.0 p) there (in_map (flat_pin i.0) (i.1.ins ++ i.1.outs) p h)) in
      port_at_line (WireLine (flat_pin i.0 p)) (own_port true true (flat_pin i.0 p)) (wire_line n (flat_pin i.0 p) wire) (inl refl) side sided

  own_input : (i : Instance) → In (instances l) i → (p : Pin) → In i.1.ins p → IsPort n (full_name i.0 p.name) p.width reads
  own_input i (inr there) p h = wire_port i there p (in_left i.1.ins i.1.outs p h) reads refl
  own_input i (inl e) p h =
      let P : Instance → Type 0 = λ j. In j.1.ins p → IsPort n (full_name j.0 p.name) p.width reads in
      let W : List Pin → Type 0 = λ pins. In pins p in
      subst P e (λ there. port_at_line (InLine p) (own_port true false p) (in_line n p (subst W (sym l.listing.ins) there)) (inl refl) reads refl) h

  own_output : (i : Instance) → In (instances l) i → (p : Pin) → In i.1.outs p → IsPort n (full_name i.0 p.name) p.width writes
  own_output i (inr there) p h = wire_port i there p (in_right i.1.ins i.1.outs p h) writes refl
  own_output i (inl e) p h =
      let P : Instance → Type 0 = λ j. In j.1.outs p → IsPort n (full_name j.0 p.name) p.width writes in
      let W : List Pin → Type 0 = λ pins. In pins p in
      subst P e (λ there. port_at_line (OutLine p) (own_port false true p) (out_line n p (subst W (sym l.listing.outs) there)) (inl refl) writes refl) h

  -- a port of a primitive's cell
  primitive_port : (i : Instance) → In (instances l) i → (name : Text) (prim : Primitive) → primitive_in i.1 name ≡ Some prim → (p : PortLine) → In (cell_ports prim (full_name i.0 name)) p
      → (side : PortLine → Bool) → side p ≡ true → IsPort n p.name p.width side
  primitive_port i h name prim e p at_port side sided =
      let made = primitive_in-Some i.1 name prim e in
      let cell = cell_named-Some i.1.cells name made.0 made.1 in
      let line = flat_cell i.0 made.0 in
      let kept = in_filter (λ (c : CellDef). is_primitive c.made) i.1.cells made.0 (in_of i.1.cells made.0 cell.0) (primitive_of-Some made.0 prim made.2) in
      let C : List CellLine → Type 0 = λ cells. In cells line in
      let there = subst C (sym l.listing.cells) (in_flat_map cells_at (instances l) i line h (in_map (flat_cell i.0) (primitive_cells i.1) made.0 kept)) in
      let N : Text → Type 0 = λ x. In (cell_ports prim (full_name i.0 x)) p in
      let F : Option Primitive → Type 0 = λ o. In (ports_from o (full_name i.0 made.0.name) made.0.made) p in
      port_at_line (CellOf line) p (cell_line n line there) (subst F (sym made.2) (subst N (sym cell.1) at_port)) side sided

  -- a port of a component's cell is one of an instance below the top
  part_port : (i : Instance) → In (instances l) i → (name : Text) (part : Component) → part_in design i.1 name ≡ Some part → (p : Pin) → In (part.ins ++ part.outs) p
      → (side : PortLine → Bool) → side (own_port true true (flat_pin (i.0 ++ name ∷ []) p)) ≡ true → IsPort n (dotted (full_name i.0 name) p.name) p.width side
  part_port i h name part e p at_port side sided =
      let path = i.0 ++ name ∷ [] in
      let N : Text → Type 0 = λ x. IsPort n x p.width side in
      subst N (full_name-append i.0 name p.name) (wire_port (path, part) (below (found_instance design top n l path part (component_at-below design top i.0 i.1 name (at_path design top n l i h) ∙ e))) p at_port side sided)
    where
      below : In (instances l) (i.0 ++ name ∷ [], part) → In l.listing.others (i.0 ++ name ∷ [], part)
      below (inl same) = absurd (not_empty i.0 name (ap (λ (j : Instance). j.0) same))
      below (inr there) = there

  part_in_design : (c : Component) (name : Text) (part : Component) → part_in design c name ≡ Some part → In design part
  part_in_design c name part e = in_of design part (part_in-design design c name part e)

  readable : (i : Instance) → In (instances l) i → (cell : Option Text) (p : Pin) → In (readable_in design i.1 cell) p → IsPort n (port_at i.0 cell p.name) p.width reads
  readable i h None p there =
      let W : List Pin → Type 0 = λ pins. In pins p in
      own_input i h p (subst W (inputs_are design l.plain l.wired i.1 (in_design design top n l i h)) there)
  readable i h (Some name) p there = by (primitive_in i.1 name) refl (part_in design i.1 name) refl there
    where
      by : (prim : Option Primitive) → primitive_in i.1 name ≡ prim → (part : Option Component) → part_in design i.1 name ≡ part → In (made_outputs prim part) p → IsPort n (dotted (full_name i.0 name) p.name) p.width reads
      by (Some prim) e part f at =
          let line = cell_output (full_name i.0 name) p in
          primitive_port i h name prim e line (in_right (map (cell_input (full_name i.0 name)) (inputs_of prim)) (map (cell_output (full_name i.0 name)) (outputs_of prim)) line (in_map (cell_output (full_name i.0 name)) (outputs_of prim) p at)) reads refl
      by None e (Some part) f at =
          let W : List Pin → Type 0 = λ pins. In pins p in
          part_port i h name part f p (in_right part.ins part.outs p (subst W (outputs_are design l.plain l.wired part (part_in_design i.1 name part f)) at)) reads refl
      by None e None f at = absurd at

  writable : (i : Instance) → In (instances l) i → (cell : Option Text) (p : Pin) → In (writable_in design i.1 cell) p → IsPort n (port_at i.0 cell p.name) p.width writes
  writable i h None p there =
      let W : List Pin → Type 0 = λ pins. In pins p in
      own_output i h p (subst W (outputs_are design l.plain l.wired i.1 (in_design design top n l i h)) there)
  writable i h (Some name) p there = by (primitive_in i.1 name) refl (part_in design i.1 name) refl there
    where
      by : (prim : Option Primitive) → primitive_in i.1 name ≡ prim → (part : Option Component) → part_in design i.1 name ≡ part → In (made_inputs prim part) p → IsPort n (dotted (full_name i.0 name) p.name) p.width writes
      by (Some prim) e part f at =
          let line = cell_input (full_name i.0 name) p in
          primitive_port i h name prim e line (in_left (map (cell_input (full_name i.0 name)) (inputs_of prim)) (map (cell_output (full_name i.0 name)) (outputs_of prim)) line (in_map (cell_input (full_name i.0 name)) (inputs_of prim) p at)) writes refl
      by None e (Some part) f at =
          let W : List Pin → Type 0 = λ pins. In pins p in
          part_port i h name part f p (in_left part.ins part.outs p (subst W (inputs_are design l.plain l.wired part (part_in_design i.1 name part f)) at)) writes refl
      by None e None f at = absurd at

  module _ (i : Instance) (h : In (instances l) i) (p : PortName) where
    -- what the component may read is readable
    pub source_is_readable_port : IsSource design i.1 p → is_readable (port_named (ports_of n) (port_name i.0 p)) ≡ true
    source_is_readable_port e =
        let pin = pin_of_name (readable_in design i.1 p.cell) p.pin (source_pin design i.1 p.cell p.pin e) in
        let port = readable i h p.cell pin.0 pin.1 in
        ap (λ name. is_readable (port_named (ports_of n) (port_at i.0 p.cell name))) (sym pin.2) ∙ ap is_readable port.found ∙ port.sided

    -- what it may drive is writable
    pub destination_is_writable : IsDestination design i.1 p → is_writable (port_named (ports_of n) (port_name i.0 p)) ≡ true
    destination_is_writable e =
        let pin = pin_of_name (writable_in design i.1 p.cell) p.pin (destination_pin design i.1 p.cell p.pin e) in
        let port = writable i h p.cell pin.0 pin.1 in
        ap (λ name. is_writable (port_named (ports_of n) (port_at i.0 p.cell name))) (sym pin.2) ∙ ap is_writable port.found ∙ port.sided

    -- what it knows is there
    known_port : IsKnownPort design i.1 p → (q : SidedPin) × (port_in design i.1 p ≡ Some q) × IsPort n (port_name i.0 p) q.pin.width either_side
    known_port e =
        let q = some_of (port_in design i.1 p) e in
        let known = known_side design i.1 p.cell p.pin q.0 q.1 in
        let P : Text → Type 0 = λ name. IsPort n (port_at i.0 p.cell name) q.0.pin.width either_side in
        (q.0, q.1, subst P known.named (either q.0.pin known.among))
      where
        either : (pin : Pin) → In (readable_in design i.1 p.cell) pin ⊎ In (writable_in design i.1 p.cell) pin → IsPort n (port_at i.0 p.cell pin.name) pin.width either_side
        either pin (inl reading) = let port = readable i h p.cell pin reading in record { line = port.line; found = port.found; wide = port.wide; sided = refl }
        either pin (inr writing) = let port = writable i h p.cell pin writing in record { line = port.line; found = port.found; wide = port.wide; sided = refl }

    pub known_port_exists : IsKnownPort design i.1 p → is_some (port_named (ports_of n) (port_name i.0 p)) ≡ true
    known_port_exists e = ap is_some (known_port e).2.found

    -- with the width that the component knows
    pub known_port_is_wide : IsKnownPort design i.1 p → width_in design i.1 p ≡ Some (port_width (ports_of n) (port_name i.0 p))
    known_port_is_wide e =
        let known = known_port e in
        ap (option_map (λ (q : SidedPin). q.pin.width)) known.1 ∙ ap Some (sym (ap width_or_none known.2.found ∙ known.2.wide))
