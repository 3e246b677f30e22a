-- What may be driven in a listing is what may be driven in some instance of the design.
use Rattle.std.proofs.Common.{◌≡◌, ◌≢◌, ◌⊎◌, suc, List, [], ◌∷◌, ◌++◌, true, Option, Some, None, refl, sym, ap, ◌∙◌, subst, inl, inr}
use Rattle.std.specs.Prelude.{Contains}
use Rattle.hw_graph.proofs.MemberLemmas.{In, in_of, at_of, contains_of, in_left, in_right, in_append, in_map, from_map, in_flat_map, from_flat_map}
use Rattle.hw_names.proofs.NameLemmas.{full_name-append}
use Rattle.hw_names.specs.Name.{Text, Path, dotted, full_name, port_at}
use Rattle.hw_prims.specs.Table.{Pin, pin_names}
use Rattle.net_core.specs.NetRun.{HasPin, IsCellInput, IsWritable}
use Rattle.net_core.specs.Netlist.{Netlist}
use Rattle.cal_ast.proofs.InstanceLemmas.{component_at-design, component_at-below, parent_of}
use Rattle.cal_ast.proofs.LookupLemmas.{bare_inputs, bare_outputs, cell_input_cases, cell_inputs-primitive, cell_inputs-part}
use Rattle.cal_ast.proofs.SideLemmas.{writable_in}
use Rattle.cal_ast.specs.Instances.{component_at}
use Rattle.cal_ast.specs.Ports.{is_bare, outputs_in, cell_inputs}
use Rattle.cal_ast.specs.Tree.{Component, Design}
use Rattle.cal_ast.specs.Wired.{IsWired}
use Rattle.net_flat.proofs.CellLemmas.{net_cell, primitive_cell}
use Rattle.net_flat.proofs.ListingLemmas.{listed, below_top, not_top}
use Rattle.net_flat.specs.Listing.{IsListing, wires_at, flat_pin}

-- the port of this full name may be driven in some instance
pub record IsDriven (design : Design) (top : Component) (port : Text) : Type 0 where
  pub path : Path
  pub c : Component
  pub at : component_at design top path ≡ Some c
  pub cell : Option Text
  pub pin : Text
  pub sink : Contains (pin_names (writable_in design c cell)) pin
  pub named : port_at path cell pin ≡ port

is_nil : (path : Path) → (path ≡ []) ⊎ (path ≢ [])
is_nil [] = inl refl
is_nil (cell ∷ path) = inr (λ e. cc)

-- a pin of a name
pin_of : (pins : List Pin) (name : Text) → Contains (pin_names pins) name → (p : Pin) × In pins p × (p.name ≡ name)
pin_of pins name has = from_map (λ (p : Pin). p.name) pins name (in_of (pin_names pins) name has)

has_name : (pins : List Pin) (p : Pin) → In pins p → Contains (pin_names pins) p.name
has_name pins p has = contains_of (pin_names pins) p.name (in_map (λ (q : Pin). q.name) pins p has)

module _ (design : Design) (top : Component) (n : Netlist) (listing : IsListing design top n) (wired : IsWired design) (in_design : Contains design top) where
  bare_at : (path : Path) (c : Component) → component_at design top path ≡ Some c → is_bare c ≡ true
  bare_at path c at = wired.bare c (component_at-design design top path c in_design at)

  -- a port of an instance below the top is a wire
  is_wire : (path : Path) (c : Component) (p : Pin) → component_at design top path ≡ Some c → path ≢ [] → In (c.ins ++ c.outs) p → HasPin n.wires (full_name path p.name)
  is_wire path c p at below has =
      let here = in_map (flat_pin path) (c.ins ++ c.outs) p has in
      let there = in_flat_map wires_at listing.others (path, c) (flat_pin path p) (below_top design top n listing path c at below) here in
      has_name n.wires (flat_pin path p) (subst (λ (wires : List Pin). In wires (flat_pin path p)) (sym listing.wires) there)

  -- an output of an instance
  output_written : (path : Path) (c : Component) (pin : Text) → component_at design top path ≡ Some c → Contains (pin_names (outputs_in c)) pin → IsWritable n (full_name path pin)
  output_written path c pin at has = by (is_nil path)
    where
      outs : Contains (pin_names c.outs) pin
      outs = subst (λ pins. Contains (pin_names pins) pin) (bare_outputs c (bare_at path c at)) has

      by : (path ≡ []) ⊎ (path ≢ []) → IsWritable n (full_name path pin)
      by (inl e) =
          let is : top ≡ c = let same = ap (component_at design top) (sym e) ∙ at in cc in
          let of_top : HasPin top.outs pin = subst (λ (x : Component). Contains (pin_names x.outs) pin) (sym is) outs in
          let of_net : HasPin n.outs pin = subst (λ pins. HasPin pins pin) (sym listing.outs) of_top in
          inl (subst (λ (q : Path). HasPin n.outs (full_name q pin)) (sym e) of_net)
      by (inr below) =
          let p = pin_of c.outs pin outs in
          inr (inl (subst (λ x. HasPin n.wires (full_name path x)) p.2 (is_wire path c p.0 at below (in_right c.ins c.outs p.0 p.1))))

  -- an input of a cell
  input_written : (path : Path) (c : Component) (cell pin : Text) → component_at design top path ≡ Some c → Contains (pin_names (cell_inputs design c cell)) pin → IsWritable n (dotted (full_name path cell) pin)
  input_written path c cell pin at has = elim (cell_input_cases design c cell pin has) [
    | inl (prim, is, there) ↦
        let net = net_cell design top n listing (full_name path cell) prim (record { path = path; c = c; at = at; cell = cell; made = is; named = refl }) in
        inr (inr (full_name path cell, prim, net, pin, there, refl))
    | inr (part, is, there) ↦
        let below = component_at-below design top path c cell at ∙ is in
        let ins : Contains (pin_names part.ins) pin = subst (λ pins. Contains (pin_names pins) pin) (bare_inputs part (bare_at (path ++ cell ∷ []) part below)) there in
        let p = pin_of part.ins pin ins in
        let wire = is_wire (path ++ cell ∷ []) part p.0 below (not_nil path cell) (in_left part.ins part.outs p.0 p.1) in
        inr (inl (subst (λ x. HasPin n.wires x) (ap (full_name (path ++ cell ∷ [])) p.2 ∙ full_name-append path cell pin) wire))
  ]
    where
      not_nil : (q : Path) (x : Text) → (q ++ x ∷ []) ≢ []
      not_nil [] x e = cc
      not_nil (s ∷ q) x e = cc

  -- what an instance may drive, assignments of the netlist may drive
  pub written : (path : Path) (c : Component) (cell : Option Text) (pin : Text) → component_at design top path ≡ Some c → Contains (pin_names (writable_in design c cell)) pin → IsWritable n (port_at path cell pin)
  written path c None pin at has = output_written path c pin at has
  written path c (Some cell) pin at has = input_written path c cell pin at has

  -- a port of an instance below the top is driven in it, or, an input, in its parent
  output_driven : (path : Path) (c : Component) (pin : Text) → component_at design top path ≡ Some c → Contains (pin_names c.outs) pin → IsDriven design top (full_name path pin)
  output_driven path c pin at has = record {
    path = path;
    c = c;
    at = at;
    cell = None;
    pin = pin;
    sink = subst (λ pins. Contains (pin_names pins) pin) (sym (bare_outputs c (bare_at path c at))) has;
    named = refl;
  }

  input_driven : (path : Path) (c : Component) (pin : Text) → component_at design top path ≡ Some c → path ≢ [] → Contains (pin_names c.ins) pin → IsDriven design top (full_name path pin)
  input_driven path c pin at below has =
      let up = parent_of design top path c below at in
      let inputs = cell_inputs-part design up.parent up.cell c up.part ∙ bare_inputs c (bare_at path c at) in
      record {
        path = up.above;
        c = up.parent;
        at = up.at;
        cell = Some up.cell;
        pin = pin;
        sink = subst (λ pins. Contains (pin_names pins) pin) (sym inputs) has;
        named = sym (full_name-append up.above up.cell pin) ∙ ap (λ q. full_name q pin) (sym up.ends);
      }

  port_driven : (path : Path) (c : Component) (p : Pin) → component_at design top path ≡ Some c → path ≢ [] → In (c.ins ++ c.outs) p → IsDriven design top (full_name path p.name)
  port_driven path c p at below has = elim (in_append c.ins c.outs p has) [
    | inl input ↦ input_driven path c p.name at below (has_name c.ins p input)
    | inr output ↦ output_driven path c p.name at (has_name c.outs p output)
  ]

  wire_driven : (port : Text) → HasPin n.wires port → IsDriven design top port
  wire_driven port has =
      let p = pin_of n.wires port has in
      let i = from_flat_map wires_at listing.others p.0 (subst (λ (wires : List Pin). In wires p.0) listing.wires p.1) in
      let k = at_of listing.others i.0 i.1 in
      let at = listed design top n listing (suc k.0) i.0 k.1 in
      let q = from_map (flat_pin i.0.0) (i.0.1.ins ++ i.0.1.outs) p.0 i.2 in
      let here = port_driven i.0.0 i.0.1 q.0 at (not_top design top n listing k.0 i.0 k.1) q.1 in
      subst (λ x. IsDriven design top x) p.2 (subst (λ (r : Pin). IsDriven design top r.name) q.2 here)

  cell_input_driven : (port : Text) → IsCellInput n port → IsDriven design top port
  cell_input_driven port (name, prim, is, pin, has, named) =
      let cell = primitive_cell design top n listing wired.rules.keeps in_design name prim is in
      record {
        path = cell.path;
        c = cell.c;
        at = cell.at;
        cell = Some cell.cell;
        pin = pin;
        sink = subst (λ pins. Contains (pin_names pins) pin) (sym (cell_inputs-primitive design cell.c cell.cell prim cell.made)) has;
        named = ap (λ x. dotted x pin) cell.named ∙ named;
      }

  -- what assignments of the netlist may drive, some instance may drive
  pub driven : (port : Text) → IsWritable n port → IsDriven design top port
  driven port (inl output) = record {
    path = [];
    c = top;
    at = refl;
    cell = None;
    pin = port;
    sink = subst (λ pins. Contains (pin_names pins) port) (listing.outs ∙ sym (bare_outputs top (wired.bare top in_design))) output;
    named = refl;
  }
  driven port (inr (inl wire)) = wire_driven port wire
  driven port (inr (inr input)) = cell_input_driven port input
