-- The names of a listing's ports are distinct, and so are those of its cells.
use Rattle.std.proofs.Common.{◌≡◌, ℕ, true, cond, List, [], ◌∷◌, ◌++◌, map, flat_map, take, slice_get, bytes_eq, Some, None, refl, sym, ap, subst, ◌∙◌}
use Rattle.std.specs.Prelude.{option_and_then}
use Rattle.std.proofs.lemmas.Bool.{and_from}
use Rattle.std.proofs.lemmas.List.{same_from_push}
use Rattle.std.proofs.lemmas.Slice.Eq.{bytes_eq-Decides}
use Rattle.hw_graph.proofs.MemberLemmas.{In, contains_of, from_map, from_filter, from_flat_map}
use Rattle.hw_names.proofs.NameLemmas.{same_full_name, plain_append}
use Rattle.hw_names.specs.Name.{Text, Path, full_name, IsPlain, IsPlainPath}
use Rattle.hw_prims.proofs.PortNameLemmas.{names_differ}
use Rattle.hw_prims.specs.Table.{is_primitive, pin_names}
use Rattle.net_core.specs.Netlist.{Netlist, Line, lines_of}
use Rattle.net_core.specs.Rules.{PortLine, ports_at, ports_of, port_names, port_named, has_name, cell_names_at, are_new, has_new_names}
use Rattle.cal_ast.proofs.InstanceLemmas.{component_at-below}
use Rattle.net_flat.proofs.KeptLemmas.{distinct_cells}
use Rattle.cal_ast.specs.Instances.{component_at}
use Rattle.cal_ast.specs.Ports.{component_named, part_of, part_in}
use Rattle.cal_ast.specs.Tree.{CellDef, Component, Design}
use Rattle.net_flat.specs.Listing.{Instance}
use Rattle.net_flat.proofs.ApartLemmas.{AreApart, apart_append, apart_map, apart_filter, apart_from_map, apart_from_pairs, apart_flat_map, images_apart, same_by, names_are_new}
use Rattle.net_flat.proofs.ListedNameLemmas.{map_flat_map, name_of_cell, primitive_cells, own_names, pins_of_cell, cell_pins, names_of_cells, names_of_ports, port_names_listed, cell_names_listed}
use Rattle.net_flat.proofs.ListedLemmas.{IsWiredListing, instances, at_path, in_design, plain_at, same_path, instances_apart, pins_apart, pins_plain, cell_name_plain}
use Rattle.net_flat.proofs.ListFacts.{found_alone}
use Rattle.net_flat.proofs.PinNameLemmas.{prim_pins, pin_name_plain}

abbrev ArePlain : List Text → Type 0
ArePlain names = (name : Text) → In names name → IsPlain name

-- plain names at a plain path: full names are apart, and tell the path
apart_at : (path : Path) (names : List Text) → IsPlainPath path → ArePlain names → AreApart names → AreApart (map (full_name path) names)
apart_at path names plain each apart =
    apart_map (full_name path) names (λ x y hx hy e. (same_full_name path path x y plain plain (each x hx) (each y hy) e).1) apart

same_place : (p q : Path) (xs ys : List Text) (name : Text) → IsPlainPath p → IsPlainPath q → ArePlain xs → ArePlain ys → In (map (full_name p) xs) name → In (map (full_name q) ys) name → p ≡ q
same_place p q xs ys name plain_p plain_q plain_xs plain_ys here there =
    let x = from_map (full_name p) xs name here in
    let y = from_map (full_name q) ys name there in
    (same_full_name p q x.0 y.0 plain_p plain_q (plain_xs x.0 x.1) (plain_ys y.0 y.1) (x.2 ∙ sym y.2)).0

-- where a name stands among the pins of cells, a cell has it
record HasPin (i : Instance) (name : Text) : Type 0 where
  cell : CellDef
  there : In i.1.cells cell
  primitive : is_primitive cell.made ≡ true
  pin : In (pins_of_cell i.0 cell) name

has_pin : (i : Instance) (name : Text) → In (cell_pins i) name → HasPin i name
has_pin i name h =
    let r = from_flat_map (pins_of_cell i.0) (primitive_cells i.1) name h in
    let c = from_filter (λ (cell : CellDef). is_primitive cell.made) i.1.cells r.0 r.1 in
    record { cell = r.0; there = c.0; primitive = c.1; pin = r.2 }

module _ (design : Design) (top : Component) (n : Netlist) (l : IsWiredListing design top n) where
  names_plain : (i : Instance) → In (instances l) i → ArePlain (pin_names (i.1.ins ++ i.1.outs))
  names_plain i h = pins_plain design l.plain l.wired i.1 (in_design design top n l i h)

  cells_apart : (i : Instance) → In (instances l) i → AreApart (map name_of_cell i.1.cells)
  cells_apart i h = images_apart name_of_cell i.1.cells (distinct_cells design l.wired.rules.keeps i.1 (contains_of design i.1 (in_design design top n l i h)))

  primitives_apart : (i : Instance) → In (instances l) i → AreApart (map name_of_cell (primitive_cells i.1))
  primitives_apart i h = apart_filter name_of_cell (λ (cell : CellDef). is_primitive cell.made) i.1.cells (cells_apart i h)

  plain_cell : (i : Instance) → In (instances l) i → (cell : CellDef) → In i.1.cells cell → IsPlain cell.name
  plain_cell i h cell there = cell_name_plain design l.plain l.wired i.1 (in_design design top n l i h) cell there

  plain_cells : (i : Instance) → In (instances l) i → ArePlain (map name_of_cell (primitive_cells i.1))
  plain_cells i h name there =
      let r = from_map name_of_cell (primitive_cells i.1) name there in
      let c = from_filter (λ (cell : CellDef). is_primitive cell.made) i.1.cells r.0 r.1 in
      subst IsPlain r.2 (plain_cell i h r.0 c.0)

  -- the path of a cell in an instance
  plain_end : (i : Instance) → In (instances l) i → (cell : CellDef) → In i.1.cells cell → IsPlainPath (i.0 ++ cell.name ∷ [])
  plain_end i h cell there = plain_append i.0 cell.name (plain_at design top n l i h) (plain_cell i h cell there)

  own_names_apart : AreApart (flat_map own_names (instances l))
  own_names_apart = apart_flat_map own_names (instances l) (instances_apart design top n l) each tells
    where
      each : (i : Instance) → In (instances l) i → AreApart (own_names i)
      each i h = apart_at i.0 (pin_names (i.1.ins ++ i.1.outs)) (plain_at design top n l i h) (names_plain i h) (pins_apart design l.plain l.wired i.1 (in_design design top n l i h))

      tells : (i j : Instance) (name : Text) → In (instances l) i → In (instances l) j → In (own_names i) name → In (own_names j) name → i ≡ j
      tells i j name hi hj at_i at_j =
          same_path design top n l i j hi hj (same_place i.0 j.0 (pin_names (i.1.ins ++ i.1.outs)) (pin_names (j.1.ins ++ j.1.outs)) name (plain_at design top n l i hi) (plain_at design top n l j hj) (names_plain i hi) (names_plain j hj) at_i at_j)

  -- a name among the pins of two cells is of one path
  same_end : (i j : Instance) (name : Text) → In (instances l) i → In (instances l) j → (a b : CellDef) → In i.1.cells a → In j.1.cells b
      → In (pins_of_cell i.0 a) name → In (pins_of_cell j.0 b) name → (i.0 ≡ j.0) × (a.name ≡ b.name)
  same_end i j name hi hj a b ha hb at_a at_b =
      same_from_push i.0 j.0 a.name b.name (same_place (i.0 ++ a.name ∷ []) (j.0 ++ b.name ∷ []) (prim_pins a.made) (prim_pins b.made) name (plain_end i hi a ha) (plain_end j hj b hb) (pin_name_plain a.made) (pin_name_plain b.made) at_a at_b)

  cell_pins_apart : AreApart (flat_map cell_pins (instances l))
  cell_pins_apart = apart_flat_map cell_pins (instances l) (instances_apart design top n l) each tells
    where
      of_cell : (i : Instance) → In (instances l) i → (cell : CellDef) → In (primitive_cells i.1) cell → AreApart (pins_of_cell i.0 cell)
      of_cell i h cell there =
          let c = from_filter (λ (x : CellDef). is_primitive x.made) i.1.cells cell there in
          apart_at (i.0 ++ cell.name ∷ []) (prim_pins cell.made) (plain_end i h cell c.0) (pin_name_plain cell.made) (apart_from_pairs (prim_pins cell.made) (names_differ cell.made))

      same_cell : (i : Instance) → In (instances l) i → (a b : CellDef) (name : Text) → In (primitive_cells i.1) a → In (primitive_cells i.1) b → In (pins_of_cell i.0 a) name → In (pins_of_cell i.0 b) name → a ≡ b
      same_cell i h a b name ha hb at_a at_b =
          let test = λ (x : CellDef). is_primitive x.made in
          let in_a = (from_filter test i.1.cells a ha).0 in
          let in_b = (from_filter test i.1.cells b hb).0 in
          same_by name_of_cell i.1.cells a b (cells_apart i h) in_a in_b (same_end i i name h h a b in_a in_b at_a at_b).1

      each : (i : Instance) → In (instances l) i → AreApart (cell_pins i)
      each i h = apart_flat_map (pins_of_cell i.0) (primitive_cells i.1) (apart_from_map name_of_cell (primitive_cells i.1) (primitives_apart i h)) (of_cell i h) (same_cell i h)

      tells : (i j : Instance) (name : Text) → In (instances l) i → In (instances l) j → In (cell_pins i) name → In (cell_pins j) name → i ≡ j
      tells i j name hi hj at_i at_j =
          let a = has_pin i name at_i in
          let b = has_pin j name at_j in
          same_path design top n l i j hi hj (same_end i j name hi hj a.cell b.cell a.there b.there a.pin b.pin).0

  -- no instance stands at the path of a primitive's cell
  no_instance : (i j : Instance) → In (instances l) i → In (instances l) j → (cell : CellDef) → In j.1.cells cell → is_primitive cell.made ≡ true → i.0 ≡ j.0 ++ cell.name ∷ [] → ⊥
  no_instance i j hi hj cell there primitive e =
      let found = found_alone (λ (c : CellDef). bytes_eq c.name cell.name) j.1.cells cell there ((bytes_eq-Decides cell.name cell.name).1 refl)
      (λ other at same. same_by name_of_cell j.1.cells other cell (cells_apart j hj) at there ((bytes_eq-Decides other.name cell.name).0 same)) in
      let none : part_in design j.1 cell.name ≡ None =
      ap (option_and_then (part_of design)) found ∙ ap (λ b. cond b None (component_named design cell.made)) primitive in
      let some = sym (ap (component_at design top) e) ∙ at_path design top n l i hi in
      let bad : None ≡ Some i.1 = sym none ∙ sym (component_at-below design top j.0 j.1 cell.name (at_path design top n l j hj)) ∙ some in
      cc

  across : (name : Text) → In (flat_map own_names (instances l)) name → In (flat_map cell_pins (instances l)) name → ⊥
  across name own pin =
      let i = from_flat_map own_names (instances l) name own in
      let j = from_flat_map cell_pins (instances l) name pin in
      let c = has_pin j.0 name j.2 in
      no_instance i.0 j.0 i.1 j.1 c.cell c.there c.primitive
      (same_place i.0.0 (j.0.0 ++ c.cell.name ∷ []) (pin_names (i.0.1.ins ++ i.0.1.outs)) (prim_pins c.cell.made) name (plain_at design top n l i.0 i.1) (plain_end j.0 j.1 c.cell c.there) (names_plain i.0 i.1) (pin_name_plain c.cell.made) i.2 c.pin)

  listed_ports_apart : AreApart (flat_map names_of_ports (lines_of n))
  listed_ports_apart =
      subst AreApart (sym (port_names_listed design top n l)) (apart_append (flat_map own_names (instances l)) (flat_map cell_pins (instances l)) own_names_apart cell_pins_apart across)

  listed_cells_apart : AreApart (flat_map cell_names_at (lines_of n))
  listed_cells_apart = subst AreApart (sym (cell_names_listed design top n l)) (apart_flat_map names_of_cells (instances l) (instances_apart design top n l) each tells)
    where
      each : (i : Instance) → In (instances l) i → AreApart (names_of_cells i)
      each i h = apart_at i.0 (map name_of_cell (primitive_cells i.1)) (plain_at design top n l i h) (plain_cells i h) (primitives_apart i h)

      tells : (i j : Instance) (name : Text) → In (instances l) i → In (instances l) j → In (names_of_cells i) name → In (names_of_cells j) name → i ≡ j
      tells i j name hi hj at_i at_j =
          same_path design top n l i j hi hj (same_place i.0 j.0 (map name_of_cell (primitive_cells i.1)) (map name_of_cell (primitive_cells j.1)) name (plain_at design top n l i hi) (plain_at design top n l j hj) (plain_cells i hi) (plain_cells j hj) at_i at_j)

  -- N1 at each line
  pub has_new : (k : ℕ) (line : Line) → slice_get (lines_of n) k ≡ Some line → has_new_names (flat_map ports_at (take k (lines_of n))) (flat_map cell_names_at (take k (lines_of n))) line ≡ true
  has_new k line at =
      let before = take k (lines_of n) in
      let ports = ap (λ names. are_new names (port_names (ports_at line))) (map_flat_map (λ (p : PortLine). p.name) ports_at before) ∙ names_are_new names_of_ports (lines_of n) k line listed_ports_apart at in
      and_from (are_new (port_names (flat_map ports_at before)) (port_names (ports_at line))) (are_new (flat_map cell_names_at before) (cell_names_at line)) ports
      (names_are_new cell_names_at (lines_of n) k line listed_cells_apart at)

  -- a port is found by its name
  pub port_is_named : (p : PortLine) → In (ports_of n) p → port_named (ports_of n) p.name ≡ Some p
  port_is_named p h =
      let apart : AreApart (port_names (ports_of n)) = subst AreApart (sym (map_flat_map (λ (x : PortLine). x.name) ports_at (lines_of n))) listed_ports_apart in
      found_alone (has_name p.name) (ports_of n) p h ((bytes_eq-Decides p.name p.name).1 refl)
      (λ other at same. same_by (λ (x : PortLine). x.name) (ports_of n) other p apart at h ((bytes_eq-Decides other.name p.name).0 same))
