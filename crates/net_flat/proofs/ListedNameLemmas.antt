-- The names of a listing's ports and cells: those of each instance, with full names.
use Rattle.std.proofs.Common.{◌≡◌, List, [], ◌∷◌, ◌++◌, map, flat_map, filter, Option, Some, None, refl, sym, ap, ap₂, ◌∙◌}
use Rattle.std.proofs.lemmas.Grind.{flat_map-append}
use Rattle.std.proofs.lemmas.List.{append-nil, map-append, map-id}
use Rattle.std.proofs.lemmas.List.Concat.{flat_map_single}
use Rattle.std.proofs.lemmas.List.Folds.{flat_map-map}
use Rattle.hw_names.proofs.NameLemmas.{full_name-append}
use Rattle.hw_names.specs.Name.{Text, Path, dotted, full_name}
use Rattle.hw_prims.proofs.PortNameLemmas.{has_names, pin_names-pins_of}
use Rattle.hw_prims.specs.Table.{Pin, prim_of, is_primitive, pin_names}
use Rattle.hw_prims.specs.declared.prim.Primitive.{Primitive}
use Rattle.net_core.proofs.CellLemmas.{port_names-cell_ports, port_names-unsized_ports}
use Rattle.net_core.specs.Netlist.{CellLine, Netlist, Line, InLine, OutLine, WireLine, CellOf, SetOf, lines_of}
use Rattle.net_core.specs.PortList.{full_names}
use Rattle.net_core.specs.Rules.{ports_at, ports_from, port_names, cell_names_at}
use Rattle.cal_ast.specs.Tree.{CellDef, Component, Design}
use Rattle.cal_ast.specs.Keeping.{flat_cell}
use Rattle.net_flat.specs.Listing.{Instance, flat_pin, wires_at, cells_at}
use Rattle.net_flat.proofs.ListedLemmas.{IsWiredListing, instances}
use Rattle.net_flat.proofs.PinNameLemmas.{prim_pins}

module _ {X Y Z : Type 0} where
  map_map : (g : Y → Z) (f : X → Y) (xs : List X) → map g (map f xs) ≡ map (λ x. g (f x)) xs
  map_map g f [] = refl
  map_map g f (x ∷ xs) = ap (λ ys. g (f x) ∷ ys) (map_map g f xs)

  pub map_flat_map : (g : Y → Z) (f : X → List Y) (xs : List X) → map g (flat_map f xs) ≡ flat_map (λ x. map g (f x)) xs
  map_flat_map g f [] = refl
  map_flat_map g f (x ∷ xs) = map-append g (f x) (flat_map f xs) ∙ ap (λ ys. map g (f x) ++ ys) (map_flat_map g f xs)

  flat_map_flat_map : (h : Y → List Z) (f : X → List Y) (xs : List X) → flat_map h (flat_map f xs) ≡ flat_map (λ x. flat_map h (f x)) xs
  flat_map_flat_map h f [] = refl
  flat_map_flat_map h f (x ∷ xs) = flat_map-append h (f x) (flat_map f xs) ∙ ap (λ ys. flat_map h (f x) ++ ys) (flat_map_flat_map h f xs)

module _ {X Y : Type 0} where
  map_same : (f g : X → Y) → ((x : X) → f x ≡ g x) → (xs : List X) → map f xs ≡ map g xs
  map_same f g same [] = refl
  map_same f g same (x ∷ xs) = ap₂ ◌∷◌ (same x) (map_same f g same xs)

  flat_map_same : (f g : X → List Y) → ((x : X) → f x ≡ g x) → (xs : List X) → flat_map f xs ≡ flat_map g xs
  flat_map_same f g same [] = refl
  flat_map_same f g same (x ∷ xs) = ap₂ ◌++◌ (same x) (flat_map_same f g same xs)

  no_names : (f : X → List Y) → ((x : X) → f x ≡ []) → (xs : List X) → flat_map f xs ≡ []
  no_names f none [] = refl
  no_names f none (x ∷ xs) = ap₂ ◌++◌ (none x) (no_names f none xs)

abbrev name_of_pin : Pin → Text
name_of_pin p = p.name

abbrev name_of_line : CellLine → Text
name_of_line c = c.name

abbrev pub name_of_cell : CellDef → Text
name_of_cell c = c.name

abbrev pub primitive_cells : Component → List CellDef
primitive_cells c = filter (λ (cell : CellDef). is_primitive cell.made) c.cells

-- the ports of the instance itself
abbrev pub own_names : Instance → List Text
own_names i = map (full_name i.0) (pin_names (i.1.ins ++ i.1.outs))

-- those of a primitive's cell at a path, and of each such cell of the instance
abbrev pub pins_of_cell : Path → CellDef → List Text
pins_of_cell path cell = map (full_name (path ++ cell.name ∷ [])) (prim_pins cell.made)

abbrev pub cell_pins : Instance → List Text
cell_pins i = flat_map (pins_of_cell i.0) (primitive_cells i.1)

-- these cells themselves
abbrev pub names_of_cells : Instance → List Text
names_of_cells i = map (full_name i.0) (map name_of_cell (primitive_cells i.1))

abbrev pub names_of_ports : Line → List Text
names_of_ports line = port_names (ports_at line)

-- the names at each kind of line
names_by_kind : (names : Line → List Text) (n : Netlist) → flat_map names (lines_of n)
    ≡ flat_map (λ p. names (InLine p)) n.ins ++ flat_map (λ p. names (OutLine p)) n.outs ++ flat_map (λ p. names (WireLine p)) n.wires ++ flat_map (λ c. names (CellOf c)) n.cells ++ flat_map (λ a. names (SetOf a)) n.sets
names_by_kind names n =
    let ins = map InLine n.ins in
    let outs = map OutLine n.outs in
    let wires = map WireLine n.wires in
    let cells = map CellOf n.cells in
    let sets = map SetOf n.sets in
    flat_map-append names (ins ++ outs ++ wires ++ cells) sets
    ∙ ap₂ ◌++◌ (flat_map-append names (ins ++ outs ++ wires) cells
    ∙ ap₂ ◌++◌ (flat_map-append names (ins ++ outs) wires
    ∙ ap₂ ◌++◌ (flat_map-append names ins outs ∙ ap₂ ◌++◌ (flat_map-map names InLine n.ins) (flat_map-map names OutLine n.outs)) (flat_map-map names WireLine n.wires)) (flat_map-map names CellOf n.cells))
    (flat_map-map names SetOf n.sets)

-- a cell's line has the pins of its primitive's name, whatever its parameters
port_names_of_cell : (name made : Text) (params : List _) → port_names (ports_from (prim_of made params) name made) ≡ full_names name (prim_pins made)
port_names_of_cell name made params = by (prim_of made params) refl
  where
    by : (o : Option Primitive) → prim_of made params ≡ o → port_names (ports_from o name made) ≡ full_names name (prim_pins made)
    by (Some prim) e = port_names-cell_ports prim name ∙ ap (full_names name) (pin_names-pins_of made prim (has_names made params prim e))
    by None e = port_names-unsized_ports name made

flat_cell_ports : (path : Path) (cell : CellDef) → names_of_ports (CellOf (flat_cell path cell)) ≡ pins_of_cell path cell
flat_cell_ports path cell =
    port_names_of_cell (full_name path cell.name) cell.made cell.params
    ∙ map_same (dotted (full_name path cell.name)) (full_name (path ++ cell.name ∷ [])) (λ pin. sym (full_name-append path cell.name pin)) (prim_pins cell.made)

module _ (design : Design) (top : Component) (n : Netlist) (l : IsWiredListing design top n) where
  top_names : flat_map (λ (p : Pin). p.name ∷ []) n.ins ++ flat_map (λ (p : Pin). p.name ∷ []) n.outs ≡ own_names ([], top)
  top_names =
      ap₂ ◌++◌ (flat_map_single name_of_pin n.ins ∙ ap (map name_of_pin) l.listing.ins) (flat_map_single name_of_pin n.outs ∙ ap (map name_of_pin) l.listing.outs)
      ∙ sym (map-append name_of_pin top.ins top.outs) ∙ sym (map-id (pin_names (top.ins ++ top.outs)))

  wire_names : flat_map (λ (p : Pin). p.name ∷ []) n.wires ≡ flat_map own_names l.listing.others
  wire_names =
      flat_map_single name_of_pin n.wires ∙ ap (map name_of_pin) l.listing.wires ∙ map_flat_map name_of_pin wires_at l.listing.others
      ∙ flat_map_same (λ i. map name_of_pin (wires_at i)) own_names each l.listing.others
    where
      each : (i : Instance) → map name_of_pin (wires_at i) ≡ own_names i
      each i = map_map name_of_pin (flat_pin i.0) (i.1.ins ++ i.1.outs) ∙ sym (map_map (full_name i.0) name_of_pin (i.1.ins ++ i.1.outs))

  pin_names_of_cells : flat_map (λ c. names_of_ports (CellOf c)) n.cells ≡ flat_map cell_pins (instances l)
  pin_names_of_cells =
      ap (flat_map at_cell) l.listing.cells ∙ flat_map_flat_map at_cell cells_at (instances l) ∙ flat_map_same (λ i. flat_map at_cell (cells_at i)) cell_pins each (instances l)
    where
      at_cell : CellLine → List Text
      at_cell c = names_of_ports (CellOf c)

      each : (i : Instance) → flat_map at_cell (cells_at i) ≡ cell_pins i
      each i = flat_map-map at_cell (flat_cell i.0) (primitive_cells i.1) ∙ flat_map_same (λ cell. at_cell (flat_cell i.0 cell)) (pins_of_cell i.0) (flat_cell_ports i.0) (primitive_cells i.1)

  pub port_names_listed : flat_map names_of_ports (lines_of n) ≡ flat_map own_names (instances l) ++ flat_map cell_pins (instances l)
  port_names_listed =
      names_by_kind names_of_ports n ∙ ap₂ ◌++◌ (ap₂ ◌++◌ (ap₂ ◌++◌ top_names wire_names) pin_names_of_cells) (no_names (λ a. names_of_ports (SetOf a)) (λ a. refl) n.sets)
      ∙ append-nil (flat_map own_names (instances l) ++ flat_map cell_pins (instances l))

  line_names : flat_map (λ (c : CellLine). c.name ∷ []) n.cells ≡ flat_map names_of_cells (instances l)
  line_names =
      flat_map_single name_of_line n.cells ∙ ap (map name_of_line) l.listing.cells ∙ map_flat_map name_of_line cells_at (instances l)
      ∙ flat_map_same (λ i. map name_of_line (cells_at i)) names_of_cells each (instances l)
    where
      each : (i : Instance) → map name_of_line (cells_at i) ≡ names_of_cells i
      each i = map_map name_of_line (flat_cell i.0) (primitive_cells i.1) ∙ sym (map_map (full_name i.0) name_of_cell (primitive_cells i.1))

  pub cell_names_listed : flat_map cell_names_at (lines_of n) ≡ flat_map names_of_cells (instances l)
  cell_names_listed =
      names_by_kind cell_names_at n
      ∙ ap₂ ◌++◌ (ap₂ ◌++◌ (ap₂ ◌++◌ (ap₂ ◌++◌ (no_names (λ p. cell_names_at (InLine p)) (λ p. refl) n.ins) (no_names (λ p. cell_names_at (OutLine p)) (λ p. refl) n.outs)) (no_names (λ p. cell_names_at (WireLine p)) (λ p. refl) n.wires)) line_names) (no_names (λ a. cell_names_at (SetOf a)) (λ a. refl) n.sets)
      ∙ append-nil (flat_map names_of_cells (instances l))
