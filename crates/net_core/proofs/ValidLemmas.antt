-- What the rules give of a valid netlist: names are distinct, cells have primitives, assignments fit their ports.
use Rattle.std.proofs.Common.{◌≡◌, ◌≢◌, ℕ, suc, Bool, true, false, not, ◌&&◌, ◌||◌, List, [], ◌∷◌, ◌++◌, map, take, flat_map, slice_get, Option, Some, None, refl, sym, ap, ap₂, subst, append_assoc, ◌∙◌, arith}
use Rattle.std.specs.Prelude.{All}
use Rattle.std.specs.Str.{bytes_eq}
use Rattle.std.proofs.lemmas.Bool.{and_parts, or_parts}
use Rattle.std.proofs.lemmas.List.{append-nil, map-append}
use Rattle.std.proofs.lemmas.List.Elements.{All-nil, All-cons, All-append}
use Rattle.std.proofs.lemmas.List.Kept.{AllPairs-cons}
use Rattle.std.proofs.lemmas.Grind.{flat_map-append}
use Rattle.std.proofs.lemmas.Slice.Eq.{bytes_eq-Decides}
use Rattle.hw_names.specs.Name.{Text, AreDistinct}
use Rattle.hw_prims.proofs.PortNameLemmas.{has_names, pins_differ, names_differ}
use Rattle.hw_prims.specs.Table.{prim_of, input_names, output_names, pins_of, pin_names}
use Rattle.hw_prims.specs.declared.prim.Primitive.{Primitive}
use Rattle.net_core.specs.Netlist.{Netlist, Line, InLine, OutLine, WireLine, CellOf, SetOf, CellLine, lines_of}
use Rattle.net_core.specs.Rules.{PortLine, ports_at, ports_from, ports_of, port_names, cell_names_at, is_among, are_new, has_new_names, has_known_names, has_good_widths, has_good_sides, has_good_parameters, IsValid}
use Rattle.net_core.proofs.CellLemmas.{AreDistinct-full_names, port_names-cell_ports, port_names-unsized_ports}

abbrev Differs : Text → Text → Type 0
Differs a b = a ≢ b

-- the rules at a line, one by one
pub record Keeps (n : Netlist) (k : ℕ) (line : Line) : Type 0 where
  pub names : has_new_names (flat_map ports_at (take k (lines_of n))) (flat_map cell_names_at (take k (lines_of n))) line ≡ true
  pub known : has_known_names (ports_of n) line ≡ true
  pub widths : has_good_widths (ports_of n) line ≡ true
  pub sides : has_good_sides (ports_of n) line ≡ true
  pub parameters : has_good_parameters line ≡ true

pub keeps_at : (n : Netlist) → IsValid n → (k : ℕ) (line : Line) → slice_get (lines_of n) k ≡ Some line → Keeps n k line
keeps_at n valid k line at =
    let names = has_new_names (flat_map ports_at (take k (lines_of n))) (flat_map cell_names_at (take k (lines_of n))) line in
    let known = has_known_names (ports_of n) line in
    let widths = has_good_widths (ports_of n) line in
    let sides = has_good_sides (ports_of n) line in
    let parameters = has_good_parameters line in
    let one = and_parts names (known && (widths && (sides && (parameters && true)))) (valid k line at) in
    let two = and_parts known (widths && (sides && (parameters && true))) one.1 in
    let three = and_parts widths (sides && (parameters && true)) two.1 in
    let four = and_parts sides (parameters && true) three.1 in
    record { names = one.0; known = two.0; widths = three.0; sides = four.0; parameters = (and_parts parameters true four.1).0 }

-- no new name is the first of these
apart_from : (x : Text) (xs ys : List Text) → are_new (x ∷ xs) ys ≡ true → All (Differs x) ys × (are_new xs ys ≡ true)
apart_from x xs [] e = (All-nil (Differs x), refl)
apart_from x xs (y ∷ ys) e =
    let parts = and_parts (not (bytes_eq y x || is_among xs y)) (are_new (x ∷ xs) ys) e in
    let absent = or_parts (bytes_eq y x) (is_among xs y) (not_true (bytes_eq y x || is_among xs y) parts.0) in
    let rest = apart_from x xs ys parts.1 in
    let other : x ≢ y = λ same. let yes = (bytes_eq-Decides y x).1 (sym same) in cc in
    (All-cons (Differs x) y ys other rest.0, ap₂ (λ a b. not a && b) absent.1 rest.1)
  where
    not_true : (b : Bool) → not b ≡ true → b ≡ false
    not_true true h = cc
    not_true false h = refl

-- names stay distinct with new distinct ones
distinct_append : (xs ys : List Text) → AreDistinct xs → AreDistinct ys → are_new xs ys ≡ true → AreDistinct (xs ++ ys)
distinct_append [] ys dx dy new = dy
distinct_append (x ∷ xs) ys dx dy new =
    let apart = apart_from x xs ys new in
    let first : All (Differs x) xs = λ k d within. dx 0 (suc k) d (omega arith) (omega arith) in
    let tail : AreDistinct xs = λ i j d before within. dx (suc i) (suc j) d (omega arith) (omega arith) in
    AllPairs-cons Differs x (xs ++ ys) (All-append (Differs x) xs ys first apart.0) (distinct_append xs ys tail dy apart.1)

one_is_distinct : (x : Text) → AreDistinct (x ∷ [])
one_is_distinct x = λ i j d before within. absurd (omega arith)

none_are_distinct : AreDistinct []
none_are_distinct = λ i j d before within. absurd (omega arith)

-- the names of a cell's ports, whether a primitive was made or not
port_names-cell : (c : CellLine) → AreDistinct (port_names (ports_at (CellOf c)))
port_names-cell c = by (prim_of c.prim c.params) refl
  where
    by : (made : Option Primitive) → prim_of c.prim c.params ≡ made → AreDistinct (port_names (ports_from made c.name c.prim))
    by (Some prim) e =
        let D : List Text → Type 0 = AreDistinct in
        subst D (sym (port_names-cell_ports prim c.name)) (AreDistinct-full_names c.name (pin_names (pins_of prim)) (pins_differ c.prim prim (has_names c.prim c.params prim e)))
    by None e =
        let D : List Text → Type 0 = AreDistinct in
        subst D (sym (port_names-unsized_ports c.name c.prim)) (AreDistinct-full_names c.name (input_names c.prim ++ output_names c.prim) (names_differ c.prim))

names_at_line : (line : Line) → AreDistinct (port_names (ports_at line))
names_at_line (InLine p) = one_is_distinct p.name
names_at_line (OutLine p) = one_is_distinct p.name
names_at_line (WireLine p) = one_is_distinct p.name
names_at_line (CellOf c) = port_names-cell c
names_at_line (SetOf a) = none_are_distinct

cells_at_line : (line : Line) → AreDistinct (cell_names_at line)
cells_at_line (CellOf c) = one_is_distinct c.name
cells_at_line (InLine p) = none_are_distinct
cells_at_line (OutLine p) = none_are_distinct
cells_at_line (WireLine p) = none_are_distinct
cells_at_line (SetOf a) = none_are_distinct

module _ (names : Line → List Text) (each : (line : Line) → AreDistinct (names line)) where
  -- lines whose names are new at each make distinct names
  grow : (before lines : List Line) → AreDistinct (flat_map names before)
      → ((k : ℕ) (line : Line) → slice_get lines k ≡ Some line → are_new (flat_map names (before ++ take k lines)) (names line) ≡ true) → AreDistinct (flat_map names (before ++ lines))
  grow before [] distinct new =
      let D : List Line → Type 0 = λ ls. AreDistinct (flat_map names ls) in subst D (sym (append-nil before)) distinct
  grow before (x ∷ lines) distinct new =
      let D : List Text → Type 0 = AreDistinct in
      let L : List Line → Type 0 = λ ls. AreDistinct (flat_map names ls) in
      let new_here = ap (λ ls. are_new (flat_map names ls) (names x)) (sym (append-nil before)) ∙ new 0 x refl in
      let both = flat_map-append names before (x ∷ []) ∙ ap (λ ns. flat_map names before ++ ns) (append-nil (names x)) in
      let here : AreDistinct (flat_map names (before ++ x ∷ [])) = subst D (sym both) (distinct_append (flat_map names before) (names x) distinct (each x) new_here) in
      let later = λ (k : ℕ) (line : Line) (at : slice_get lines k ≡ Some line).
      ap (λ ls. are_new (flat_map names ls) (names line)) (append_assoc before (x ∷ []) (take k lines)) ∙ new (suc k) line at in
      subst L (append_assoc before (x ∷ []) lines) (grow (before ++ x ∷ []) lines here later)

abbrev names_of_line : Line → List Text
names_of_line line = port_names (ports_at line)

port_names-flat_map : (lines : List Line) → port_names (flat_map ports_at lines) ≡ flat_map names_of_line lines
port_names-flat_map [] = refl
port_names-flat_map (x ∷ lines) =
    map-append (λ (p : PortLine). p.name) (ports_at x) (flat_map ports_at lines) ∙ ap (λ ns. port_names (ports_at x) ++ ns) (port_names-flat_map lines)

cell_names-append : (xs ys : List Line) → flat_map cell_names_at (xs ++ ys) ≡ flat_map cell_names_at xs ++ flat_map cell_names_at ys
cell_names-append xs ys = flat_map-append cell_names_at xs ys

no_cells_in : {X : Type 0} (line : X → Line) → ((x : X) → cell_names_at (line x) ≡ []) → (xs : List X) → flat_map cell_names_at (map line xs) ≡ []
no_cells_in line none [] = refl
no_cells_in line none (x ∷ xs) = ap₂ ◌++◌ (none x) (no_cells_in line none xs)

cells_in : (cells : List CellLine) → flat_map cell_names_at (map CellOf cells) ≡ map (λ (c : CellLine). c.name) cells
cells_in [] = refl
cells_in (c ∷ cells) = ap (λ ns. c.name ∷ ns) (cells_in cells)

-- the names of the cells' lines are those of the cells
cell_names-lines_of : (n : Netlist) → flat_map cell_names_at (lines_of n) ≡ map (λ (c : CellLine). c.name) n.cells
cell_names-lines_of n =
    let ins = map InLine n.ins in
    let outs = map OutLine n.outs in
    let wires = map WireLine n.wires in
    let cells = map CellOf n.cells in
    let sets = map SetOf n.sets in
    cell_names-append (ins ++ outs ++ wires ++ cells) sets
    ∙ ap₂ ◌++◌ (cell_names-append (ins ++ outs ++ wires) cells
    ∙ ap₂ ◌++◌ (cell_names-append (ins ++ outs) wires
    ∙ ap₂ ◌++◌ (cell_names-append ins outs ∙ ap₂ ◌++◌ (no_cells_in InLine (λ p. refl) n.ins) (no_cells_in OutLine (λ p. refl) n.outs)) (no_cells_in WireLine (λ p. refl) n.wires)) (cells_in n.cells))
    (no_cells_in SetOf (λ a. refl) n.sets)
    ∙ append-nil (map (λ (c : CellLine). c.name) n.cells)

module _ (n : Netlist) (valid : IsValid n) where
  -- the full names of ports are distinct
  pub port_names_are_distinct : AreDistinct (port_names (ports_of n))
  port_names_are_distinct =
      let D : List Text → Type 0 = AreDistinct in
      let new = λ (k : ℕ) (line : Line) (at : slice_get (lines_of n) k ≡ Some line).
      let before = take k (lines_of n) in
      ap (λ ns. are_new ns (port_names (ports_at line))) (sym (port_names-flat_map before))
      ∙ (and_parts (are_new (port_names (flat_map ports_at before)) (port_names (ports_at line))) (are_new (flat_map cell_names_at before) (cell_names_at line)) (keeps_at n valid k line at).names).0 in
      subst D (sym (port_names-flat_map (lines_of n))) (grow names_of_line names_at_line [] (lines_of n) none_are_distinct new)

  -- the names of cells are distinct
  pub cell_names_are_distinct : AreDistinct (map (λ (c : CellLine). c.name) n.cells)
  cell_names_are_distinct =
      let D : List Text → Type 0 = AreDistinct in
      let new = λ (k : ℕ) (line : Line) (at : slice_get (lines_of n) k ≡ Some line).
      let before = take k (lines_of n) in
      (and_parts (are_new (port_names (flat_map ports_at before)) (port_names (ports_at line))) (are_new (flat_map cell_names_at before) (cell_names_at line)) (keeps_at n valid k line at).names).1 in
      subst D (cell_names-lines_of n) (grow cell_names_at cells_at_line [] (lines_of n) none_are_distinct new)
