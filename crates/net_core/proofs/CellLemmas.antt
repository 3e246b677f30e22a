-- Laws of the ports of a cell.
use Rattle.std.proofs.Common.{◌≡◌, ℕ, zero, suc, ◌+◌, ◌<◌, Bool, true, false, not, ◌&&◌, ◌||◌, List, [], ◌∷◌, ◌++◌, length, map, take, get_or, slice_get, Some, None, option_map, refl, sym, ap, ap₂, subst, append_assoc, length-append, Bor, nat_lt, ◌∙◌, arith}
use Rattle.std.proofs.lemmas.Bool.Decides.{nat_tests}
use Rattle.std.proofs.lemmas.List.{append_cancel_left, get_or-map, length-map, map-append, take_more, take-map}
use Rattle.std.proofs.lemmas.List.Folds.{list_all-append, list_all_at, list_any-append}
use Rattle.std.proofs.Math.Bool.{or-false}
use Rattle.std.specs.Str.{bytes_eq}
use Rattle.std.proofs.lemmas.Option.{slice_get-map, slice_get_within, slice_get-get_or, get_or_from_slice_get}
use Rattle.hw_names.specs.Name.{Text, AreDistinct, dot, dotted}
use Rattle.hw_prims.specs.Table.{Pin, pin, inputs_of, outputs_of, pins_of, pin_names, input_names, output_names}
use Rattle.hw_prims.specs.declared.prim.Primitive.{Primitive}
use Rattle.net_core.specs.PortList.{port_line, cell_ports, full_names}
use Rattle.net_core.specs.Rules.{PortLine, cell_input, cell_output, ports_from, unsized, port_names, is_among, are_new}
use Rattle.net_core.proofs.PortListLemmas.{not_before}

-- full names of one cell are equal only where the pins are
dotted-injective : (cell a b : Text) → dotted cell a ≡ dotted cell b → a ≡ b
dotted-injective cell a b e = let tails : dot ∷ a ≡ dot ∷ b = append_cancel_left cell (dot ∷ a) (dot ∷ b) e in cc

-- full names of distinct pins are distinct
pub AreDistinct-full_names : (cell : Text) (pins : List Text) → AreDistinct pins → AreDistinct (full_names cell pins)
AreDistinct-full_names cell pins distinct i j d before within same =
    let in_pins : j < length pins = omega (arith, length-map pins (dotted cell)) in
    let at_i = get_or-map (dotted cell) pins i [] d (omega arith) in
    let at_j = get_or-map (dotted cell) pins j [] d in_pins in
    distinct i j [] before in_pins (dotted-injective cell (get_or pins i []) (get_or pins j []) (sym at_i ∙ same ∙ at_j))

-- the names of a cell's ports
port_names-map : (cell : Text) (line : Pin → PortLine) (pins : List Pin) → ((p : Pin) → (line p).name ≡ dotted cell p.name) → port_names (map line pins) ≡ full_names cell (pin_names pins)
port_names-map cell line [] named = refl
port_names-map cell line (p ∷ pins) named = ap₂ ◌∷◌ (named p) (port_names-map cell line pins named)

pub port_names-cell_ports : (prim : Primitive) (cell : Text) → port_names (cell_ports prim cell) ≡ full_names cell (pin_names (pins_of prim))
port_names-cell_ports prim cell =
    map-append (λ (p : PortLine). p.name) (map (cell_input cell) (inputs_of prim)) (map (cell_output cell) (outputs_of prim))
    ∙ ap₂ ◌++◌ (port_names-map cell (cell_input cell) (inputs_of prim) (λ p. refl)) (port_names-map cell (cell_output cell) (outputs_of prim) (λ p. refl))
    ∙ sym (map-append (dotted cell) (pin_names (inputs_of prim)) (pin_names (outputs_of prim)))
    ∙ ap (map (dotted cell)) (sym (map-append (λ (p : Pin). p.name) (inputs_of prim) (outputs_of prim)))

-- a cell's port is driven or read
abbrev pub cell_line : Text → Pin → Bool → PortLine
cell_line cell p input = record { name = dotted cell p.name; width = p.width; readable = not input; writable = input }

not_true : (b : Bool) → (b ≡ true → ⊥) → b ≡ false
not_true true refuted = absurd (refuted refl)
not_true false refuted = refl

-- a cell's port, by its pin
pub cell_port_at : (ins outs : List Pin) (cell : Text) (i : ℕ) (p : Pin) (input : Bool) → slice_get (ins ++ outs) i ≡ Some p → (input ≡ true → i < length ins) → (i < length ins → input ≡ true)
    → slice_get (map (cell_input cell) ins ++ map (cell_output cell) outs) i ≡ Some (cell_line cell p input)
cell_port_at [] outs cell i p input at below inside =
    let is_output : input ≡ false = not_true input (λ e. let h = below e in absurd (omega arith)) in
    slice_get-map (cell_output cell) outs i ∙ ap (option_map (cell_output cell)) at ∙ ap (λ b. Some (cell_line cell p b)) (sym is_output)
cell_port_at (x ∷ ins) outs cell zero p input at below inside =
    let same : x ≡ p = cc in
    ap (λ q. Some (cell_input cell q)) same ∙ ap (λ b. Some (cell_line cell p b)) (sym (inside (omega arith)))
cell_port_at (x ∷ ins) outs cell (suc i) p input at below inside =
    cell_port_at ins outs cell i p input at (λ e. let h = below e in omega arith) (λ h. inside (omega arith))

-- a line of ports with distinct names is new after those before it exactly where it is new at all
pub new_at : (before lines : List PortLine) (i : ℕ) (line : PortLine) → AreDistinct (port_names lines) → slice_get lines i ≡ Some line
    → is_among (port_names (before ++ take i lines)) line.name ≡ is_among (port_names before) line.name
new_at before lines i line distinct at =
    let name = λ (p : PortLine). p.name in
    let absent = not_before (port_names lines) i line.name distinct (slice_get-map name lines i ∙ ap (option_map name) at) in
    ap (λ names. is_among names line.name) (map-append name before (take i lines) ∙ ap (λ names. port_names before ++ names) (sym (take-map name i lines)))
    ∙ list_any-append (bytes_eq line.name) (port_names before) (take i (port_names lines))
    ∙ ap (λ b. is_among (port_names before) line.name || b) absent ∙ or-false (is_among (port_names before) line.name)

-- names are new with one more new name
pub are_new-more : (names more : List Text) (i : ℕ) (name : Text) → slice_get more i ≡ Some name
    → are_new names (take i more) ≡ true → not (is_among names name) ≡ true → are_new names (take (i + 1) more) ≡ true
are_new-more names more i name at before new =
    let within = slice_get_within more i name at in
    ap (are_new names) (take_more more i name within ∙ ap (λ x. take i more ++ x ∷ []) (get_or_from_slice_get more i name name at))
    ∙ list_all-append (λ n. not (is_among names n)) (take i more) (name ∷ [])
    ∙ ap₂ (λ b d. b && (d && true)) before new

-- and not with one that is there
pub are_new-stop : (names more : List Text) (i : ℕ) (name : Text) → slice_get more i ≡ Some name → not (is_among names name) ≡ false → are_new names more ≡ false
are_new-stop names more i name at taken =
    let within = slice_get_within more i name at in
    list_all_at (λ n. not (is_among names n)) more i name within (ap (λ n. not (is_among names n)) (get_or_from_slice_get more i name name at) ∙ taken)

-- the same of ports
pub are_new-more_ports : (names : List Text) (lines : List PortLine) (i : ℕ) (line : PortLine) → slice_get lines i ≡ Some line
    → are_new names (port_names (take i lines)) ≡ true → not (is_among names line.name) ≡ true → are_new names (port_names (take (i + 1) lines)) ≡ true
are_new-more_ports names lines i line at before new =
    let name = λ (p : PortLine). p.name in
    ap (are_new names) (sym (take-map name (i + 1) lines))
    ∙ are_new-more names (port_names lines) i line.name (slice_get-map name lines i ∙ ap (option_map name) at) (ap (are_new names) (take-map name i lines) ∙ before) new

-- the full name of one of the pins
pub full_name_at : (cell : Text) (pins : List (Bor Text)) (i : ℕ) (d : Bor Text) → i < length pins → slice_get (full_names cell (map (λ (p : Bor Text). p.now) pins)) i ≡ Some (dotted cell (get_or pins i d).now)
full_name_at cell pins i d within =
    slice_get-map (dotted cell) (map (λ (p : Bor Text). p.now) pins) i
    ∙ ap (option_map (dotted cell)) (slice_get-map (λ (p : Bor Text). p.now) pins i ∙ ap (option_map (λ (p : Bor Text). p.now)) (slice_get-get_or pins i d within))

-- the port that is put for a pin
pub cell_port_of : (prim : Primitive) (cell : Text) (i : ℕ) (name : Text) (width : ℕ) (full : Text) (input : Bool) → slice_get (pins_of prim) i ≡ Some (pin name width) → full ≡ dotted cell name → input ≡ nat_lt i (length (inputs_of prim))
    → slice_get (cell_ports prim cell) i ≡ Some (port_line full (record { width = width; readable = not input; writable = input }))
cell_port_of prim cell i name width full input at is_full is_input =
    cell_port_at (inputs_of prim) (outputs_of prim) cell i (pin name width) input at
    (λ e. let test = sym is_input ∙ e in grind (arith, nat_tests))
    (λ h. is_input ∙ (let yes : nat_lt i (length (inputs_of prim)) ≡ true = grind (arith, nat_tests) in yes))
    ∙ ap (λ n. Some (port_line n (record { width = width; readable = not input; writable = input }))) (sym is_full)

-- what one step finds, as the ports so far are those before the cell and the cell's first
pub record CellStep (prim : Primitive) (cell : Text) (before ports : List PortLine) (i : ℕ) (line : PortLine) : Type 0 where
  pub distinct : AreDistinct (pin_names (pins_of prim))
  pub ports_are : ports ≡ before ++ take i (cell_ports prim cell)
  pub at : slice_get (cell_ports prim cell) i ≡ Some line

module _ {prim : Primitive} {cell : Text} {before ports : List PortLine} {i : ℕ} {line : PortLine} where
  pub new_where_added : CellStep prim cell before ports i line → (new : Bool) → new ≡ not (is_among (port_names ports) line.name) → not (is_among (port_names before) line.name) ≡ new
  new_where_added s new e =
      let distinct : AreDistinct (port_names (cell_ports prim cell)) =
      (let D : List Text → Type 0 = AreDistinct in subst D (sym (port_names-cell_ports prim cell)) (AreDistinct-full_names cell (pin_names (pins_of prim)) s.distinct)) in
      ap not (sym (new_at before (cell_ports prim cell) i line distinct s.at)) ∙ ap (λ ps. not (is_among (port_names ps) line.name)) (sym s.ports_are) ∙ sym e

  pub cell_stops : CellStep prim cell before ports i line → (new : Bool) → new ≡ not (is_among (port_names ports) line.name) → new ≡ false → are_new (port_names before) (port_names (cell_ports prim cell)) ≡ false
  cell_stops s new e taken =
      are_new-stop (port_names before) (port_names (cell_ports prim cell)) i line.name
      (slice_get-map (λ (p : PortLine). p.name) (cell_ports prim cell) i ∙ ap (option_map (λ (p : PortLine). p.name)) s.at) (new_where_added s new e ∙ taken)

  pub cell_goes_on : CellStep prim cell before ports i line → (new : Bool) → new ≡ not (is_among (port_names ports) line.name) → new ≡ true
      → are_new (port_names before) (port_names (take i (cell_ports prim cell))) ≡ true → are_new (port_names before) (port_names (take (i + 1) (cell_ports prim cell))) ≡ true
  cell_goes_on s new e fresh kept = are_new-more_ports (port_names before) (cell_ports prim cell) i line s.at kept (new_where_added s new e ∙ fresh)

  pub cell_adds : CellStep prim cell before ports i line → ports ++ line ∷ [] ≡ before ++ take (i + 1) (cell_ports prim cell)
  cell_adds s =
      let within = slice_get_within (cell_ports prim cell) i line s.at in
      ap (λ ps. ps ++ line ∷ []) s.ports_are ∙ append_assoc before (take i (cell_ports prim cell)) (line ∷ [])
      ∙ ap (λ ls. before ++ ls) (sym (take_more (cell_ports prim cell) i line within ∙ ap (λ x. take i (cell_ports prim cell) ++ x ∷ []) (get_or_from_slice_get (cell_ports prim cell) i line line s.at)))

-- the names of the ports of a cell for which no primitive was made
pub port_names-unsized_ports : (cell name : Text) → port_names (ports_from None cell name) ≡ full_names cell (input_names name ++ output_names name)
port_names-unsized_ports cell name =
    let as_input = λ (pin : Text). cell_input cell (unsized pin) in
    let as_output = λ (pin : Text). cell_output cell (unsized pin) in
    map-append (λ (p : PortLine). p.name) (map as_input (input_names name)) (map as_output (output_names name))
    ∙ ap₂ ◌++◌ (port_names-unsized cell as_input (input_names name) (λ p. refl)) (port_names-unsized cell as_output (output_names name) (λ p. refl))
    ∙ sym (map-append (dotted cell) (input_names name) (output_names name))
  where
    port_names-unsized : (c : Text) (line : Text → PortLine) (pins : List Text) → ((p : Text) → (line p).name ≡ dotted c p) → port_names (map line pins) ≡ full_names c pins
    port_names-unsized c line [] named = refl
    port_names-unsized c line (p ∷ pins) named = ap₂ ◌∷◌ (named p) (port_names-unsized c line pins named)

pub length-cell_ports : (prim : Primitive) (cell : Text) → length (cell_ports prim cell) ≡ length (pins_of prim)
length-cell_ports prim cell =
    length-append (map (cell_input cell) (inputs_of prim)) (map (cell_output cell) (outputs_of prim))
    ∙ ap₂ ◌+◌ (length-map (inputs_of prim) (cell_input cell)) (length-map (outputs_of prim) (cell_output cell))
    ∙ sym (length-append (inputs_of prim) (outputs_of prim))

-- whether the names of such ports are new
pub are_new-unsized : (names : List Text) (cell name : Text) (inputs outputs : List Text) → inputs ≡ input_names name → outputs ≡ output_names name
    → are_new names (port_names (ports_from None cell name)) ≡ (are_new names (full_names cell inputs) && are_new names (full_names cell outputs))
are_new-unsized names cell name inputs outputs same_inputs same_outputs =
    ap (are_new names) (port_names-unsized_ports cell name ∙ map-append (dotted cell) (input_names name) (output_names name))
    ∙ list_all-append (λ n. not (is_among names n)) (full_names cell (input_names name)) (full_names cell (output_names name))
    ∙ ap₂ (λ a b. are_new names (full_names cell a) && are_new names (full_names cell b)) (sym same_inputs) (sym same_outputs)
