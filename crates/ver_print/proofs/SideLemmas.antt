-- Which ports of a netlist assignments may drive, section by section.
use Rattle.std.proofs.Common.{◌≡◌, ℕ, Bool, true, false, List, [], ◌∷◌, ◌++◌, length, map, replicate, flat_map, Option, None, Some, Result, Ok, Err, OnOk, Bor, refl, sym, ap, ap₂, ◌∙◌, append_assoc, append-nil}
use Rattle.std.proofs.lemmas.List.{length-map, map-append}
use Rattle.std.proofs.lemmas.List.Concat.{flat_map-append}
use Rattle.std.proofs.lemmas.List.Folds.{flat_map-map}
use Rattle.hw_names.specs.Name.{Text}
use Rattle.hw_prims.proofs.PortNameLemmas.{has_names}
use Rattle.hw_prims.specs.Table.{Pin, prim_of, inputs_of, outputs_of, input_names, output_names}
use Rattle.hw_prims.specs.declared.prim.Primitive.{Primitive}
use Rattle.net_core.specs.Netlist.{CellLine, SetLine, Line, InLine, OutLine, WireLine, CellOf, SetOf, pin_of, cell_of, netlist_of, lines_of}
use Rattle.net_core.specs.Rules.{PortLine, cell_input, cell_output, unsized, ports_at, ports_from, ports_of}
use Rattle.net_core.specs.declared.net.Net.{Net}
use Rattle.net_core.specs.declared.net.NetCell.{NetCell}
use Rattle.ver_print.specs.inside.Sides.{cell_sides}

abbrev sides : List PortLine → List Bool
sides ports = map (λ (p : PortLine). p.writable) ports

-- the ports that lines make, line by line
sides_at : (lines : List Line) → sides (flat_map ports_at lines) ≡ flat_map (λ line. sides (ports_at line)) lines
sides_at [] = refl
sides_at (line ∷ lines) = map-append (λ (p : PortLine). p.writable) (ports_at line) (flat_map ports_at lines) ∙ ap (λ (s : List Bool). sides (ports_at line) ++ s) (sides_at lines)

-- ports of one side
one_side : {X : Type 0} (f : X → PortLine) (side : Bool) → ((x : X) → (f x).writable ≡ side) → (xs : List X) → sides (map f xs) ≡ replicate (length xs) side
one_side f side is [] = refl
one_side f side is (x ∷ xs) = ap₂ (λ (b : Bool) (s : List Bool). b ∷ s) (is x) (one_side f side is xs)

-- the netlist's own ports of one kind
own_sides : {X : Type 0} (of : X → Line) (side : Bool) → ((x : X) → sides (ports_at (of x)) ≡ side ∷ []) → (xs : List X) → flat_map (λ x. sides (ports_at (of x))) xs ≡ replicate (length xs) side
own_sides of side is [] = refl
own_sides of side is (x ∷ xs) = ap₂ ◌++◌ (is x) (own_sides of side is xs)

sides_from : (o : Option Primitive) (c : CellLine) → prim_of c.prim c.params ≡ o → sides (ports_from o c.name c.prim) ≡ cell_sides c
sides_from None c is =
    map-append (λ (p : PortLine). p.writable) (map (λ p. cell_input c.name (unsized p)) (input_names c.prim)) (map (λ p. cell_output c.name (unsized p)) (output_names c.prim))
    ∙ ap₂ ◌++◌ (one_side (λ p. cell_input c.name (unsized p)) true (λ p. refl) (input_names c.prim)) (one_side (λ p. cell_output c.name (unsized p)) false (λ p. refl) (output_names c.prim))
sides_from (Some prim) c is =
    let named = has_names c.prim c.params prim is in
    let name : Pin → Text = λ p. p.name in
    let ins : length (inputs_of prim) ≡ length (input_names c.prim) = sym (length-map (inputs_of prim) name) ∙ ap length named.inputs in
    let outs : length (outputs_of prim) ≡ length (output_names c.prim) = sym (length-map (outputs_of prim) name) ∙ ap length named.outputs in
    map-append (λ (p : PortLine). p.writable) (map (cell_input c.name) (inputs_of prim)) (map (cell_output c.name) (outputs_of prim))
    ∙ ap₂ ◌++◌ (one_side (cell_input c.name) true (λ p. refl) (inputs_of prim)) (one_side (cell_output c.name) false (λ p. refl) (outputs_of prim))
    ∙ ap₂ (λ n m. replicate n true ++ replicate m false) ins outs

sides_of_cell : (c : CellLine) → sides (ports_at (CellOf c)) ≡ cell_sides c
sides_of_cell c = sides_from (prim_of c.prim c.params) c refl

sides_of_cells : (names : List Text) (cells : List NetCell) → flat_map (λ c. sides (ports_at (CellOf (cell_of names c)))) cells ≡ flat_map (λ c. cell_sides (cell_of names c)) cells
sides_of_cells names [] = refl
sides_of_cells names (c ∷ cells) = ap₂ ◌++◌ (sides_of_cell (cell_of names c)) (sides_of_cells names cells)

sides_of_sets : (sets : List SetLine) → flat_map (λ line. sides (ports_at line)) (map SetOf sets) ≡ []
sides_of_sets [] = refl
sides_of_sets (a ∷ sets) = sides_of_sets sets

-- the lines of a section
section : {A B : Type 0} (of : B → Line) (view : A → B) (xs : List A) → flat_map (λ line. sides (ports_at line)) (map of (map view xs)) ≡ flat_map (λ x. sides (ports_at (of (view x)))) xs
section of view xs = flat_map-map (λ line. sides (ports_at line)) of (map view xs) ∙ flat_map-map (λ b. sides (ports_at (of b))) view xs

four_parts : (a a' b b' c c' d d' : List Bool) → a ≡ a' → b ≡ b' → c ≡ c' → d ≡ d' → a ++ b ++ c ++ d ≡ a' ++ b' ++ c' ++ d'
four_parts a a' b b' c c' d d' p q r s = λ i. p i ++ q i ++ r i ++ s i

-- the sides of all ports, in their order
pub sides_of : (net : Net) → sides (ports_of (netlist_of net)) ≡
    replicate (length net.ins.items) false ++ replicate (length net.outs.items) true ++ replicate (length net.wires.items) true
    ++ flat_map (λ c. cell_sides (cell_of net.names c)) net.cells.items
sides_of net =
    let names = net.names in
    let n = netlist_of net in
    let S : Line → List Bool = λ line. sides (ports_at line) in
    let pin = pin_of names in
    sides_at (lines_of n)
    ∙ flat_map-append S (map InLine n.ins ++ map OutLine n.outs ++ map WireLine n.wires ++ map CellOf n.cells) (map SetOf n.sets)
    ∙ ap (λ (s : List Bool). flat_map S (map InLine n.ins ++ map OutLine n.outs ++ map WireLine n.wires ++ map CellOf n.cells) ++ s) (sides_of_sets n.sets)
    ∙ append-nil (flat_map S (map InLine n.ins ++ map OutLine n.outs ++ map WireLine n.wires ++ map CellOf n.cells))
    ∙ flat_map-append S (map InLine n.ins ++ map OutLine n.outs ++ map WireLine n.wires) (map CellOf n.cells)
    ∙ ap (λ (s : List Bool). s ++ flat_map S (map CellOf n.cells)) (
    flat_map-append S (map InLine n.ins ++ map OutLine n.outs) (map WireLine n.wires)
    ∙ ap (λ (s : List Bool). s ++ flat_map S (map WireLine n.wires)) (flat_map-append S (map InLine n.ins) (map OutLine n.outs)))
    ∙ four_parts _ _ _ _ _ _ _ _
    (section InLine pin net.ins.items ∙ own_sides (λ p. InLine (pin p)) false (λ p. refl) net.ins.items)
    (section OutLine pin net.outs.items ∙ own_sides (λ p. OutLine (pin p)) true (λ p. refl) net.outs.items)
    (section WireLine pin net.wires.items ∙ own_sides (λ p. WireLine (pin p)) true (λ p. refl) net.wires.items)
    (section CellOf (cell_of names) net.cells.items ∙ sides_of_cells names net.cells.items)

-- the sides put, section by section
pub sides_put : (net : Net) (a b c d e : List Bool) (ins outs wires : ℕ) (cells : List NetCell) → a ≡ [] → ins ≡ length net.ins.items → outs ≡ length net.outs.items → wires ≡ length net.wires.items → cells ≡ net.cells.items
    → b ≡ a ++ replicate ins false → c ≡ b ++ replicate outs true → d ≡ c ++ replicate wires true → e ≡ d ++ flat_map (λ x. cell_sides (cell_of net.names x)) cells → e ≡ sides (ports_of (netlist_of net))
sides_put net a b c d e ins outs wires cells none same_ins same_outs same_wires same_cells h1 h2 h3 h4 =
    h4 ∙ ap (λ (xs : List NetCell). d ++ flat_map (λ x. cell_sides (cell_of net.names x)) xs) same_cells
    ∙ ap (λ (s : List Bool). s ++ flat_map (λ x. cell_sides (cell_of net.names x)) net.cells.items) (
    h3 ∙ ap₂ (λ (s : List Bool) (n : ℕ). s ++ replicate n true) (
    h2 ∙ ap₂ (λ (s : List Bool) (n : ℕ). s ++ replicate n true) (
    h1 ∙ ap₂ (λ (s : List Bool) (n : ℕ). s ++ replicate n false) none same_ins) same_outs) same_wires)
    ∙ sym (sides_of net)

-- so many names, by their texts
pub names_counted : (found : List (Bor Text)) (names : List Text) → map (λ (t : Bor Text). t.now) found ≡ names → length found ≡ length names
names_counted found names are = sym (length-map found (λ (t : Bor Text). t.now)) ∙ ap length are

-- the inputs of a cell put, then its outputs
pub cell_sides_put : {A E : Type 0} (r : Result A E) (a b new : List Bool) (n m ins outs : ℕ) → n ≡ ins → m ≡ outs → b ≡ a ++ replicate n true → OnOk r (new ≡ b ++ replicate m false)
    → OnOk r (new ≡ a ++ (replicate ins true ++ replicate outs false))
cell_sides_put (Err e) a b new n m ins outs same_ins same_outs first last = last
cell_sides_put (Ok x) a b new n m ins outs same_ins same_outs first last =
    last ∙ ap (λ (s : List Bool). s ++ replicate m false) first ∙ append_assoc a (replicate n true) (replicate m false) ∙ ap₂ (λ k l. a ++ (replicate k true ++ replicate l false)) same_ins same_outs
