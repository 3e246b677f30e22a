-- The netlist of wires that can be written has a text.
use Rattle.std.proofs.Common.{◌≡◌, ◌&&◌, Bool, true, List, [], ◌∷◌, ◌++◌, filter, map, flat_map, All, Some, Contains, refl, sym, subst}
use Rattle.std.specs.List.{list_all}
use Rattle.std.proofs.lemmas.List.Elements.{All-append, All-cons, All-contains, All-filter, All-from_recursion, All-head, All-map, All-nil, All-tail, All-weaker}
use Rattle.std.proofs.lemmas.List.Sums.{list_all-from_AllPass}
use Rattle.hw_names.specs.Name.{Path, Text, full_name}
use Rattle.hw_grammar.specs.Words.{IsWritten}
use Rattle.hw_prims.specs.Table.{Pin, is_primitive}
use Rattle.net_core.specs.Guard.{source_tree}
use Rattle.net_core.specs.Netlist.{CellLine, CellOf, InLine, Line, Netlist, OutLine, SetLine, SetOf, WireLine, lines_of, netlist_of}
use Rattle.net_flat.specs.Listing.{Instance, IsListing, cells_at, flat_pin, flat_set, sets_at, wires_at}
use Rattle.net_text.specs.Names.{HasText, is_number, is_path, is_segment, line_has_text, source_has_text, when_has_text}
use Rattle.cal_ast.proofs.InstanceLemmas.{component_at-design, component_at-step}
use Rattle.cal_ast.proofs.ListLemmas.{Contains-at}
use Rattle.cal_ast.proofs.LookupLemmas.{cell_named-Some, part_in-Some, part_in-design}
use Rattle.cal_ast.specs.Instances.{component_at, port_name}
use Rattle.cal_ast.specs.Keeping.{flat_cell}
use Rattle.cal_ast.specs.Ports.{cell_named}
use Rattle.cal_ast.specs.Tree.{Assignment, CellDef, Component, Design}
use Rattle.cal_ast.specs.Written.{AssignmentIsWritten, CellIsWritten, ComponentIsWritten, InputIsWritten, PinIsWritten}
use Rattle.cal_net.specs.Laws.{FlattenedWiresHaveText}
use Rattle.cal_net.proofs.TextGuards.{source_text, when_text}
use Rattle.cal_net.proofs.TextSegments.{IsSegment, cal_segment, full_path, number_text, port_path}
use Rattle.cal_group.proofs.WrittenNames.{both_are}

abbrev LineHasText : Line → Type 0
LineHasText line = line_has_text line ≡ true

all_three : (a b c : Bool) → a ≡ true → b ≡ true → c ≡ true → (a && b && c) ≡ true
all_three a b c is_a is_b is_c = rw (is_a, is_b, is_c) refl

-- ---- lines at a path

module _ (path : Path) (segments : All IsSegment path) where
  wire_text : (p : Pin) → PinIsWritten p → LineHasText (WireLine (flat_pin path p))
  wire_text p is = both_are (is_path (full_name path p.name)) (is_number p.width) (full_path path p.name segments (cal_segment p.name is.0)) (number_text p.width is.1)

  cell_text : (cell : CellDef) → CellIsWritten cell → LineHasText (CellOf (flat_cell path cell))
  cell_text cell is =
      all_three (is_path (full_name path cell.name)) (is_segment cell.made) (list_all is_number cell.params) (full_path path cell.name segments (cal_segment cell.name is.0)) (cal_segment cell.made is.1.0)
      (list_all-from_AllPass is_number cell.params (All-weaker IsWritten (λ n. is_number n ≡ true) number_text cell.params (All-from_recursion IsWritten cell.params is.1.1)))

  set_text : (a : Assignment) → AssignmentIsWritten a → LineHasText (SetOf (flat_set path a))
  set_text a is =
      all_three (is_path (port_name path a.dst)) (when_has_text (flat_set path a).guard) (source_has_text (source_tree (port_name path) a.src)) (port_path path a.dst segments is.0)
      (when_text (port_name path) (λ p port. port_path path p segments port) a.guard is.1.0) (source_text (port_name path) (λ p port. port_path path p segments port) a.src is.1.1)

-- ---- what holds of each member of a list that is made of lists

All-flat : {X Y : Type 0} (P : Y → Type 0) (f : X → List Y) (xs : List X) → All (λ (x : X). All P (f x)) xs → All P (flat_map f xs)
All-flat P f [] all = All-nil P
All-flat {X} P f (x ∷ xs) all =
    let Q : X → Type 0 = λ y. All P (f y) in
    All-append P (f x) (flat_map f xs) (All-head Q x xs all) (All-flat P f xs (All-tail Q x xs all))

module _ (design : Design) (written : (c : Component) → Contains design c → ComponentIsWritten c) where
  -- the names of a path of instances
  path_segments : (c : Component) (path : Path) (d : Component) → Contains design c → component_at design c path ≡ Some d → All IsSegment path
  path_segments c [] d among at = All-nil IsSegment
  path_segments c (cell ∷ path) d among at =
      let part = component_at-step design c cell path d at in
      let found = part_in-Some design c cell part.0 part.1 in
      All-cons IsSegment cell path (cell_segment c cell found.0 among found.1) (path_segments part.0 path d (part_in-design design c cell part.0 part.1) part.2)
    where
      cell_segment : (e : Component) (name : Text) (of : CellDef) → Contains design e → cell_named e.cells name ≡ Some of → IsSegment name
      cell_segment e name of has is =
          let named = cell_named-Some e.cells name of is in
          subst IsSegment named.1 (cal_segment of.name (All-contains CellIsWritten e.cells of (All-from_recursion CellIsWritten e.cells (written e has).cells) named.0).0)

  module _ (top : Component) (among : Contains design top) (n : Netlist) (listing : IsListing design top n) where
    abbrev IsThere : Instance → Type 0
    IsThere i = component_at design top i.0 ≡ Some i.1

    own : (i : Instance) → IsThere i → ComponentIsWritten i.1
    own i at = written i.1 (component_at-design design top i.0 i.1 among at)

    segments_of : (i : Instance) → IsThere i → All IsSegment i.0
    segments_of i at = path_segments top i.0 i.1 among at

    inputs : (c : Component) → ComponentIsWritten c → All PinIsWritten c.ins
    inputs c is = All-weaker InputIsWritten PinIsWritten (λ (p : Pin) input. input.0) c.ins (All-from_recursion InputIsWritten c.ins is.ins)

    outputs : (c : Component) → ComponentIsWritten c → All PinIsWritten c.outs
    outputs c is = All-from_recursion PinIsWritten c.outs is.outs

    wires_text : (i : Instance) → IsThere i → All (λ (p : Pin). LineHasText (WireLine p)) (wires_at i)
    wires_text i at =
        let pins = i.1.ins ++ i.1.outs in
        All-map (λ (p : Pin). LineHasText (WireLine p)) (flat_pin i.0) pins
        (All-weaker PinIsWritten (λ (p : Pin). LineHasText (WireLine (flat_pin i.0 p))) (wire_text i.0 (segments_of i at)) pins (All-append PinIsWritten i.1.ins i.1.outs (inputs i.1 (own i at)) (outputs i.1 (own i at))))

    cells_text : (i : Instance) → IsThere i → All (λ (l : CellLine). LineHasText (CellOf l)) (cells_at i)
    cells_text i at =
        let test : CellDef → Bool = λ cell. is_primitive cell.made in
        let kept : List CellDef = filter test i.1.cells in
        let all : All CellIsWritten kept = All-filter test CellIsWritten i.1.cells (All-from_recursion CellIsWritten i.1.cells (own i at).cells) in
        All-map (λ (l : CellLine). LineHasText (CellOf l)) (flat_cell i.0) kept
        (All-weaker CellIsWritten (λ (cell : CellDef). LineHasText (CellOf (flat_cell i.0 cell))) (cell_text i.0 (segments_of i at)) kept all)

    sets_text : (i : Instance) → IsThere i → All (λ (s : SetLine). LineHasText (SetOf s)) (sets_at i)
    sets_text i at =
        All-map (λ (s : SetLine). LineHasText (SetOf s)) (flat_set i.0) i.1.sets
        (All-weaker AssignmentIsWritten (λ (a : Assignment). LineHasText (SetOf (flat_set i.0 a))) (set_text i.0 (segments_of i at)) i.1.sets
        (All-from_recursion AssignmentIsWritten i.1.sets (own i at).sets))

    -- ---- lines of the netlist

    all_there : All IsThere (([], top) ∷ listing.others)
    all_there = All-cons IsThere ([], top) listing.others refl listing.listed

    port_lines : (f : Pin → Line) → ((p : Pin) → PinIsWritten p → LineHasText (f p)) → (pins own_pins : List Pin) → pins ≡ own_pins → All PinIsWritten own_pins → All LineHasText (map f pins)
    port_lines f has pins own_pins is all = All-map LineHasText f pins (subst (All (λ (p : Pin). LineHasText (f p))) (sym is) (All-weaker PinIsWritten (λ (p : Pin). LineHasText (f p)) has own_pins all))

    lines_from : {X : Type 0} (f : X → Line) (at : Instance → List X) → ((i : Instance) → IsThere i → All (λ (x : X). LineHasText (f x)) (at i)) →
        (xs : List X) (instances : List Instance) → xs ≡ flat_map at instances → All IsThere instances → All LineHasText (map f xs)
    lines_from {X} f at has xs instances is there =
        let HasLine : X → Type 0 = λ x. LineHasText (f x) in
        All-map LineHasText f xs (subst (All HasLine) (sym is) (All-flat HasLine at instances (All-weaker IsThere (λ (i : Instance). All HasLine (at i)) has instances there)))

    own_pin_text : (p : Pin) → PinIsWritten p → (is_segment p.name && is_number p.width) ≡ true
    own_pin_text p is = both_are (is_segment p.name) (is_number p.width) (cal_segment p.name is.0) (number_text p.width is.1)

    lines_text : All LineHasText (lines_of n)
    lines_text =
        let ins = port_lines InLine own_pin_text n.ins top.ins listing.ins (inputs top (written top among)) in
        let outs = port_lines OutLine own_pin_text n.outs top.outs listing.outs (outputs top (written top among)) in
        let wires = lines_from WireLine wires_at wires_text n.wires listing.others listing.wires listing.listed in
        let cells = lines_from CellOf cells_at cells_text n.cells (([], top) ∷ listing.others) listing.cells all_there in
        let sets = lines_from SetOf sets_at sets_text n.sets (([], top) ∷ listing.others) listing.sets all_there in
        let to_outs = All-append LineHasText (map InLine n.ins) (map OutLine n.outs) ins outs in
        let to_wires = All-append LineHasText (map InLine n.ins ++ map OutLine n.outs) (map WireLine n.wires) to_outs wires in
        let to_cells = All-append LineHasText (map InLine n.ins ++ map OutLine n.outs ++ map WireLine n.wires) (map CellOf n.cells) to_wires cells in
        All-append LineHasText (map InLine n.ins ++ map OutLine n.outs ++ map WireLine n.wires ++ map CellOf n.cells) (map SetOf n.sets) to_cells sets

    has_text : HasText n
    has_text = (subst IsSegment (sym listing.name) (cal_segment top.name (written top among).name), list_all-from_AllPass line_has_text (lines_of n) lines_text)

pub flattened_have_text : FlattenedWiresHaveText
flattened_have_text wires net written plain flat =
    let all = All-from_recursion ComponentIsWritten wires written.1 in
    has_text wires (λ (c : Component) among. All-contains ComponentIsWritten wires c all among) flat.top (Contains-at wires flat.place flat.top flat.at) (netlist_of net) flat.listed
