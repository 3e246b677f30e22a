-- The netlist of a lowered design that some text spells has a text itself.
use Rattle.std.proofs.Common.{◌≡◌, ◌&&◌, Bool, true, List, [], ◌∷◌, ◌++◌, filter, get_or, map, flat_map, All, Some, Contains, refl, sym, subst}
use Rattle.std.specs.List.{list_all}
use Rattle.std.proofs.lemmas.List.Elements.{All-append, All-contains_itself, All-cons, All-filter, All-map, All-nil, All-weaker, filter_passes}
use Rattle.std.proofs.lemmas.List.Sums.{list_all-from_AllPass}
use Rattle.hw_names.specs.Name.{Path, full_name}
use Rattle.hw_grammar.specs.Words.{IsWritten}
use Rattle.hw_prims.specs.Table.{Pin, is_primitive}
use Rattle.net_core.specs.Graph.{option_ports, source_ports}
use Rattle.net_core.specs.Guard.{source_tree}
use Rattle.net_core.specs.Netlist.{CellLine, Line, InLine, OutLine, WireLine, CellOf, SetOf, SetLine, Netlist, lines_of, netlist_of}
use Rattle.net_text.specs.Names.{HasText, is_number, is_path, is_segment, line_has_text, source_has_text, when_has_text}
use Rattle.cal_ast.proofs.InstanceLemmas.{component_at-design, component_at-step}
use Rattle.cal_ast.proofs.ListLemmas.{Contains-at, place_of}
use Rattle.cal_ast.proofs.LookupLemmas.{part_in-Some, part_in-design}
use Rattle.cal_ast.specs.Instances.{component_at, port_name}
use Rattle.cal_ast.specs.Keeping.{flat_cell}
use Rattle.cal_ast.specs.Tree.{Assignment, CellDef, Component, Design, PortName}
use Rattle.cal_ast.specs.Wired.{IsWired}
use Rattle.net_flat.specs.Listing.{Instance, IsListing, cells_at, flat_pin, flat_set, sets_at, wires_at}
use Rattle.fil_net.specs.Laws.{FlattenedLoweringsHaveText}
use Rattle.fil_net.proofs.GuardLemmas.{IsBitSet, source_text, when_text}
use Rattle.fil_net.proofs.InstanceLemmas.{WiresOf, comp_at}
use Rattle.fil_net.proofs.ListLemmas.{All-flat, All-left, All-right}
use Rattle.fil_net.proofs.PortLemmas.{cell_segment, set_segments}
use Rattle.fil_net.proofs.SegmentLemmas.{IsSegment, IsSegmentPort, both, full_path, number_text, port_path, primitive_segment}
use Rattle.fil_net.proofs.WrittenLemmas.{IsWrittenCell, IsWrittenLow, IsWrittenPin, low_written}

abbrev LineHasText : Line → Type 0
LineHasText line = line_has_text line ≡ true

all_three : (a b c : Bool) → a ≡ true → b ≡ true → c ≡ true → (a && b && c) ≡ true
all_three a b c is_a is_b is_c = rw (is_a, is_b, is_c) refl

module _ (path : Path) (segments : All IsSegment path) where
  wire_text : (p : Pin) → IsWrittenPin p → LineHasText (WireLine (flat_pin path p))
  wire_text p is = both (is_path (full_name path p.name)) (is_number p.width) (full_path path p.name segments is.0) (number_text p.width is.1)

  cell_text : (cell : CellDef) → IsWrittenCell cell → is_primitive cell.made ≡ true → LineHasText (CellOf (flat_cell path cell))
  cell_text cell is primitive =
      all_three (is_path (full_name path cell.name)) (is_segment cell.made) (list_all is_number cell.params) (full_path path cell.name segments is.0) (primitive_segment cell.made primitive)
      (list_all-from_AllPass is_number cell.params (All-weaker IsWritten (λ n. is_number n ≡ true) number_text cell.params is.1))

  set_text : (a : Assignment) → IsBitSet a → IsSegmentPort a.dst → All IsSegmentPort (option_ports a.guard) → All IsSegmentPort (source_ports a.src) → LineHasText (SetOf (flat_set path a))
  set_text a is dst guard src =
      let IsPath : PortName → Type 0 = λ p. is_path (port_name path p) ≡ true in
      let has : (p : PortName) → IsSegmentPort p → IsPath p = λ p port. port_path path p segments port in
      all_three (is_path (port_name path a.dst)) (when_has_text (flat_set path a).guard) (source_has_text (source_tree (port_name path) a.src)) (has a.dst dst)
      (when_text (port_name path) a.guard is.0 (All-weaker IsSegmentPort IsPath has (option_ports a.guard) guard)) (source_text (port_name path) a.src is.1 (All-weaker IsSegmentPort IsPath has (source_ports a.src) src))

module _ (design : Design) (wired : IsWired design) (written : (c : Component) → Contains design c → IsWrittenLow c) where
  -- the names of a path of instances
  path_segments : (c : Component) (path : Path) (d : Component) → Contains design c → component_at design c path ≡ Some d → All IsSegment path
  path_segments c [] d among at = All-nil IsSegment
  path_segments c (cell ∷ path) d among at =
      let part = component_at-step design c cell path d at in
      let found = part_in-Some design c cell part.0 part.1 in
      All-cons IsSegment cell path (cell_segment design wired written c cell found.0 among found.1) (path_segments part.0 path d (part_in-design design c cell part.0 part.1) part.2)

  module _ (top : Component) (among : Contains design top) (n : Netlist) (listing : IsListing design top n) where
    abbrev IsThere : Instance → Type 0
    IsThere i = component_at design top i.0 ≡ Some i.1

    own : (i : Instance) → IsThere i → IsWrittenLow i.1
    own i at = written i.1 (component_at-design design top i.0 i.1 among at)

    segments_of : (i : Instance) → IsThere i → All IsSegment i.0
    segments_of i at = path_segments top i.0 i.1 among at

    wires_text : (i : Instance) → IsThere i → All (λ (p : Pin). LineHasText (WireLine p)) (wires_at i)
    wires_text i at =
        All-map (λ (p : Pin). LineHasText (WireLine p)) (flat_pin i.0) (i.1.ins ++ i.1.outs)
        (All-weaker IsWrittenPin (λ (p : Pin). LineHasText (WireLine (flat_pin i.0 p))) (wire_text i.0 (segments_of i at)) (i.1.ins ++ i.1.outs) (All-append IsWrittenPin i.1.ins i.1.outs (own i at).ins (own i at).outs))

    cells_text : (i : Instance) → IsThere i → All (λ (l : CellLine). LineHasText (CellOf l)) (cells_at i)
    cells_text i at =
        let test : CellDef → Bool = λ cell. is_primitive cell.made in
        let kept : List CellDef = filter test i.1.cells in
        let all : All IsWrittenCell kept = All-filter test IsWrittenCell i.1.cells (own i at).cells in
        All-map (λ (l : CellLine). LineHasText (CellOf l)) (flat_cell i.0) kept (λ k d within.
        cell_text i.0 (segments_of i at) (get_or kept k d) (all k d within) (filter_passes test i.1.cells k d within))

    set_here : (i : Instance) → IsThere i → (a : Assignment) → Contains i.1.sets a → IsBitSet a → LineHasText (SetOf (flat_set i.0 a))
    set_here i at a has is =
        let ports = set_segments design wired written i.1 a (component_at-design design top i.0 i.1 among at) has in
        set_text i.0 (segments_of i at) a is ports.0 (All-left IsSegmentPort (option_ports a.guard) (source_ports a.src) ports.1) (All-right IsSegmentPort (option_ports a.guard) (source_ports a.src) ports.1)

    sets_text : (i : Instance) → IsThere i → All (λ (s : SetLine). LineHasText (SetOf s)) (sets_at i)
    sets_text i at =
        All-map (λ (s : SetLine). LineHasText (SetOf s)) (flat_set i.0) i.1.sets (λ k d within.
        set_here i at (get_or i.1.sets k d) (All-contains_itself i.1.sets k d within) ((own i at).sets k d within))

    -- ---- lines

    all_there : All IsThere (([], top) ∷ listing.others)
    all_there = All-cons IsThere ([], top) listing.others refl listing.listed

    port_lines : (f : Pin → Line) → ((p : Pin) → IsWrittenPin p → LineHasText (f p)) → (pins own_pins : List Pin) → pins ≡ own_pins → All IsWrittenPin own_pins → All LineHasText (map f pins)
    port_lines f has pins own_pins is all = All-map LineHasText f pins (subst (All (λ (p : Pin). LineHasText (f p))) (sym is) (All-weaker IsWrittenPin (λ (p : Pin). LineHasText (f p)) has own_pins all))

    lines_from : {X : Type 0} (f : X → Line) (at : Instance → List X) → ((i : Instance) → IsThere i → All (λ (x : X). LineHasText (f x)) (at i)) →
        (xs : List X) (instances : List Instance) → xs ≡ flat_map at instances → All IsThere instances → All LineHasText (map f xs)
    lines_from {X} f at has xs instances is there =
        let HasLine : X → Type 0 = λ x. LineHasText (f x) in
        All-map LineHasText f xs (subst (All HasLine) (sym is) (All-flat HasLine at instances (All-weaker IsThere (λ (i : Instance). All HasLine (at i)) has instances there)))

    own_pin_text : (p : Pin) → IsWrittenPin p → (is_segment p.name && is_number p.width) ≡ true
    own_pin_text p is = both (is_segment p.name) (is_number p.width) is.0 (number_text p.width is.1)

    pub lines_text : All LineHasText (lines_of n)
    lines_text =
        let ins = port_lines InLine own_pin_text n.ins top.ins listing.ins (written top among).ins in
        let outs = port_lines OutLine own_pin_text n.outs top.outs listing.outs (written top among).outs in
        let wires = lines_from WireLine wires_at wires_text n.wires listing.others listing.wires listing.listed in
        let cells = lines_from CellOf cells_at cells_text n.cells (([], top) ∷ listing.others) listing.cells all_there in
        let sets = lines_from SetOf sets_at sets_text n.sets (([], top) ∷ listing.others) listing.sets all_there in
        let to_outs = All-append LineHasText (map InLine n.ins) (map OutLine n.outs) ins outs in
        let to_wires = All-append LineHasText (map InLine n.ins ++ map OutLine n.outs) (map WireLine n.wires) to_outs wires in
        let to_cells = All-append LineHasText (map InLine n.ins ++ map OutLine n.outs ++ map WireLine n.wires) (map CellOf n.cells) to_wires cells in
        All-append LineHasText (map InLine n.ins ++ map OutLine n.outs ++ map WireLine n.wires ++ map CellOf n.cells) (map SetOf n.sets) to_cells sets

    pub has_text : HasText n
    has_text = (subst IsSegment (sym listing.name) (written top among).name, list_all-from_AllPass line_has_text (lines_of n) lines_text)

pub flattened_have_text : FlattenedLoweringsHaveText
flattened_have_text comps design net rules written lowers flat =
    let of : WiresOf = record { comps = comps; rules = rules; design = design; lowers = lowers } in
    let low : (c : Component) → Contains design c → IsWrittenLow c = λ c among.
    (let place = place_of design c among in
    let from = comp_at of place.0 c place.1 in
    low_written comps design lowers written place.0 from.0 c from.1 place.1) in
    has_text design lowers.wired low flat.top (Contains-at design flat.place flat.top flat.at) (netlist_of net) flat.listed
