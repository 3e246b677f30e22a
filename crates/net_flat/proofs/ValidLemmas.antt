-- A listing keeps N1 to N5 at each line.
use Rattle.std.proofs.Common.{◌≡◌, Bool, true, not, ◌&&◌, ◌||◌, ◌==◌, List, [], ◌∷◌, ◌++◌, flat_map, take, Contains, is_some, option_map, refl, sym, ap, subst, ◌∙◌, inl, inr}
use Rattle.std.specs.List.{list_all}
use Rattle.std.proofs.lemmas.Bool.{and_from}
use Rattle.std.proofs.lemmas.Bool.Decides.{Decides-eqb}
use Rattle.std.proofs.lemmas.Option.{same_Some}
use Rattle.hw_graph.proofs.MemberLemmas.{In, contains_of, in_append, in_at, from_map, from_filter, from_flat_map, in_of}
use Rattle.hw_prims.specs.Table.{Pin, prim_of, is_primitive, is_memory, is_width}
use Rattle.net_core.specs.Graph.{source_ports, option_ports}
use Rattle.net_core.specs.Guard.{source_tree}
use Rattle.net_core.specs.Netlist.{Netlist, CellLine, SetLine, Line, InLine, OutLine, WireLine, CellOf, SetOf, lines_of}
use Rattle.net_core.specs.Rules.{ports_at, ports_of, port_named, port_width, source_width, each_in_guard, each_source, source_exists, literal_fits, source_is_readable, is_writable, option_widths_agree, cell_names_at, has_new_names, has_known_names, has_good_widths, has_good_sides, has_good_parameters, IsValid}
use Rattle.net_flat.proofs.KeptLemmas.{drives_destination, has_parameters, has_widths, names_known, reads_sources, widths_agree}
use Rattle.cal_ast.specs.Instances.{port_name}
use Rattle.cal_ast.specs.Naming.{IsKnownPort}
use Rattle.cal_ast.specs.Plain.{HasPlainTree}
use Rattle.cal_ast.specs.Sides.{IsSource}
use Rattle.cal_ast.specs.Tree.{PortName, CellDef, Assignment, Component, Design}
use Rattle.cal_ast.specs.Typing.{HasWidth}
use Rattle.cal_ast.specs.Wired.{IsWired}
use Rattle.cal_ast.specs.Keeping.{is_top, flat_cell}
use Rattle.net_flat.specs.Listing.{Instance, IsListing, map_guard, flat_pin, flat_set, wires_at, cells_at, sets_at}
use Rattle.net_flat.proofs.DistinctLemmas.{has_new}
use Rattle.net_flat.proofs.GuardReadLemmas.{source_passes, option_passes, width_passes, source_fits, option_fits, source_wide, option_wide}
use Rattle.net_flat.proofs.ListedNameLemmas.{primitive_cells}
use Rattle.net_flat.proofs.ListedLemmas.{IsWiredListing, instances, in_design}
use Rattle.net_flat.proofs.ListFacts.{of_all}
use Rattle.net_flat.proofs.NetLineLemmas.{IsOf, of_line}
use Rattle.net_flat.proofs.SideLemmas.{source_is_readable_port, destination_is_writable, known_port_exists, known_port_is_wide}

-- only a memory is shown
shown_memory : (top external memory : Bool) → (not (top && external && memory) || memory) ≡ true
shown_memory true true true = refl
shown_memory top external memory = refl

all_five : (a b c d e : Bool) → a ≡ true → b ≡ true → c ≡ true → d ≡ true → e ≡ true → list_all (λ kept. kept) (a ∷ b ∷ c ∷ d ∷ e ∷ []) ≡ true
all_five a b c d e ea eb ec ed ee = rw (ea, eb, ec, ed, ee) refl

module _ (design : Design) (top : Component) (n : Netlist) (l : IsWiredListing design top n) where
  -- an assignment of an instance
  module _ (i : Instance) (h : In (instances l) i) (a : Assignment) (there : In i.1.sets a) where
    component_there : Contains design i.1
    component_there = contains_of design i.1 (in_design design top n l i h)

    set_there : Contains i.1.sets a
    set_there = contains_of i.1.sets a there

    reads_known : (p : PortName) → In (option_ports a.guard) p → IsKnownPort design i.1 p
    reads_known p at = of_all (IsKnownPort design i.1) (option_ports a.guard) p (names_known design l.wired.rules.keeps i.1 component_there a set_there).guard at

    source_known : (p : PortName) → In (source_ports a.src) p → IsKnownPort design i.1 p
    source_known p at = of_all (IsKnownPort design i.1) (source_ports a.src) p (names_known design l.wired.rules.keeps i.1 component_there a set_there).src at

    dst_known : IsKnownPort design i.1 a.dst
    dst_known = (names_known design l.wired.rules.keeps i.1 component_there a set_there).dst

    set_known : has_known_names (ports_of n) (SetOf (flat_set i.0 a)) ≡ true
    set_known =
        let test = source_exists (ports_of n) in
        let full = port_name i.0 in
        let guard = option_passes full test (λ width value. refl) a.guard (λ p at. known_port_exists design top n l i h p (reads_known p at)) in
        let src = source_passes full test (λ width value. refl) a.src (λ p at. known_port_exists design top n l i h p (source_known p at)) in
        and_from (is_some (port_named (ports_of n) (full a.dst))) (each_source test (flat_set i.0 a)) (known_port_exists design top n l i h a.dst dst_known)
        (and_from (each_in_guard test (option_map (map_guard full) a.guard)) (test (source_tree full a.src)) guard src)

    set_wide : has_good_widths (ports_of n) (SetOf (flat_set i.0 a)) ≡ true
    set_wide =
        let ports = ports_of n in
        let full = port_name i.0 in
        let agree = widths_agree design l.wired.rules.keeps i.1 component_there a set_there in
        let wide = known_port_is_wide design top n l i h in
        let width = port_width ports (full a.dst) in
        let src_width = source_width ports (source_tree full a.src) in
        let same = same_Some width src_width (sym (wide a.dst dst_known) ∙ agree.sides ∙ source_wide design i.1 full ports wide a.src source_known) in
        let fits = and_from (each_in_guard literal_fits (option_map (map_guard full) a.guard)) (literal_fits (source_tree full a.src)) (option_fits design i.1 full a.guard agree.guard) (source_fits design i.1 full a.src agree.literal) in
        and_from (each_source literal_fits (flat_set i.0 a) && (width == src_width)) (option_widths_agree ports (option_map (map_guard full) a.guard))
        (and_from (each_source literal_fits (flat_set i.0 a)) (width == src_width) fits ((Decides-eqb width src_width).1 same))
        (option_wide design i.1 full ports wide a.guard reads_known agree.guard)

    set_sided : has_good_sides (ports_of n) (SetOf (flat_set i.0 a)) ≡ true
    set_sided =
        let test = source_is_readable (ports_of n) in
        let full = port_name i.0 in
        let reads = reads_sources design l.wired.rules.keeps i.1 component_there a set_there in
        let guard = option_passes full test (λ width value. refl) a.guard (λ p at. source_is_readable_port design top n l i h p (of_all (IsSource design i.1) (option_ports a.guard) p reads.0 at)) in
        let src = source_passes full test (λ width value. refl) a.src (λ p at. source_is_readable_port design top n l i h p (of_all (IsSource design i.1) (source_ports a.src) p reads.1 at)) in
        let dst = destination_is_writable design top n l i h a.dst (drives_destination design l.wired.rules.keeps i.1 component_there a set_there) in
        and_from (is_writable (port_named (ports_of n) (full a.dst))) (each_source test (flat_set i.0 a)) dst
        (and_from (each_in_guard test (option_map (map_guard full) a.guard)) (test (source_tree full a.src)) guard src)

  -- a listed assignment is one of an instance, and a listed cell too
  set_from : (P : SetLine → Type 0) → ((i : Instance) → In (instances l) i → (a : Assignment) → In i.1.sets a → P (flat_set i.0 a)) → (s : SetLine) → In n.sets s → P s
  set_from P each s h =
      let S : List SetLine → Type 0 = λ sets. In sets s in
      let r = from_flat_map sets_at (instances l) s (subst S l.listing.sets h) in
      let a = from_map (flat_set r.0.0) r.0.1.sets s r.2 in
      subst P a.2 (each r.0 r.1 a.0 a.1)

  cell_from : (P : CellLine → Type 0) → ((i : Instance) → In (instances l) i → (cell : CellDef) → In i.1.cells cell → is_primitive cell.made ≡ true → P (flat_cell i.0 cell)) → (c : CellLine) → In n.cells c → P c
  cell_from P each c h =
      let C : List CellLine → Type 0 = λ cells. In cells c in
      let r = from_flat_map cells_at (instances l) c (subst C l.listing.cells h) in
      let m = from_map (flat_cell r.0.0) (primitive_cells r.0.1) c r.2 in
      let cell = from_filter (λ (x : CellDef). is_primitive x.made) r.0.1.cells m.0 m.1 in
      subst P m.2 (each r.0 r.1 m.0 cell.0 cell.1)

  -- the widths of a component's ports
  pins_wide : (c : Component) → In design c → (p : Pin) → In (c.ins ++ c.outs) p → is_width p.width ≡ true
  pins_wide c there p h =
      let widths = has_widths design l.wired.rules.keeps c (contains_of design c there) in
      width_passes p.width (elim (in_append c.ins c.outs p h) [ inl input ↦ of_all HasWidth c.ins p widths.ins input | inr output ↦ of_all HasWidth c.outs p widths.outs output ])

  wire_wide : (p : Pin) → In n.wires p → is_width p.width ≡ true
  wire_wide p h =
      let W : List Pin → Type 0 = λ wires. In wires p in
      let r = from_flat_map wires_at l.listing.others p (subst W l.listing.wires h) in
      let q = from_map (flat_pin r.0.0) (r.0.1.ins ++ r.0.1.outs) p r.2 in
      sym (ap (λ (x : Pin). is_width x.width) q.2) ∙ pins_wide r.0.1 (in_design design top n l r.0 (inr r.1)) q.0 q.1

  -- N2
  known_names : (line : Line) → IsOf n line → has_known_names (ports_of n) line ≡ true
  known_names (InLine p) h = refl
  known_names (OutLine p) h = refl
  known_names (WireLine p) h = refl
  known_names (CellOf c) h = cell_from (λ c. is_primitive c.prim ≡ true) (λ i hi cell there primitive. primitive) c h
  known_names (SetOf a) h = set_from (λ s. has_known_names (ports_of n) (SetOf s) ≡ true) set_known a h

  -- N3
  good_widths : (line : Line) → IsOf n line → has_good_widths (ports_of n) line ≡ true
  good_widths (InLine p) h =
      let W : List Pin → Type 0 = λ pins. In pins p in
      width_passes p.width (of_all HasWidth top.ins p (has_widths design l.wired.rules.keeps top (contains_of design top l.top_there)).ins (subst W l.listing.ins h))
  good_widths (OutLine p) h =
      let W : List Pin → Type 0 = λ pins. In pins p in
      width_passes p.width (of_all HasWidth top.outs p (has_widths design l.wired.rules.keeps top (contains_of design top l.top_there)).outs (subst W l.listing.outs h))
  good_widths (WireLine p) h = wire_wide p h
  good_widths (CellOf c) h = refl
  good_widths (SetOf a) h = set_from (λ s. has_good_widths (ports_of n) (SetOf s) ≡ true) set_wide a h

  -- N4
  good_sides : (line : Line) → IsOf n line → has_good_sides (ports_of n) line ≡ true
  good_sides (InLine p) h = refl
  good_sides (OutLine p) h = refl
  good_sides (WireLine p) h = refl
  good_sides (CellOf c) h = refl
  good_sides (SetOf a) h = set_from (λ s. has_good_sides (ports_of n) (SetOf s) ≡ true) set_sided a h

  cell_good : (i : Instance) → In (instances l) i → (cell : CellDef) → In i.1.cells cell → is_primitive cell.made ≡ true → has_good_parameters (CellOf (flat_cell i.0 cell)) ≡ true
  cell_good i h cell there primitive =
      let shown = is_top i.0 && cell.external && is_memory cell.made in
      and_from (is_some (prim_of cell.made cell.params)) (not shown || is_memory cell.made) ((has_parameters design l.wired.rules.keeps i.1 (contains_of design i.1 (in_design design top n l i h)) cell (contains_of i.1.cells cell there)).0 primitive)
      (shown_memory (is_top i.0) cell.external (is_memory cell.made))

  -- N5
  good_parameters : (line : Line) → IsOf n line → has_good_parameters line ≡ true
  good_parameters (InLine p) h = refl
  good_parameters (OutLine p) h = refl
  good_parameters (WireLine p) h = refl
  good_parameters (CellOf c) h = cell_from (λ c. has_good_parameters (CellOf c) ≡ true) cell_good c h
  good_parameters (SetOf a) h = refl

  pub keeps_rules : IsValid n
  keeps_rules k line at =
      let before = take k (lines_of n) in
      let of = of_line n line (in_at (lines_of n) k line at) in
      all_five (has_new_names (flat_map ports_at before) (flat_map cell_names_at before) line) (has_known_names (ports_of n) line) (has_good_widths (ports_of n) line) (has_good_sides (ports_of n) line) (has_good_parameters line)
      (has_new design top n l k line at) (known_names line of) (good_widths line of) (good_sides line of) (good_parameters line of)

pub listing_is_valid : (design : Design) (top : Component) (n : Netlist) → HasPlainTree design → IsWired design → Contains design top → IsListing design top n → IsValid n
listing_is_valid design top n plain wired there listing =
    keeps_rules design top n (record { plain = plain; wired = wired; top_there = in_of design top there; listing = listing })
