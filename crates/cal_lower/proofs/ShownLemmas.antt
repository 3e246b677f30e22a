-- In a run of the answer an added cell has what the added assignments give it: each wire shows what drives it in the same row, and each register in the next one,
-- after a first row of 0.
use Rattle.std.proofs.Common.{◌≡◌, ◌≢◌, inl, inr, ℕ, suc, ◌<◌, List, [], ◌∷◌, ◌++◌, map, Bool, true, false, ◌&&◌, ◌==◌, Option, Some, None, refl, sym, ap, subst, ◌∙◌, lit<, arith}
use Rattle.std.specs.Prelude.{Contains, flat_map, bytes_eq, codes, slice_index, option_and_then, if◌then◌else◌}
use Rattle.std.proofs.lemmas.Bool.{cond-true, cond-false}
use Rattle.std.proofs.lemmas.List.Elements.{All-contains}
use Rattle.std.proofs.lemmas.Slice.Eq.{bytes_eq-Decides}
use Rattle.hw_names.proofs.NameLemmas.{HasNoDot-from_test}
use Rattle.hw_names.specs.Name.{Text, Path, dotted, full_name, port_at, IsPlain}
use Rattle.hw_prims.specs.Meaning.{opening_state, output_values, next_state}
use Rattle.hw_prims.specs.Row.{Row, Trace}
use Rattle.hw_prims.specs.State.{State, out_of}
use Rattle.hw_prims.specs.Table.{pin_names, inputs_of, outputs_of}
use Rattle.hw_prims.specs.declared.prim.Primitive.{Primitive}
use Rattle.hw_prims.specs.declared.prim.Primitive.TheVariants.{StdWire, StdReg}
use Rattle.net_core.specs.Circuit.{IsComputed, settled, states_before}
use Rattle.net_core.specs.Guard.{guard_holds, source_value}
use Rattle.cal_ast.proofs.ListLemmas.{Contains-none, Contains-cases_first}
use Rattle.cal_ast.proofs.PlainLemmas.{plain_primitive}
use Rattle.cal_ast.proofs.SideLemmas.{cell_input_destination, some_found}
use Rattle.cal_ast.specs.CalRun.{look, values_for, cal_circuit, IsStoppedRun}
use Rattle.cal_ast.specs.Holes.{sets_by_rule, rule_holds, when_of, by_rules}
use Rattle.cal_ast.specs.Instances.{component_at, port_name}
use Rattle.cal_ast.specs.Laws.{local_values}
use Rattle.cal_ast.specs.Naming.{IsReserved}
use Rattle.cal_ast.specs.NoInvoke.{IsPlainDesign}
use Rattle.cal_ast.specs.Plain.{HasPlainTree}
use Rattle.cal_ast.specs.Ports.{is_bare, cell_named, primitive_of, primitive_in, part_in, made_inputs, SidedPin, port_in}
use Rattle.cal_ast.specs.Sides.{IsDestination}
use Rattle.cal_ast.specs.Tree.{PortName, port_of, CellDef, Assignment, GroupDef, Component, Design}
use Rattle.cal_lower.specs.inside.Added.{Additions, extended}
use Rattle.cal_lower.specs.inside.Lowered.{done_set, rules_from}
use Rattle.cal_lower.specs.inside.Pieces.{Kind, Wire, Register, Piece, piece_cell, piece_set, enables_piece, piece_sets, shown}
use Rattle.cal_lower.proofs.ExtendedLemmas.{AreOfPrimitives, AreNamed, CellsApart, DrivesAdded, answer, lasting_sets, extended_sets, extended_groups, added_cells, cell_other, HasPlace, place_found, instance_kept}
use Rattle.cal_lower.proofs.ListLemmas.{Each, each_append, each_weaker, each_from, each_at, each_flat_map}
use Rattle.cal_lower.proofs.LocalLemmas.{HasPlainPin, values_are_local, IsOfOther, local_values-append, local_values-none, other_port}
use Rattle.cal_lower.proofs.LoweredLemmas.{prim_for, piece_made}
use Rattle.cal_lower.proofs.OffLemmas.{IsUnset, UnsetAs}
use Rattle.cal_lower.proofs.PartLemmas.{shows_bit, is_driven, ShowsAs, IsShown}
use Rattle.cal_lower.proofs.PieceLemmas.{piece_values, in_values, enable_values, other_name}
use Rattle.cal_lower.proofs.SourceLemmas.{reserved_absent, set_destination, group_set_destination, plain_destination}

plain_done : IsPlain (codes "done")
plain_done = (λ e. cc, HasNoDot-from_test (codes "done") refl)

-- ---- wires of one bit, and registers

wire_input : Contains (pin_names (inputs_of (StdWire 1))) (codes "in")
unfolding inputs_of
wire_input = (0, lit< tt, refl)

register_input : (width : ℕ) → Contains (pin_names (inputs_of (StdReg width))) (codes "in")
unfolding inputs_of
register_input width = (0, lit< tt, refl)

register_enable : (width : ℕ) → Contains (pin_names (inputs_of (StdReg width))) (codes "write_en")
unfolding inputs_of
register_enable width = (1, lit< tt, refl)

wire_passes : (row : Row) (cell : Text) (state : State) → IsComputed row cell (StdWire 1) state → row (dotted cell (codes "out")) ≡ row (dotted cell (codes "in"))
unfolding inputs_of outputs_of output_values
wire_passes row cell state e = ap (λ values. slice_index values 0) e

register_gives : (width : ℕ) (row : Row) (cell : Text) (state : State) → IsComputed row cell (StdReg width) state → row (dotted cell (codes "out")) ≡ out_of state
unfolding inputs_of outputs_of output_values
register_gives width row cell state e = ap (λ values. slice_index values 0) e

opens_at_zero : (width : ℕ) (words : List ℕ) → out_of (opening_state (StdReg width) words) ≡ 0
unfolding opening_state
opens_at_zero width words = refl

keeps_its_input : (width : ℕ) (row : Row) (at : Text → Text) (state : State) → row (at (codes "write_en")) ≡ 1
    → out_of (next_state (StdReg width) state (map (λ pin. row (at pin)) (pin_names (inputs_of (StdReg width))))) ≡ row (at (codes "in"))
unfolding inputs_of next_state
keeps_its_input width row at state written = rw written refl

-- the bit that settles of one guarded value
settled_bit : (guard : Bool) (value : ℕ) → (settled (if guard then value ∷ [] else []) == 1) ≡ (guard && (value == 1))
settled_bit true value = refl
settled_bit false value = refl

-- ---- cells that are apart

-- a cell is found by its name
cell_found : (cells : List CellDef) → CellsApart cells → (cell : CellDef) → Contains cells cell → cell_named cells cell.name ≡ Some cell
cell_found [] apart cell has = absurd (Contains-none cell has)
cell_found (x ∷ cells) apart cell has = elim (Contains-cases_first x cells cell has) [
  | inl same ↦
      cond-true (bytes_eq x.name cell.name) (Some x) (cell_named cells cell.name) ((bytes_eq-Decides x.name cell.name).1 (ap (λ (y : CellDef). y.name) same)) ∙ ap Some same
  | inr there ↦
      cond-false (bytes_eq x.name cell.name) (Some x) (cell_named cells cell.name)
      (other_name x.name cell.name (each_at (λ (y : CellDef). x.name ≢ y.name) cells cell apart.0 there))
      ∙ cell_found cells apart.1 cell there
]

-- ---- what drives the ports of an instance, where its component has control in the source

-- the assignments of the groups that act
abbrev pub group_sets : Component → (GroupDef → Bool) → List Assignment
group_sets c test = flat_map (λ (g : GroupDef). if test g then g.sets else []) c.groups

-- groups whose sets stand or not
pub each_of_groups : (P : Assignment → Type 0) (test : GroupDef → Bool) (gs : List GroupDef) → Each (λ (g : GroupDef). Each P g.sets) gs
    → Each P (flat_map (λ (g : GroupDef). if test g then g.sets else []) gs)
each_of_groups P test gs all =
    each_flat_map P (λ (g : GroupDef). if test g then g.sets else []) gs
    (each_weaker (λ (g : GroupDef). Each P g.sets) (λ (g : GroupDef). Each P (if test g then g.sets else [])) (λ g has. by (test g) g has) gs all)
  where
    by : (b : Bool) (g : GroupDef) → Each P g.sets → Each P (if b then g.sets else [])
    by true g has = has
    by false g has = tt

module _ (source : Design) (tree : HasPlainTree source) (plain : IsPlainDesign source) (c : Component) (in_design : Contains source c) where
  -- what holds of each destination of the source holds of its assignments
  pub source_sets : (P : Assignment → Type 0) → ((a : Assignment) → IsDestination source c a.dst → P a) → Each P c.sets
  source_sets P f = each_from P c.sets (λ a has. f a (set_destination source tree plain c in_design a has))

  pub source_group_sets : (P : Assignment → Type 0) → ((a : Assignment) → IsDestination source c a.dst → P a) → Each (λ (g : GroupDef). Each P g.sets) c.groups
  source_group_sets P f =
      each_from (λ (g : GroupDef). Each P g.sets) c.groups
      (λ g of. each_from P g.sets (λ a has. f a (group_set_destination source tree plain c in_design g a of has)))

  pub plain_dst : (a : Assignment) → IsDestination source c a.dst → HasPlainPin a
  plain_dst a is = plain_destination source tree plain c in_design a.dst.cell a.dst.pin is

  -- a destination of the source is no port of a cell that the source doesn't have
  pub not_of_added : (name pin : Text) (p : PortName) → cell_named c.cells name ≡ None → IsDestination source c p → p ≡ port_of name pin → ⊥
  not_of_added name pin p none is same =
      let D : PortName → Type 0 = λ q. IsDestination source c q in
      let there : IsDestination source c (port_of name pin) = subst D same is in
      let q = some_found (λ (x : SidedPin). x.side) (port_in source c (port_of name pin)) _ there.side in
      let found : HasPlace source c (Some name) = place_found source source c (Some name) pin q.0 q.1 in
      let bad : None ≡ Some found.0 = sym none ∙ found.1 in
      cc

module _ (add : Additions) (source : Design) (tree : HasPlainTree source) (plain : IsPlainDesign source) (c : Component) (in_design : Contains source c) (full : is_bare c ≡ false)
    (named : AreNamed add c) where
  plain_added : (a : Assignment) → DrivesAdded a → HasPlainPin a
  plain_added a is = subst (λ (p : PortName). IsPlain p.pin) (sym is.drives) is.plain

  plain_lasting : Each HasPlainPin (lasting_sets add c)
  plain_lasting =
      each_append HasPlainPin (c.sets ++ add.sets c) (done_set ∷ [])
      (each_append HasPlainPin c.sets (add.sets c) (source_sets source tree plain c in_design HasPlainPin (plain_dst source tree plain c in_design))
      (each_weaker DrivesAdded HasPlainPin plain_added (add.sets c) named.driven))
      (plain_done, tt)

  -- what is added drives nothing that the source may drive
  pub apart_from_added : (see : PortName → ℕ) (p : PortName) → IsDestination source c p → local_values see p (add.sets c) ≡ []
  apart_from_added see p is =
      local_values-none see p (add.sets c)
      (each_weaker DrivesAdded (IsOfOther see p) (λ a there. other_port a.dst p (λ same.
      not_of_added source tree plain c in_design there.cell there.pin p (reserved_absent source tree plain c in_design full there.cell there.reserved) is (sym same ∙ there.drives)))
      (add.sets c) named.driven)

  module _ (path : Path) (row : Row) (test : GroupDef → Bool) where
    abbrev seen : PortName → ℕ
    seen = look path row

    -- what drives a port, list by list
    pub all_values : (p : PortName) → IsPlain p.pin
        → values_for path (port_name path p) row (lasting_sets add c ++ group_sets c test)
        ≡ ((local_values seen p c.sets ++ local_values seen p (add.sets c)) ++ local_values seen p (done_set ∷ [])) ++ local_values seen p (group_sets c test)
    all_values p plain_pin =
        values_are_local path row p (lasting_sets add c ++ group_sets c test) plain_pin
        (each_append HasPlainPin (lasting_sets add c) (group_sets c test) plain_lasting
        (each_of_groups HasPlainPin test c.groups (source_group_sets source tree plain c in_design HasPlainPin (plain_dst source tree plain c in_design))))
        ∙ local_values-append seen p (lasting_sets add c) (group_sets c test)
        ∙ ap (λ (values : List ℕ). values ++ local_values seen p (group_sets c test))
        (local_values-append seen p (c.sets ++ add.sets c) (done_set ∷ [])
        ∙ ap (λ (values : List ℕ). values ++ local_values seen p (done_set ∷ [])) (local_values-append seen p c.sets (add.sets c)))

    -- of a port of a cell that the source doesn't have, what is added alone
    pub added_alone : (name pin : Text) → IsPlain pin → cell_named c.cells name ≡ None
        → values_for path (port_name path (port_of name pin)) row (lasting_sets add c ++ group_sets c test) ≡ local_values seen (port_of name pin) (add.sets c)
    added_alone name pin plain_pin none =
        let p : PortName = port_of name pin in
        let f = λ (a : Assignment) (is : IsDestination source c a.dst). other_port a.dst p (λ same. not_of_added source tree plain c in_design name pin a.dst none is same) in
        let first : local_values seen p c.sets ≡ [] = local_values-none seen p c.sets (source_sets source tree plain c in_design (IsOfOther seen p) f) in
        let last : local_values seen p (group_sets c test) ≡ [] =
        local_values-none seen p (group_sets c test) (each_of_groups (IsOfOther seen p) test c.groups (source_group_sets source tree plain c in_design (IsOfOther seen p) f)) in
        let own_done : local_values seen p (done_set ∷ []) ≡ [] = local_values-none seen p (done_set ∷ []) (refl, tt) in
        all_values p plain_pin
        ∙ ap (λ (values : List ℕ). ((values ++ local_values seen p (add.sets c)) ++ local_values seen p (done_set ∷ [])) ++ local_values seen p (group_sets c test)) first
        ∙ ap (λ (values : List ℕ). (local_values seen p (add.sets c) ++ values) ++ local_values seen p (group_sets c test)) own_done
        ∙ ap (λ (values : List ℕ). (local_values seen p (add.sets c) ++ []) ++ values) last
        ∙ none_after (local_values seen p (add.sets c))
      where
        none_after : (values : List ℕ) → (values ++ []) ++ [] ≡ values
        none_after [] = refl
        none_after (x ∷ values) = ap (λ (rest : List ℕ). x ∷ rest) (none_after values)

  -- an added cell is one of the answer
  pub added_found : (cell : CellDef) → Contains (add.cells c) cell → (cell_named c.cells cell.name ≡ None) × (cell_named (extended add c).cells cell.name ≡ Some cell)
  added_found cell has =
      let none : cell_named c.cells cell.name ≡ None =
      reserved_absent source tree plain c in_design full cell.name (each_at (λ (x : CellDef). IsReserved x.name) (add.cells c) cell named.reserved has) in
      let added : cell_named (added_cells add c) cell.name ≡ Some cell =
      ap (λ (cells : List CellDef). cell_named cells cell.name) (cond-false (is_bare c) [] (add.cells c) full) ∙ cell_found (add.cells c) named.apart cell has in
      (none, cell_other add c cell.name none ∙ added)

  pub added_primitive : (cell : CellDef) (prim : Primitive) → Contains (add.cells c) cell → primitive_of cell ≡ Some prim → primitive_in (extended add c) cell.name ≡ Some prim
  added_primitive cell prim has made = ap (option_and_then primitive_of) (added_found cell has).1 ∙ made

-- ---- a run

-- the cell of the piece is added, and its ports are driven as its own assignments drive them
pub record IsAddedPiece (add : Additions) (c : Component) (p : Piece) : Type 0 where
  pub has : Contains (add.cells c) (piece_cell p)
  pub alone : (see : PortName → ℕ) (pin : Text) → local_values see (port_of p.name pin) (add.sets c) ≡ local_values see (port_of p.name pin) (piece_sets p)

module _ (add : Additions) (primitive : AreOfPrimitives add) (source : Design) (tree : HasPlainTree source) (plain : IsPlainDesign source) (top : Component) (asked : ℕ)
    (inputs : Trace) (loads : Text → List ℕ) (height : ℕ) (trace : Trace) (stop : Option Text)
    (run : IsStoppedRun (cal_circuit (answer add source) (extended add top) (by_rules (answer add source) (rules_from 0 source))) asked inputs loads height trace stop)
    (path : Path) (c : Component) (at : component_at source top path ≡ Some c) (in_design : Contains source c) (full : is_bare c ≡ false) (named : AreNamed add c) where
  abbrev low : Design
  low = answer add source

  abbrev pub see : ℕ → PortName → ℕ
  see t = look path (trace t)

  abbrev pub is_ruled : ℕ → GroupDef → Bool
  is_ruled t g = rule_holds path (trace t) (when_of low (rules_from 0 source) (extended add c) g.name)

  -- the assignments that act in a row
  abbrev pub acting_sets : ℕ → List Assignment
  acting_sets t = (extended add c).sets ++ flat_map (sets_by_rule low (rules_from 0 source) path (extended add c) (trace t)) (extended add c).groups

  pub acting_are : (t : ℕ) → acting_sets t ≡ lasting_sets add c ++ group_sets c (is_ruled t)
  acting_are t =
      ap (λ (sets : List Assignment). sets ++ flat_map (sets_by_rule low (rules_from 0 source) path (extended add c) (trace t)) (extended add c).groups)
      (extended_sets add c full)
      ∙ ap (λ (gs : List GroupDef). lasting_sets add c ++ flat_map (sets_by_rule low (rules_from 0 source) path (extended add c) (trace t)) gs)
      (extended_groups add c)

  -- a sink of the instance has what drives it
  pub sink_is : (cell : Option Text) (pin : Text) → IsDestination low (extended add c) (record { cell = cell; pin = pin }) → (t : ℕ) → t < height
      → trace t (port_at path cell pin) ≡ settled (values_for path (port_at path cell pin) (trace t) (acting_sets t))
  sink_is cell pin is t within =
      (run.run.rows t within).driven (port_at path cell pin) _
      (inl (record { path = path; c = extended add c; at = instance_kept add primitive source top c path at; cell = cell; pin = pin; sink = is; named = refl; drives = refl }))

  -- ---- an added cell

  module _ (cell : CellDef) (prim : Primitive) (has : Contains (add.cells c) cell) (made : primitive_of cell ≡ Some prim) where
    there : primitive_in (extended add c) cell.name ≡ Some prim
    there = added_primitive add source tree plain c in_design full named cell prim has made

    added_sink : (pin : Text) → Contains (pin_names (inputs_of prim)) pin → IsDestination low (extended add c) (port_of cell.name pin)
    added_sink pin input =
        let I : Option Primitive → Type 0 = λ o. Contains (pin_names (made_inputs o (part_in low (extended add c) cell.name))) pin in
        cell_input_destination low (extended add c) cell.name pin (subst I (sym there) input)

    -- its inputs have what the added assignments give them
    pub added_input : (pin : Text) → Contains (pin_names (inputs_of prim)) pin → (t : ℕ) → t < height
        → trace t (port_at path (Some cell.name) pin) ≡ settled (local_values (see t) (port_of cell.name pin) (add.sets c))
    added_input pin input t within =
        sink_is (Some cell.name) pin (added_sink pin input) t within
        ∙ ap settled (ap (λ (sets : List Assignment). values_for path (port_at path (Some cell.name) pin) (trace t) sets) (acting_are t)
        ∙ added_alone add source tree plain c in_design full named path (trace t) (is_ruled t) cell.name pin (All-contains IsPlain (pin_names (inputs_of prim)) pin (plain_primitive prim) input)
        (added_found add source tree plain c in_design full named cell has).0)

    -- and its outputs are its primitive's
    pub added_row : (t : ℕ) → t < height → IsComputed (trace t) (full_name path cell.name) prim (states_before t trace loads (full_name path cell.name) prim)
    added_row t within =
        (run.run.rows t within).computed (full_name path cell.name) prim
        (record { path = path; c = extended add c; at = instance_kept add primitive source top c path at; cell = cell.name; made = there; named = refl })

  -- ---- a register

  module _ (cell : CellDef) (width : ℕ) (has : Contains (add.cells c) cell) (made : primitive_of cell ≡ Some (StdReg width)) where
    register_is : (t : ℕ) → t < height → see t (shown cell.name) ≡ out_of (states_before t trace loads (full_name path cell.name) (StdReg width))
    register_is t within =
        register_gives width (trace t) (full_name path cell.name) (states_before t trace loads (full_name path cell.name) (StdReg width)) (added_row cell (StdReg width) has made t within)

    -- it shows 0 in the first row
    pub register_opens : 0 < height → see 0 (shown cell.name) ≡ 0
    register_opens within = register_is 0 within ∙ opens_at_zero width (loads (full_name path cell.name))

    -- after a row in which it is written it shows what drove it
    pub register_follows : (t : ℕ) → suc t < height → local_values (see t) (port_of cell.name (codes "write_en")) (add.sets c) ≡ 1 ∷ []
        → see (suc t) (shown cell.name) ≡ settled (local_values (see t) (port_of cell.name (codes "in")) (add.sets c))
    register_follows t within enabled =
        let before : t < height = omega arith in
        let written : trace t (port_at path (Some cell.name) (codes "write_en")) ≡ 1 =
        added_input cell (StdReg width) has made (codes "write_en") (register_enable width) t before ∙ ap settled enabled in
        register_is (suc t) within
        ∙ keeps_its_input width (trace t) (dotted (full_name path cell.name)) (states_before t trace loads (full_name path cell.name) (StdReg width)) written
        ∙ added_input cell (StdReg width) has made (codes "in") (register_input width) t before

  -- ---- a piece

  module _ (p : Piece) (is_added : IsAddedPiece add c p) where
    made_as : (kind : Kind) → p.kind ≡ kind → primitive_of (piece_cell p) ≡ Some (prim_for kind)
    made_as kind is = piece_made p ∙ ap (λ k. Some (prim_for k)) is

    own_values : (t : ℕ) → local_values (see t) (port_of p.name (codes "in")) (add.sets c) ≡ piece_values (see t) p
    own_values t = is_added.alone (see t) (codes "in") ∙ in_values (see t) p.kind p

    pub wire_is : p.kind ≡ Wire → (t : ℕ) → t < height → see t (shown p.name) ≡ settled (piece_values (see t) p)
    wire_is is t within =
        wire_passes (trace t) (full_name path p.name) (states_before t trace loads (full_name path p.name) (StdWire 1))
        (added_row (piece_cell p) (StdWire 1) is_added.has (made_as Wire is) t within)
        ∙ added_input (piece_cell p) (StdWire 1) is_added.has (made_as Wire is) (codes "in") wire_input t within
        ∙ ap settled (own_values t)

    pub piece_opens : p.kind ≡ Register → 0 < height → see 0 (shown p.name) ≡ 0
    piece_opens is within = register_opens (piece_cell p) 1 is_added.has (made_as Register is) within

    pub piece_follows : p.kind ≡ Register → (t : ℕ) → suc t < height → see (suc t) (shown p.name) ≡ settled (piece_values (see t) p)
    piece_follows is t within =
        let enabled : local_values (see t) (port_of p.name (codes "write_en")) (add.sets c) ≡ 1 ∷ [] =
        is_added.alone (see t) (codes "write_en")
        ∙ ap (λ k. local_values (see t) (port_of p.name (codes "write_en")) (piece_set p ∷ enables_piece k p.name)) is
        ∙ enable_values (see t) p in
        register_follows (piece_cell p) 1 is_added.has (made_as Register is) t within enabled ∙ ap settled (own_values t)

    -- the bits
    pub wire_shows : p.kind ≡ Wire → (t : ℕ) → t < height → shows_bit (see t) p.name ≡ is_driven (see t) p
    wire_shows is t within = ap (λ x. x == 1) (wire_is is t within) ∙ settled_bit (guard_holds (see t) p.guard) (source_value (see t) p.src)

    pub piece_unset : 0 < height → IsUnset (see 0) p
    piece_unset within = by p.kind refl
      where
        by : (k : Kind) → p.kind ≡ k → UnsetAs k (shows_bit (see 0) p.name)
        by Wire is = tt
        by Register is = ap (λ x. x == 1) (piece_opens is within)

    pub piece_shown : (t : ℕ) → suc t < height → IsShown (see t) (see (suc t)) p
    piece_shown t within = by p.kind refl
      where
        by : (k : Kind) → p.kind ≡ k → ShowsAs k (shows_bit (see t) p.name) (shows_bit (see (suc t)) p.name) (is_driven (see t) p)
        by Wire is = let before : t < height = omega arith in wire_shows is t before
        by Register is =
            ap (λ x. x == 1) (piece_follows is t within) ∙ settled_bit (guard_holds (see t) p.guard) (source_value (see t) p.src)
