-- Components with other names: each cell means the same component, so rules, hierarchies and plain names stay.
use Rattle.std.proofs.Common.{◌≡◌, ◌⊎◌, inl, inr, ℕ, List, [], ◌∷◌, ◌++◌, drop, map, take, Bool, true, false, if◌then◌else◌, Option, Some, None, refl, sym, ap, ap₂, ◌∙◌, subst, arith}
use Rattle.std.specs.Prelude.{All, Contains, IsSome, bytes_eq, flat_map, option_and_then, option_map, slice_get}
use Rattle.std.specs.List.{AllZip}
use Rattle.std.proofs.lemmas.List.{map-append, take-append-drop, take-map}
use Rattle.std.proofs.lemmas.List.Elements.{All-map, All-weaker, Contains-append_left}
use Rattle.std.proofs.lemmas.Option.{slice_get-map}
use Rattle.std.proofs.lemmas.Slice.Eq.{bytes_eq-Decides}
use Rattle.hw_names.specs.Name.{Text, Path}
use Rattle.hw_prims.specs.Table.{is_primitive, prim_of}
use Rattle.cal_ast.proofs.InstanceLemmas.{component_at-design}
use Rattle.cal_ast.proofs.ItemLemmas.{known_cell}
use Rattle.cal_ast.proofs.ListLemmas.{place_of, Contains-at, Contains-here, Contains-there, Contains-map, Contains-from_map}
use Rattle.cal_ast.proofs.LookupLemmas.{cell_named-Some, component_named-Some, part_in-design, part_of-Some}
use Rattle.cal_ast.proofs.SideLemmas.{some_found}
use Rattle.cal_ast.specs.Instances.{component_at}
use Rattle.cal_ast.specs.Items.{Item, TheSignature, TheCell, TheGroup, TheAssignment, TheDone, TheStatement, each, each_after, group_items, control_statements, items_of}
use Rattle.cal_ast.specs.Naming.{GroupNaming, Unreserved, HasNewNames, IsNewCell, IsKnownCell, Involves, Itself, Over, cell_names, component_names}
use Rattle.cal_ast.specs.Plain.{IsPlainCell, IsPlainComponent}
use Rattle.cal_ast.specs.Ports.{cell_named, component_named, is_bare, part_in, part_of}
use Rattle.cal_ast.specs.Rules.{Rule, C1, C2, C3, C4, Keeps, KeepsComponent, KeepsRulesUnder, all_rules}
use Rattle.cal_ast.specs.Tree.{Assignment, CellDef, DoneLine, GroupDef, Statement, Component, Design}
use Rattle.cal_ast.specs.Typing.{HasParameters}
use Rattle.cal_ast.specs.Wires.{HasNoLoop}
use Rattle.cal_part.specs.Laws.{RenamedIsPlain, RenamedIsSame, RenamedIsWired, RenamedKeepsRules}
use Rattle.cal_part.specs.RenamedDesign.{IsRenaming, renamed, renamed_cell, renamed_design}
use Rattle.cal_part.specs.SameHierarchy.{AreSamePlaces, IsSameBelow, IsSameCell, IsSameComponent}
use Rattle.cal_part.proofs.LoopLemmas.{no_loop_same}
use Rattle.cal_part.proofs.PlaceLemmas.{LooksAlike, looks_alike}
use Rattle.cal_part.proofs.RuleLemmas.{at_assignment, at_done, at_group, at_statement, widths_kept}

-- ---- names

cell_named-renamed : (rename : Text → Text) (cells : List CellDef) (name : Text) → cell_named (map (renamed_cell rename) cells) name ≡ option_map (renamed_cell rename) (cell_named cells name)
cell_named-renamed rename [] name = refl
cell_named-renamed rename (x ∷ cells) name = by (bytes_eq x.name name) (cell_named-renamed rename cells name)
  where
    by : (b : Bool) → cell_named (map (renamed_cell rename) cells) name ≡ option_map (renamed_cell rename) (cell_named cells name)
        → (if b then Some (renamed_cell rename x) else cell_named (map (renamed_cell rename) cells) name) ≡ option_map (renamed_cell rename) (if b then Some x else cell_named cells name)
    by true later = refl
    by false later = later

cell_names-renamed : (rename : Text → Text) (cells : List CellDef) → cell_names (map (renamed_cell rename) cells) ≡ cell_names cells
cell_names-renamed rename [] = refl
cell_names-renamed rename (x ∷ cells) = ap (λ (names : List Text). x.name ∷ names) (cell_names-renamed rename cells)

-- the name of a cell that is a primitive's, and of one that is not
kept_name : (rename : Text → Text) (cell : CellDef) → is_primitive cell.made ≡ true → (renamed_cell rename cell).made ≡ cell.made
kept_name rename cell is = ap (λ (b : Bool). if b then cell.made else rename cell.made) is

new_name : (rename : Text → Text) (cell : CellDef) → is_primitive cell.made ≡ false → (renamed_cell rename cell).made ≡ rename cell.made
new_name rename cell is = ap (λ (b : Bool). if b then cell.made else rename cell.made) is

component_name : (design : Design) (c : Component) → Contains design c → Contains (component_names design) c.name
component_name design c has = Contains-map (λ (x : Component). x.name) design c has

module _ (design : Design) (rename : Text → Text) (renaming : IsRenaming design rename) where
  -- a component is found by its new name
  component_named-renamed : (among : Design) → ((x : Component) → Contains among x → Contains design x) → (name : Text) → Contains (component_names design) name → (c : Component) → component_named among name ≡ Some c
      → component_named (renamed_design rename among) (rename name) ≡ Some (renamed rename c)
  component_named-renamed [] all name named c found = absurd (cc)
  component_named-renamed (x ∷ among) all name named c found =
      by (bytes_eq x.name name) refl (component_named-renamed among (λ y has. all y (Contains-there x among y has)) name named c) found
    where
      test : (b : Bool) → bytes_eq x.name name ≡ b → bytes_eq (rename x.name) (rename name) ≡ b
      test true e = (bytes_eq-Decides (rename x.name) (rename name)).1 (ap rename ((bytes_eq-Decides x.name name).0 e))
      test false e = apart (bytes_eq (rename x.name) (rename name)) refl
        where
          apart : (b : Bool) → bytes_eq (rename x.name) (rename name) ≡ b → b ≡ false
          apart false is = refl
          apart true is =
              let one = renaming.one_to_one x.name name (component_name design x (all x (Contains-here x among))) named ((bytes_eq-Decides (rename x.name) (rename name)).0 is) in
              let yes' = (bytes_eq-Decides x.name name).1 one in
              absurd (cc)

      by : (b : Bool) → bytes_eq x.name name ≡ b → (component_named among name ≡ Some c → component_named (renamed_design rename among) (rename name) ≡ Some (renamed rename c)) → (if b then Some x else component_named among name) ≡ Some c
          → component_named (renamed_design rename (x ∷ among)) (rename name) ≡ Some (renamed rename c)
      by true e later same =
          ap (λ (b : Bool). if b then Some (renamed rename x) else component_named (renamed_design rename among) (rename name)) (test true e) ∙ ap (option_map (renamed rename)) same
      by false e later same =
          ap (λ (b : Bool). if b then Some (renamed rename x) else component_named (renamed_design rename among) (rename name)) (test false e) ∙ later same

  -- the name of a cell that is made of a component
  made_name : (cell : CellDef) (part : Component) → part_of design cell ≡ Some part → Contains (component_names design) cell.made
  made_name cell part is =
      let found = component_named-Some design cell.made part (part_of-Some design cell part is).1 in
      subst (λ (name : Text). Contains (component_names design) name) found.1 (component_name design part found.0)

  -- such a cell is made of the renamed component
  part_of-renamed : (cell : CellDef) (part : Component) → part_of design cell ≡ Some part → part_of (renamed_design rename design) (renamed_cell rename cell) ≡ Some (renamed rename part)
  part_of-renamed cell part is =
      let found = part_of-Some design cell part is in
      let named = made_name cell part is in
      ap (λ (name : Text). if is_primitive name then None else component_named (renamed_design rename design) name) (new_name rename cell found.0)
      ∙ ap (λ (b : Bool). if b then None else component_named (renamed_design rename design) (rename cell.made)) (renaming.no_primitive cell.made named)
      ∙ component_named-renamed design (λ x has. has) cell.made named part found.1

  part_of-primitive : (cell : CellDef) → is_primitive cell.made ≡ true → part_of (renamed_design rename design) (renamed_cell rename cell) ≡ None
  part_of-primitive cell is =
      ap (λ (name : Text). if is_primitive name then None else component_named (renamed_design rename design) name) (kept_name rename cell is)
      ∙ ap (λ (b : Bool). if b then None else component_named (renamed_design rename design) cell.made) is

  -- ---- cells that are known

  known_same : (c : Component) (cell : CellDef) → IsKnownCell design c cell → IsSameCell cell (renamed_cell rename cell)
  known_same c cell known = record { name = refl; params = refl; external = refl; made = by known }
    where
      by : IsKnownCell design c cell → (cell.made ≡ (renamed_cell rename cell).made) ⊎ ((is_primitive cell.made ≡ false) × (is_primitive (renamed_cell rename cell).made ≡ false))
      by (inl primitive) = inl (sym (kept_name rename cell primitive))
      by (inr (part, made, none)) =
          let no' = (part_of-Some design cell part made).0 in
          inr (no', ap is_primitive (new_name rename cell no') ∙ renaming.no_primitive cell.made (made_name cell part made))

  known_part : (c : Component) (cell : CellDef) → IsKnownCell design c cell → part_of (renamed_design rename design) (renamed_cell rename cell) ≡ option_map (renamed rename) (part_of design cell)
  known_part c cell (inl primitive) =
      part_of-primitive cell primitive ∙ sym (ap (λ (b : Bool). option_map (renamed rename) (if b then None else component_named design cell.made)) primitive)
  known_part c cell (inr (part, made, none)) = part_of-renamed cell part made ∙ sym (ap (option_map (renamed rename)) made)

  module _ (naming : GroupNaming) (keeps : KeepsRulesUnder naming design) where
    known : (c : Component) → Contains design c → (cell : CellDef) → Contains c.cells cell → IsKnownCell design c cell
    known c in_design cell has =
        let n = place_of design c in_design in
        let k = place_of c.cells cell has in
        known_cell naming design keeps n.0 c n.1 k.0 cell k.1

    -- ---- hierarchies

    part_in-renamed : (c : Component) → Contains design c → (cell : Text) → part_in (renamed_design rename design) (renamed rename c) cell ≡ option_map (renamed rename) (part_in design c cell)
    part_in-renamed c in_design cell =
        ap (option_and_then (part_of (renamed_design rename design))) (cell_named-renamed rename c.cells cell) ∙ by (cell_named c.cells cell) refl
      where
        by : (o : Option CellDef) → cell_named c.cells cell ≡ o → option_and_then (part_of (renamed_design rename design)) (option_map (renamed_cell rename) o) ≡ option_map (renamed rename) (option_and_then (part_of design) o)
        by None found = refl
        by (Some x) found = known_part c x (known c in_design x (cell_named-Some c.cells cell x found).0)

    instance_renamed : (path : Path) (c : Component) → Contains design c → component_at (renamed_design rename design) (renamed rename c) path ≡ option_map (renamed rename) (component_at design c path)
    instance_renamed [] c in_design = refl
    instance_renamed (cell ∷ path) c in_design =
        ap (option_and_then (λ (x : Component). component_at (renamed_design rename design) x path)) (part_in-renamed c in_design cell)
        ∙ by (λ part has. instance_renamed path part has) (part_in design c cell) refl
      where
        by : ((part : Component) → Contains design part → component_at (renamed_design rename design) (renamed rename part) path ≡ option_map (renamed rename) (component_at design part path)) → (o : Option Component) → part_in design c cell ≡ o
            → option_and_then (λ (x : Component). component_at (renamed_design rename design) x path) (option_map (renamed rename) o) ≡ option_map (renamed rename) (option_and_then (λ (x : Component). component_at design x path) o)
        by below None is = refl
        by below (Some part) is = below part (part_in-design design c cell part is)

    same_cells : (c : Component) (cells : List CellDef) → ((cell : CellDef) → Contains cells cell → IsKnownCell design c cell) → AllZip IsSameCell cells (map (renamed_cell rename) cells)
    same_cells c [] all = tt
    same_cells c (cell ∷ cells) all = (known_same c cell (all cell (Contains-here cell cells)), same_cells c cells (λ x has. all x (Contains-there cell cells x has)))

    same_component : (c : Component) → Contains design c → IsSameComponent c (renamed rename c)
    same_component c in_design = record { ins = refl; outs = refl; cells = same_cells c c.cells (known c in_design); groups = refl; sets = refl; control = refl }

    pub renamed_same : (c : Component) → Contains design c → IsSameBelow design c (renamed_design rename design) (renamed rename c)
    renamed_same c in_design path =
        subst (AreSamePlaces (component_at design c path)) (sym (instance_renamed path c in_design)) (by (component_at design c path) (λ x at. component_at-design design c path x in_design at))
      where
        by : (o : Option Component) → ((x : Component) → o ≡ Some x → Contains design x) → AreSamePlaces o (option_map (renamed rename) o)
        by None all = tt
        by (Some x) all = same_component x (all x refl)

-- ---- items

abbrev renamed_item : (Text → Text) → Item → Item
renamed_item rename (TheCell before cell) = TheCell (map (renamed_cell rename) before) (renamed_cell rename cell)
renamed_item rename item = item

module _ (rename : Text → Text) where
  renamed_cells : (before cells : List CellDef) → map (renamed_item rename) (each_after TheCell before cells) ≡ each_after TheCell (map (renamed_cell rename) before) (map (renamed_cell rename) cells)
  renamed_cells before [] = refl
  renamed_cells before (cell ∷ cells) =
      ap (λ (items : List Item). TheCell (map (renamed_cell rename) before) (renamed_cell rename cell) ∷ items)
      (renamed_cells (before ++ cell ∷ []) cells ∙ ap (λ (xs : List CellDef). each_after TheCell xs (map (renamed_cell rename) cells)) (map-append (renamed_cell rename) before (cell ∷ [])))

  kept_sets : (sets : List Assignment) → map (renamed_item rename) (map TheAssignment sets) ≡ map TheAssignment sets
  kept_sets [] = refl
  kept_sets (a ∷ sets) = ap (λ (items : List Item). TheAssignment a ∷ items) (kept_sets sets)

  kept_statements : (statements : List Statement) → map (renamed_item rename) (map TheStatement statements) ≡ map TheStatement statements
  kept_statements [] = refl
  kept_statements (s ∷ statements) = ap (λ (items : List Item). TheStatement s ∷ items) (kept_statements statements)

  kept_dones : (g : GroupDef) (before dones : List DoneLine) → map (renamed_item rename) (each_after (TheDone g) before dones) ≡ each_after (TheDone g) before dones
  kept_dones g before [] = refl
  kept_dones g before (line ∷ dones) = ap (λ (items : List Item). TheDone g before line ∷ items) (kept_dones g (before ++ line ∷ []) dones)

  kept_group : (before : List GroupDef) (g : GroupDef) → map (renamed_item rename) (group_items before g) ≡ group_items before g
  kept_group before g =
      map-append (renamed_item rename) (TheGroup before g ∷ map TheAssignment g.sets) (each (TheDone g) g.dones)
      ∙ ap₂ (λ (sets dones : List Item). (TheGroup before g ∷ sets) ++ dones) (kept_sets g.sets) (kept_dones g [] g.dones)

  kept_groups : (before gs : List GroupDef) → map (renamed_item rename) (flat_map (λ (items : List Item). items) (each_after group_items before gs)) ≡ flat_map (λ (items : List Item). items) (each_after group_items before gs)
  kept_groups before [] = refl
  kept_groups before (g ∷ gs) =
      map-append (renamed_item rename) (group_items before g) (flat_map (λ (items : List Item). items) (each_after group_items (before ++ g ∷ []) gs))
      ∙ ap₂ (λ (first rest : List Item). first ++ rest) (kept_group before g) (kept_groups (before ++ g ∷ []) gs)

  items_renamed : (c : Component) → map (renamed_item rename) (items_of c) ≡ items_of (renamed rename c)
  items_renamed c =
      let cells = TheSignature ∷ each TheCell c.cells in
      let groups = flat_map (λ (items : List Item). items) (each group_items c.groups) in
      let sets = map TheAssignment c.sets in
      let statements = map TheStatement (control_statements c.control) in
      map-append (renamed_item rename) ((cells ++ groups) ++ sets) statements
      ∙ ap₂ (λ (before after : List Item). before ++ after)
      (map-append (renamed_item rename) (cells ++ groups) sets
      ∙ ap₂ (λ (before after : List Item). before ++ after)
      (map-append (renamed_item rename) cells groups
      ∙ ap₂ (λ (before after : List Item). (TheSignature ∷ before) ++ after) (renamed_cells [] c.cells) (kept_groups [] c.groups)) (kept_sets c.sets)) (kept_statements (control_statements c.control))

-- ---- rules

module _ (design : Design) (rename : Text → Text) (renaming : IsRenaming design rename) (naming : GroupNaming) (keeps : KeepsRulesUnder naming design) where
  -- what reaches a new name reached the old one
  reaches_before : (name : Text) → Contains (component_names design) name → (d : Component) → Involves (renamed_design rename design) (rename name) d → (c : Component) → Contains design c → renamed rename c ≡ d → Involves design name c
  reaches_before name named d (Itself x is) c in_design same =
      Itself c (renaming.one_to_one c.name name (component_name design c in_design) named (ap (λ (y : Component). y.name) same ∙ is))
  reaches_before name named d (Over x part cell has made rest) c in_design same =
      let there : Contains (map (renamed_cell rename) c.cells) cell = subst (λ (y : Component). Contains y.cells cell) (sym same) has in
      let before = Contains-from_map (renamed_cell rename) c.cells cell there in
      let is = sym (known_part design rename renaming c before.0 (known design rename renaming naming keeps c in_design before.0 before.1)) ∙ ap (part_of (renamed_design rename design)) before.2 ∙ made in
      let q = some_found (renamed rename) (part_of design before.0) part is in
      Over c q.0 before.0 before.1 q.1 (reaches_before name named part rest q.0 (component_named-Some design before.0.made q.0 (part_of-Some design before.0 q.0 q.1).1).0 q.2)

  module _ (n : ℕ) (c : Component) (at : slice_get design n ≡ Some c) where
    in_design : Contains design c
    in_design = Contains-at design n c at

    like : LooksAlike design c (renamed_design rename design) (renamed rename c)
    like = looks_alike design (renamed_design rename design) c (renamed rename c) (renamed_same design rename renaming naming keeps c in_design)

    new_names_kept : HasNewNames (take n design) c → HasNewNames (take n (renamed_design rename design)) (renamed rename c)
    new_names_kept h = record {
      no_primitive = renaming.no_primitive c.name (component_name design c in_design);
      new = λ there.
          let among = subst (λ (before : Design). Contains (component_names before) (rename c.name)) (take-map (renamed rename) n design) there in
          let e = Contains-from_map (λ (x : Component). x.name) (map (renamed rename) (take n design)) (rename c.name) among in
          let x = Contains-from_map (renamed rename) (take n design) e.0 e.1 in
          let before : Contains design x.0 = subst (λ (cs : Design). Contains cs x.0) (take-append-drop n design) (Contains-append_left (take n design) (drop n design) x.0 x.1) in
          let same = renaming.one_to_one x.0.name c.name (component_name design x.0 before) (component_name design c in_design) (ap (λ (y : Component). y.name) x.2 ∙ e.2) in
          h.new (subst (λ (name : Text). Contains (component_names (take n design)) name) same (component_name (take n design) x.0 x.1));
      ports = h.ports;
    }

    new_cell_kept : (before : List CellDef) (cell : CellDef) → IsNewCell c before cell → IsNewCell (renamed rename c) (map (renamed_cell rename) before) (renamed_cell rename cell)
    new_cell_kept before cell h = (λ there. h.0 (subst (λ (names : List Text). Contains names cell.name) (cell_names-renamed rename before) there), h.1)

    known_cell_kept : (cell : CellDef) → IsKnownCell design c cell → IsKnownCell (renamed_design rename design) (renamed rename c) (renamed_cell rename cell)
    known_cell_kept cell (inl primitive) = inl (ap is_primitive (kept_name rename cell primitive) ∙ primitive)
    known_cell_kept cell (inr (part, made, none)) = inr (
      renamed rename part,
      part_of-renamed design rename renaming cell part made,
      λ reaches.
          let found = component_named-Some design cell.made part (part_of-Some design cell part made).1 in
          none (reaches_before c.name (component_name design c in_design) (renamed rename part) reaches part found.0 refl),
    )

    parameters_kept : (cell : CellDef) → IsKnownCell design c cell → HasParameters cell → HasParameters (renamed_cell rename cell)
    parameters_kept cell (inl primitive) h =
        let same = kept_name rename cell primitive in (
          λ is. subst (λ (name : Text). IsSome (prim_of name cell.params)) (sym same) (h.0 primitive),
          λ is. h.1 (ap is_primitive (sym same) ∙ is),
        )
    parameters_kept cell (inr (part, made, none)) h =
        let unknown = (part_of-Some design cell part made).0 in
        let new' = ap is_primitive (new_name rename cell unknown) ∙ renaming.no_primitive cell.made (made_name design rename renaming cell part made) in (
          λ is. let apart : true ≡ false = sym is ∙ new' in absurd (cc),
          λ is. h.1 unknown,
        )

    -- each rule at each place
    rule_kept : (item : Item) → All (Keeps naming design (take n design) c item) all_rules → (rule : Rule) → Keeps naming design (take n design) c item rule
        → Keeps naming (renamed_design rename design) (take n (renamed_design rename design)) (renamed rename c) (renamed_item rename item) rule
    rule_kept TheSignature all C1 h = new_names_kept h
    rule_kept TheSignature all C4 h = widths_kept design c (renamed_design rename design) (renamed rename c) like h
    rule_kept TheSignature all rule h = tt
    rule_kept (TheCell before cell) all C1 h = new_cell_kept before cell h
    rule_kept (TheCell before cell) all C2 h = known_cell_kept cell h
    rule_kept (TheCell before cell) all C3 h = parameters_kept cell (all 1 C1 (omega arith)) h
    rule_kept (TheCell before cell) all rule h = tt
    rule_kept (TheGroup before g) all rule h = at_group design c (renamed_design rename design) (renamed rename c) like naming before g rule h
    rule_kept (TheAssignment a) all rule h = at_assignment design c (renamed_design rename design) (renamed rename c) like a rule h
    rule_kept (TheDone g before line) all rule h = at_done design c (renamed_design rename design) (renamed rename c) like g before line rule h
    rule_kept (TheStatement s) all rule h = at_statement design c (renamed_design rename design) (renamed rename c) like s rule h

    item_kept : (item : Item) → All (Keeps naming design (take n design) c item) all_rules
        → All (Keeps naming (renamed_design rename design) (take n (renamed_design rename design)) (renamed rename c) (renamed_item rename item)) all_rules
    item_kept item all =
        All-weaker (Keeps naming design (take n design) c item) (Keeps naming (renamed_design rename design) (take n (renamed_design rename design)) (renamed rename c) (renamed_item rename item)) (rule_kept item all) all_rules all

    component_kept : KeepsComponent naming (renamed_design rename design) (take n (renamed_design rename design)) (renamed rename c)
    component_kept k item is =
        let found = some_found (renamed_item rename) (slice_get (items_of c) k) item (sym (slice_get-map (renamed_item rename) (items_of c) k) ∙ ap (λ (items : List Item). slice_get items k) (items_renamed rename c) ∙ is) in
        subst (λ (x : Item). All (Keeps naming (renamed_design rename design) (take n (renamed_design rename design)) (renamed rename c) x) all_rules) found.2
        (item_kept found.0 (keeps n c at k found.0 found.1))

-- a component of the renamed design, before it got its name
renamed_at : (design : Design) (rename : Text → Text) (n : ℕ) (d : Component) → slice_get (renamed_design rename design) n ≡ Some d → (c : Component) × (slice_get design n ≡ Some c) × (renamed rename c ≡ d)
renamed_at design rename n d at = some_found (renamed rename) (slice_get design n) d (sym (slice_get-map (renamed rename) design n) ∙ at)

-- ---- the laws

pub renamed_keeps_rules : RenamedKeepsRules
renamed_keeps_rules design rename renaming rules = record {
  keeps = λ n d at.
      let q = renamed_at design rename n d at in
      subst (λ (x : Component). KeepsComponent Unreserved (renamed_design rename design) (take n (renamed_design rename design)) x) q.2
      (component_kept design rename renaming Unreserved rules.keeps n q.0 q.1);
  no_loop = λ n d at.
      let q = renamed_at design rename n d at in
      subst (λ (x : Component). HasNoLoop (renamed_design rename design) x) q.2
      (no_loop_same design (renamed_design rename design) q.0 (renamed rename q.0) (renamed_same design rename renaming Unreserved rules.keeps q.0 (Contains-at design n q.0 q.1)) (rules.no_loop n q.0 q.1));
}

pub renamed_is_same : RenamedIsSame
renamed_is_same design rename renaming rules c has = renamed_same design rename renaming Unreserved rules.keeps c has

pub renamed_is_wired : RenamedIsWired
renamed_is_wired design rename renaming wired = record {
  bare = λ d has. (let q = Contains-from_map (renamed rename) design d has in ap is_bare (sym q.2) ∙ wired.bare q.0 q.1);
  no_groups = λ d has. (let q = Contains-from_map (renamed rename) design d has in ap (λ (x : Component). x.groups) (sym q.2) ∙ wired.no_groups q.0 q.1);
  rules = renamed_keeps_rules design rename renaming wired.rules;
}

plain_component : (rename : Text → Text) (c : Component) → IsPlainComponent c → IsPlainComponent (renamed rename c)
plain_component rename c plain = record { ins = plain.ins; outs = plain.outs; cells = All-map IsPlainCell (renamed_cell rename) c.cells plain.cells }

pub renamed_is_plain : RenamedIsPlain
renamed_is_plain design rename plain =
    All-map IsPlainComponent (renamed rename) design (All-weaker IsPlainComponent (λ c. IsPlainComponent (renamed rename c)) (plain_component rename) design plain)
