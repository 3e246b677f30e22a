-- Designs to which lowering adds: each component is bare, with the ports, cells and groups of its source, and each instance of the source is one of the answer.
use Rattle.std.proofs.Common.{◌≡◌, ◌≢◌, List, [], ◌∷◌, ◌++◌, map, Bool, true, false, Option, Some, None, cond, refl, sym, ap, ap₂, inl, inr, subst, ◌∙◌}
use Rattle.std.specs.Prelude.{Contains, find, bytes_eq, codes, option_map, option_and_then, if◌then◌else◌}
use Rattle.std.proofs.lemmas.Bool.{cases_Bool, both_ways, cond-true, cond-false}
use Rattle.std.proofs.lemmas.List.{append-nil}
use Rattle.std.proofs.lemmas.Slice.Eq.{bytes_eq-Decides}
use Rattle.hw_names.specs.Name.{Text, Path, IsPlain}
use Rattle.hw_prims.specs.Table.{is_primitive}
use Rattle.hw_prims.specs.declared.prim.Primitive.{Primitive}
use Rattle.cal_ast.proofs.ListLemmas.{find-Some, Contains-none}
use Rattle.cal_ast.proofs.LookupLemmas.{bare_inputs, bare_outputs, primitive_of-Some}
use Rattle.cal_ast.proofs.SideLemmas.{some_found}
use Rattle.cal_ast.specs.Instances.{component_at}
use Rattle.cal_ast.specs.Naming.{IsReserved}
use Rattle.cal_ast.specs.Ports.{is_bare, inputs_in, outputs_in, cell_named, component_named, primitive_of, part_of, primitive_in, part_in, made_inputs, made_outputs}
use Rattle.cal_ast.specs.Ports.{Input, SidedPin, both_sides, ports_at, port_named, port_in}
use Rattle.cal_ast.specs.Sides.{driven_side, IsDestination, IsSource}
use Rattle.cal_ast.specs.Tree.{port_of, Assignment, CellDef, Absent, Component, Design}
use Rattle.cal_lower.specs.inside.Added.{Additions, with_added, extended}
use Rattle.cal_lower.specs.inside.Lowered.{done_set}
use Rattle.cal_lower.proofs.ListLemmas.{Each}

-- ---- what is asked of what is added

-- each cell is one of a primitive
abbrev pub AreOfPrimitives : Additions → Type 0
AreOfPrimitives add = (c : Component) (cell : CellDef) → Contains (add.cells c) cell → (prim : Primitive) × (primitive_of cell ≡ Some prim)

-- no two cells have one name
abbrev pub CellsApart : List CellDef → Type 0
CellsApart [] = Unit {0}
CellsApart (x ∷ xs) = Each (λ (y : CellDef). x.name ≢ y.name) xs × CellsApart xs

-- it drives a port of a cell with a name of lowering's
pub record DrivesAdded (a : Assignment) : Type 0 where
  pub cell : Text
  pub pin : Text
  pub drives : a.dst ≡ port_of cell pin
  pub reserved : IsReserved cell
  pub plain : IsPlain pin

-- the names of cells are lowering's and apart, and only ports of such cells are driven
pub record AreNamed (add : Additions) (c : Component) : Type 0 where
  pub reserved : Each (λ (cell : CellDef). IsReserved cell.name) (add.cells c)
  pub apart : CellsApart (add.cells c)
  pub driven : Each DrivesAdded (add.sets c)

-- ---- what is found in lists

pub find_left : {X : Type 0} (test : X → Bool) (xs ys : List X) (x : X) → find test xs ≡ Some x → find test (xs ++ ys) ≡ Some x
find_left test [] ys x e = absurd (cc)
find_left test (y ∷ xs) ys x e = by (test y) e (find_left test xs ys x)
  where
    by : (b : Bool) → cond b (Some y) (find test xs) ≡ Some x → (find test xs ≡ Some x → find test (xs ++ ys) ≡ Some x)
        → cond b (Some y) (find test (xs ++ ys)) ≡ Some x
    by true same later = same
    by false same later = later same

pub find_right : {X : Type 0} (test : X → Bool) (xs ys : List X) → find test xs ≡ None → find test (xs ++ ys) ≡ find test ys
find_right test [] ys e = refl
find_right test (y ∷ xs) ys e = by (test y) e (find_right test xs ys)
  where
    by : (b : Bool) → cond b (Some y) (find test xs) ≡ None → (find test xs ≡ None → find test (xs ++ ys) ≡ find test ys)
        → cond b (Some y) (find test (xs ++ ys)) ≡ find test ys
    by true same later = absurd (cc)
    by false same later = later same

pub find_none : {X : Type 0} (test : X → Bool) (xs : List X) → ((x : X) → Contains xs x → test x ≡ false) → find test xs ≡ None
find_none {X} test xs none = by (find test xs) refl
  where
    by : (o : Option X) → find test xs ≡ o → find test xs ≡ None
    by None e = e
    by (Some x) e = let r = find-Some test xs x e in absurd (both_ways (test x) (none x r.0) r.1)

-- ---- places of ports

module _ (source : Design) (c : Component) where
  -- the place of a port: the component itself, or a cell that it has
  abbrev pub HasPlace : Option Text → Type 0
  HasPlace None = Unit {0}
  HasPlace (Some name) = (cell : CellDef) × (cell_named c.cells name ≡ Some cell)

module _ (source : Design) where
  -- a port that is found has a place
  pub place_found : (design : Design) (c : Component) (cell : Option Text) (pin : Text) (q : SidedPin) → port_in design c (record { cell = cell; pin = pin }) ≡ Some q → HasPlace source c cell
  place_found design c None pin q found = tt
  place_found design c (Some name) pin q found = by (cell_named c.cells name) refl
    where
      by : (o : Option CellDef) → cell_named c.cells name ≡ o → HasPlace source c (Some name)
      by (Some cell) e = (cell, e)
      by None e =
          let ports : Option CellDef → Option SidedPin =
          λ o. port_named (both_sides (made_inputs (option_and_then primitive_of o) (option_and_then (part_of design) o))
          (made_outputs (option_and_then primitive_of o) (option_and_then (part_of design) o))) pin in
          let none : None ≡ Some q = sym (ap ports e) ∙ found in
          absurd (cc)

-- ---- a component

module _ (add : Additions) (c : Component) where
  abbrev pub without_control : Component
  without_control = record c { control = Absent }

  pub extended_bare : is_bare c ≡ true → extended add c ≡ without_control
  extended_bare bare = cond-true (is_bare c) without_control (with_added add c) bare

  pub extended_full : is_bare c ≡ false → extended add c ≡ with_added add c
  extended_full full = cond-false (is_bare c) without_control (with_added add c) full

  pub extended_is_bare : is_bare (extended add c) ≡ true
  extended_is_bare = elim (cases_Bool (is_bare c)) [
    | inl bare ↦ ap (λ (d : Component). is_bare d) (extended_bare bare)
    | inr full ↦ ap (λ (d : Component). is_bare d) (extended_full full)
  ]

  pub extended_name : (extended add c).name ≡ c.name
  extended_name = elim (cases_Bool (is_bare c)) [
    | inl bare ↦ ap (λ (d : Component). d.name) (extended_bare bare)
    | inr full ↦ ap (λ (d : Component). d.name) (extended_full full)
  ]

  pub extended_groups : (extended add c).groups ≡ c.groups
  extended_groups = elim (cases_Bool (is_bare c)) [
    | inl bare ↦ ap (λ (d : Component). d.groups) (extended_bare bare)
    | inr full ↦ ap (λ (d : Component). d.groups) (extended_full full)
  ]

  pub extended_ins : (extended add c).ins ≡ inputs_in c
  extended_ins = elim (cases_Bool (is_bare c)) [
    | inl bare ↦ ap (λ (d : Component). d.ins) (extended_bare bare) ∙ sym (bare_inputs c bare)
    | inr full ↦ ap (λ (d : Component). d.ins) (extended_full full)
  ]

  pub extended_outs : (extended add c).outs ≡ outputs_in c
  extended_outs = elim (cases_Bool (is_bare c)) [
    | inl bare ↦ ap (λ (d : Component). d.outs) (extended_bare bare) ∙ sym (bare_outputs c bare)
    | inr full ↦ ap (λ (d : Component). d.outs) (extended_full full)
  ]

  pub extended_inputs : inputs_in (extended add c) ≡ inputs_in c
  extended_inputs = bare_inputs (extended add c) extended_is_bare ∙ extended_ins

  pub extended_outputs : outputs_in (extended add c) ≡ outputs_in c
  extended_outputs = bare_outputs (extended add c) extended_is_bare ∙ extended_outs

  pub extended_absent : (extended add c).control ≡ Absent
  extended_absent = elim (cases_Bool (is_bare c)) [
    | inl bare ↦ ap (λ (d : Component). d.control) (extended_bare bare)
    | inr full ↦ ap (λ (d : Component). d.control) (extended_full full)
  ]

  -- the continuous assignments of one with control
  abbrev pub lasting_sets : List Assignment
  lasting_sets = c.sets ++ add.sets c ++ done_set ∷ []

  pub extended_sets : is_bare c ≡ false → (extended add c).sets ≡ lasting_sets
  extended_sets full = ap (λ (d : Component). d.sets) (extended_full full)

  -- the further cells
  abbrev pub added_cells : List CellDef
  added_cells = if is_bare c then [] else add.cells c

  pub extended_cells : (extended add c).cells ≡ c.cells ++ added_cells
  extended_cells = elim (cases_Bool (is_bare c)) [
    | inl bare ↦ ap (λ (d : Component). d.cells) (extended_bare bare) ∙ sym (append-nil c.cells)
        ∙ sym (ap (λ (cells : List CellDef). c.cells ++ cells) (cond-true (is_bare c) [] (add.cells c) bare))
    | inr full ↦ ap (λ (d : Component). d.cells) (extended_full full)
        ∙ sym (ap (λ (cells : List CellDef). c.cells ++ cells) (cond-false (is_bare c) [] (add.cells c) full))
  ]

  -- a cell of the source is found in the answer
  pub cell_kept : (name : Text) (cell : CellDef) → cell_named c.cells name ≡ Some cell → cell_named (extended add c).cells name ≡ Some cell
  cell_kept name cell found = ap (λ cells. cell_named cells name) extended_cells ∙ find_left (λ (x : CellDef). bytes_eq x.name name) c.cells added_cells cell found

  -- another is an added one
  pub cell_other : (name : Text) → cell_named c.cells name ≡ None → cell_named (extended add c).cells name ≡ cell_named added_cells name
  cell_other name none = ap (λ cells. cell_named cells name) extended_cells ∙ find_right (λ (x : CellDef). bytes_eq x.name name) c.cells added_cells none

  pub primitive_kept : (name : Text) (cell : CellDef) → cell_named c.cells name ≡ Some cell → primitive_in (extended add c) name ≡ primitive_in c name
  primitive_kept name cell found = ap (option_and_then primitive_of) (cell_kept name cell found ∙ sym found)

-- what may be driven in the answer: what may be in the source, the done that control gives, or a cell that is no cell of the source
pub data IsDriven (source : Design) (c : Component) (cell : Option Text) (pin : Text) : Type 0 where
  OfSource : IsDestination source c (record { cell = cell; pin = pin }) → IsDriven source c cell pin
  OfControl : is_bare c ≡ false → cell ≡ None → pin ≡ codes "done" → IsDriven source c cell pin
  OfAdded : (name : Text) → is_bare c ≡ false → cell ≡ Some name → cell_named c.cells name ≡ None → IsDriven source c cell pin

-- ---- the design

abbrev pub answer : Additions → Design → Design
answer add source = map (extended add) source

module _ (add : Additions) (primitive : AreOfPrimitives add) (source : Design) where
  abbrev low : Design
  low = answer add source

  -- an added cell is of a primitive, so of no component
  pub added_made : (c : Component) (cell : CellDef) → Contains (added_cells add c) cell → (prim : Primitive) × (primitive_of cell ≡ Some prim)
  added_made c cell has = elim (cases_Bool (is_bare c)) [
    | inl bare ↦ absurd (Contains-none cell (subst (λ (cells : List CellDef). Contains cells cell) (cond-true (is_bare c) [] (add.cells c) bare) has))
    | inr full ↦ primitive c cell (subst (λ (cells : List CellDef). Contains cells cell) (cond-false (is_bare c) [] (add.cells c) full) has)
  ]

  pub added_is_primitive : (c : Component) (cell : CellDef) → Contains (added_cells add c) cell → is_primitive cell.made ≡ true
  added_is_primitive c cell has = let made = added_made c cell has in primitive_of-Some cell made.0 made.1

  component_named-extended : (cs : Design) (name : Text) → component_named (map (extended add) cs) name ≡ option_map (extended add) (component_named cs name)
  component_named-extended [] name = refl
  component_named-extended (c ∷ cs) name =
      ap (λ (n : Text). cond (bytes_eq n name) (Some (extended add c)) (component_named (map (extended add) cs) name)) (extended_name add c)
      ∙ ap (λ (o : Option Component). cond (bytes_eq c.name name) (Some (extended add c)) o) (component_named-extended cs name)
      ∙ out (bytes_eq c.name name) (component_named cs name)
    where
      out : (b : Bool) (o : Option Component) → cond b (Some (extended add c)) (option_map (extended add) o) ≡ option_map (extended add) (cond b (Some c) o)
      out true o = refl
      out false o = refl

  pub part_of-extended : (cell : CellDef) → part_of low cell ≡ option_map (extended add) (part_of source cell)
  part_of-extended cell =
      ap (λ (o : Option Component). if is_primitive cell.made then None else o) (component_named-extended source cell.made)
      ∙ out (is_primitive cell.made) (component_named source cell.made)
    where
      out : (b : Bool) (o : Option Component) → (if b then None else option_map (extended add) o) ≡ option_map (extended add) (if b then None else o)
      out true o = refl
      out false o = refl

  module _ (c : Component) where
    added_no_part : (name : Text) → option_and_then (part_of low) (cell_named (added_cells add c) name) ≡ None
    added_no_part name = by (cell_named (added_cells add c) name) refl
      where
        by : (o : Option CellDef) → cell_named (added_cells add c) name ≡ o → option_and_then (part_of low) o ≡ None
        by None e = refl
        by (Some cell) e =
            let has : Contains (added_cells add c) cell = (find-Some (λ (x : CellDef). bytes_eq x.name name) (added_cells add c) cell e).0 in
            cond-true (is_primitive cell.made) None (component_named low cell.made) (added_is_primitive c cell has)

    pub part_kept : (name : Text) → part_in low (extended add c) name ≡ option_map (extended add) (part_in source c name)
    part_kept name = by (cell_named c.cells name) refl
      where
        by : (o : Option CellDef) → cell_named c.cells name ≡ o → part_in low (extended add c) name ≡ option_map (extended add) (part_in source c name)
        by (Some cell) e =
            ap (option_and_then (part_of low)) (cell_kept add c name cell e) ∙ part_of-extended cell
            ∙ sym (ap (λ (o : Option CellDef). option_map (extended add) (option_and_then (part_of source) o)) e)
        by None e =
            ap (option_and_then (part_of low)) (cell_other add c name e) ∙ added_no_part name
            ∙ sym (ap (λ (o : Option CellDef). option_map (extended add) (option_and_then (part_of source) o)) e)

    made_inputs-extended : (o : Option Primitive) (q : Option Component) → made_inputs o (option_map (extended add) q) ≡ made_inputs o q
    made_inputs-extended (Some prim) q = refl
    made_inputs-extended None (Some part) = extended_inputs add part
    made_inputs-extended None None = refl

    made_outputs-extended : (o : Option Primitive) (q : Option Component) → made_outputs o (option_map (extended add) q) ≡ made_outputs o q
    made_outputs-extended (Some prim) q = refl
    made_outputs-extended None (Some part) = extended_outputs add part
    made_outputs-extended None None = refl

    pub ports_kept : (cell : Option Text) → HasPlace source c cell → ports_at low (extended add c) cell ≡ ports_at source c cell
    ports_kept None has = ap₂ both_sides (extended_inputs add c) (extended_outputs add c)
    ports_kept (Some name) has =
        let prim : primitive_in (extended add c) name ≡ primitive_in c name = primitive_kept add c name has.0 has.1 in
        let part : part_in low (extended add c) name ≡ option_map (extended add) (part_in source c name) = part_kept name in
        ap₂ both_sides
        (ap₂ made_inputs prim part ∙ made_inputs-extended (primitive_in c name) (part_in source c name))
        (ap₂ made_outputs prim part ∙ made_outputs-extended (primitive_in c name) (part_in source c name))

  -- ---- instances

  pub component_at-extended : (c : Component) (path : Path) → component_at low (extended add c) path ≡ option_map (extended add) (component_at source c path)
  component_at-extended c [] = refl
  component_at-extended c (cell ∷ path) =
      ap (option_and_then (λ part. component_at low part path)) (part_kept c cell) ∙ by (λ part. component_at-extended part path) (part_in source c cell)
    where
      by : ((part : Component) → component_at low (extended add part) path ≡ option_map (extended add) (component_at source part path)) → (o : Option Component)
          → option_and_then (λ part. component_at low part path) (option_map (extended add) o)
          ≡ option_map (extended add) (option_and_then (λ part. component_at source part path) o)
      by further None = refl
      by further (Some part) = further part

  -- an instance of the source is one of the answer, and the other way round
  pub instance_kept : (top c : Component) (path : Path) → component_at source top path ≡ Some c → component_at low (extended add top) path ≡ Some (extended add c)
  instance_kept top c path at = component_at-extended top path ∙ ap (option_map (extended add)) at

  pub instance_of : (top d : Component) (path : Path) → component_at low (extended add top) path ≡ Some d → (c : Component) × (component_at source top path ≡ Some c) × (extended add c ≡ d)
  instance_of top d path at = some_found (extended add) (component_at source top path) d (sym (component_at-extended top path) ∙ at)

  -- ---- what may be driven

  module _ (c : Component) where
    pub destination_kept : (cell : Option Text) (pin : Text) → IsDestination source c (record { cell = cell; pin = pin })
        → IsDestination low (extended add c) (record { cell = cell; pin = pin })
    destination_kept cell pin is =
        let q = some_found (λ (x : SidedPin). x.side) (port_in source c (record { cell = cell; pin = pin })) (driven_side cell) is.side in
        record {
          side = ap (λ ports. option_map (λ (x : SidedPin). x.side) (port_named ports pin)) (ports_kept c cell (place_found source source c cell pin q.0 q.1)) ∙ is.side;
          not_done = λ full. absurd (both_ways (is_bare (extended add c)) full (extended_is_bare add c));
        }

    pub source_kept : (cell : Option Text) (pin : Text) → IsSource source c (record { cell = cell; pin = pin })
        → IsSource low (extended add c) (record { cell = cell; pin = pin })
    source_kept cell pin is =
        let q = some_found (λ (x : SidedPin). x.side) (port_in source c (record { cell = cell; pin = pin })) _ is in
        ap (λ ports. option_map (λ (x : SidedPin). x.side) (port_named ports pin)) (ports_kept c cell (place_found source source c cell pin q.0 q.1)) ∙ is

    side_of : (cell : Option Text) (pin : Text) → HasPlace source c cell → IsDestination low (extended add c) (record { cell = cell; pin = pin })
        → option_map (λ (x : SidedPin). x.side) (port_in source c (record { cell = cell; pin = pin })) ≡ Some (driven_side cell)
    side_of cell pin has is = sym (ap (λ ports. option_map (λ (x : SidedPin). x.side) (port_named ports pin)) (ports_kept c cell has)) ∙ is.side

    pub destination_of : (cell : Option Text) (pin : Text) → IsDestination low (extended add c) (record { cell = cell; pin = pin }) → IsDriven source c cell pin
    destination_of None pin is = elim (cases_Bool (is_bare c)) [
      | inl bare ↦ OfSource (record { side = side_of None pin tt is; not_done = λ full. absurd (both_ways (is_bare c) full bare) })
      | inr full ↦ elim (cases_Bool (bytes_eq pin (codes "done"))) [
        | inl same ↦ OfControl full refl ((bytes_eq-Decides pin (codes "done")).0 same)
        | inr other ↦ OfSource (record { side = side_of None pin tt is; not_done = λ full'. other })
      ]
    ]
    destination_of (Some name) pin is = by (cell_named c.cells name) refl
      where
        by : (o : Option CellDef) → cell_named c.cells name ≡ o → IsDriven source c (Some name) pin
        by (Some cell) e = OfSource (record { side = side_of (Some name) pin (cell, e) is; not_done = λ full. refl })
        by None e = elim (cases_Bool (is_bare c)) [
          | inl bare ↦
              let q = some_found (λ (x : SidedPin). x.side) (port_in low (extended add c) (port_of name pin)) Input is.side in
              let there = place_found source low (extended add c) (Some name) pin q.0 q.1 in
              let none : None ≡ Some there.0 = sym e ∙ sym (ap (λ (d : Component). cell_named d.cells name) (extended_bare add c bare)) ∙ there.1 in
              absurd (cc)
          | inr full ↦ OfAdded name full refl e
        ]
