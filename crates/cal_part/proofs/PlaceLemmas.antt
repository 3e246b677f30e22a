-- Hierarchies that are the same but for the names of their components: their instances, cells and ports.
use Rattle.std.proofs.Common.{◌≡◌, ◌⊎◌, inl, inr, List, [], ◌∷◌, ◌++◌, Bool, true, false, Option, Some, None, refl, sym, ap, ap₂, ◌∙◌, subst, subst₂}
use Rattle.std.specs.Prelude.{bytes_eq, codes, if◌then◌else◌, option_and_then, IsSome}
use Rattle.std.specs.List.{AllZip}
use Rattle.hw_names.specs.Name.{Text, Path}
use Rattle.hw_prims.proofs.PortNameLemmas.{unknown_makes_none}
use Rattle.hw_prims.specs.Table.{Pin, is_primitive, prim_of}
use Rattle.hw_prims.specs.declared.prim.Primitive.{Primitive}
use Rattle.cal_ast.specs.Instances.{component_at}
use Rattle.cal_ast.specs.Invoking.{made_go, go_of}
use Rattle.cal_ast.specs.Ports.{SidedPin, is_bare, is_bare_by, with_pin, inputs_in, outputs_in, cell_named, primitive_of, primitive_in, part_in, made_inputs, made_outputs, cell_inputs, cell_outputs, both_sides, ports_at, port_named, port_in}
use Rattle.cal_ast.specs.Tree.{PortName, CellDef, Component, Design}
use Rattle.cal_part.specs.SameHierarchy.{IsSameCell, IsSameComponent, AreSamePlaces, IsSameBelow}
use Rattle.cal_part.proofs.BelowLemmas.{component_at-append}

-- ---- the relation

pub same_cell-refl : (a : CellDef) → IsSameCell a a
same_cell-refl a = record { name = refl; params = refl; external = refl; made = inl refl }

same_cell-sym : (a b : CellDef) → IsSameCell a b → IsSameCell b a
same_cell-sym a b s = record { name = sym s.name; params = sym s.params; external = sym s.external; made = by s.made }
  where
    by : (a.made ≡ b.made) ⊎ ((is_primitive a.made ≡ false) × (is_primitive b.made ≡ false)) → (b.made ≡ a.made) ⊎ ((is_primitive b.made ≡ false) × (is_primitive a.made ≡ false))
    by (inl same) = inl (sym same)
    by (inr (first, second)) = inr (second, first)

same_cell-trans : (a b c : CellDef) → IsSameCell a b → IsSameCell b c → IsSameCell a c
same_cell-trans a b c s r = record { name = s.name ∙ r.name; params = s.params ∙ r.params; external = s.external ∙ r.external; made = by s.made r.made }
  where
    by : (a.made ≡ b.made) ⊎ ((is_primitive a.made ≡ false) × (is_primitive b.made ≡ false)) → (b.made ≡ c.made) ⊎ ((is_primitive b.made ≡ false) × (is_primitive c.made ≡ false))
        → (a.made ≡ c.made) ⊎ ((is_primitive a.made ≡ false) × (is_primitive c.made ≡ false))
    by (inl one) (inl two) = inl (one ∙ two)
    by (inl one) (inr two) = inr (ap is_primitive one ∙ two.0, two.1)
    by (inr one) (inl two) = inr (one.0, ap is_primitive (sym two) ∙ one.1)
    by (inr one) (inr two) = inr (one.0, two.1)

pub same_cells-refl : (cells : List CellDef) → AllZip IsSameCell cells cells
same_cells-refl [] = tt
same_cells-refl (cell ∷ cells) = (same_cell-refl cell, same_cells-refl cells)

same_cells-sym : (xs ys : List CellDef) → AllZip IsSameCell xs ys → AllZip IsSameCell ys xs
same_cells-sym [] [] all = tt
same_cells-sym [] (y ∷ ys) all = absurd all
same_cells-sym (x ∷ xs) [] all = absurd all
same_cells-sym (x ∷ xs) (y ∷ ys) all = (same_cell-sym x y all.0, same_cells-sym xs ys all.1)

same_cells-trans : (xs ys zs : List CellDef) → AllZip IsSameCell xs ys → AllZip IsSameCell ys zs → AllZip IsSameCell xs zs
same_cells-trans [] [] [] first second = tt
same_cells-trans [] [] (z ∷ zs) first second = absurd second
same_cells-trans [] (y ∷ ys) zs first second = absurd first
same_cells-trans (x ∷ xs) [] zs first second = absurd first
same_cells-trans (x ∷ xs) (y ∷ ys) [] first second = absurd second
same_cells-trans (x ∷ xs) (y ∷ ys) (z ∷ zs) first second = (same_cell-trans x y z first.0 second.0, same_cells-trans xs ys zs first.1 second.1)

same_component-refl : (c : Component) → IsSameComponent c c
same_component-refl c = record { ins = refl; outs = refl; cells = same_cells-refl c.cells; groups = refl; sets = refl; control = refl }

same_component-sym : (c d : Component) → IsSameComponent c d → IsSameComponent d c
same_component-sym c d s = record {
  ins = sym s.ins;
  outs = sym s.outs;
  cells = same_cells-sym c.cells d.cells s.cells;
  groups = sym s.groups;
  sets = sym s.sets;
  control = sym s.control;
}

same_component-trans : (c d e : Component) → IsSameComponent c d → IsSameComponent d e → IsSameComponent c e
same_component-trans c d e s r = record {
  ins = s.ins ∙ r.ins;
  outs = s.outs ∙ r.outs;
  cells = same_cells-trans c.cells d.cells e.cells s.cells r.cells;
  groups = s.groups ∙ r.groups;
  sets = s.sets ∙ r.sets;
  control = s.control ∙ r.control;
}

pub same_places-refl : (o : Option Component) → AreSamePlaces o o
same_places-refl None = tt
same_places-refl (Some c) = same_component-refl c

same_places-sym : (o p : Option Component) → AreSamePlaces o p → AreSamePlaces p o
same_places-sym None None s = tt
same_places-sym None (Some d) s = absurd s
same_places-sym (Some c) None s = absurd s
same_places-sym (Some c) (Some d) s = same_component-sym c d s

same_places-trans : (o p q : Option Component) → AreSamePlaces o p → AreSamePlaces p q → AreSamePlaces o q
same_places-trans None None None s r = tt
same_places-trans None None (Some e) s r = absurd r
same_places-trans None (Some d) q s r = absurd s
same_places-trans (Some c) None q s r = absurd s
same_places-trans (Some c) (Some d) None s r = absurd r
same_places-trans (Some c) (Some d) (Some e) s r = same_component-trans c d e s r

pub same_below-sym : (design other : Design) (c d : Component) → IsSameBelow design c other d → IsSameBelow other d design c
same_below-sym design other c d same path = same_places-sym (component_at design c path) (component_at other d path) (same path)

pub same_below-trans : (design other third : Design) (c d e : Component) → IsSameBelow design c other d → IsSameBelow other d third e → IsSameBelow design c third e
same_below-trans design other third c d e first second path =
    same_places-trans (component_at design c path) (component_at other d path) (component_at third e path) (first path) (second path)

-- ---- instances

place : (c : Component) (o : Option Component) → AreSamePlaces (Some c) o → (d : Component) × (o ≡ Some d)
place c None s = absurd s
place c (Some d) s = (d, refl)

-- the instance of the other hierarchy at a path of an instance
pub record HasSamePlace (design other : Design) (d : Component) (path : Path) (x : Component) : Type 0 where
  pub y : Component
  pub at : component_at other d path ≡ Some y
  pub same : IsSameBelow design x other y

pub same_place : (design other : Design) (c d : Component) → IsSameBelow design c other d → (path : Path) (x : Component) → component_at design c path ≡ Some x → HasSamePlace design other d path x
same_place design other c d same path x at =
    let there = place x (component_at other d path) (subst (λ (o : Option Component). AreSamePlaces o (component_at other d path)) at (same path)) in
    record {
      y = there.0;
      at = there.1;
      same = λ below. subst₂ AreSamePlaces (component_at-append design c path below x at) (component_at-append other d path below there.0 there.1) (same (path ++ below));
    }

-- ---- cells

abbrev AreSameFound : Option CellDef → Option CellDef → Type 0
AreSameFound None None = Unit {0}
AreSameFound (Some a) (Some b) = IsSameCell a b
AreSameFound a b = ⊥

found_same : (xs ys : List CellDef) → AllZip IsSameCell xs ys → (name : Text) → AreSameFound (cell_named xs name) (cell_named ys name)
found_same [] [] all name = tt
found_same [] (y ∷ ys) all name = absurd all
found_same (x ∷ xs) [] all name = absurd all
found_same (x ∷ xs) (y ∷ ys) all name =
    subst (λ (n : Text). AreSameFound (if bytes_eq x.name name then Some x else cell_named xs name) (if bytes_eq n name then Some y else cell_named ys name)) all.0.name
    (by (bytes_eq x.name name) (found_same xs ys all.1 name))
  where
    by : (b : Bool) → AreSameFound (cell_named xs name) (cell_named ys name) → AreSameFound (if b then Some x else cell_named xs name) (if b then Some y else cell_named ys name)
    by true later = all.0
    by false later = later

same_primitive : (a b : CellDef) → IsSameCell a b → primitive_of a ≡ primitive_of b
same_primitive a b s = by s.made
  where
    by : (a.made ≡ b.made) ⊎ ((is_primitive a.made ≡ false) × (is_primitive b.made ≡ false)) → prim_of a.made a.params ≡ prim_of b.made b.params
    by (inl same) = ap₂ prim_of same s.params
    by (inr (first, second)) = unknown_makes_none a.made a.params first ∙ sym (unknown_makes_none b.made b.params second)

pub primitives_same : (c d : Component) → IsSameComponent c d → (cell : Text) → primitive_in c cell ≡ primitive_in d cell
primitives_same c d s cell = by (cell_named c.cells cell) (cell_named d.cells cell) (found_same c.cells d.cells s.cells cell)
  where
    by : (o p : Option CellDef) → AreSameFound o p → option_and_then primitive_of o ≡ option_and_then primitive_of p
    by None None f = refl
    by None (Some b) f = absurd f
    by (Some a) None f = absurd f
    by (Some a) (Some b) f = same_primitive a b f

known_same : (c d : Component) → IsSameComponent c d → (cell : Text) → IsSome (cell_named c.cells cell) → IsSome (cell_named d.cells cell)
known_same c d s cell known = by (cell_named c.cells cell) (cell_named d.cells cell) (found_same c.cells d.cells s.cells cell) known
  where
    by : (o p : Option CellDef) → AreSameFound o p → IsSome o → IsSome p
    by None None f known = known
    by None (Some b) f known = absurd f
    by (Some a) None f known = absurd f
    by (Some a) (Some b) f known = refl

-- ---- what the rules see of a component

-- the components have the same ports, by the same names, and the same lines and control; the same cells are there, and started alike
pub record LooksAlike (design : Design) (c : Component) (other : Design) (d : Component) : Type 0 where
  pub ins : c.ins ≡ d.ins
  pub outs : c.outs ≡ d.outs
  pub groups : c.groups ≡ d.groups
  pub sets : c.sets ≡ d.sets
  pub control : c.control ≡ d.control
  pub cells : (cell : Text) → IsSome (cell_named c.cells cell) → IsSome (cell_named d.cells cell)
  pub ports : (p : PortName) → port_in design c p ≡ port_in other d p
  pub starts : (cell : Text) → go_of design c cell ≡ go_of other d cell

pub bare_alike : (c d : Component) → c.sets ≡ d.sets → c.control ≡ d.control → is_bare c ≡ is_bare d
bare_alike c d sets control = ap₂ is_bare_by control sets

pub inputs_alike : (c d : Component) → c.ins ≡ d.ins → is_bare c ≡ is_bare d → inputs_in c ≡ inputs_in d
inputs_alike c d ins bare = ap₂ (λ (b : Bool) (pins : List Pin). if b then pins else with_pin (codes "go") pins) bare ins

pub outputs_alike : (c d : Component) → c.outs ≡ d.outs → is_bare c ≡ is_bare d → outputs_in c ≡ outputs_in d
outputs_alike c d outs bare = ap₂ (λ (b : Bool) (pins : List Pin). if b then pins else with_pin (codes "done") pins) bare outs

pub same_bare : (c d : Component) → IsSameComponent c d → is_bare c ≡ is_bare d
same_bare c d s = bare_alike c d s.sets s.control

pub same_inputs : (c d : Component) → IsSameComponent c d → inputs_in c ≡ inputs_in d
same_inputs c d s = inputs_alike c d s.ins (same_bare c d s)

pub same_outputs : (c d : Component) → IsSameComponent c d → outputs_in c ≡ outputs_in d
same_outputs c d s = outputs_alike c d s.outs (same_bare c d s)

pub and_then-itself : {X : Type 0} (o : Option X) → option_and_then (λ (x : X). Some x) o ≡ o
and_then-itself None = refl
and_then-itself (Some x) = refl

module _ (design other : Design) (c d : Component) (same : IsSameBelow design c other d) where
  pub same_itself : IsSameComponent c d
  same_itself = same []

  pub same_parts : (cell : Text) → AreSamePlaces (part_in design c cell) (part_in other d cell)
  same_parts cell = subst₂ AreSamePlaces (and_then-itself (part_in design c cell)) (and_then-itself (part_in other d cell)) (same (cell ∷ []))

  cell_inputs_same : (cell : Text) → cell_inputs design c cell ≡ cell_inputs other d cell
  cell_inputs_same cell = ap (λ (o : Option Primitive). made_inputs o (part_in design c cell)) (primitives_same c d same_itself cell) ∙ by (primitive_in d cell) (part_in design c cell) (part_in other d cell) (same_parts cell)
    where
      by : (o : Option Primitive) (p q : Option Component) → AreSamePlaces p q → made_inputs o p ≡ made_inputs o q
      by (Some prim) p q s = refl
      by None None None s = refl
      by None None (Some y) s = absurd s
      by None (Some x) None s = absurd s
      by None (Some x) (Some y) s = same_inputs x y s

  cell_outputs_same : (cell : Text) → cell_outputs design c cell ≡ cell_outputs other d cell
  cell_outputs_same cell = ap (λ (o : Option Primitive). made_outputs o (part_in design c cell)) (primitives_same c d same_itself cell) ∙ by (primitive_in d cell) (part_in design c cell) (part_in other d cell) (same_parts cell)
    where
      by : (o : Option Primitive) (p q : Option Component) → AreSamePlaces p q → made_outputs o p ≡ made_outputs o q
      by (Some prim) p q s = refl
      by None None None s = refl
      by None None (Some y) s = absurd s
      by None (Some x) None s = absurd s
      by None (Some x) (Some y) s = same_outputs x y s

  starts_same : (cell : Text) → go_of design c cell ≡ go_of other d cell
  starts_same cell = ap (λ (o : Option Primitive). made_go o (part_in design c cell)) (primitives_same c d same_itself cell) ∙ by (primitive_in d cell) (part_in design c cell) (part_in other d cell) (same_parts cell)
    where
      by : (o : Option Primitive) (p q : Option Component) → AreSamePlaces p q → made_go o p ≡ made_go o q
      by (Some prim) p q s = refl
      by None None None s = refl
      by None None (Some y) s = absurd s
      by None (Some x) None s = absurd s
      by None (Some x) (Some y) s = refl

  ports_same : (cell : Option Text) → ports_at design c cell ≡ ports_at other d cell
  ports_same None = ap₂ both_sides (same_inputs c d same_itself) (same_outputs c d same_itself)
  ports_same (Some cell) = ap₂ both_sides (cell_inputs_same cell) (cell_outputs_same cell)

  pub looks_alike : LooksAlike design c other d
  looks_alike = record {
    ins = same_itself.ins;
    outs = same_itself.outs;
    groups = same_itself.groups;
    sets = same_itself.sets;
    control = same_itself.control;
    cells = known_same c d same_itself;
    ports = λ p. ap (λ (ports : List SidedPin). port_named ports p.pin) (ports_same p.cell);
    starts = starts_same;
  }
